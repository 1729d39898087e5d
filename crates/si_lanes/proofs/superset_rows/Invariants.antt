use Rattle.std.proofs.Common.{◌≡◌, ◌+◌, ◌≤◌, length, vec_len, vec_capacity}
use Rattle.si_lanes.specs.Rows.{IsSubset}
use Rattle.si_lanes.proofs.Filtering.{IsFiltered}
use Rattle.si_lanes.proofs.superset_rows.Given as goal

abbrev pub invariant-loop-position : goal.invariant-loop-position
invariant-loop-position l =
    IsFiltered (λ row. IsSubset l.mask row) l.rows l.position l.fn.out.items l.out.items × (l.mark ≡ length l.fn.out.items)
    × (vec_len l.out ≤ vec_len l.fn.out + l.position) × (vec_capacity l.fn.out ≤ vec_capacity l.out)
