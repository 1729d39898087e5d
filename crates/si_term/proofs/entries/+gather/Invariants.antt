use Rattle.std.proofs.Common.{◌≡◌, ◌+◌, ◌*◌, map}
use Rattle.std.specs.Prelude.{bytes_eq}
use Rattle.indexmap.specs.IndexSet.{insert_all}
use Rattle.si_defs.specs.Terms.{row, size, sizes, variables_of_all}
use Rattle.si_term.specs.Terms.{term_of}
use Rattle.si_term.proofs.Rows.{from}
use Rattle.si_term.proofs.entries.+gather.Given as goal

abbrev pub invariant-gather_all-loop-i : goal.invariant-gather_all-loop-i
invariant-gather_all-loop-i l =
    insert_all bytes_eq (map (λ t. t.now) l.seen.keys) (variables_of_all (from l.terms l.i)) ≡ insert_all bytes_eq (map (λ t. t.now) l.fn.seen.keys) (variables_of_all (row (map term_of l.terms)))

abbrev pub decreases-gather_term : goal.decreases-gather_term
decreases-gather_term l = 2 * size (term_of l.term.now)

abbrev pub decreases-gather_all : goal.decreases-gather_all
decreases-gather_all l = 2 * sizes (row (map term_of l.terms.now)) + 1
