use Rattle.std.proofs.Common.{◌+◌, ◌*◌, map}
use Rattle.si_defs.specs.Terms.{row, size, sizes}
use Rattle.si_term.specs.Terms.{term_of}
use Rattle.si_term.specs.Walks.{paths_from}
use Rattle.si_term.proofs.Rows.{from}
use Rattle.si_term.proofs.Progress.{Progress}
use Rattle.si_term.proofs.entries.+path.Given as goal

abbrev pub invariant-path_in-loop-i : goal.invariant-path_in-loop-i
invariant-path_in-loop-i l = Progress (paths_from 1 (row (map term_of l.terms))) (paths_from (1 + l.i) (from l.terms l.i)) l.fn.number l.left

abbrev pub decreases-path_term : goal.decreases-path_term
decreases-path_term l = 2 * size (term_of l.term.now)

abbrev pub decreases-path_in : goal.decreases-path_in
decreases-path_in l = 2 * sizes (row (map term_of l.terms.now)) + 1
