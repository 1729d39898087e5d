use Rattle.std.proofs.Common.{◌+◌, ◌*◌, map}
use Rattle.si_defs.specs.Terms.{row, size, sizes}
use Rattle.si_term.specs.Terms.{term_of}
use Rattle.si_term.specs.Walks.{subterms_of_all}
use Rattle.si_term.proofs.Rows.{from}
use Rattle.si_term.proofs.Progress.{Progress}
use Rattle.si_term.proofs.entries.+find.Given as goal

abbrev pub invariant-find_in-loop-i : goal.invariant-find_in-loop-i
invariant-find_in-loop-i l = Progress (subterms_of_all (row (map term_of l.terms))) (subterms_of_all (from l.terms l.i)) l.fn.number l.left

abbrev pub decreases-find_term : goal.decreases-find_term
decreases-find_term l = 2 * size (term_of l.term.now)

abbrev pub decreases-find_in : goal.decreases-find_in
decreases-find_in l = 2 * sizes (row (map term_of l.terms.now)) + 1
