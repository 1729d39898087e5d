use Rattle.std.proofs.Common.{◌≡◌, ◌+◌, ◌*◌, length, map}
use Rattle.si_defs.specs.Terms.{row, size, sizes}
use Rattle.si_term.specs.Terms.{term_of}
use Rattle.si_term.specs.Walks.{subterms_of_all}
use Rattle.si_term.proofs.Rows.{from}
use Rattle.si_term.proofs.entries.+count.Given as goal

abbrev pub invariant-count_all-loop-i : goal.invariant-count_all-loop-i
invariant-count_all-loop-i l = l.count + length (subterms_of_all (from l.terms l.i)) ≡ length (subterms_of_all (row (map term_of l.terms)))

abbrev pub decreases-count_term : goal.decreases-count_term
decreases-count_term l = 2 * size (term_of l.term.now)

abbrev pub decreases-count_all : goal.decreases-count_all
decreases-count_all l = 2 * sizes (row (map term_of l.terms.now)) + 1
