use Rattle.std.proofs.Common.{◌≡◌, ◌+◌, ◌*◌, ◌++◌, map, drop}
use Rattle.si_defs.specs.Terms.{row, size, sizes}
use Rattle.si_term.specs.Terms.{term_of}
use Rattle.si_term.proofs.copies.+copy.Given as goal

abbrev pub invariant-copy_many-loop-i : goal.invariant-copy_many-loop-i
invariant-copy_many-loop-i l = l.copies ++ map term_of (drop l.i l.terms) ≡ map term_of l.terms

abbrev pub decreases-copy_term : goal.decreases-copy_term
decreases-copy_term l = 3 * size (term_of l.term.now)

abbrev pub decreases-copy_terms : goal.decreases-copy_terms
decreases-copy_terms l = 3 * sizes (row (map term_of l.terms.now)) + 2

abbrev pub decreases-copy_many : goal.decreases-copy_many
decreases-copy_many l = 3 * sizes (row (map term_of l.terms.now)) + 1
