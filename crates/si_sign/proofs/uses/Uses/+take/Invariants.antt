use Rattle.std.proofs.Common.{◌+◌, ◌*◌, take, map}
use Rattle.si_defs.specs.Terms.{row, size, sizes}
use Rattle.si_term.specs.Terms.{term_of}
use Rattle.si_sign.proofs.SoFar.{TakesSoFar, gather, in_term}
use Rattle.si_sign.proofs.uses.Uses.+take.Given as goal

abbrev pub invariant-take_terms-loop-i : goal.invariant-take_terms-loop-i
invariant-take_terms-loop-i l = TakesSoFar l.fn.self l.self (gather in_term (take l.i l.terms))

abbrev pub decreases-take_term : goal.decreases-take_term
decreases-take_term l = 2 * size (term_of l.term.now)

abbrev pub decreases-take_terms : goal.decreases-take_terms
decreases-take_terms l = 2 * sizes (row (map term_of l.terms.now)) + 1
