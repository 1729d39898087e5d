use Rattle.std.proofs.Common.{◌+◌, ◌*◌, take, map}
use Rattle.si_defs.specs.Terms.{row, size, sizes}
use Rattle.si_term.specs.Terms.{term_of}
use Rattle.si_sign.proofs.SoFar.{GivesSoFar, gather, in_term}
use Rattle.si_sign.proofs.uses.Uses.+give.Given as goal

abbrev pub invariant-give_back_terms-loop-i : goal.invariant-give_back_terms-loop-i
invariant-give_back_terms-loop-i l = GivesSoFar l.fn.self l.self (gather in_term (take l.i l.terms))

abbrev pub decreases-give_back_term : goal.decreases-give_back_term
decreases-give_back_term l = 2 * size (term_of l.term.now)

abbrev pub decreases-give_back_terms : goal.decreases-give_back_terms
decreases-give_back_terms l = 2 * sizes (row (map term_of l.terms.now)) + 1
