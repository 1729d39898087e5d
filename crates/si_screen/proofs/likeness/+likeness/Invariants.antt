use Rattle.std.proofs.Common.{◌+◌, ◌*◌, map}
use Rattle.si_defs.specs.Terms.{row, size, sizes}
use Rattle.si_term.specs.Terms.{term_of}
use Rattle.si_screen.specs.Likeness.{AreLike}
use Rattle.si_screen.proofs.LikenessLaws.{AreLikeFrom}
use Rattle.si_screen.proofs.likeness.+likeness.Given as goal

abbrev pub decreases-is_like : goal.decreases-is_like
decreases-is_like l = 2 * size (term_of l.term.now)

abbrev pub decreases-are_like : goal.decreases-are_like
decreases-are_like l = 2 * sizes (row (map term_of l.terms.now)) + 1

abbrev pub invariant-are_like-loop-i : goal.invariant-are_like-loop-i
invariant-are_like-loop-i l = AreLikeFrom l.terms l.targets l.i → AreLike (row (map term_of l.terms)) (row (map term_of l.targets))
