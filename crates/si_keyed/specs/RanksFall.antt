-- There are fewer sums than counts.
use Rattle.std.specs.Prelude.{ℕ, ◌+◌, ◌≤◌, List, [], ◌∷◌, length, max}
use Rattle.std.proofs.Common.{arith, ap}
use Rattle.si_keyed.specs.Halves.{halves}
use Rattle.si_keyed.specs.Ranks.{IsSummed}
use Rattle.si_keyed.specs.declared.ranks.Above.{Above}
use Rattle.si_keyed.specs.declared.ranks.Above.TheVariants.{Nothing, Sums}
use Rattle.si_keyed.specs.declared.ranks.Ranks.TheDeep.{deep-Above}

pub length_halves : (xs : List ℕ) → length (halves xs) + length (halves xs) ≤ length xs + 1
length_halves [] = omega arith
length_halves (x ∷ []) = omega arith
length_halves (x ∷ y ∷ zs) = omega (arith, length_halves zs)

pub fewer : (counts : List ℕ) (above : Above) → IsSummed counts above
    → max (deep-Above above) 0 ≤ length counts
fewer counts Nothing h = omega arith
fewer counts (Sums above) h = omega (arith, h.0, ap length h.1, length_halves counts)
