-- Sums of counts, and of neighbours among them.
use Rattle.std.specs.Prelude.{ℕ, ◌+◌, List, [], ◌∷◌}

-- the sums of the first two, of the next two, and so on
abbrev pub halves : List ℕ → List ℕ
halves [] = []
halves (x ∷ []) = x ∷ []
halves (x ∷ y ∷ zs) = (x + y) ∷ halves zs

-- all of them together
abbrev pub sum_of : List ℕ → ℕ
sum_of [] = 0
sum_of (x ∷ xs) = x + sum_of xs
