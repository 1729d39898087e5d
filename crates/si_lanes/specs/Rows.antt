-- Rows of 256 bits, and the rows that a screen keeps (this project's profile).
use Rattle.std.specs.Prelude.{◌≡◌, ◌⊎◌, ◌↔◌, ℕ, suc, ◌/◌, ◌%◌, ◌<◌, List, [], ◌∷◌, ◌++◌, get_or, IsBitSet}

-- A row is four words of 64 bits. Bit b is the bit b mod 64 of the word b / 64.
abbrev pub HasBit : List ℕ → ℕ → Type 0
HasBit row b = IsBitSet (get_or row (b / 64) 0) (b % 64)

-- the bit is set, and each other one is as before
abbrev pub SetsBit : (old new : List ℕ) → ℕ → Type 0
SetsBit old new bit = (b : ℕ) → b < 256 → HasBit new b ↔ (HasBit old b ⊎ (b ≡ bit))

-- each bit that is set in the row is set in the other one
abbrev pub IsSubset : (row other : List ℕ) → Type 0
IsSubset row other = (b : ℕ) → b < 256 → HasBit row b → HasBit other b

-- Of these rows, the first of which has the number n, exactly those with this property are at these
-- positions, which rise.
abbrev pub ArePositions : (List ℕ → Type 0) → ℕ → List (List ℕ) → List ℕ → Type 0
ArePositions P n [] positions = positions ≡ []
ArePositions P n (row ∷ rows) positions =
    (P row × ((others : List ℕ) × ArePositions P (suc n) rows others × (positions ≡ n ∷ others)))
    ⊎ ((P row → ⊥) × ArePositions P (suc n) rows positions)

-- the positions from 0 of the rows with this property are appended
abbrev pub AppendsPositions : (List ℕ → Type 0) → List (List ℕ) → (old new : List ℕ) → Type 0
AppendsPositions P rows old new =
    (positions : List ℕ) × ArePositions P 0 rows positions × (new ≡ old ++ positions)
