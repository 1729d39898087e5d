-- How much may be drawn, and how large a clause may be.
use Rattle.std.specs.Prelude.{◌≡◌, ℕ, List, [], ◌∷◌}
use Rattle.si_defs.specs.Clauses.{Literal, IsSoundLiteral, AreSoundLiterals, literal_size, literals_size}
use Rattle.si_state.specs.Samples.{AllowsSample}

-- 10,000 clauses may be drawn from the last start
abbrev pub LargestSample : Type 0
LargestSample = (start count : ℕ) → start ≡ 2147483647 → count ≡ 10000 → AllowsSample start count

-- no start is later
abbrev pub NoLaterStart : Type 0
NoLaterStart = (start count : ℕ) → start ≡ 2147483648 → AllowsSample start count → ⊥

-- and no more are drawn
abbrev pub NoLargerSample : Type 0
NoLargerSample = (start count : ℕ) → count ≡ 10001 → AllowsSample start count → ⊥

-- a literal may have 536,870,912 occurrences of symbols and variables
abbrev pub LargestLiteral : Type 0
LargestLiteral = (l : Literal) → IsSoundLiteral l → literal_size l ≡ 536870912
    → AreSoundLiterals (l ∷ [])

-- and no literals have more together
abbrev pub NoLargerLiterals : Type 0
NoLargerLiterals = (ls : List Literal) → literals_size ls ≡ 536870913 → AreSoundLiterals ls → ⊥
