-- The signature of some clauses: which symbols occur in them, how often, and by which number each
-- goes (this project's profile; a signature is the set of symbols with their arities).
use Rattle.std.specs.Prelude.{◌≡◌, ◌↔◌, ℕ, ◌≤◌, ◌+◌, cond, List, [], ◌∷◌, length}
use Rattle.std.specs.List.{AllByRecursion}
use Rattle.si_defs.specs.Bytes.{Bytes}
use Rattle.si_defs.specs.Symbols.{Symbol, Numbering, IsNumbering, same_symbol, times}
use Rattle.si_defs.specs.Clauses.{Clause}
use Rattle.si_defs.specs.Entries.{state_symbols}
use Rattle.si_defs.specs.Substitutions.{IsAmong, AreDistinct}
use Rattle.si_defs.specs.declared.SymKind.{SymKind}

-- a symbol that occurs, how often, and its number
pub record Used : Type 0 where
  pub symbol : Symbol
  pub uses : ℕ
  pub number : ℕ

-- A finite map from kind and text to what is known of the symbol. The order means nothing.
abbrev pub Signature : Type 0
Signature = List Used

abbrev pub keys : Signature → List (SymKind × Bytes)
keys [] = []
keys (u ∷ us) = (u.symbol.kind, u.symbol.text) ∷ keys us

abbrev pub numbering : Signature → Numbering
numbering [] = []
numbering (u ∷ us) = (u.symbol, u.number) ∷ numbering us

abbrev pub known_symbols : Signature → List Symbol
known_symbols [] = []
known_symbols (u ∷ us) = u.symbol ∷ known_symbols us

pub record IsSignature (known : Signature) : Type 0 where
  pub one_shape : AreDistinct (keys known)
  pub numbered : IsNumbering (numbering known)
  pub used : AllByRecursion (λ u. 1 ≤ u.uses) known

-- how often the symbol occurs
abbrev pub uses_of : Signature → Symbol → ℕ
uses_of [] s = 0
uses_of (u ∷ us) s = cond (same_symbol u.symbol s) u.uses (uses_of us s)

-- all uses together
abbrev pub total : Signature → ℕ
total [] = 0
total (u ∷ us) = u.uses + total us

-- it is the signature of these clauses: each symbol occurs in them as often as it says
abbrev pub IsSignatureOf : List Clause → Signature → Type 0
IsSignatureOf clauses known = (s : Symbol) → uses_of known s ≡ times s (state_symbols clauses)

-- a symbol in both has the same number in both
abbrev pub KeepsNumbers : Signature → Signature → Type 0
KeepsNumbers old new =
    (s : Symbol) (m n : ℕ) → IsAmong (numbering old) (s, m) → IsAmong (numbering new) (s, n) → m ≡ n

-- ---- counting
-- the number of different symbols that occur
abbrev pub CountsSymbols : List Clause → ℕ → Type 0
CountsSymbols clauses count =
    (each : List Symbol) × AreDistinct each
    × ((s : Symbol) → IsAmong each s ↔ IsAmong (state_symbols clauses) s)
    × (count ≡ length each)
