-- What a walk over the symbols of a clause adds to a row, and which symbols it meets.
use Rattle.std.specs.Prelude.{◌≡◌, ℕ, ◌<◌, ◌↔◌, ◌⊎◌, Bool, List, [], ◌∷◌, ◌++◌, map}
use Rattle.indexmap.specs.IndexSet.{insert_all}
use Rattle.si_defs.specs.Terms.{Term, var, app, symbols_of_all}
use Rattle.si_defs.specs.Symbols.{Symbol, Numbering, same_symbol}
use Rattle.si_defs.specs.Clauses.{Literal}
use Rattle.si_defs.specs.Substitutions.{IsAmong}
use Rattle.si_term.specs.Terms.{symbol_of}
use Rattle.si_flat.specs.Flattened.{unnumbered}
use Rattle.si_lanes.specs.Rows.{HasBit}
use Rattle.si_screen.specs.ClauseRows.{above, bit_of}
use Rattle.si_screen.specs.declared.extra.Key.{Key}

-- the bits of these numbers are set, and the others are as before
abbrev pub AddsNumbers : List ℕ → (old new : List ℕ) → Type 0
AddsNumbers numbers old new = (b : ℕ) → b < 256
    → HasBit new b ↔ (HasBit old b ⊎ IsAmong (map bit_of numbers) b)

-- the numbers of the symbols of an atom, in preorder, its head with the literal's sign
abbrev pub atom_numbers : {V : Type 0} → (Symbol → ℕ) → Bool → Term Symbol V → List ℕ
atom_numbers number positive (var x) = []
atom_numbers number positive (app s ts) =
    above positive (number s) ∷ map number (symbols_of_all ts)

abbrev pub literal_numbers : (Symbol → ℕ) → Literal → List ℕ
literal_numbers number l = atom_numbers number l.positive l.atom

abbrev pub literals_numbers : (Symbol → ℕ) → List Literal → List ℕ
literals_numbers number [] = []
literals_numbers number (l ∷ ls) = literal_numbers number l ++ literals_numbers number ls

-- ---- the symbols that a table lacks
abbrev pub symbol_of_key : Key → Symbol
symbol_of_key k = symbol_of k.symbol.now

-- these symbols were met: those that the table lacks are there, each once
abbrev pub MeetsSymbols : Numbering → List Symbol → (old new : List Symbol) → Type 0
MeetsSymbols pairs ss old new = new ≡ insert_all same_symbol old (unnumbered pairs ss)
