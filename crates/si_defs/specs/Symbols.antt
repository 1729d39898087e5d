-- Symbols. Two are equal where kind, text, side and arity are equal (the profile of this project
-- over TPTP's functors).
use Rattle.std.specs.Prelude.{◌≡◌, ℕ, ◌<◌, ◌*◌, ◌^◌, Bool, true, false, ◌&&◌, ◌==◌, bytes_eq, List, count_by}
use Rattle.si_defs.specs.Bytes.{Bytes}
use Rattle.si_defs.specs.Substitutions.{IsAmong}
use Rattle.si_defs.specs.declared.SymKind.{SymKind}
use Rattle.si_defs.specs.declared.SymKind.TheVariants.{Word, Dollar, Number, Distinct, Equal}
use Rattle.si_defs.specs.declared.Side.{Side}
use Rattle.si_defs.specs.declared.Side.TheVariants.{Predicate, Function}

pub record Symbol : Type 0 where
  pub kind : SymKind
  pub text : Bytes
  pub side : Side
  pub arity : ℕ

abbrev pub same_kind : SymKind → SymKind → Bool
same_kind Word Word = true
same_kind Dollar Dollar = true
same_kind Number Number = true
same_kind Distinct Distinct = true
same_kind Equal Equal = true
same_kind _ _ = false

abbrev pub same_side : Side → Side → Bool
same_side Predicate Predicate = true
same_side Function Function = true
same_side _ _ = false

abbrev pub same_symbol : Symbol → Symbol → Bool
same_symbol s r =
    same_kind s.kind r.kind && same_side s.side r.side && s.arity == r.arity
    && bytes_eq s.text r.text

-- how often the symbol occurs among these
abbrev pub times : Symbol → List Symbol → ℕ
times s rs = count_by (same_symbol s) rs

-- ---- numbers for symbols
-- a finite map from symbols to numbers, by its pairs
abbrev pub Numbering : Type 0
Numbering = List (Symbol × ℕ)

-- A symbol has one number, and no two have the same. The numbers are even: the one above each
-- stands for the negation. They are below 2^31: those above are for the symbols of a query that
-- have none here.
pub record IsNumbering (pairs : Numbering) : Type 0 where
  pub one_number : (s : Symbol) (m n : ℕ) → IsAmong pairs (s, m) → IsAmong pairs (s, n) → m ≡ n
  pub one_symbol : (s r : Symbol) (n : ℕ) → IsAmong pairs (s, n) → IsAmong pairs (r, n) → s ≡ r
  pub even : (s : Symbol) (n : ℕ) → IsAmong pairs (s, n) → (half : ℕ) × (n ≡ 2 * half)
  pub small : (s : Symbol) (n : ℕ) → IsAmong pairs (s, n) → n < 2 ^ 31
