-- The numbers of a table, and after them those of a query.
use Rattle.std.specs.Prelude.{◌≡◌, ℕ, ◌≤◌, ◌*◌, ◌^◌, Bool, List, ◌++◌}
use Rattle.si_defs.specs.Bytes.{Bytes}
use Rattle.si_defs.specs.Terms.{symbols}
use Rattle.si_defs.specs.Symbols.{Symbol, Numbering, IsNumbering}
use Rattle.si_defs.specs.Clauses.{Term}
use Rattle.si_defs.specs.Substitutions.{IsAmong}
use Rattle.si_flat.specs.Numbered.{number_in, signed}
use Rattle.si_form.specs.Numberings.{entry_by, TellsApart}

-- each of these symbols has a number
abbrev pub HaveNumbers : Numbering → List Symbol → Type 0
HaveNumbers pairs known = (s : Symbol) → IsAmong known s → (n : ℕ) × IsAmong pairs (s, n)

-- even numbers above those of any table, no two symbols with the same
pub record AreQueryNumbers (extra : Numbering) : Type 0 where
  pub one_symbol : (s r : Symbol) (n : ℕ) → IsAmong extra (s, n) → IsAmong extra (r, n) → s ≡ r
  pub even : (s : Symbol) (n : ℕ) → IsAmong extra (s, n) → (half : ℕ) × (n ≡ 2 * half)
  pub large : (s : Symbol) (n : ℕ) → IsAmong extra (s, n) → 2 ^ 31 ≤ n

abbrev pub NumbersTellApart : Type 0
NumbersTellApart =
    (pairs extra : Numbering) (known : List Symbol)
    → IsNumbering pairs
    → AreQueryNumbers extra
    → HaveNumbers (pairs ++ extra) known
    → TellsApart (number_in (pairs ++ extra)) known

-- an entry whose symbols are in the table has the same numbers by both
abbrev pub EntriesNeedTheTableAlone : Type 0
EntriesNeedTheTableAlone =
    (pairs extra : Numbering) (positive : Bool) (ys : List Bytes) (u : Term)
    → HaveNumbers pairs (symbols u)
    → entry_by (signed positive (number_in pairs)) ys u
    ≡ entry_by (signed positive (number_in (pairs ++ extra))) ys u
