-- Printed texts.
use Rattle.std.specs.Prelude.{◌≡◌, [], ◌∷◌, codes}
use Rattle.si_defs.specs.Bytes.{Bytes}
use Rattle.si_defs.specs.Clauses.{Name}
use Rattle.si_defs.specs.Texts.{IsNameText}
use Rattle.si_defs.specs.Variables.{variable_text}
use Rattle.si_defs.specs.Printing.{name_text, place_text, solution_text, map_text}
use Rattle.si_defs.specs.declared.NameKind.TheVariants.{Word}
use Rattle.si_examples.specs.Solutions.{first_solution}

-- the name c1
abbrev pub c1 : Name
c1 = record { kind = Word; text = codes "c1" }

-- a name that is no lower word stands in quotes, a backslash before each quote in it
abbrev pub EscapedName : Type 0
EscapedName = name_text (record { kind = Word; text = codes "it's" }) ≡ codes "'it\\'s'"

-- and is read back
abbrev pub ReadBackName : Type 0
ReadBackName = IsNameText (record { kind = Word; text = codes "it's" }) (codes "'it\\'s'")

-- no name is empty: what would be printed for it is not read
abbrev pub NoEmptyName : Type 0
NoEmptyName = (bytes : Bytes) → IsNameText (record { kind = Word; text = [] }) bytes → ⊥

-- the name `cat` stands in none
abbrev pub NoNeedlessQuotes : Type 0
NoNeedlessQuotes = name_text (record { kind = Word; text = codes "cat" }) ≡ codes "'cat'" → ⊥

-- a list is written with `->` and `; `
abbrev pub PrintedList : Type 0
PrintedList = solution_text variable_text first_solution ≡ codes "{?Y -> f(X); ?Z -> a}"

-- a place is written with its path
abbrev pub PrintedPlace : Type 0
PrintedPlace = place_text c1 (record { literal = 1; path = 2 ∷ 1 ∷ [] }) ≡ codes "c1:1:2.1"

-- the place of a literal has no path, and so no second colon
abbrev pub PrintedLiteralPlace : Type 0
PrintedLiteralPlace = place_text c1 (record { literal = 12; path = [] }) ≡ codes "c1:12"

-- no blank stands in a map of literals
abbrev pub NoBlankInMap : Type 0
NoBlankInMap = map_text (2 ∷ 1 ∷ []) ≡ codes "[2, 1]" → ⊥
