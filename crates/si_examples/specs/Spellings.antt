-- How tokens are spelled.
use Rattle.std.specs.Prelude.{[], codes}
use Rattle.si_defs.specs.Tokens.{Spells}
use Rattle.si_defs.specs.declared.TokenKind.TheVariants.{Lower, Int, Single, Double}

-- `+0` is an integer
abbrev pub PlusZero : Type 0
PlusZero = Spells Int (codes "+0") (codes "+0")

-- `01` is none
abbrev pub NoLeadingZero : Type 0
NoLeadingZero = Spells Int (codes "01") (codes "01") → ⊥

-- `aB_1` is a lower word
abbrev pub LowerWord : Type 0
LowerWord = Spells Lower (codes "aB_1") (codes "aB_1")

-- `Ab` is none
abbrev pub NoCapital : Type 0
NoCapital = Spells Lower (codes "Ab") (codes "Ab") → ⊥

-- in single quotes a quote stands after a backslash
abbrev pub QuoteInQuotes : Type 0
QuoteInQuotes = Spells Single (codes "it's") (codes "'it\\'s'")

-- `''` is no token: some text stands between single quotes
abbrev pub NoEmptySingle : Type 0
NoEmptySingle = Spells Single [] (codes "''") → ⊥

-- `""` is one: between double quotes there need be none
abbrev pub EmptyDouble : Type 0
EmptyDouble = Spells Double [] (codes "\"\"")
