-- What bytes mean: items at the front of a text, patterns, formulas, names and file names as whole
-- texts, and the two faults (TPTP's files, with this project's bound on nesting).
use Rattle.std.specs.Prelude.{◌≡◌, ℕ, ◌+◌, ◌≤◌, List, [], ◌∷◌, length, count_by, ◌==◌, codes}
use Rattle.si_defs.specs.Bytes.{Bytes}
use Rattle.si_defs.specs.Clauses.{Name, Literal, Pattern, literal_pattern, term_pattern}
use Rattle.si_defs.specs.Tokens.{Token, lower, Skips, AreBlanks, Begins, Consists}
use Rattle.si_defs.specs.Grammar.{IsName, IsTerm, IsLiteral, IsFormula, Item, IsItem, nesting, left_bracket}
use Rattle.si_defs.specs.Substitutions.{IsAmong}
use Rattle.si_defs.specs.declared.TokenKind.TheVariants as token
use Rattle.si_defs.specs.declared.TheConstants.{DEEPEST_NESTING}

-- The bytes begin with blanks and this item, and rest stands after its full stop.
pub record BeginsWithItem (bytes : Bytes) (item : Item) (rest : Bytes) : Type 0 where
  pub tokens : List Token
  pub begins : Begins bytes tokens rest
  pub spelled : IsItem item tokens
  pub nested : nesting tokens ≤ DEEPEST_NESTING

-- the whole bytes are this, with blanks round it
pub record IsText (P : List Token → Type 0) (bytes : Bytes) : Type 0 where
  pub tokens : List Token
  pub consists : Consists bytes tokens
  pub spelled : P tokens
  pub nested : nesting tokens ≤ DEEPEST_NESTING

abbrev pub IsPattern : Pattern → List Token → Type 0
IsPattern (literal_pattern l) ts = IsLiteral l ts
IsPattern (term_pattern t) ts = IsTerm t ts

abbrev pub IsPatternText : Pattern → Bytes → Type 0
IsPatternText pattern bytes = IsText (IsPattern pattern) bytes

abbrev pub IsFormulaText : List Literal → Bytes → Type 0
IsFormulaText ls bytes = IsText (IsFormula ls) bytes

abbrev pub IsNameText : Name → Bytes → Type 0
IsNameText name bytes = IsText (λ ts. (t : Token) × IsName name t × (ts ≡ t ∷ [])) bytes

abbrev pub IsFileText : Bytes → Bytes → Type 0
IsFileText file bytes = IsText (λ ts. ts ≡ record { kind = token.Single; text = file } ∷ []) bytes

-- ---- faults
-- place is what stands after the longest blanks
pub record IsPlace (bytes place : Bytes) : Type 0 where
  pub skips : Skips bytes place
  pub longest : (other : Bytes) → Skips bytes other → length place ≤ length other

-- the words of TPTP's other languages
abbrev pub languages : List Bytes
languages = codes "fof" ∷ codes "tff" ∷ codes "thf" ∷ codes "tcf" ∷ codes "tpi" ∷ []

-- the next two tokens are a word of another language and a bracket
abbrev pub IsForeign : Bytes → Type 0
IsForeign bytes = (word : Bytes) × (rest : Bytes) × IsAmong languages word
    × Begins bytes (lower word ∷ left_bracket ∷ []) rest

-- neither the end of the text nor an item
pub record IsFaulty (bytes : Bytes) : Type 0 where
  pub more : AreBlanks bytes → ⊥
  pub no_item : (item : Item) (rest : Bytes) → BeginsWithItem bytes item rest → ⊥

-- the line of a place in a text, by the bytes before it
abbrev pub line_of : Bytes → ℕ
line_of before = 1 + count_by (λ c. c == 10) before
