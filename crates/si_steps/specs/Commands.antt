-- Which lines are commands, and what they ask for (this project's profile).
use Rattle.std.specs.Prelude.{◌≡◌, ℕ, ◌<◌, ◌≤◌, List, ◌∷◌, [], length, codes, decimal}
use Rattle.si_defs.specs.Bytes.{Bytes}
use Rattle.si_defs.specs.Clauses.{Name, Literal, Clause, Pattern, literal_pattern, term_pattern}
use Rattle.si_defs.specs.Substitutions.{IsAmong}
use Rattle.si_defs.specs.declared.Relation.{Relation}
use Rattle.si_defs.specs.declared.TokenKind.TheVariants.{Int, Single}
use Rattle.si_defs.specs.Tokens.{Token, lower, AreBlanks, Begins}
use Rattle.si_defs.specs.Grammar.{IsName, IsClause, IsLiteral, IsTerm, IsFormula, left_bracket}
use Rattle.si_defs.specs.Texts.{IsText, languages}
use Rattle.si_state.specs.Samples.{AllowsSample}
use Rattle.si_steps.specs.declared.limits.Limits.{Limits}
use Rattle.si_steps.specs.declared.word.Word.{Word}
use Rattle.si_steps.specs.declared.word.Word.TheVariants.{Add, Load, Remove, Ask, Subsumers, Subsumed, Stats, Tree, Explain, Sample}
use Rattle.si_steps.specs.Words.{relation_text, command_text}

-- ---- commands
pub data Command : Type 0 where
  add : Clause → Command
  load : Bytes → Command
  remove : Name → Command
  query : Relation → Pattern → Command
  subsumers : List Literal → Command
  subsumed : List Literal → Command
  stats : Command
  tree : Command
  explain : Relation → Pattern → Command
  sample : ℕ → ℕ → Command

-- the word that it begins with
abbrev pub command_word : Command → Word
command_word (add c) = Add
command_word (load file) = Load
command_word (remove name) = Remove
command_word (query relation pattern) = Ask relation
command_word (subsumers formula) = Subsumers
command_word (subsumed formula) = Subsumed
command_word stats = Stats
command_word tree = Tree
command_word (explain relation pattern) = Explain
command_word (sample start count) = Sample

abbrev pub IsQuery : Pattern → List Token → Type 0
IsQuery (literal_pattern l) ts =
    (us : List Token) × IsLiteral l us × (ts ≡ lower (codes "lit") ∷ us)
IsQuery (term_pattern t) ts = (us : List Token) × IsTerm t us × (ts ≡ lower (codes "term") ∷ us)

-- the token of this number, without sign
abbrev pub numeral : ℕ → Token
numeral n = record { kind = Int; text = decimal n }

-- what stands after the word
abbrev pub AreOperands : Command → List Token → Type 0
AreOperands (add c) ts = IsClause c ts
AreOperands (load file) ts = ts ≡ record { kind = Single; text = file } ∷ []
AreOperands (remove name) ts = (t : Token) × IsName name t × (ts ≡ t ∷ [])
AreOperands (query relation pattern) ts = IsQuery pattern ts
AreOperands (subsumers formula) ts = IsFormula formula ts
AreOperands (subsumed formula) ts = IsFormula formula ts
AreOperands stats ts = ts ≡ []
AreOperands tree ts = ts ≡ []
AreOperands (explain relation pattern) ts =
    (us : List Token) × IsQuery pattern us × (ts ≡ lower (relation_text relation) ∷ us)
AreOperands (sample start count) ts =
    AllowsSample start count × (ts ≡ numeral start ∷ numeral count ∷ [])

-- its word, and its operands
pub record IsCommand (command : Command) (ts : List Token) : Type 0 where
  pub operands : List Token
  pub spelled : AreOperands command operands
  pub whole : ts ≡ lower (command_text (command_word command)) ∷ operands

-- the line, blanks aside, is this command
abbrev pub Means : Command → Bytes → Type 0
Means command line = IsText (IsCommand command) line

-- ---- lines that are no command
-- more bytes than a line may have
abbrev pub IsLong : Limits → Bytes → Type 0
IsLong limits line = limits.line < length line

-- no more
abbrev pub IsShort : Limits → Bytes → Type 0
IsShort limits line = length line ≤ limits.line

-- blanks alone
abbrev pub IsSilent : Limits → Bytes → Type 0
IsSilent limits line = IsShort limits line × AreBlanks line

-- `add` and a formula of another language
abbrev pub AddsForeign : Bytes → Type 0
AddsForeign line =
    (language : Bytes) × (rest : Bytes) × IsAmong languages language
    × Begins line (lower (command_text Add) ∷ lower language ∷ left_bracket ∷ []) rest
