-- What the reader of command lines gives.
use Rattle.std.specs.Prelude.{◌≡◌, ◌⊎◌, List, [], ◌∷◌, Option, None, Some, codes, map}
use Rattle.si_defs.specs.Bytes.{Bytes}
use Rattle.si_defs.specs.Clauses.{Pattern, IsSoundClause, IsSoundPattern, AreSoundLiterals}
use Rattle.si_defs.specs.Tokens.{Token, lower, AreBlanks}
use Rattle.si_state.specs.Samples.{AllowsSample}
use Rattle.si_steps.specs.declared.word.Word.{Word}
use Rattle.si_steps.specs.declared.word.Word.TheVariants.{Add, Stats, Tree}
use Rattle.si_steps.specs.Words.{command_text}
use Rattle.si_steps.specs.Commands as defs
use Rattle.si_steps.specs.Commands.{IsQuery, AddsForeign, IsCommand, Means}
use Rattle.si_steps.specs.Steps.{IsNoCommand}
use Rattle.si_lex.specs.declared.lexing.TokensEnd.{TokensEnd}
use Rattle.si_lex.specs.declared.lexing.TokensEnd.TheVariants.{End}
use Rattle.si_parse.specs.Reading.{AreForeign}
use Rattle.si_parse.specs.declared.pattern.PatternKind.{PatternKind}
use Rattle.si_parse.specs.declared.pattern.PatternKind.TheVariants as kind
use Rattle.si_term.specs.declared.clause.Pattern as program
use Rattle.si_term.specs.Meaning.{name_of, literal_of, clause_of, pattern_of}
use Rattle.si_session.specs.declared.command.Command.{Command}
use Rattle.si_session.specs.declared.command.Command.TheVariants as command

-- ---- lines
-- the line is no command of any kind, and says nothing that has a reply of its own
pub record IsWrong (line : Bytes) : Type 0 where
  pub some : AreBlanks line → ⊥
  pub own : AddsForeign line → ⊥
  pub none : IsNoCommand line

-- the line is this command
abbrev pub IsPerformed : defs.Command → Bytes → Type 0
IsPerformed c line = (AreBlanks line → ⊥) × Means c line

abbrev pub ReadsCommand : Bytes → Command → Type 0
ReadsCommand line command.Blank = AreBlanks line
ReadsCommand line command.Foreign = (AreBlanks line → ⊥) × AddsForeign line × IsNoCommand line
ReadsCommand line command.Wrong = IsWrong line
ReadsCommand line (command.Add c) =
    IsPerformed (defs.add (clause_of c)) line × IsSoundClause (clause_of c)
ReadsCommand line (command.Load file) = IsPerformed (defs.load file) line
ReadsCommand line (command.Remove n) = IsPerformed (defs.remove (name_of n)) line
ReadsCommand line command.Stats = IsPerformed defs.stats line
ReadsCommand line command.Tree = IsPerformed defs.tree line
ReadsCommand line (command.Explain r p) =
    IsPerformed (defs.explain r (pattern_of p)) line × IsSoundPattern (pattern_of p)
ReadsCommand line (command.Sample start count) =
    IsPerformed (defs.sample start count) line × AllowsSample start count
ReadsCommand line (command.Query r p) =
    IsPerformed (defs.query r (pattern_of p)) line × IsSoundPattern (pattern_of p)
ReadsCommand line (command.Subsumers ls) =
    IsPerformed (defs.subsumers (map literal_of ls)) line × AreSoundLiterals (map literal_of ls)
ReadsCommand line (command.Subsumed ls) =
    IsPerformed (defs.subsumed (map literal_of ls)) line × AreSoundLiterals (map literal_of ls)

-- ---- the tokens of a line
-- they add a formula of another language
abbrev pub AddForeign : List Token → Type 0
AddForeign [] = ⊥
AddForeign (t ∷ ts) = (t ≡ lower (command_text Add)) × AreForeign ts

-- the command that they are, by what stands after them
abbrev pub Commands : List Token → TokensEnd → Command → Type 0
Commands ts why command.Blank = (why ≡ End) × (ts ≡ [])
Commands ts why command.Foreign = AddForeign ts × ((c : defs.Command) → IsCommand c ts → ⊥)
Commands ts why command.Wrong =
    (AddForeign ts → ⊥) × (why ≡ End → ts ≡ [] → ⊥)
    × (why ≡ End → (c : defs.Command) → IsCommand c ts → ⊥)
Commands ts why (command.Add c) =
    (why ≡ End) × IsCommand (defs.add (clause_of c)) ts × IsSoundClause (clause_of c)
Commands ts why (command.Load file) = (why ≡ End) × IsCommand (defs.load file) ts
Commands ts why (command.Remove n) = (why ≡ End) × IsCommand (defs.remove (name_of n)) ts
Commands ts why command.Stats = (why ≡ End) × IsCommand defs.stats ts
Commands ts why command.Tree = (why ≡ End) × IsCommand defs.tree ts
Commands ts why (command.Explain r p) =
    (why ≡ End) × IsCommand (defs.explain r (pattern_of p)) ts × IsSoundPattern (pattern_of p)
Commands ts why (command.Sample start count) =
    (why ≡ End) × IsCommand (defs.sample start count) ts × AllowsSample start count
Commands ts why (command.Query r p) =
    (why ≡ End) × IsCommand (defs.query r (pattern_of p)) ts × IsSoundPattern (pattern_of p)
Commands ts why (command.Subsumers ls) =
    (why ≡ End) × IsCommand (defs.subsumers (map literal_of ls)) ts
    × AreSoundLiterals (map literal_of ls)
Commands ts why (command.Subsumed ls) =
    (why ≡ End) × IsCommand (defs.subsumed (map literal_of ls)) ts
    × AreSoundLiterals (map literal_of ls)

-- a word without operands, and the command that it is
abbrev pub MeansAlone : Word → Command → Type 0
MeansAlone word c =
    ((word ≡ Stats) × (c ≡ command.Stats)) ⊎ ((word ≡ Tree) × (c ≡ command.Tree))

-- the word of a kind of pattern
abbrev pub kind_word : PatternKind → Bytes
kind_word kind.Lit = codes "lit"
kind_word kind.Term = codes "term"

-- a word that says which kind of pattern is asked for, and the pattern
abbrev pub ReadsQuery : List Token → Option program.Pattern → Type 0
ReadsQuery ts (Some p) = IsQuery (pattern_of p) ts × IsSoundPattern (pattern_of p)
ReadsQuery ts None = (p : Pattern) → IsQuery p ts → ⊥
