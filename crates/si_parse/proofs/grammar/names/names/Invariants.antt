use Rattle.std.proofs.Common.{length}
use Rattle.si_defs.specs.Grammar.{comma}
use Rattle.si_lex.specs.Lexemes.{tokens_of}
use Rattle.si_parse.specs.GrammarRules.{IsNameToken}
use Rattle.si_parse.specs.Meaning.{names_of}
use Rattle.si_parse.specs.Parsing.{NoName}
use Rattle.si_parse.proofs.ParseRows.{Along}
use Rattle.si_parse.proofs.grammar.names.names.Given as goal

-- what is left goes on as the tokens do
abbrev pub invariant-loop-rest : goal.invariant-loop-rest
invariant-loop-rest l = Along IsNameToken comma NoName (tokens_of l.tokens) (names_of l.names) (tokens_of l.left)

abbrev pub decreases-loop-rest : goal.decreases-loop-rest
decreases-loop-rest l = length l.left
