use Rattle.std.proofs.Common.{◌≤◌, length}
use Rattle.si_defs.specs.Grammar.{IsLiteral}
use Rattle.si_defs.specs.Tokens.{mark}
use Rattle.si_lex.specs.Lexemes.{tokens_of}
use Rattle.si_parse.specs.Meaning.{literals_of}
use Rattle.si_parse.specs.Parsing.{NoLiteral}
use Rattle.si_parse.proofs.ParseRows.{Along}
use Rattle.si_parse.proofs.grammar.formulas.disjunction.Given as goal

-- what is left goes on as the tokens do, and is no longer than they are
abbrev pub invariant-loop-rest : goal.invariant-loop-rest
invariant-loop-rest l = record {
  along : Along IsLiteral (mark 124) NoLiteral (tokens_of l.tokens) (literals_of l.literals) (tokens_of l.left);
  shorter : length l.left ≤ length l.tokens;
}

abbrev pub decreases-loop-rest : goal.decreases-loop-rest
decreases-loop-rest l = length l.left
