use Rattle.std.proofs.Common.{◌≤◌, ◌+◌, ◌*◌, length}
use Rattle.si_defs.specs.Grammar.{IsTerm, comma}
use Rattle.si_lex.specs.Lexemes.{tokens_of}
use Rattle.si_parse.specs.Parsing.{NoTerm}
use Rattle.si_parse.proofs.ParseRows.{Along}
use Rattle.si_parse.proofs.grammar.terms.+reading.Given as goal

abbrev pub decreases-application : goal.decreases-application
decreases-application l = 2 * length l.tokens.now + 1

abbrev pub decreases-arguments : goal.decreases-arguments
decreases-arguments l = 2 * length l.tokens.now + 1

abbrev pub decreases-front_term : goal.decreases-front_term
decreases-front_term l = 2 * length l.tokens.now

-- what is left goes on as the tokens do, and is no longer than they are
abbrev pub invariant-arguments-loop-rest : goal.invariant-arguments-loop-rest
invariant-arguments-loop-rest l = record {
  along : Along IsTerm comma NoTerm (tokens_of l.tokens) l.args (tokens_of l.left);
  shorter : length l.left ≤ length l.tokens;
}

abbrev pub decreases-arguments-loop-rest : goal.decreases-arguments-loop-rest
decreases-arguments-loop-rest l = length l.left
