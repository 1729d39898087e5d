use Rattle.std.proofs.lemmas.Result.{IfOk-weaker}
use Rattle.si_lex.specs.Lexemes.{tokens_of}
use Rattle.si_parse.specs.GrammarRules.{AreAnnotations, IsClosed}
use Rattle.si_parse.specs.Parsing.{PassesTokens}
use Rattle.si_parse.proofs.ParseReads.{mark_front, mark_none}
use Rattle.si_parse.proofs.GrammarNotes.{closed_noted, closed_bare}
use Rattle.si_parse.proofs.grammar.clauses.closed.Goals as goal

pub returns-in-Some : goal.returns-in-Some
returns-in-Some c =
    IfOk-weaker c.annotations.result (PassesTokens AreAnnotations c.in-Some.rest.now) (PassesTokens IsClosed c.args.tokens.now)
    (λ r p. closed_noted (tokens_of c.args.tokens.now) (tokens_of c.in-Some.rest.now) (mark_front c.in-Some.ensures) _ p) c.annotations.ensures

pub returns-in-None : goal.returns-in-None
returns-in-None c = closed_bare (tokens_of c.args.tokens.now) (mark_none c.in-None.ensures) _ c.mark_at-in-None.ensures
