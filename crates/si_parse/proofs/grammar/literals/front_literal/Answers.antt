use Rattle.std.proofs.Common.{Some, None, refl}
use Rattle.std.proofs.lemmas.Result.{IfOk-weaker}
use Rattle.si_defs.specs.Grammar.{IsLiteral}
use Rattle.si_lex.specs.Lexemes.{tokens_of}
use Rattle.si_parse.specs.GrammarRules.{IsStatement}
use Rattle.si_parse.specs.Parsing.{Reads, NoEquation}
use Rattle.si_term.specs.Meaning.{literal_of}
use Rattle.si_term.specs.Terms.{term_of}
use Rattle.si_parse.proofs.ParseSteps.{parses_at}
use Rattle.si_parse.proofs.ParseReads.{reads_some, reads_none, mark_front, mark_none}
use Rattle.si_parse.proofs.GrammarLiterals.{literal_plain, literal_tilde}
use Rattle.si_parse.proofs.grammar.literals.front_literal.Goals as goal

pub returns-in_default : goal.returns-in_default
returns-in_default c =
    IfOk-weaker c.statement.result (Reads literal_of IsStatement NoEquation c.args.tokens.now) (Reads literal_of IsLiteral NoEquation c.args.tokens.now)
    (λ r p. literal_plain (mark_none c.in_default.ensures) _ p) c.statement.ensures

pub returns-in-Some-2 : goal.returns-in-Some-2
returns-in-Some-2 c =
    parses_at (mark_front c.in-Some.ensures) refl
    (literal_tilde (tokens_of c.in-Some.behind.now) (Some (term_of c.in-Some-2.atom, tokens_of c.in-Some-2.rest.now)) (reads_some term_of c.in-Some.behind.now c.in_ok-atom.ensures c.in-Some-2.is))

pub returns-in-None : goal.returns-in-None
returns-in-None c =
    parses_at (mark_front c.in-Some.ensures) refl (literal_tilde (tokens_of c.in-Some.behind.now) None (reads_none term_of c.in-Some.behind.now c.in_ok-atom.ensures c.in-None.is))
