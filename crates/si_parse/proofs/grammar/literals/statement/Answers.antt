use Rattle.std.proofs.Common.{Some, None, refl, sym, ap, arith}
use Rattle.si_lex.specs.Lexemes.{tokens_of}
use Rattle.si_term.specs.Terms.{term_of}
use Rattle.si_parse.proofs.ParseSteps.{parses_at}
use Rattle.si_parse.proofs.ParseReads.{reads_some, reads_none, left_shorter}
use Rattle.si_parse.proofs.GrammarLiterals.{statement_none, statement_stop, statement_sides, statement_bare}
use Rattle.si_parse.proofs.grammar.literals.statement.Goals as goal

pub returns-in_default : goal.returns-in_default
returns-in_default c = statement_none (reads_none term_of c.args.tokens.now c.in_ok-left.ensures c.in_default.is)

pub returns-in-Some-predicate : goal.returns-in-Some-predicate
returns-in-Some-predicate c =
    statement_bare (reads_some term_of c.args.tokens.now c.in_ok-left.ensures c.in-Some.is) c.in_default-equation_sign.ensures (Some (term_of c.in-Some-predicate.atom)) (sym c.in-Some-predicate.ensures)

pub returns-in-None : goal.returns-in-None
returns-in-None c =
    statement_bare (reads_some term_of c.args.tokens.now c.in_ok-left.ensures c.in-Some.is) c.in_default-equation_sign.ensures None (sym c.in-None.ensures)

pub front_term-requires-2 : goal.front_term-requires-2
front_term-requires-2 c =
    let one = left_shorter c.args.tokens.now c.in-Some.behind.now (reads_some term_of c.args.tokens.now c.in_ok-left.ensures c.in-Some.is) in
    let two = left_shorter c.in-Some.behind.now c.in-Some-equation_sign.next.now c.in-Some-equation_sign.ensures in
    omega (arith, one, two, c.requires)

pub returns-in_default-2 : goal.returns-in_default-2
returns-in_default-2 c =
    statement_stop (reads_some term_of c.args.tokens.now c.in_ok-left.ensures c.in-Some.is) c.in-Some-equation_sign.ensures (reads_none term_of c.in-Some-equation_sign.next.now c.in_ok-right.ensures c.in_default-2.is)

pub returns : goal.returns
returns c =
    parses_at refl (ap (λ x. Some (record { positive = c.in-Some-equation_sign.positive; atom = x }, tokens_of c.in-Some-2.rest.now)) c.in_ok-atom.ensures)
    (statement_sides (reads_some term_of c.args.tokens.now c.in_ok-left.ensures c.in-Some.is) c.in-Some-equation_sign.ensures (reads_some term_of c.in-Some-equation_sign.next.now c.in_ok-right.ensures c.in-Some-2.is))
