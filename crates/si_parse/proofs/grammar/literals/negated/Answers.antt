use Rattle.std.proofs.Common.{Some, refl, sym, ap}
use Rattle.std.proofs.lemmas.Result.{IfOk-weaker}
use Rattle.si_defs.specs.Grammar.{IsAtom}
use Rattle.si_lex.specs.Lexemes.{tokens_of}
use Rattle.si_parse.specs.GrammarRules.{IsNegated}
use Rattle.si_parse.specs.Parsing.{Reads, NoEquation}
use Rattle.si_term.specs.Terms.{term_of}
use Rattle.si_parse.proofs.ParseSteps.{parses_at}
use Rattle.si_parse.proofs.ParseReads.{reads_some, reads_none, mark_front, mark_none}
use Rattle.si_parse.proofs.GrammarLiterals.{negated_bare, negated_none, negated_stop, negated_some}
use Rattle.si_parse.proofs.grammar.literals.negated.Goals as goal

pub returns-in_default : goal.returns-in_default
returns-in_default c =
    IfOk-weaker c.atom.result (Reads term_of IsAtom NoEquation c.args.tokens.now) (Reads term_of IsNegated NoEquation c.args.tokens.now)
    (λ r p. negated_bare (mark_none c.in_default.ensures) _ p) c.atom.ensures

pub returns-in_default-2 : goal.returns-in_default-2
returns-in_default-2 c =
    parses_at (mark_front c.in-Some.ensures) refl (negated_none (tokens_of c.in-Some.inside.now) (reads_none term_of c.in-Some.inside.now c.in_ok-atom.ensures c.in_default-2.is))

pub returns-in-Some-mark_at : goal.returns-in-Some-mark_at
returns-in-Some-mark_at c =
    parses_at (mark_front c.in-Some.ensures) refl
    (negated_some (tokens_of c.in-Some.inside.now)
    (parses_at refl (ap (λ x. Some (term_of c.in-Some-2.atom, x)) (sym (mark_front c.in-Some-mark_at.ensures))) (reads_some term_of c.in-Some.inside.now c.in_ok-atom.ensures c.in-Some-2.is)))

pub returns-in-None : goal.returns-in-None
returns-in-None c =
    parses_at (mark_front c.in-Some.ensures) refl
    (negated_stop (tokens_of c.in-Some.inside.now) (reads_some term_of c.in-Some.inside.now c.in_ok-atom.ensures c.in-Some-2.is) (mark_none c.in-None.ensures))
