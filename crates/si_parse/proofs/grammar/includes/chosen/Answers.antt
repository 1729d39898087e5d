use Rattle.std.proofs.Common.{Some, refl, sym, ap}
use Rattle.si_lex.specs.Lexemes.{tokens_of}
use Rattle.si_parse.specs.Meaning.{names_of}
use Rattle.si_parse.proofs.ParseSteps.{parses_at}
use Rattle.si_parse.proofs.ParseReads.{reads_some, reads_none, mark_front, mark_none}
use Rattle.si_parse.proofs.GrammarIncludes.{chosen_none, chosen_stop, chosen_some, chosen_bare}
use Rattle.si_parse.proofs.grammar.includes.chosen.Goals as goal

pub returns-in_default : goal.returns-in_default
returns-in_default c = chosen_bare (mark_none c.in_default.ensures)

pub returns-in_default-2 : goal.returns-in_default-2
returns-in_default-2 c =
    parses_at (mark_front c.in-Some.ensures) refl (chosen_none (tokens_of c.in-Some.inside.now) (reads_none names_of c.in-Some.inside.now c.in_ok-names.ensures c.in_default-2.is))

pub returns-in-Some-mark_at : goal.returns-in-Some-mark_at
returns-in-Some-mark_at c =
    parses_at (mark_front c.in-Some.ensures) refl
    (chosen_some (tokens_of c.in-Some.inside.now)
    (parses_at refl (ap (λ x. Some (names_of c.in-Some-2.names, x)) (sym (mark_front c.in-Some-mark_at.ensures))) (reads_some names_of c.in-Some.inside.now c.in_ok-names.ensures c.in-Some-2.is)))

pub returns-in-None : goal.returns-in-None
returns-in-None c =
    parses_at (mark_front c.in-Some.ensures) refl
    (chosen_stop (tokens_of c.in-Some.inside.now) (reads_some names_of c.in-Some.inside.now c.in_ok-names.ensures c.in-Some-2.is) (mark_none c.in-None.ensures))
