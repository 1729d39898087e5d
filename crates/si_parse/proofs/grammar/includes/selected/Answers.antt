use Rattle.std.proofs.Common.{refl}
use Rattle.si_lex.specs.Lexemes.{tokens_of}
use Rattle.si_parse.specs.Meaning.{names_of}
use Rattle.si_parse.proofs.ParseSteps.{parses_at}
use Rattle.si_parse.proofs.ParseReads.{reads_some, reads_none, mark_front, mark_none}
use Rattle.si_parse.proofs.GrammarIncludes.{selection_all, selection_none, selection_only}
use Rattle.si_parse.proofs.grammar.includes.selected.Goals as goal

pub returns-in_default : goal.returns-in_default
returns-in_default c = selection_all (tokens_of c.args.tokens.now) (mark_none c.in_default.ensures)

pub returns-in-Some-2 : goal.returns-in-Some-2
returns-in-Some-2 c =
    parses_at (mark_front c.in-Some.ensures) refl (selection_only (tokens_of c.in-Some.behind.now) (reads_some names_of c.in-Some.behind.now c.in_ok-names.ensures c.in-Some-2.is))

pub returns-in-None : goal.returns-in-None
returns-in-None c =
    parses_at (mark_front c.in-Some.ensures) refl (selection_none (tokens_of c.in-Some.behind.now) (reads_none names_of c.in-Some.behind.now c.in_ok-names.ensures c.in-None.is))
