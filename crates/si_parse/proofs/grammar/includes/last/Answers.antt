use Rattle.si_parse.proofs.ParseReads.{mark_front, mark_none}
use Rattle.si_parse.proofs.GrammarIncludes.{last_none, last_behind}
use Rattle.si_parse.proofs.grammar.includes.last.Goals as goal

pub returns-in_default : goal.returns-in_default
returns-in_default c = last_none (mark_none c.in_default.ensures)

pub returns : goal.returns
returns c = last_behind (mark_front c.in-Some.ensures) c.mark_at-2.ensures
