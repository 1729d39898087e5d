use Rattle.si_parse.proofs.ParseReads.{mark_front}
use Rattle.si_query.proofs.TermLaws.{found}
use Rattle.si_query.proofs.LiteralLaws.{round_read}
use Rattle.si_query.proofs.literals.negated.Goals as goal

pub returns-in-Some-2 : goal.returns-in-Some-2
returns-in-Some-2 g c =
    round_read (g.T.SymTable.pairs c.args.table.now) c.args.tokens.now c.args.writer.now c.atom-2.new.writer c.in-Some.inside.now c.in-Some-2.after.now c.mark_at-in-Some-2.result
    (mark_front c.in-Some.ensures) (found _ c.in_ok-after.ensures c.in-Some-2.is) c.mark_at-in-Some-2.ensures
