use Rattle.si_parse.proofs.ParseReads.{mark_front, mark_none}
use Rattle.si_query.proofs.TermLaws.{found}
use Rattle.si_query.proofs.LiteralLaws.{tilde_read, plain_read}
use Rattle.si_query.proofs.literals.literal.Goals as goal

pub returns-in-Some : goal.returns-in-Some
returns-in-Some g c =
    tilde_read (g.T.SymTable.pairs c.args.table.now) c.args.tokens.now c.args.writer.now c.negated.new.writer c.negated.result c.in-Some.after.now (mark_front c.in-Some.ensures) c.negated.ensures

pub returns-in-Some-2 : goal.returns-in-Some-2
returns-in-Some-2 g c =
    plain_read (g.T.SymTable.pairs c.args.table.now) c.args.tokens.now c.args.writer.now c.statement.new.writer c.in-Some-2.field-0-0 c.in-Some-2.rest.now (mark_none c.in-None.ensures)
    (found _ c.in_ok-rest-in-None.ensures c.in-Some-2.is)
