use Rattle.si_query.proofs.TermLaws.{found}
use Rattle.si_query.proofs.LiteralLaws.{atom_read}
use Rattle.si_query.proofs.literals.atom.Goals as goal

pub returns-then-equal : goal.returns-then-equal
returns-then-equal g c =
    atom_read (g.T.SymTable.pairs c.args.table.now) c.args.tokens.now c.args.writer.now c.statement.new.writer c.in-Some.equal c.in-Some.rest.now c.if-equal.true (found _ c.in_ok-equal.ensures c.in-Some.is)
