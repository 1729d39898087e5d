use Rattle.std.proofs.Common.{sym, subst, IfOk}
use Rattle.std.specs.Prelude.{IfSome}
use Rattle.si_query.specs.Reading.{ReadsByKind}
use Rattle.si_query.proofs.pattern.Goals as goal

pub returns-in-Lit : goal.returns-in-Lit
returns-in-Lit g c =
    subst (λ kind. IfOk c.literal.result (λ read. IfSome read (λ rest. ReadsByKind kind (g.T.SymTable.pairs c.args.table.now) c.args.tokens.now c.args.writer.now c.literal.new.writer rest.now)))
    (sym c.in-Lit.is) c.literal.ensures

pub returns-in-Term : goal.returns-in-Term
returns-in-Term g c =
    subst (λ kind. IfOk c.term.result (λ read. IfSome read (λ rest. ReadsByKind kind (g.T.SymTable.pairs c.args.table.now) c.args.tokens.now c.args.writer.now c.term.new.writer rest.now)))
    (sym c.in-Term.is) c.term.ensures
