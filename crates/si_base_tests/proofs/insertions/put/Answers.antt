use Rattle.std.proofs.Common.{sym, subst}
use Rattle.std.specs.Prelude.{IfOk}
use Rattle.si_insert.specs.Inserting.{MayInsert, Inserts}
use Rattle.si_base_tests.proofs.insertions.put.Goals as goal

pub put_term-requires : goal.put_term-requires
put_term-requires c = subst (λ cells. MayInsert c.args.tree.now cells c.args.posting) (sym c.in_ok-term.ensures) c.requires

pub returns-clause-ok : goal.returns-clause-ok
returns-clause-ok c =
    subst (λ cells. IfOk c.put_term.result (λ leaf. Inserts c.args.tree.now c.put_term.new.tree cells c.args.posting leaf)) c.in_ok-term.ensures
    c.put_term.ensures.ok
