use Rattle.std.proofs.lemmas.Result.{IfOk-weaker, on_err_weaker}
use Rattle.si_flat.specs.Cells.{Term, StandsFor}
use Rattle.si_insert.specs.Inserting.{Inserts}
use Rattle.si_forest.specs.OnePosting.{GainsOne}
use Rattle.si_forest.proofs.OneLaws.{inserted, kept}
use Rattle.si_forest.proofs.pair.put.Goals as goal

pub returns-clause-ok : goal.returns-clause-ok
returns-clause-ok c =
    let new = c.insert_cells-inserted.new.tree in
    IfOk-weaker c.insert_cells-inserted.result
    (λ leaf. Inserts c.args.tree.now new c.args.cells.now c.args.posting leaf)
    (λ leaf. (t : Term) → StandsFor c.args.cells.now t → GainsOne c.args.tree.now new t c.args.posting leaf)
    (λ leaf i t stands. inserted c.args.tree.now new c.args.cells.now t c.args.posting leaf c.requires.legal c.root.ensures.legal stands i)
    c.insert_cells-inserted.ensures.ok

pub returns-clause-err : goal.returns-clause-err
returns-clause-err c =
    on_err_weaker c.insert_cells-inserted.result
    (kept c.args.tree.now c.insert_cells-inserted.new.tree c.root.ensures.legal)
    c.insert_cells-inserted.ensures.err
