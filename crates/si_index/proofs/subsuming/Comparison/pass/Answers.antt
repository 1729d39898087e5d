use Rattle.std.proofs.Common.{sym, subst}
use Rattle.std.specs.Prelude.{OnOk}
use Rattle.si_lanes.specs.Rows.{AppendsPositions}
use Rattle.si_index.specs.Subsuming.{PassesIn}
use Rattle.si_index.proofs.subsuming.Comparison.pass.Goals as goal

pub returns-in-ToFormula : goal.returns-in-ToFormula
returns-in-ToFormula c =
    subst (λ d. OnOk c.subset_rows.result (AppendsPositions (PassesIn d c.args.row.now) c.args.rows.now c.args.slots.now.items c.subset_rows.new.out.items)) (sym c.in-ToFormula.is)
    c.subset_rows.ensures.ok

pub returns-in-FromFormula : goal.returns-in-FromFormula
returns-in-FromFormula c =
    subst (λ d. OnOk c.superset_rows.result (AppendsPositions (PassesIn d c.args.row.now) c.args.rows.now c.args.slots.now.items c.superset_rows.new.out.items)) (sym c.in-FromFormula.is)
    c.superset_rows.ensures.ok
