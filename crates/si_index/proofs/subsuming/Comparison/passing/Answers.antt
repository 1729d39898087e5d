use Rattle.std.proofs.Common.{subst}
use Rattle.si_lanes.specs.Rows.{AppendsPositions}
use Rattle.si_index.specs.Subsuming.{PassesIn}
use Rattle.si_index.proofs.subsuming.Comparison.passing.Goals as goal

pub returns : goal.returns
returns c =
    let row = c.in_ok-row.row in
    record {
      row = row;
      of_formula = c.in_ok-row.ensures;
      appended = subst (λ l. AppendsPositions (PassesIn c.args.self.now.direction row) c.args.rows.now l c.pass.new.slots.items) c.new-slots.ensures.items c.in_ok-pass.ensures;
    }
