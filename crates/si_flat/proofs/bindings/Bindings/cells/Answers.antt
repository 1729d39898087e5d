use Rattle.std.proofs.Common.{length, sym, ◌∙◌, ap}
use Rattle.si_flat.specs.Rows.{row_of}
use Rattle.si_flat.proofs.RowLaws.{row_pairs}
use Rattle.si_flat.proofs.bindings.Bindings.cells.Goals as goal

pub returns : goal.returns
returns c =
    let row = c.self.invariant.0 in
    c.len.ensures ∙ c.self.inside.cells.ok.0 ∙ ap length (row.row ∙ ap row_of (sym (row_pairs c.self.inside.cells.items row) ∙ c.self.view_is))
