use Rattle.std.proofs.Common.{inl, inr, sym, ◌∙◌, ap}
use Rattle.si_flat.specs.declared.Cell.TheVariants as cell
use Rattle.si_flat.specs.Cells.{span}
use Rattle.si_flat.proofs.Subterms.{some_cell}
use Rattle.si_form.proofs.VariableCounts.{first_span}
use Rattle.si_form.proofs.variables.size.Goals as goal

pub bounds-0 : goal.bounds-0
bounds-0 c = some_cell c.args.cells.now c.requires

pub bounds-cells-0 : goal.bounds-cells-0
bounds-cells-0 c = some_cell c.args.cells.now c.requires

pub returns-in-App : goal.returns-in-App
returns-in-App c = ap span (sym c.in-App.is) ∙ first_span c.args.cells.now c.requires (cell.App 0 0 0)

pub returns-in-Query : goal.returns-in-Query
returns-in-Query c =
    let first = first_span c.args.cells.now c.requires (cell.App 0 0 0) in
    elim c.in-Query.is [
      | inl q ↦ ap span (sym q.1) ∙ first
      | inr other ↦ elim other [ inl e ↦ ap span (sym e.1) ∙ first | inr i ↦ ap span (sym i.1) ∙ first ]
    ]
