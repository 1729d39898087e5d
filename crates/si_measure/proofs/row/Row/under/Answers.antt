use Rattle.std.proofs.Common.{[], ◌∷◌, ◌++◌, ◌∙◌, ap, arith}
use Rattle.si_flat.specs.declared.Cell.TheVariants.{App}
use Rattle.si_measure.specs.Rows.{Arguments}
use Rattle.si_measure.proofs.Adding.{under_whole}
use Rattle.si_measure.proofs.row.Row.under.Goals as goal

pub from_cells-requires : goal.from_cells-requires
from_cells-requires c =
    let a : Arguments = record { cells = c.self.inside.cells.items; count = c.self.inside.count } in
    let head = App c.args.sym a.count c.in-Ok.len in
    under_whole c.args.sym a c.deref-2.result.now c.self.invariant
    (
    c.deref-2.ensures.value
    ∙ c.in_ok-extend_from_slice.ensures.items
    ∙ ap (λ l. l ++ c.deref.result.now) (c.in_ok-push.ensures.items ∙ ap (λ l. l ++ head ∷ []) c.new-cells.ensures.items)
    ∙ ap (λ l. head ∷ l) c.deref.ensures.value
    ∙ ap (λ n. App c.args.sym a.count n ∷ a.cells) (omega (arith, c.in-Ok.ensures, c.len.ensures))
    )
