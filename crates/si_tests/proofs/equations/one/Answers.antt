use Rattle.std.proofs.Common.{[], ◌∷◌, ◌++◌, length, ◌∙◌, ap, arith, subst}
use Rattle.si_flat.specs.declared.Cell.TheVariants.{App}
use Rattle.si_flat.specs.Cells.{IsWhole}
use Rattle.si_tests.proofs.BuiltTerms.{one_whole}
use Rattle.si_tests.proofs.equations.one.Goals as goal

pub from_cells-requires : goal.from_cells-requires
from_cells-requires c =
    let head = App c.args.sym 1 c.in-Ok.len in
    one_whole c.args.sym c.in-Ok.len c.args.t.now _ (subst IsWhole c.cells.ensures.cells c.cells.ensures.whole)
    (omega (arith, c.in-Ok.ensures, ap length c.cells.ensures.cells))
    (
    c.deref.ensures.value
    ∙ c.in_ok-extend_from_slice.ensures.items
    ∙ ap (λ l. l ++ c.cells-2.result.now) (c.in_ok-push.ensures.items ∙ ap (λ l. l ++ head ∷ []) c.new-cells.ensures.items)
    ∙ ap (λ l. head ∷ l) c.cells-2.ensures.cells
    )
