use Rattle.std.proofs.Common.{[], ◌∷◌, ◌++◌, length, ◌∙◌, ap, arith, subst}
use Rattle.si_flat.specs.declared.Cell.TheVariants.{App}
use Rattle.si_flat.specs.Cells.{IsWhole}
use Rattle.si_tests.proofs.BuiltTerms.{two_whole}
use Rattle.si_tests.proofs.equations.two.Goals as goal

pub from_cells-requires : goal.from_cells-requires
from_cells-requires c =
    let head = App c.args.sym 2 c.in-Ok.len in
    two_whole c.args.sym c.in-Ok.len c.args.t.now c.args.u.now _
    (subst IsWhole c.cells.ensures.cells c.cells.ensures.whole)
    (subst IsWhole c.cells-2.ensures.cells c.cells-2.ensures.whole)
    (omega (arith, c.in-Ok.ensures, ap length c.cells.ensures.cells, ap length c.cells-2.ensures.cells))
    (
    c.deref.ensures.value
    ∙ c.in_ok-extend_from_slice-2.ensures.items
    ∙ ap (λ l. l ++ c.cells-4.result.now)
    (
    c.in_ok-extend_from_slice.ensures.items
    ∙ ap (λ l. l ++ c.cells-3.result.now) (c.in_ok-push.ensures.items ∙ ap (λ l. l ++ head ∷ []) c.new-cells.ensures.items)
    ∙ ap (λ l. head ∷ l) c.cells-3.ensures.cells
    )
    ∙ ap (λ l. head ∷ (c.args.t.now ++ l)) c.cells-4.ensures.cells
    )
