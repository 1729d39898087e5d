use Rattle.std.proofs.Common.{◌∙◌, sym, subst}
use Rattle.si_flat.specs.declared.Cell.TheVariants as cell
use Rattle.si_flat.specs.Cells.{StandsFor}
use Rattle.si_flat.proofs.Subterms.{some_cell}
use Rattle.si_mscg.proofs.WalkLaws.{heads_same}
use Rattle.si_mscg.proofs.have_same_heads.Goals as goal

pub bounds-right-0 : goal.bounds-right-0
bounds-right-0 c = some_cell c.right-right.result.now c.right-right.ensures.whole

pub bounds-other_right-0 : goal.bounds-other_right-0
bounds-other_right-0 c = some_cell c.right-other_right.result.now c.right-other_right.ensures.whole

pub returns : goal.returns
returns c =
    λ t u h k.
    c.have_same_head.ensures
    ∙ heads_same c.right-right.result.now c.right-other_right.result.now (cell.App 0 0 0) t u
    (subst (λ l. StandsFor l t) (sym c.right-right.ensures.cells) h)
    (subst (λ l. StandsFor l u) (sym c.right-other_right.ensures.cells) k)
