use Rattle.std.proofs.Common.{get_or, sym, ◌∙◌, ap, subst}
use Rattle.si_flat.specs.Cells.{IsWhole}
use Rattle.si_flat.specs.declared.Cell.TheVariants as cell
use Rattle.si_flat.proofs.Subterms.{some_cell}
use Rattle.si_tree.specs.Rights.{cell_head, head_in}
use Rattle.si_tree.proofs.RightLaws.{head_here}
use Rattle.si_tree.proofs.rights.head_at.Goals as goal

pub bounds-right-0 : goal.bounds-right-0
bounds-right-0 c = some_cell c.right-right.result.now c.right-right.ensures.whole

pub returns-then-left-indicator : goal.returns-then-left-indicator
returns-then-left-indicator c =
    c.head_of.ensures
    ∙ ap (λ cells. cell_head (get_or cells 0 (cell.App 0 0 0))) c.right-right.ensures.cells
    ∙ head_here c.in-Some.pair c.next.new.self c.args.indicator (cell.App 0 0 0) (sym c.left.ensures ∙ c.if-left-indicator.true) (subst IsWhole c.right-right.ensures.cells c.right-right.ensures.whole)
    ∙ sym (ap (λ bs. head_in bs c.args.indicator) c.in-Some.ensures.steps)
    ∙ sym c.loop-pair.invariant
