use Rattle.std.proofs.Common.{◌≡◌, sym, subst, add-one}
use Rattle.si_flat.specs.Cells.{cells_of}
use Rattle.si_measure.specs.Systems.{variable, doubled}
use Rattle.si_measure.proofs.Adding.{twice_under}
use Rattle.si_measure.proofs.towers.doubled.Goals as goal

pub loop-preserved : goal.loop-preserved
loop-preserved c =
    let first = variable c.args.owner c.args.number in
    subst (λ n. c.in_ok-term-2.term ≡ cells_of (doubled n first)) (sym (add-one c.loop.counter))
    (twice_under (doubled c.loop.counter first) c.loop.term c.in_ok-term-2.term c.loop.invariant c.in_ok-term-2.ensures)
