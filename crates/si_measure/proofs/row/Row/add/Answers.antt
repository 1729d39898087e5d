use Rattle.std.proofs.Common.{arith}
use Rattle.si_measure.proofs.Adding.{one_argument}
use Rattle.si_measure.proofs.row.Row.add.Goals as goal

pub invariant_of-self-2 : goal.invariant_of-self-2
invariant_of-self-2 c =
    one_argument c.self.inside.cells.items c.cells.result.now _ c.self.inside.count c.in-Some.count c.self.invariant
    c.cells.ensures.whole
    c.in_ok-extend_from_slice.ensures.items
    (omega (arith, c.in-Some.ensures))
