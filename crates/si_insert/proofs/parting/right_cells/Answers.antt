use Rattle.std.proofs.Common.{◌≡◌, ap, arith}
use Rattle.si_insert.specs.Parting.{right_lengths}
use Rattle.si_insert.proofs.parting.right_cells.Goals as goal

pub returns : goal.returns
returns c =
    let none : right_lengths c.loop-pair.pair-iterator ≡ 0 = ap right_lengths c.in-None.ensures.steps.0 in
    omega (arith, c.loop-pair.invariant.2, c.loop-pair.invariant.3, none)
