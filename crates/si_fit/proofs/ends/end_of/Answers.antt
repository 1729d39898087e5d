use Rattle.std.proofs.Common.{arith, sym, None, Some}
use Rattle.si_fit.proofs.EndLaws.{down_starts, some_reached, down_further, ends_unbound, ends_full}
use Rattle.si_fit.proofs.ends.end_of.Goals as goal

pub loop-init : goal.loop-init
loop-init c = down_starts _ _ _ _ c.requires.solving c.requires.whole c.requires.range

pub bounds-reached-0 : goal.bounds-reached-0
bounds-reached-0 c = some_reached _ _ _ _ _ c.loop.invariant

pub returns-in_default : goal.returns-in_default
returns-in_default c = ends_unbound _ _ _ _ _ c.loop.invariant None c.in_default.ensures tt

pub loop-preserved : goal.loop-preserved
loop-preserved c = down_further _ _ _ _ _ _ c.in-Some-get.value.now c.loop.invariant c.in-Some.ensures c.in-Some-get.ensures

pub returns-in-None : goal.returns-in-None
returns-in-None c = ends_unbound _ _ _ _ _ c.loop.invariant (Some c.in-Some.slot) c.in-Some.ensures (sym c.in-None.ensures)

pub returns : goal.returns
returns c = ends_full _ _ _ _ _ c.loop.invariant (omega (arith, c.loop-test.false, c.mark-end.ensures.number))
