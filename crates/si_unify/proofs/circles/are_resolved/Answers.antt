use Rattle.std.proofs.Common.{◌≡◌, true, false, sym, ◌∙◌, refl, arith}
use Rattle.si_unify.proofs.Triangular.{resolved_none, resolved_more, resolved_fewer}
use Rattle.si_unify.proofs.circles.are_resolved.Goals as goal

pub loop-n-init : goal.loop-n-init
loop-n-init c = (omega arith, resolved_none _ _ _ c.mark-n-end.ensures.distinct)

pub loop-n-preserved : goal.loop-n-preserved
loop-n-preserved c =
    (omega (arith, c.loop-n.invariant.0), resolved_more _ _ _ _ _ c.loop-n.invariant.1 c.slot.ensures (c.is_resolved.ensures.0 c.if-not-is_resolved.false))

pub returns-then-not-is_resolved : goal.returns-then-not-is_resolved
returns-then-not-is_resolved c = (
  λ e. let bad : false ≡ true = e in cc,
  λ all.
      sym c.if-not-is_resolved.true
      ∙ c.is_resolved.ensures.1 (all.resolved c.loop-n.n c.slot.result c.loop-n.invariant.0 (omega (arith, c.loop-n-test.true, c.mark-n-end.ensures.number)) c.slot.ensures),
)

pub returns : goal.returns
returns c = (
  λ t. resolved_fewer _ _ _ _ _ (omega (arith, c.loop-n-test.false, c.mark-n-end.ensures.number)) c.loop-n.invariant.1,
  λ all. refl,
)
