use Rattle.std.proofs.Common.{◌≡◌, false, true, refl, sym, ◌∙◌, arith}
use Rattle.si_descend.proofs.EndTurns.{all_clear, clear_at, frozen_clear}
use Rattle.si_descend.proofs.ends.are_clear.Goals as goal

pub returns-then-slots-clause-clear : goal.returns-then-slots-clause-clear
returns-then-slots-clause-clear c = (
  λ t. frozen_clear c.args.slots.now c.args.trail.now.pairs c.args.ends.now c.requires.solving.bindings c.if-slots.true,
  λ clear. refl,
)

pub returns-then-not-is_clear_at-clause-clear : goal.returns-then-not-is_clear_at-clause-clear
returns-then-not-is_clear_at-clause-clear c = (
  λ t. absurd (differ t),
  λ clear. sym c.if-not-is_clear_at.true ∙ c.is_clear_at.ensures.1 (clear_at c.args.slots.now c.args.trail.now.pairs c.args.ends.now c.loop-n.n clear),
) where
  differ : false ≡ true → ⊥
  differ e = cc

pub returns-clause-clear : goal.returns-clause-clear
returns-clause-clear c = (
  λ t. all_clear c.args.slots.now c.args.trail.now.pairs c.args.ends.now c.loop-n.n (omega (arith, c.loop-n-test.false, c.mark-count.ensures.number)) c.loop-n.invariant,
  λ clear. refl,
)
