use Rattle.std.proofs.Common.{arith, sym, ◌∙◌}
use Rattle.si_flat.proofs.NameLaws.{left_at_first, left_more, left_found, left_none}
use Rattle.si_index.proofs.variables.is_met.Goals as goal

pub loop-i-init : goal.loop-i-init
loop-i-init c = left_at_first _ _

pub returns-then-eq : goal.returns-then-eq
returns-then-eq c = sym (left_found _ _ _ _ c.loop-i-test.true (sym c.eq.ensures ∙ c.if-eq.true) c.loop-i.invariant).0

pub loop-i-preserved : goal.loop-i-preserved
loop-i-preserved c = left_more _ _ _ _ c.loop-i-test.true (sym c.eq.ensures ∙ c.if-eq.false) c.loop-i.invariant

pub returns : goal.returns
returns c = sym (left_none _ _ _ (omega (arith, c.loop-i-test.false)) c.loop-i.invariant)
