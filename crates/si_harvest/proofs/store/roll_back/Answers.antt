use Rattle.std.proofs.Common.{◌≡◌, ◌∙◌, length}
use Rattle.si_defs.specs.Entries.{entries}
use Rattle.si_harvest.proofs.Taking.{one_gone}
use Rattle.si_harvest.proofs.store.roll_back.Goals as goal

pub loop-preserved : goal.loop-preserved
loop-preserved g c = (
  one_gone c.remove_last.result _ _ _ c.loop.counter (λ n k. n ≡ length (entries k)) c.loop.invariant.0 c.remove_last.ensures.removed c.remove_last.ensures.empty c.remove_last.ensures.none,
  c.remove_last.ensures.rules ∙ c.loop.invariant.1,
)
