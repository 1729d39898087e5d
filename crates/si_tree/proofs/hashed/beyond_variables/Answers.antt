use Rattle.std.proofs.Common.{sym, subst, arith}
use Rattle.std.proofs.lemmas.List.{take_more}
use Rattle.si_tree.specs.HashedHeads.{AreVariablesBelow}
use Rattle.si_tree.proofs.HeadBounds.{below_more}
use Rattle.si_tree.proofs.hashed.beyond_variables.Goals as goal

pub loop-head-preserved : goal.loop-head-preserved
loop-head-preserved c = (
  subst (AreVariablesBelow c.max-vars.result) (sym (take_more c.args.heads.now c.loop-head.head-index _ c.loop-head-test.true))
      (below_more c.loop-head.vars c.beyond_variable.result c.max-vars.result _ _ (omega (arith, c.max-vars.ensures)) (omega (arith, c.max-vars.ensures)) c.loop-head.invariant.0 c.beyond_variable.ensures.below),
  omega (arith, c.max-vars.ensures, c.loop-head.invariant.1, c.beyond_variable.ensures.few),
)
