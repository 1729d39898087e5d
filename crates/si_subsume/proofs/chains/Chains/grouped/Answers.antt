use Rattle.std.proofs.Common.{length}
use Rattle.si_subsume.proofs.ChainLaws.{passed_more}
use Rattle.si_subsume.proofs.chains.Chains.grouped.Goals as goal

pub loop-label-preserved : goal.loop-label-preserved
loop-label-preserved c =
    passed_more c.args.self.now (length c.args.literals.now) c.args.literals.now _ c.loop-label.grouped.items c.append_part.new.grouped.items c.loop-label.label c.loop-label.invariant c.loop-label-test.true c.in_ok-append_part.ensures
