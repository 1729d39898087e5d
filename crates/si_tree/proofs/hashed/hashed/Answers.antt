use Rattle.si_tree.proofs.HeadPlaces.{one_more}
use Rattle.si_tree.proofs.hashed.hashed.Goals as goal

pub loop-head-preserved : goal.loop-head-preserved
loop-head-preserved c =
    one_more c.args.heads.now c.loop-head.set.keys c.insert.new.self.keys c.loop-head.head-index _ c.requires c.loop-head-test.true c.loop-head.invariant c.in_ok-insert.ensures.keys
