use Rattle.si_mscg.specs.Walking.{state_of}
use Rattle.si_mscg.proofs.SplitParts.{may_begin, may_go_on, generalises_if_ok}
use Rattle.si_mscg.proofs.generalise.Goals as goal

pub leave_differing-requires : goal.leave_differing-requires
leave_differing-requires c = may_begin c.args.next c.args.node.now c.args.new.now (state_of c.in_ok-walk.walk) c.in_ok-walk.ensures c.requires

pub share_agreeing-requires : goal.share_agreeing-requires
share_agreeing-requires c = may_go_on c.args.next c.args.node.now c.args.new.now (state_of c.in_ok-walk.walk) (state_of c.leave_differing.new.self) c.in_ok-walk.ensures c.in_ok-leave_differing.ensures c.requires

pub returns : goal.returns
returns c =
    generalises_if_ok c.finish.result c.args.next c.args.node.now c.args.new.now (state_of c.in_ok-walk.walk) (state_of c.leave_differing.new.self) c.share_agreeing.new.self
    c.in_ok-walk.ensures c.in_ok-leave_differing.ensures c.in_ok-share_agreeing.ensures c.finish.ensures c.requires
