use Rattle.si_index.proofs.SlotLaws.{slot_known}
use Rattle.si_index.proofs.gather.ClauseWalk.new.Goals as goal

pub new-requires : goal.new-requires
new-requires c = (slot_known c.args.search.now _ _ _ _ c.requires.ready c.at-position.ensures.1).sound.sound.no_larger
