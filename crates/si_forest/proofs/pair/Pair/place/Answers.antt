use Rattle.si_forest.specs.Pairs.{two_of}
use Rattle.si_forest.proofs.TreeLaws.{came_and_went, gain_legal}
use Rattle.si_forest.proofs.pair.Pair.place.Goals as goal

pub remove-requires-clause-legal : goal.remove-requires-clause-legal
remove-requires-clause-legal c =
    gain_legal (two_of c.args.self.now) (two_of c.insert.new.self) c.args.literal c.args.posting c.requires.may.0 c.in_ok-leaf.leaf (c.in_ok-leaf.ensures.ok c.requires.may.0 c.requires.may.1) c.requires.legal

pub remove-requires-clause-stands : goal.remove-requires-clause-stands
remove-requires-clause-stands c = (c.requires.may.0, (c.in_ok-leaf.ensures.ok c.requires.may.0 c.requires.may.1).here.stands)

pub returns-in_default-clause-err : goal.returns-in_default-clause-err
returns-in_default-clause-err c =
    came_and_went (two_of c.args.self.now) (two_of c.insert.new.self) (two_of c.remove.new.self) c.args.literal c.requires.may.0 c.args.posting c.in_ok-leaf.leaf c.requires.legal c.requires.may.2.not_stored
    (c.in_ok-leaf.ensures.ok c.requires.may.0 c.requires.may.1) c.remove.ensures
