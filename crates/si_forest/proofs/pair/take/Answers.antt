use Rattle.si_tree.proofs.PostingSteps.{has_posting}
use Rattle.si_forest.proofs.OneLaws.{removed}
use Rattle.si_forest.proofs.pair.take.Goals as goal

pub remove-requires : goal.remove-requires
remove-requires c = has_posting c.args.tree.now c.args.leaf c.requires.stands.0 c.args.posting c.requires.stands.1

pub returns : goal.returns
returns c = removed c.args.tree.now c.remove.new.tree c.args.leaf c.requires.stands.0 c.args.posting c.requires.legal c.root.ensures.legal c.requires.stands.1 c.remove.ensures
