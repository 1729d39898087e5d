use Rattle.si_prune.proofs.RemoveLaws.{removes}
use Rattle.si_prune.proofs.removing.remove.Goals as goal

pub returns : goal.returns
returns c =
    removes c.args.tree.now c.try_remove.new.tree c.args.leaf c.args.posting c.try_remove.result c.try_remove.ensures.ok c.try_remove.ensures.err
