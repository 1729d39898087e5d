use Rattle.si_descend.proofs.OpenSubtrees.{open_below, has_kind}
use Rattle.si_descend.proofs.subtrees.has_clear_ends.Goals as goal

pub returns : goal.returns
returns c t =
    let told = c.find_ends_below.ensures c.if-not-find_ends_below.false in
    open_below c.args.search.now c.requires.ready c.args.node c.args.trail.now.pairs c.args.trail.now.slots c.requires.solving c.are_clear.ensures.distinct c.requires.there told.0 c.find_ends_below.new.ends told.2 told.1 (c.are_clear.ensures.clear.0 t) (has_kind c.args.search.now c.requires.ready c.requires.unfrozen) c.requires.opened
