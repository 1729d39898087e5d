use Rattle.std.proofs.Common.{take}
use Rattle.si_held.specs.TwoTrees.{tree_for}
use Rattle.si_index.specs.Leaves.{AreUnmade}
use Rattle.si_index.proofs.WantedLaws.{ArePlaced}
use Rattle.si_index.proofs.wanted.in_order.Given as goal

-- the entries of the postings before this one stand there
abbrev pub invariant-loop-posting : goal.invariant-loop-posting
invariant-loop-posting l = record {
  placed : ArePlaced l.slots (tree_for l.literal l.trees) l.leaves.items (take l.posting-index l.postings) l.places.items;
  unmade : AreUnmade l.leaves.items;
}
