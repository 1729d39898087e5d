-- What contracts see of a node.
use Rattle.std.specs.Prelude.{ℕ, List, Option, None, Some}
use Rattle.si_flat.specs.Rows.{CellPair}
use Rattle.si_legal.specs.declared.Posting.{Posting}
use Rattle.si_tree.specs.declared.node.Branches.{Branches}
use Rattle.si_tree.specs.declared.node.Below.{Below}
use Rattle.si_tree.specs.declared.node.Below.TheVariants as below
use Rattle.si_tree.specs.declared.postings.Slot.{Slot}
use Rattle.si_tree.specs.Forks.{Forked}

-- the two children or the branches of an inner node, or the slot or the postings of a leaf
pub data Content : Type 0 where
  Fork : Forked → Content
  Inner : Branches → Content
  One : Slot → Content
  Many : List Posting → Content

pub record TreeNode : Type 0 where
  pub parent : Option ℕ
  pub bindings : List CellPair
  pub content : Content

-- the parent, by what stands below a node
abbrev pub parent_in : Below → Option ℕ
parent_in (below.Root branches) = None
parent_in (below.Fork parent fork) = Some parent
parent_in (below.Inner parent branches) = Some parent
parent_in (below.One parent slot) = Some parent
parent_in (below.Many parent postings) = Some parent

-- what stands below it, without the parent
abbrev pub content_in : Below → Content
content_in (below.Root branches) = Inner branches.value
content_in (below.Fork parent fork) = Fork fork.value
content_in (below.Inner parent branches) = Inner branches.value
content_in (below.One parent slot) = One slot
content_in (below.Many parent postings) = Many postings.value
