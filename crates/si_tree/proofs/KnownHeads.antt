-- Children by the heads that are known of them.
use Rattle.std.proofs.Common.{◌≡◌, ◌<◌, ℕ, List, [], Some, length, arith, refl, subst}
use Rattle.std.specs.Prelude.{slice_get}
use Rattle.std.proofs.lemmas.Option.{slice_get_within}
use Rattle.si_defs.specs.Substitutions.{IsAmong}
use Rattle.si_flat.specs.Cells.{Term}
use Rattle.si_legal.specs.Trees.{Content, inner, leaf, Node, Tree, HasNode}
use Rattle.si_legal.specs.Legal.{IsLegal}
use Rattle.si_tree.specs.declared.node.Head.{Head}
use Rattle.si_tree.specs.Heads.{IsChildBy}
use Rattle.si_tree.specs.KeptNodes.{AreKnown}
use Rattle.si_tree.specs.Reading.{children_of}
use Rattle.si_tree.proofs.HeadLaws.{as_many}
use Rattle.si_tree.proofs.ChildLaws.{by_head, among_by_head, none_at_leaf}

-- a place among the children is one among the heads
pub as_many_known : (tree : Tree Term) (content : Content) (heads : List Head) (place : ℕ) → AreKnown tree content heads → place < length (children_of content) → place < length heads
as_many_known tree (inner split children) heads place are less = omega (arith, less, as_many tree split heads children are)
as_many_known tree (leaf postings) heads place are less = absurd (omega (arith, less))

-- and a place of a head is one among the children
pub place_known : (tree : Tree Term) (content : Content) (heads : List Head) (place : ℕ) (head : Head) → AreKnown tree content heads → slice_get heads place ≡ Some head → place < length (children_of content)
place_known tree (inner split children) heads place head are got = omega (arith, slice_get_within heads place head got, as_many tree split heads children are)
place_known tree (leaf postings) heads place head none got = absurd (differ (subst (λ hs. slice_get hs place ≡ Some head) none got)) where
  differ : slice_get [] place ≡ Some head → ⊥
  differ e = cc

module _ (tree : Tree Term) (key : ℕ) (node : Node Term) (heads : List Head) (has : HasNode tree key node) (known : AreKnown tree node.content heads) where
  -- what stands at the place of a head is the child by it
  pub known_child : (head : Head) (place child : ℕ) → slice_get heads place ≡ Some head → slice_get (children_of node.content) place ≡ Some child → IsChildBy tree key head child
  known_child head place child got there = by node.content refl known there where
    by : (c : Content) → node.content ≡ c → AreKnown tree c heads → slice_get (children_of c) place ≡ Some child → IsChildBy tree key head child
    by (inner split children) is are at = by_head tree key node split heads children head has is are child (place, got, at)
    by (leaf postings) is are at = absurd (differ at) where
      differ : slice_get [] place ≡ Some child → ⊥
      differ e = cc

  -- the head of a child is known
  pub known_among : (head : Head) → IsLegal tree → (child : ℕ) → IsChildBy tree key head child → IsAmong heads head
  known_among head legal child stands = by node.content refl known where
    by : (c : Content) → node.content ≡ c → AreKnown tree c heads → IsAmong heads head
    by (inner split children) is are = among_by_head tree key node split heads children head legal has is are child stands
    by (leaf postings) is are = absurd (none_at_leaf tree key node postings head has is child stands)
