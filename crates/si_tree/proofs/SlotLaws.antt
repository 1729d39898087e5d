-- What a slot holds, and what the tree has at its key.
use Rattle.std.proofs.Common.{◌≡◌, ℕ, List, map, Option, None, Some, get_or, refl, sym, ◌∙◌, ap}
use Rattle.std.proofs.Math.ListN.{get_or-map}
use Rattle.std.proofs.lemmas.Option.{same_Some}
use Rattle.si_flat.specs.Cells.{Term}
use Rattle.si_legal.specs.Trees.{Node}
use Rattle.si_tree.specs.Nodes.{TreeNode}
use Rattle.si_tree.specs.KeptNodes.{node_of, node_in_slot}

-- the tree has at each key what its slot is read as
pub slot_read : (slots : List (Option TreeNode)) (key : ℕ) → get_or (map node_in_slot slots) key None ≡ node_in_slot (get_or slots key None)
slot_read slots key = get_or-map node_in_slot slots key None

pub node_read : (slots : List (Option TreeNode)) (key : ℕ) (n : TreeNode) → get_or slots key None ≡ Some n → get_or (map node_in_slot slots) key None ≡ Some (node_of n)
node_read slots key n e = slot_read slots key ∙ ap node_in_slot e

pub vacant_read : (slots : List (Option TreeNode)) (key : ℕ) → get_or slots key None ≡ None → get_or (map node_in_slot slots) key None ≡ None
vacant_read slots key e = slot_read slots key ∙ ap node_in_slot e

-- a node of the tree stands in a slot
pub record Stood (slots : List (Option TreeNode)) (key : ℕ) (node : Node Term) : Type 0 where
  pub kept : TreeNode
  pub got : get_or slots key None ≡ Some kept
  pub read : node_of kept ≡ node

pub stood : (slots : List (Option TreeNode)) (key : ℕ) (node : Node Term) → get_or (map node_in_slot slots) key None ≡ Some node → Stood slots key node
stood slots key node e = by (get_or slots key None) refl where
  by : (slot : Option TreeNode) → get_or slots key None ≡ slot → Stood slots key node
  by None is = absurd (differ (sym (vacant_read slots key is) ∙ e)) where
    differ : None ≡ Some node → ⊥
    differ f = cc
  by (Some n) is = record {
    kept = n;
    got = is;
    read = same_Some (node_of n) node (sym (node_read slots key n is) ∙ e);
  }
