-- What the tests read of a leaf, and take out of it.
use Rattle.std.proofs.Common.{◌≡◌, ℕ, List, [], Some, slice_get, refl, ◌∙◌, ap, subst}
use Rattle.si_defs.proofs.ListLaws.{get_among}
use Rattle.si_flat.specs.Cells.{Term}
use Rattle.si_legal.specs.declared.Posting.{Posting}
use Rattle.si_legal.specs.Trees.{inner, leaf, Content, Tree, StandsIn}
use Rattle.si_tree.specs.Changes.{HasPosting, DropsPosting}
use Rattle.si_tree.specs.Reading.{postings_of, AtNode, IsNode}

pub node_there : (tree : Tree Term) (key : ℕ) (t : Term) (p : Posting) → StandsIn tree key t p → IsNode tree key
node_there tree key t p stands = (stands.1.node, stands.1.reached.1)

-- a posting that was read may go
pub may_go : (tree : Tree Term) (key : ℕ) (ps : List Posting) (n : ℕ) (p : Posting) → IsNode tree key → AtNode tree key (λ node. ps ≡ postings_of node.content) → slice_get ps n ≡ Some p → HasPosting tree key p
may_go tree key ps n p (node, has) at got = by node.content refl where
  by : (c : Content) → node.content ≡ c → HasPosting tree key p
  by (leaf qs) e = record { node = node; postings = qs; has = has; content = e; among = get_among qs n p (subst (λ xs. slice_get xs n ≡ Some p) (at node has ∙ ap postings_of e) got) }
  by (inner split children) e = absurd (none (subst (λ xs. slice_get xs n ≡ Some p) (at node has ∙ ap postings_of e) got)) where
    none : slice_get [] n ≡ Some p → ⊥
    none f = cc

pub node_stays : (old new : Tree Term) (key : ℕ) (p : Posting) → DropsPosting old new key p → IsNode new key
node_stays old new key p d = (_, d.changes.has)
