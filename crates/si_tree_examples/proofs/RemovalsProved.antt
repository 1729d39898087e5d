-- A posting goes with its leaf, proved.
use Rattle.std.proofs.Common.{◌≡◌, inl, inr, ℕ, zero, suc, List, [], ◌∷◌, Option, None, Some, refl, ap, sym, ◌∙◌, subst, arith}
use Rattle.std.proofs.lemmas.Option.{same_Some}
use Rattle.std.proofs.lemmas.List.Sorted.{IsPermutation-refl, IsPermutation-middle}
use Rattle.si_defs.specs.Substitutions.{IsAmong}
use Rattle.si_flat.specs.Cells.{Term}
use Rattle.si_legal.specs.declared.Posting.{Posting}
use Rattle.si_legal.specs.Bindings.{Binding, composed}
use Rattle.si_legal.specs.Trees.{Node, Tree, HasNode, IsLeaf}
use Rattle.si_legal.specs.Legal.{IsLegal}
use Rattle.si_legal.specs.StoredSets.{IsUnder, Loses, KeepsLeaves, StaysStored}
use Rattle.si_legal.proofs.PathLaws.{one_node}
use Rattle.si_changes.specs.Nodes.{OtherNodesStay, ChangesPostings, ChangesChildren}
use Rattle.si_changes.specs.Joins.{MayJoin, Joins}
use Rattle.si_changes.proofs.JoinTreeLaws.{joins_nodes}
use Rattle.si_changes.proofs.PostingLaws.{loses_posting}
use Rattle.si_changes.proofs.StoredLaws.{one_leaf, no_leaf_vacant}
use Rattle.si_prune.specs.Pruning.{IsJoinDue}
use Rattle.si_prune.proofs.LoseLaws.{loses_then, keeps_then}
use Rattle.si_tree_examples.specs.SomeTerms.{f, a, b, c}
use Rattle.si_tree_examples.specs.SomeTrees.{posting, leaf_holding, leaf_of, five_of, five_nodes, five_unmerged, UnmergedLeaf, NothingStored}
use Rattle.si_tree_examples.specs.SomeRemovals.{three_nodes, ThreeNodes, JoinsLeaf, NoOtherChild, NoUncomposed, NoRootJoined, RemovesLast, LeavesLeaf, NoLeafLeft, RemovesEither, NoLeafBelowRoot}
use Rattle.si_tree_examples.proofs.FiveNodesProved.{base, leaf_a, middle, leaf_b, leaf_c, above_leaf, five_legal}

-- ---- the posting goes
abbrev bare_b : Node Term
bare_b = leaf_holding 2 ((1, b) ∷ []) []

same_without : OtherNodesStay five_nodes five_unmerged (3 ∷ [])
same_without zero other = refl
same_without (suc zero) other = refl
same_without (suc (suc zero)) other = refl
same_without (suc (suc (suc zero))) other = absurd (other (inl refl))
same_without (suc (suc (suc (suc n)))) other = refl

without : ChangesPostings five_nodes five_unmerged 3 (posting 1 ∷ []) []
without = record {
  node = leaf_b;
  had = refl;
  content = refl;
  has = refl;
  others = same_without;
  root = refl;
  next = refl;
  vars = refl;
}

with_posting : IsLeaf five_nodes 3 (f (b ∷ [])) (posting 1 ∷ [])
with_posting = record { node = leaf_b; above = above_leaf; reached = (refl, refl, (refl, refl, (refl, refl, refl))); content = refl; term = refl }

bare_leaf : IsLeaf five_unmerged 3 (f (b ∷ [])) []
bare_leaf = record { node = bare_b; above = above_leaf; reached = (refl, refl, (refl, refl, (refl, refl, refl))); content = refl; term = refl }

first_step : IsLegal five_unmerged × Loses five_nodes five_unmerged (f (b ∷ [])) (posting 1) × KeepsLeaves five_nodes five_unmerged
first_step = loses_posting five_nodes five_unmerged 3 [] [] (posting 1) (f (b ∷ [])) five_legal without with_posting

pub unmerged_leaf : UnmergedLeaf
unmerged_leaf = (first_step.0, refl, refl, refl)

pub nothing_stored : NothingStored
nothing_stored = (inl (3, bare_leaf), none) where
  none : (p : Posting) → IsUnder five_unmerged (f (b ∷ [])) p → ⊥
  none p h =
      let key : h.0 ≡ 3 = first_step.0.terms_differ h.0 3 (f (b ∷ [])) h.1.0 [] h.1.1 bare_leaf in
      let here : IsLeaf five_unmerged 3 (f (b ∷ [])) h.1.0 = subst (λ k. IsLeaf five_unmerged k (f (b ∷ [])) h.1.0) key h.1.1 in
      subst (λ ps. IsAmong ps p) (one_leaf five_unmerged 3 (f (b ∷ [])) (f (b ∷ [])) h.1.0 [] here bare_leaf).1 h.1.2

-- ---- the leaf goes
same_elsewhere : OtherNodesStay five_unmerged three_nodes (3 ∷ 2 ∷ 1 ∷ 0 ∷ [])
same_elsewhere zero other = absurd (other (inr (inr (inr (inl refl)))))
same_elsewhere (suc zero) other = absurd (other (inr (inr (inl refl))))
same_elsewhere (suc (suc zero)) other = absurd (other (inr (inl refl)))
same_elsewhere (suc (suc (suc zero))) other = absurd (other (inl refl))
same_elsewhere (suc (suc (suc (suc n)))) other = refl

relinked : ChangesChildren five_unmerged three_nodes 0 (2 ∷ []) (1 ∷ [])
relinked = record {
  node = base;
  split = 0;
  stay = 4 ∷ [];
  before = 2 ∷ 4 ∷ [];
  after = 1 ∷ 4 ∷ [];
  had = refl;
  content = refl;
  before_are = IsPermutation-refl (2 ∷ 4 ∷ []);
  has = refl;
  after_are = IsPermutation-refl (1 ∷ 4 ∷ []);
}

may_join : MayJoin five_unmerged 3 1
may_join = record {
  stands = record {
    node = bare_b;
    parent = 2;
    parent_node = middle;
    split = 1;
    children = 1 ∷ 3 ∷ [];
    has = refl;
    below = refl;
    is_parent = refl;
    inner_node = refl;
  };
  empty = refl;
  no_root = λ e. omega (arith, e);
  two = IsPermutation-middle (3 ∷ []) 1 [];
}

joined : Joins five_unmerged three_nodes 3 1
joined = record {
  parent = 2;
  parent_node = middle;
  other_node = leaf_a;
  above = 0;
  was_parent = refl;
  below_parent = refl;
  was_below = refl;
  child_of = refl;
  gone = refl;
  parent_gone = refl;
  joined = refl;
  linked = relinked;
  others = same_elsewhere;
  root = refl;
  next = refl;
  vars = refl;
}

pub joins_leaf : JoinsLeaf
joins_leaf = (may_join, joined)

second_step : IsLegal three_nodes × StaysStored five_unmerged three_nodes × KeepsLeaves five_unmerged three_nodes
second_step = joins_nodes five_unmerged three_nodes 3 1 first_step.0 may_join joined

pub three_nodes_legal : ThreeNodes
three_nodes_legal = (second_step.0, refl, refl, refl)

-- ---- what is no join
some_none : (node : Node Term) → ◌≡◌ {A = Option (Node Term)} (Some node) None → ⊥
some_none node e = cc

pub no_other_child : NoOtherChild
no_other_child h = some_none (leaf_holding 0 ((0, f (b ∷ [])) ∷ []) []) h.gone

-- what the other child binds then
joined_bindings : (new : Tree Term) (node : Node Term) → Joins five_unmerged new 3 1 → HasNode new 1 node → node.bindings ≡ (0, f (a ∷ [])) ∷ []
joined_bindings new node h has =
    let child : leaf_a ≡ h.other_node = one_node five_unmerged 1 leaf_a h.other_node refl h.was_below in
    let parent : 2 ≡ h.parent = same_Some 2 h.parent (ap (λ n. n.parent) child ∙ h.child_of) in
    let upper : middle ≡ h.parent_node = one_node five_unmerged 2 middle h.parent_node refl (subst (λ k. HasNode five_unmerged k h.parent_node) (sym parent) h.was_parent) in
    ap (λ n. n.bindings) (one_node new 1 node _ has h.joined)
    ∙ sym (ap (λ n. composed n.bindings h.other_node.bindings) upper)
    ∙ sym (ap (λ n. composed middle.bindings n.bindings) child)

abbrev first_left : List Binding → ℕ
first_left [] = 0
first_left (pair ∷ bs) = pair.0

pub no_uncomposed : NoUncomposed
no_uncomposed h = omega (arith, ap first_left (joined_bindings _ (leaf_of 0 ((1, a) ∷ []) 0) h refl))

abbrev five_bare_c : Tree Term
five_bare_c = five_of (posting 1 ∷ []) []

abbrev bare_c : Node Term
bare_c = leaf_holding 0 ((0, c) ∷ []) []

pub no_root_joined : NoRootJoined
no_root_joined h =
    let child : bare_c ≡ h.stands.node = one_node five_bare_c 4 bare_c h.stands.node refl h.stands.has in
    h.no_root (sym (same_Some 0 h.stands.parent (ap (λ n. n.parent) child ∙ h.stands.below)))

-- ---- the removal
is_lost : (t : Term) (postings : List Posting) → IsLeaf five_nodes 3 t postings → t ≡ f (b ∷ [])
is_lost t postings here = (one_leaf five_nodes 3 t (f (b ∷ [])) postings (posting 1 ∷ []) here with_posting).0

pub removes_last : RemovesLast
removes_last = record {
  loses = λ t postings here.
      subst (λ u. Loses five_nodes three_nodes u (posting 1)) (sym (is_lost t postings here))
      (loses_then five_nodes five_unmerged three_nodes (f (b ∷ [])) (posting 1) first_step.1 second_step.1);
  keeps = keeps_then five_nodes five_unmerged three_nodes first_step.2 second_step.2 second_step.1;
  gone = λ t here. no_leaf_vacant three_nodes 3 t [] refl here;
  unmerged = omega arith;
}

due_at_b : IsJoinDue five_nodes 3
due_at_b = record {
  stands = record {
    node = leaf_b;
    parent = 2;
    parent_node = middle;
    split = 1;
    children = 1 ∷ 3 ∷ [];
    has = refl;
    below = refl;
    is_parent = refl;
    inner_node = refl;
  };
  no_root = λ e. omega (arith, e);
  two = refl;
}

pub leaves_leaf : LeavesLeaf
leaves_leaf = record {
  loses = λ t postings here. subst (λ u. Loses five_nodes five_unmerged u (posting 1)) (sym (is_lost t postings here)) first_step.1;
  keeps = first_step.2;
  stays = (bare_b, refl, refl);
  due = due_at_b;
  unmerged = refl;
}

pub no_leaf_left : NoLeafLeft
no_leaf_left h = h.gone (f (b ∷ [])) bare_leaf

pub removes_either : RemovesEither
removes_either = (
  record {
    loses = removes_last.loses;
    keeps = removes_last.keeps;
    stays = λ t here. due_at_b;
    unmerged = omega arith;
    only_due = λ none. omega arith;
  },
  record {
    loses = leaves_leaf.loses;
    keeps = leaves_leaf.keeps;
    stays = λ t here. due_at_b;
    unmerged = omega arith;
    only_due = λ none. absurd (none due_at_b);
  },
)

-- the parent of the leaf of c is the root
none_due_at_c : IsJoinDue five_nodes 4 → ⊥
none_due_at_c due =
    let child : leaf_c ≡ due.stands.node = one_node five_nodes 4 leaf_c due.stands.node refl due.stands.has in
    due.no_root (sym (same_Some 0 due.stands.parent (ap (λ n. n.parent) child ∙ due.stands.below)))

pub no_leaf_below_root : NoLeafBelowRoot
no_leaf_below_root h = omega (arith, h.only_due none_due_at_c)
