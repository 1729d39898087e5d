-- A posting goes, and then the leaf, where no posting is left.
use Rattle.std.proofs.Common.{◌≡◌, ◌≢◌, ℕ, ◌+◌, ◌≤◌, true, false, ◌==◌, List, [], ◌∷◌, ◌++◌, length, Option, None, Some, Result, Ok, Err, OnOk, OnErr, inl, inr, refl, sym, ◌∙◌, ap, subst, arith}
use Rattle.std.proofs.lemmas.Bool.{eqb-true}
use Rattle.si_flat.specs.Cells.{Term}
use Rattle.si_flat.specs.Rows.{CellPair}
use Rattle.si_legal.specs.declared.Posting.{Posting}
use Rattle.si_legal.specs.Counts.{unmerged_of, unmerged_count}
use Rattle.si_legal.specs.StoredSets.{Loses}
use Rattle.si_legal.specs.Trees.{leaf, Tree, HasNode, IsLeaf}
use Rattle.si_legal.proofs.PathLaws.{one_node}
use Rattle.si_changes.specs.Nodes.{IsVacant, with_content}
use Rattle.si_changes.proofs.OpenLaws.{vacant_apart}
use Rattle.si_tree.specs.Changes.{DropsPosting}
use Rattle.si_tree.specs.Dropping.{Goes, Drops}
use Rattle.si_tree.specs.Reading.{AtNode, IsNode, postings_of}
use Rattle.si_tree.proofs.ChildLaws.{inner_no_leaf}
use Rattle.si_tree.proofs.CountLaws.{weight, counted_changed}
use Rattle.si_prune.specs.Pruning.{IsEmptyLeaf, IsJoinDue, LeavesUnmerged, RemovesPosting, RemovesWhole}
use Rattle.si_prune.proofs.LoseLaws.{loses_then, keeps_then}

few_unmerged : (ps : List Posting) → unmerged_of (leaf ps) ≤ 1
few_unmerged [] = omega arith
few_unmerged (p ∷ ps) = omega arith

some_merged : (ps : List Posting) → (length ps == 0) ≡ false → unmerged_of (leaf ps) ≡ 0
some_merged [] some = cc
some_merged (p ∷ ps) some = refl

merged_with : (before : List Posting) (p : Posting) (after : List Posting) → unmerged_of (leaf (before ++ p ∷ after)) ≡ 0
merged_with [] p after = refl
merged_with (q ∷ before) p after = refl

none_left : (ps : List Posting) → (length ps == 0) ≡ true → ps ≡ []
none_left [] none = refl
none_left (p ∷ ps) none = absurd (omega (arith, eqb-true (length (p ∷ ps)) 0 none))

leaf_gone : (old new : Tree Term) (key : ℕ) (joined : Option (List CellPair)) → Goes old new key joined → IsVacant new key
leaf_gone old new key None goes = goes.gone
leaf_gone old new key (Some bindings) goes = goes.1.gone

differ : true ≡ false → ⊥
differ e = cc

module _ (old middle : Tree Term) (key : ℕ) (p : Posting) (drops : DropsPosting old middle key p) where
  abbrev left : List Posting
  left = drops.before ++ drops.after

  leaf_loses : (t : Term) (postings : List Posting) → IsLeaf old key t postings → Loses old middle t p
  leaf_loses t postings here = drops.loses t (subst (IsLeaf old key t) same here) where
    same : postings ≡ drops.before ++ p ∷ drops.after
    same = ap postings_of (sym here.content ∙ ap (λ n. n.content) (one_node old key here.node drops.changes.node here.reached.1 drops.changes.had) ∙ drops.changes.content)

  -- these are the postings that it has then
  is_left : (t : Term) (postings : List Posting) → IsLeaf middle key t postings → left ≡ postings
  is_left t postings here = ap postings_of (ap (λ n. n.content) (one_node middle key (with_content drops.changes.node (leaf left)) here.node drops.changes.has here.reached.1) ∙ here.content)

  -- it had a posting before
  counted : unmerged_count middle ≡ unmerged_count old + unmerged_of (leaf left)
  counted =
      let changed = counted_changed unmerged_of old.nodes middle.nodes key (λ k apart. drops.changes.others k (λ a. elim a as (λ _. ⊥) [ inl e ↦ apart (sym e) | inr n ↦ n ])) in
      let had = ap (weight unmerged_of) drops.changes.had ∙ ap unmerged_of drops.changes.content ∙ merged_with drops.before p drops.after in
      omega (arith, changed, had, ap (weight unmerged_of) drops.changes.has)

  -- a join that is due then was due before
  was_due : IsJoinDue middle key → IsJoinDue old key
  was_due due = record {
    stands = record {
      node = drops.changes.node;
      parent = due.stands.parent;
      parent_node = due.stands.parent_node;
      split = due.stands.split;
      children = due.stands.children;
      has = drops.changes.had;
      below = ap (λ n. n.parent) (one_node middle key (with_content drops.changes.node (leaf left)) due.stands.node drops.changes.has due.stands.has) ∙ due.stands.below;
      is_parent = sym (drops.changes.others due.stands.parent (λ a. elim a as (λ _. ⊥) [ inl e ↦ apart (sym e) | inr n ↦ n ])) ∙ due.stands.is_parent;
      inner_node = due.stands.inner_node;
    };
    no_root = λ e. due.no_root (e ∙ sym drops.changes.root);
    two = due.two;
  } where
    apart : due.stands.parent ≢ key
    apart e =
        inner_no_leaf due.stands.split due.stands.children left
        (sym due.stands.inner_node ∙ ap (λ n. n.content) (one_node middle key due.stands.parent_node (with_content drops.changes.node (leaf left)) (subst (λ k. HasNode middle k due.stands.parent_node) e due.stands.is_parent) drops.changes.has))

  pub leaf_there : IsNode middle key
  leaf_there = (with_content drops.changes.node (leaf left), drops.changes.has)

  module _ (postings : List Posting) (are : AtNode middle key (λ n. postings ≡ postings_of n.content)) where
    are_left : postings ≡ left
    are_left = are (with_content drops.changes.node (leaf left)) drops.changes.has

    pub is_empty : (length postings == 0) ≡ true → IsEmptyLeaf middle key
    is_empty none = (with_content drops.changes.node (leaf left), drops.changes.has, ap leaf (sym are_left ∙ none_left postings none))

    -- the leaf stays with its other postings
    pub removes_one : (length postings == 0) ≡ false → RemovesWhole old middle key p
    removes_one some = record {
      loses = leaf_loses;
      keeps = drops.keeps;
      gone = λ t here. differ (sym (ap (λ ps. length ps == 0) (are_left ∙ is_left t [] here)) ∙ some);
      unmerged = omega (arith, counted, some_merged left (ap (λ ps. length ps == 0) (sym are_left) ∙ some));
    }

    -- the leaf stays without a posting
    pub removes_last : (length postings == 0) ≡ true → IsJoinDue middle key → LeavesUnmerged old middle key p
    removes_last none due =
        let empty : left ≡ [] = sym are_left ∙ none_left postings none in
        record {
          loses = leaf_loses;
          keeps = drops.keeps;
          stays = is_empty none;
          due = was_due due;
          unmerged = omega (arith, counted, ap (λ ps. unmerged_of (leaf ps)) empty);
        }

  -- the leaf goes too
  pub removes_leaf : (new : Tree Term) (joined : Option (List CellPair)) → Drops middle new key joined → RemovesWhole old new key p
  removes_leaf new joined gone = record {
    loses = λ t postings here. loses_then old middle new t p (leaf_loses t postings here) gone.stays;
    keeps = keeps_then old middle new drops.keeps gone.keeps gone.stays;
    gone = λ t here. vacant_apart new key key here.node (leaf_gone middle new key joined gone.goes) here.reached.1 refl;
    unmerged = omega (arith, counted, few_unmerged left, gone.unmerged);
  }

-- ---- whether all went that had to isn't told
module _ (old new : Tree Term) (key : ℕ) (p : Posting) where
  of_whole : RemovesWhole old new key p → RemovesPosting old new key p
  of_whole whole = record {
    loses = whole.loses;
    keeps = whole.keeps;
    stays = λ t here. absurd (whole.gone t here);
    unmerged = omega (arith, whole.unmerged);
    only_due = λ none. whole.unmerged;
  }

  of_unmerged : LeavesUnmerged old new key p → RemovesPosting old new key p
  of_unmerged left = record {
    loses = left.loses;
    keeps = left.keeps;
    stays = λ t here. left.due;
    unmerged = omega (arith, left.unmerged);
    only_due = λ none. absurd (none left.due);
  }

  pub removes : {T E : Type 0} (answer : Result T E) → OnOk answer (RemovesWhole old new key p) → OnErr answer (LeavesUnmerged old new key p) → RemovesPosting old new key p
  removes (Ok done) whole unmerged = of_whole whole
  removes (Err error) whole unmerged = of_unmerged unmerged
