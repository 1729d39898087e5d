-- A node without children comes or goes, its parent gets other children, and all other nodes stay.
use Rattle.std.proofs.Common.{◌≡◌, ◌≢◌, ◌⊎◌, inl, inr, ℕ, ◌≤◌, List, [], ◌∷◌, None, Some, slice_index_or, ap, sym, ◌∙◌, subst, arith}
use Rattle.std.proofs.lemmas.Bool.Decides.{eqb_tells}
use Rattle.std.proofs.lemmas.Option.{same_Some}
use Rattle.si_flat.specs.Cells.{Term}
use Rattle.si_legal.specs.Trees.{Content, inner, leaf, Node, Tree, HasNode, Path, IsPath, path_term}
use Rattle.si_legal.specs.Legal.{HasEnoughChildren, IsLegalContent, IsLegalNode, IsLegal, IsRoot}
use Rattle.si_legal.proofs.PathLaws.{one_node, one_path}
use Rattle.si_changes.specs.Nodes.{with_content, OtherNodesStay, ChangesChildren}
use Rattle.si_changes.proofs.Frames.{legal_nodes, IsChild, StaysInPlace, place_of, PlacesStay, Lifted, lifted_path, lifted_legal, KeepsChildren, keeps_children, kept_content, ChildrenChange, changed_content}
use Rattle.si_changes.proofs.StoredLaws.{LeafStays, OtherLeavesStay, leaf_stays_lifted, no_leaf_linked}

pub record IsRelinked (old new : Tree Term) (key parent : ℕ) (gone come : List ℕ) : Type 0 where
  pub linked : ChangesChildren old new parent gone come
  pub others : OtherNodesStay old new (key ∷ parent ∷ [])
  pub root : new.root ≡ old.root
  pub next : new.next ≡ old.next
  pub apart : parent ≢ key
  pub no_root : old.root ≢ key
  pub childless : (child : ℕ) → IsChild old key child → ⊥
  pub was_below : (k : ℕ) → IsChild old k key → k ≡ parent
  pub is_below : (k : ℕ) → IsChild new k key → k ≡ parent

pub same_inner : (m n : ℕ) (js ks : List ℕ) → inner m js ≡ inner n ks → (m ≡ n) × (js ≡ ks)
same_inner m n js ks e = (ap split_in e, ap children_in e) where
  split_in : Content → ℕ
  split_in (inner k ls) = k
  split_in (leaf ps) = 0

  children_in : Content → List ℕ
  children_in (inner k ls) = ls
  children_in (leaf ps) = []

-- The root stays one where its node stays, or gets other children.
pub root_over : (old new : Tree Term) (parent : ℕ) (gone come : List ℕ) → IsLegal old → ChangesChildren old new parent gone come → new.root ≡ old.root → (old.root ≢ parent → slice_index_or new.nodes old.root None ≡ slice_index_or old.nodes old.root None) → (node : Node Term) × HasNode new new.root node × IsRoot node
root_over old new parent gone come legal linked root stays =
    subst (λ k. (node : Node Term) × HasNode new k node × IsRoot node) (sym root)
    (elim (eqb_tells old.root parent) as (λ _. (node : Node Term) × HasNode new old.root node × IsRoot node) [
      | inl e ↦ at_parent e.1
      | inr e ↦ (legal.root.0, stays e.1 ∙ legal.root.1, legal.root.2)
    ]) where
      at_parent : old.root ≡ parent → (node : Node Term) × HasNode new old.root node × IsRoot node
      at_parent e =
          let same : legal.root.0 ≡ linked.node = one_node old parent legal.root.0 linked.node (subst (λ k. HasNode old k legal.root.0) e legal.root.1) linked.had in
          let splits = same_inner 0 linked.split legal.root.2.splits.0 linked.before (sym legal.root.2.splits.1 ∙ ap (λ n. n.content) same ∙ linked.content) in (
            with_content linked.node (inner linked.split linked.after),
            subst (λ k. HasNode new k (with_content linked.node (inner linked.split linked.after))) (sym e) linked.has,
            record {
              parent = ap (λ n. n.parent) (sym same) ∙ legal.root.2.parent;
              bindings = ap (λ n. n.bindings) (sym same) ∙ legal.root.2.bindings;
              splits = (linked.after, ap (λ n. inner n linked.after) (sym splits.0));
            },
          )

module _ (old new : Tree Term) (key parent : ℕ) (gone come : List ℕ) (legal : IsLegal old) (r : IsRelinked old new key parent gone come) where
  same_elsewhere : (k : ℕ) → k ≢ key → k ≢ parent → slice_index_or new.nodes k None ≡ slice_index_or old.nodes k None
  same_elsewhere k differs differs' = r.others k (λ a. elim a as (λ _. ⊥) [ inl e ↦ differs (sym e) | inr b ↦ elim b as (λ _. ⊥) [ inl e ↦ differs' (sym e) | inr c ↦ c ] ])

  pub stays : (k : ℕ) → k ≢ key → StaysInPlace old new k
  stays k differs =
      elim (eqb_tells k parent) as (λ _. StaysInPlace old new k) [
        | inl e ↦ subst (StaysInPlace old new) (sym e.1) (ap place_of r.linked.has ∙ sym (ap place_of r.linked.had))
        | inr e ↦ ap place_of (same_elsewhere k differs e.1)
      ]

  places : PlacesStay old new (λ k. k ≢ key)
  places = record {
    stays = stays;
    up = λ k above node differs has e f. r.childless k (node, has, e ∙ ap Some f);
  }

  pub lifted_elsewhere : (k : ℕ) (p : Path) → k ≢ key → IsPath old (Some k) p → Lifted old new (Some k) p
  lifted_elsewhere k p differs reached = lifted_path old new (λ j. j ≢ key) (legal_nodes old legal) places (Some k) p reached (λ j e. subst (λ i. i ≢ key) (same_Some k j e) differs)

  keeps : (k : ℕ) → k ≢ parent → KeepsChildren old new k
  keeps k differs = keeps_children old new k (λ child. elim (eqb_tells child key) as (λ _. StaysInPlace old new child ⊎ ((IsChild old k child → ⊥) × (IsChild new k child → ⊥))) [
    | inl e ↦ inr ((λ c. differs (r.was_below k (subst (IsChild old k) e.1 c))), (λ c. differs (r.is_below k (subst (IsChild new k) e.1 c))))
    | inr e ↦ inl (stays child e.1)
  ])

  -- ---- leaves
  pub other_leaves : OtherLeavesStay old new key
  other_leaves k differs =
      elim (eqb_tells k parent) as (λ _. LeafStays old new k) [
        | inl e ↦ subst (LeafStays old new) (sym e.1) (no_leaf_linked old new parent gone come r.linked)
        | inr e ↦ leaf_stays_lifted old new (legal_nodes old legal) k (same_elsewhere k differs e.1) (λ p reached. lifted_elsewhere k p differs reached)
      ]

  -- ---- the root
  pub root_stays : (node : Node Term) × HasNode new new.root node × IsRoot node
  root_stays = root_over old new parent gone come legal r.linked r.root (same_elsewhere old.root r.no_root)

  -- ---- the nodes
  -- the content of the parent, before it changes
  pub was_content : (p : Path) → IsPath old (Some parent) ((parent, r.linked.node) ∷ p) → IsLegalContent old parent ((parent, r.linked.node) ∷ p) (inner r.linked.split r.linked.before)
  was_content p reached =
      let h = legal.nodes parent r.linked.node r.linked.had in
      subst (λ q. IsLegalContent old parent ((parent, r.linked.node) ∷ q) (inner r.linked.split r.linked.before)) (one_path old r.linked.node.parent h.above p h.reached reached.2)
      (subst (IsLegalContent old parent ((parent, r.linked.node) ∷ h.above)) r.linked.content h.content)

  pub other_nodes : old.vars ≤ new.vars → ChildrenChange old new parent r.linked.split gone come → HasEnoughChildren new parent r.linked.after → (k : ℕ) (node : Node Term) → k ≢ key → HasNode new k node → IsLegalNode new k node
  other_nodes vars change enough k node differs has =
      elim (eqb_tells k parent) as (λ _. IsLegalNode new k node) [
        | inl e ↦ at_parent e.1
        | inr e ↦ elsewhere e.1
      ] where
        lifted : (was : Node Term) (had : HasNode old k was) → ((q : Path) → path_term q ≡ path_term ((k, was) ∷ (legal.nodes k was had).above) → IsLegalContent new k q node.content) → IsLegalNode new k node
        lifted was had content = lifted_legal old new (λ j. j ≢ key) (legal_nodes old legal) places (omega (arith, r.next)) vars r.root k was node had differs has content

        elsewhere : k ≢ parent → IsLegalNode new k node
        elsewhere other =
            let had : HasNode old k node = sym (same_elsewhere k differs other) ∙ has in
            let h = legal.nodes k node had in
            lifted node had (λ q term. kept_content old new k ((k, node) ∷ h.above) q node.content (legal_nodes old legal) r.root term (keeps k other) h.content)

        at_parent : k ≡ parent → IsLegalNode new k node
        at_parent e =
            let had : HasNode old k r.linked.node = subst (λ j. HasNode old j r.linked.node) (sym e) r.linked.had in
            let h = legal.nodes k r.linked.node had in
            let is : IsLegalContent old k ((k, r.linked.node) ∷ h.above) (inner r.linked.split r.linked.before) = subst (IsLegalContent old k ((k, r.linked.node) ∷ h.above)) r.linked.content h.content in
            let same : with_content r.linked.node (inner r.linked.split r.linked.after) ≡ node = one_node new parent (with_content r.linked.node (inner r.linked.split r.linked.after)) node r.linked.has (subst (λ j. HasNode new j node) e has) in
            lifted r.linked.node had (λ q term.
            subst (λ n. IsLegalContent new k q n.content) same
            (changed_content old new k r.linked.split ((k, r.linked.node) ∷ h.above) q gone come r.linked.stay r.linked.before r.linked.after (legal_nodes old legal) term r.linked.before_are r.linked.after_are
            (subst (λ j. ChildrenChange old new j r.linked.split gone come) (sym e) change) is (subst (λ j. HasEnoughChildren new j r.linked.after) (sym e) enough)))
