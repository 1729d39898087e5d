-- A leaf of a legal tree gets another posting, or loses one.
use Rattle.std.proofs.Common.{◌≡◌, ◌≢◌, ◌⊎◌, inl, inr, ℕ, List, [], ◌∷◌, ◌++◌, None, Some, slice_index_or, refl, ap, sym, ◌∙◌, subst, arith}
use Rattle.std.proofs.lemmas.Bool.Decides.{eqb_tells}
use Rattle.si_defs.specs.Substitutions.{IsAmong, AreDistinct}
use Rattle.si_defs.proofs.ListLaws.{among_front, among_back, among_parts, among_either}
use Rattle.si_flat.specs.Cells.{Term}
use Rattle.si_legal.specs.declared.Posting.{Posting}
use Rattle.si_legal.specs.Trees.{leaf, Node, Tree, HasNode, Path, IsPath, path_term, IsLeaf, StandsIn}
use Rattle.si_legal.specs.Legal.{IsLegalContent, IsLegalNode, IsLegal, IsRoot}
use Rattle.si_legal.specs.StoredSets.{IsUnder, OthersStay, Gains, Loses, KeepsLeaves}
use Rattle.si_legal.proofs.PathLaws.{one_node}
use Rattle.si_changes.specs.Nodes.{with_content, ChangesPostings}
use Rattle.si_changes.proofs.Frames.{HasLegalNodes, legal_nodes, StaysInPlace, place_of, PlacesStay, lifted_path, lifted_legal, KeepsChildren, keeps_children, kept_content}
use Rattle.si_changes.proofs.StoredLaws.{inner_no_leaf, path_start, one_leaf, OtherLeavesStay, leaf_stays_lifted, others_stay, keeps_leaves, legal_from}

-- ---- distinct members
module _ {X : Type 0} where
  pub distinct_last : (xs : List X) (x : X) → AreDistinct xs → (IsAmong xs x → ⊥) → AreDistinct (xs ++ x ∷ [])
  distinct_last [] x h new = ((λ a. a), tt)
  distinct_last (y ∷ xs) x h new = (
    (λ a. elim (among_either xs x y a) [ inl b ↦ h.0 b | inr e ↦ new (inl (sym e)) ]),
    distinct_last xs x h.1 (λ a. new (inr a)),
  )

  pub among_without : (front back : List X) (x y : X) → IsAmong (front ++ back) y → IsAmong (front ++ x ∷ back) y
  among_without front back x y a =
      elim (among_parts front back y a) as (λ _. IsAmong (front ++ x ∷ back) y) [
        | inl b ↦ among_front front (x ∷ back) y b
        | inr b ↦ among_back front (x ∷ back) y (inr b)
      ]

  pub distinct_without : (front back : List X) (x : X) → AreDistinct (front ++ x ∷ back) → AreDistinct (front ++ back)
  distinct_without [] back x h = h.1
  distinct_without (y ∷ front) back x h = ((λ a. h.0 (among_without front back x y a)), distinct_without front back x h.1)

-- ---- a leaf with other postings
leaf_distinct : (tree : Tree Term) (key : ℕ) (ps : List Posting) (t : Term) → IsLegal tree → IsLeaf tree key t ps → AreDistinct ps
leaf_distinct tree key ps t legal h =
    let node = legal.nodes key h.node h.reached.1 in
    let content : IsLegalContent tree key ((key, h.node) ∷ node.above) (leaf ps) = subst (IsLegalContent tree key ((key, h.node) ∷ node.above)) h.content node.content in
    content.2

module _ (old new : Tree Term) (key : ℕ) (before after : List Posting) (legal : IsLegal old) (changes : ChangesPostings old new key before after) where
  same_elsewhere : (k : ℕ) → k ≢ key → slice_index_or new.nodes k None ≡ slice_index_or old.nodes k None
  same_elsewhere k differs = changes.others k (λ a. elim a as (λ _. ⊥) [ inl e ↦ differs (sym e) | inr b ↦ b ])

  stays : (k : ℕ) → StaysInPlace old new k
  stays k =
      elim (eqb_tells k key) as (λ _. StaysInPlace old new k) [
        | inl e ↦ subst (StaysInPlace old new) (sym e.1) (ap place_of changes.has ∙ sym (ap place_of changes.had))
        | inr e ↦ ap place_of (same_elsewhere k e.1)
      ]

  places : PlacesStay old new (λ k. Unit {0})
  places = record { stays = (λ k h. stays k); up = (λ k parent node h has e. tt) }

  keeps : (k : ℕ) → KeepsChildren old new k
  keeps k = keeps_children old new k (λ child. inl (stays child))

  root_elsewhere : old.root ≢ key
  root_elsewhere e =
      let node : HasNode old key legal.root.0 = subst (λ k. HasNode old k legal.root.0) e legal.root.1 in
      inner_no_leaf 0 legal.root.2.splits.0 before
      (sym legal.root.2.splits.1 ∙ ap (λ n. n.content) (one_node old key legal.root.0 changes.node node changes.had) ∙ changes.content)

  postings_node : AreDistinct after → (k : ℕ) (node : Node Term) → HasNode new k node → IsLegalNode new k node
  postings_node distinct k node has =
      elim (eqb_tells k key) as (λ _. IsLegalNode new k node) [
        | inl e ↦ at_key e.1
        | inr e ↦ elsewhere e.1
      ] where
        here : HasNode new key (with_content changes.node (leaf after)) → k ≡ key → with_content changes.node (leaf after) ≡ node
        here h e = one_node new k (with_content changes.node (leaf after)) node (subst (λ x. HasNode new x (with_content changes.node (leaf after))) (sym e) h) has

        lifted : (was : Node Term) (had : HasNode old k was) → ((q : Path) → path_term q ≡ path_term ((k, was) ∷ (legal.nodes k was had).above) → IsLegalContent new k q node.content) → IsLegalNode new k node
        lifted was had content = lifted_legal old new (λ x. Unit {0}) (legal_nodes old legal) places (omega (arith, changes.next)) (omega (arith, changes.vars)) changes.root k was node had tt has content

        elsewhere : k ≢ key → IsLegalNode new k node
        elsewhere differs =
            let had : HasNode old k node = sym (same_elsewhere k differs) ∙ has in
            let h = legal.nodes k node had in
            lifted node had (λ q term. kept_content old new k ((k, node) ∷ h.above) q node.content (legal_nodes old legal) changes.root term (keeps k) h.content)

        at_key : k ≡ key → IsLegalNode new k node
        at_key e =
            let had : HasNode old k changes.node = subst (λ x. HasNode old x changes.node) (sym e) changes.had in
            let h = legal.nodes k changes.node had in
            let was : IsLegalContent old k ((k, changes.node) ∷ h.above) (leaf before) = subst (IsLegalContent old k ((k, changes.node) ∷ h.above)) changes.content h.content in
            lifted changes.node had (λ q term.
            let is : IsLegalContent new k q (leaf before) = kept_content old new k ((k, changes.node) ∷ h.above) q (leaf before) (legal_nodes old legal) changes.root term (keeps k) was in
            subst (λ n. IsLegalContent new k q n.content) (here changes.has e) (is.0, is.1, distinct))

  postings_nodes : AreDistinct after → HasLegalNodes new
  postings_nodes distinct = record {
    root = subst (λ k. (node : Node Term) × HasNode new k node × IsRoot node) (sym changes.root) (legal.root.0, same_elsewhere old.root root_elsewhere ∙ legal.root.1, legal.root.2);
    nodes = postings_node distinct;
  }

  others_leaves : OtherLeavesStay old new key
  others_leaves k differs = leaf_stays_lifted old new (legal_nodes old legal) k (same_elsewhere k differs) (λ p reached. lifted_path old new (λ x. Unit {0}) (legal_nodes old legal) places (Some k) p reached (λ j e. tt))

  -- the leaf, and its term
  pub leaf_here : (t : Term) (ps : List Posting) → IsLeaf old key t ps → IsLeaf new key t after
  leaf_here t ps h =
      let reached : IsPath old (Some key) ((key, h.node) ∷ h.above) = h.reached in
      let l = lifted_path old new (λ x. Unit {0}) (legal_nodes old legal) places (Some key) ((key, h.node) ∷ h.above) reached (λ k e. tt) in
      let start = path_start new key (with_content changes.node (leaf after)) l.path changes.has l.reached in
      record {
        node = with_content changes.node (leaf after);
        above = start.0;
        reached = subst (IsPath new (Some key)) start.1 l.reached;
        content = refl;
        term = h.term ∙ sym l.lifts.term ∙ ap path_term start.1;
      }

  -- what the leaf has is all that is new
  postings_legal : (t : Term) → IsLeaf old key t before → AreDistinct after → ((p : Posting) → IsAmong after p → IsAmong before p ⊎ ((u : Term) → IsUnder old u p → ⊥)) → IsLegal new
  postings_legal t was distinct from = legal_from old new key legal (postings_nodes distinct) others_leaves apart (omega (arith, changes.next)) (omega (arith, changes.vars, legal.few_variables)) where
    apart : (k : ℕ) (u v : Term) (p : Posting) → k ≢ key → StandsIn new key u p → StandsIn old k v p → ⊥
    apart k u v p differs is had =
        elim (from p (subst (λ ps. IsAmong ps p) (one_leaf new key u t is.0 after is.1 (leaf_here t before was)).1 is.2)) as (λ _. ⊥) [
          | inl a ↦ differs (legal.postings_differ k key v t p had (before, was, a))
          | inr no_one ↦ no_one v (k, had)
        ]

  postings_others : (t : Term) → IsLeaf old key t before → OthersStay old new t
  postings_others t was =
      others_stay old new key t others_leaves
      (λ u ps h. (one_leaf old key u t ps before h was).0)
      (λ u ps h. (one_leaf new key u t ps after h (leaf_here t before was)).0)

  postings_keep : KeepsLeaves old new
  postings_keep = keeps_leaves old new key legal others_leaves

-- ---- one posting more
pub gains_posting : (old new : Tree Term) (key : ℕ) (before : List Posting) (p : Posting) (t : Term) → IsLegal old → ChangesPostings old new key before (before ++ p ∷ []) → IsLeaf old key t before → ((u : Term) → IsUnder old u p → ⊥) → IsLegal new × Gains old new t p × KeepsLeaves old new
gains_posting old new key before p t legal changes was not_stored = (
  postings_legal old new key before (before ++ p ∷ []) legal changes t was
      (distinct_last before p (leaf_distinct old key before t legal was) (λ a. not_stored t (key, (before, was, a))))
      (λ q a. elim (among_either before p q a) as (λ _. IsAmong before q ⊎ ((u : Term) → IsUnder old u q → ⊥)) [ inl b ↦ inl b | inr e ↦ inr (subst (λ x. (u : Term) → IsUnder old u x → ⊥) e not_stored) ]),
  record {
    before = before;
    had = inl (key, was);
    last = inl (key, leaf_here old new key before (before ++ p ∷ []) legal changes t before was);
    others = postings_others old new key before (before ++ p ∷ []) legal changes t was;
  },
  postings_keep old new key before (before ++ p ∷ []) legal changes,
)

-- ---- one posting less
pub loses_posting : (old new : Tree Term) (key : ℕ) (front back : List Posting) (p : Posting) (t : Term) → IsLegal old → ChangesPostings old new key (front ++ p ∷ back) (front ++ back) → IsLeaf old key t (front ++ p ∷ back) → IsLegal new × Loses old new t p × KeepsLeaves old new
loses_posting old new key front back p t legal changes was = (
  postings_legal old new key (front ++ p ∷ back) (front ++ back) legal changes t was
      (distinct_without front back p (leaf_distinct old key (front ++ p ∷ back) t legal was))
      (λ q a. inl (among_without front back p q a)),
  record {
    before = front;
    after = back;
    had = inl (key, was);
    has = inl (key, leaf_here old new key (front ++ p ∷ back) (front ++ back) legal changes t (front ++ p ∷ back) was);
    others = postings_others old new key (front ++ p ∷ back) (front ++ back) legal changes t was;
  },
  postings_keep old new key (front ++ p ∷ back) (front ++ back) legal changes,
)
