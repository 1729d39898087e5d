-- One leaf comes or goes, and all others stay.
use Rattle.std.proofs.Common.{◌≡◌, ◌≢◌, inl, inr, ℕ, ◌≤◌, List, [], ◌∷◌, refl, ap, sym, ◌∙◌, subst, arith}
use Rattle.std.proofs.lemmas.Bool.Decides.{eqb_tells}
use Rattle.si_defs.specs.Substitutions.{IsAmong}
use Rattle.si_flat.specs.Cells.{Term}
use Rattle.si_legal.specs.declared.Posting.{Posting}
use Rattle.si_legal.specs.Trees.{leaf, Node, Tree, HasNode, IsLeaf, StandsIn}
use Rattle.si_legal.specs.Legal.{IsLegal}
use Rattle.si_legal.specs.StoredSets.{Gains, StaysStored, KeepsLeaves}
use Rattle.si_legal.proofs.PathLaws.{one_node}
use Rattle.si_changes.specs.Nodes.{IsVacant, MayComeIn, RoomFor}
use Rattle.si_changes.proofs.Frames.{HasLegalNodes}
use Rattle.si_changes.proofs.Heads.{leaves_apart}
use Rattle.si_changes.proofs.NewLeaves.{few_variables}
use Rattle.si_changes.proofs.StoredLaws.{OtherLeavesStay, legal_from, keeps_leaves, others_stay, one_leaf, no_leaf_vacant, same_leaf, stays_stored}

-- Where all other leaves stay, and the nodes are legal, the tree is, and it gains this posting.
pub gains_leaf : (old new : Tree Term) (key : ℕ) (t : Term) (p : Posting) → IsLegal old → HasLegalNodes new → IsVacant old key → OtherLeavesStay old new key → IsLeaf new key t (p ∷ []) → MayComeIn old t p → RoomFor old new t → old.next ≤ new.next → IsLegal new × Gains old new t p × KeepsLeaves old new
gains_leaf old new key t p legal nodes vacant stay it may room more = (
  legal_from old new key legal nodes stay apart more (few_variables old new t legal.few_variables may.leaf_term room),
  record {
    before = [];
    had = inr (none, refl);
    last = inl (key, it);
    others = others_stay old new key t stay (λ u ps h. absurd (no_leaf_vacant old key u ps vacant h)) (λ u ps h. (one_leaf new key u t ps (p ∷ []) h it).0);
  },
  keeps_leaves old new key legal stay,
) where
  none : (k : ℕ) (postings : List Posting) → IsLeaf old k t postings → ⊥
  none k postings h =
      elim (eqb_tells k key) as (λ _. ⊥) [
        | inl e ↦ no_leaf_vacant old key t postings vacant (subst (λ j. IsLeaf old j t postings) e.1 h)
        | inr e ↦ e.1 (leaves_apart new nodes k key t postings (p ∷ []) ((stay k e.1 t postings).0 h) it)
      ]

  apart : (k : ℕ) (u v : Term) (q : Posting) → k ≢ key → StandsIn new key u q → StandsIn old k v q → ⊥
  apart k u v q other is had =
      elim (subst (λ ps. IsAmong ps q) (one_leaf new key u t is.0 (p ∷ []) is.1 it).1 is.2) as (λ _. ⊥) [
        | inl e ↦ may.not_stored v (k, subst (StandsIn old k v) (sym e) had)
        | inr b ↦ b
      ]

-- Where a leaf without a posting goes, and the nodes are legal, the tree is, and all that is stored
-- stays.
pub loses_leaf : (old new : Tree Term) (key : ℕ) (node : Node Term) → IsLegal old → HasLegalNodes new → OtherLeavesStay old new key → HasNode old key node → node.content ≡ leaf [] → IsVacant new key → new.next ≡ old.next → new.vars ≡ old.vars → IsLegal new × StaysStored old new × KeepsLeaves old new
loses_leaf old new key node legal nodes stay had empty gone next vars = (
  legal_from old new key legal nodes stay (λ k t u p other is was. no_leaf_vacant new key t is.0 gone is.1) (omega (arith, next)) (omega (arith, vars, legal.few_variables)),
  stays_stored old new key legal stay none (λ t ps. no_leaf_vacant new key t ps gone),
  keeps_leaves old new key legal stay,
) where
  none : (t : Term) (ps : List Posting) → IsLeaf old key t ps → ps ≡ []
  none t ps h = same_leaf ps [] (sym h.content ∙ ap (λ n. n.content) (one_node old key h.node node h.reached.1 had) ∙ empty)
