-- Each of two trees.
use Rattle.std.proofs.Common.{◌≡◌, ◌≢◌, ◌⊎◌, ◌↔◌, inl, inr, ℕ, Bool, true, false, not, refl, sym, ◌∙◌, subst}
use Rattle.std.proofs.lemmas.Bool.{false≢true}
use Rattle.si_flat.specs.Cells.{Term}
use Rattle.si_legal.specs.declared.Posting.{Posting}
use Rattle.si_legal.specs.Trees.{Tree}
use Rattle.si_legal.specs.Legal.{IsLegal}
use Rattle.si_legal.specs.StoredSets.{IsUnder, KeepsLeaves}
use Rattle.si_held.specs.TwoTrees.{TwoTrees, tree_for, AreLegal}
use Rattle.si_forest.specs.OnePosting.{KeepsTree}
use Rattle.si_forest.specs.Pairs.{GainOne, LoseOne, StayStored}

-- ---- kinds
pub this_or_other : (kind literal : Bool) → (kind ≡ literal) ⊎ (kind ≡ not literal)
this_or_other true true = inl refl
this_or_other true false = inr refl
this_or_other false true = inr refl
this_or_other false false = inl refl

pub not_other : (kind literal : Bool) → kind ≡ not literal → kind ≢ literal
not_other kind true e same = false≢true (sym e ∙ same)
not_other kind false e same = false≢true (sym same ∙ e)

-- ---- legal trees
pub legal_tree : (trees : TwoTrees) → AreLegal trees → (literal : Bool) → IsLegal (tree_for literal trees)
legal_tree trees legal true = legal.0
legal_tree trees legal false = legal.1

pub keeps_itself : (tree : Tree Term) → IsLegal tree → KeepsTree tree tree
keeps_itself tree legal = record {
  legal = legal;
  stored = λ t p. (λ h. h, λ h. h);
  keeps = λ k t p stands under. stands;
}

-- What holds of the tree of one kind, and of each tree and itself, holds of both.
pub both_kinds : (P : Tree Term → Tree Term → Type 0) (old new : TwoTrees) (literal : Bool) → P (tree_for literal old) (tree_for literal new) → tree_for (not literal) new ≡ tree_for (not literal) old → P (tree_for (not literal) old) (tree_for (not literal) old) → (kind : Bool) → P (tree_for kind old) (tree_for kind new)
both_kinds P old new literal here other self kind =
    elim (this_or_other kind literal) as (λ _. P (tree_for kind old) (tree_for kind new)) [
      | inl e ↦ subst (λ k. P (tree_for k old) (tree_for k new)) (sym e) here
      | inr e ↦ subst (λ k. P (tree_for k old) (tree_for k new)) (sym e) (subst (P (tree_for (not literal) old)) (sym other) self)
    ]

pub stay_by : (old new : TwoTrees) (literal : Bool) → AreLegal old → KeepsTree (tree_for literal old) (tree_for literal new) → tree_for (not literal) new ≡ tree_for (not literal) old → StayStored old new
stay_by old new literal legal here other = both_kinds KeepsTree old new literal here other (keeps_itself (tree_for (not literal) old) (legal_tree old legal (not literal)))

-- ---- one posting
-- that came and went again
pub came_and_went : (old mid new : TwoTrees) (literal : Bool) (t : Term) (p : Posting) (leaf : ℕ) → AreLegal old → ((u : Term) → IsUnder (tree_for literal old) u p → ⊥) → GainOne old mid literal t p leaf → LoseOne mid new literal p leaf → StayStored old new
came_and_went old mid new literal t p leaf legal none g l = stay_by old new literal legal here (l.other ∙ g.other) where
  forth : (u : Term) (q : Posting) → IsUnder (tree_for literal new) u q → IsUnder (tree_for literal old) u q
  forth u q h =
      let m = (l.here.stored u q).0 h in
      elim ((g.here.stored u q).0 m.0) as (λ _. IsUnder (tree_for literal old) u q) [ inl a ↦ a | inr e ↦ absurd (m.1 e.1) ]

  back : (u : Term) (q : Posting) → IsUnder (tree_for literal old) u q → IsUnder (tree_for literal new) u q
  back u q h = (l.here.stored u q).1 ((g.here.stored u q).1 (inl h), λ e. none u (subst (IsUnder (tree_for literal old) u) e h))

  here : KeepsTree (tree_for literal old) (tree_for literal new)
  here = record {
    legal = l.here.legal;
    stored = λ u q. (forth u q, back u q);
    keeps = λ k u q stands under. l.here.removes.keeps k u q (g.here.keeps k u q stands ((l.here.stored u q).0 under).0) under;
  }

module _ (old new : TwoTrees) (literal : Bool) (p : Posting) where
  module _ (t : Term) (leaf : ℕ) (g : GainOne old new literal t p leaf) where
    pub gain_legal : AreLegal old → AreLegal new
    gain_legal legal = (by true, by false) where
      by : (kind : Bool) → IsLegal (tree_for kind new)
      by = both_kinds (λ a b. IsLegal b) old new literal g.here.legal g.other (legal_tree old legal (not literal))

    pub gain_stored : (kind : Bool) (u : Term) (q : Posting) → IsUnder (tree_for kind new) u q ↔ (IsUnder (tree_for kind old) u q ⊎ ((kind ≡ literal) × (u ≡ t) × (q ≡ p)))
    gain_stored kind u q =
        elim (this_or_other kind literal) as (λ _. IsUnder (tree_for kind new) u q ↔ (IsUnder (tree_for kind old) u q ⊎ ((kind ≡ literal) × (u ≡ t) × (q ≡ p)))) [
          | inl e ↦ subst (λ k. IsUnder (tree_for k new) u q ↔ (IsUnder (tree_for k old) u q ⊎ ((k ≡ literal) × (u ≡ t) × (q ≡ p)))) (sym e) (forth, back)
          | inr e ↦ (
            (λ h. inl (subst (λ k. IsUnder (tree_for k old) u q) (sym e) (subst (λ x. IsUnder x u q) g.other (subst (λ k. IsUnder (tree_for k new) u q) e h)))),
            (λ c. elim c as (λ _. IsUnder (tree_for kind new) u q) [
              | inl h ↦ subst (λ k. IsUnder (tree_for k new) u q) (sym e) (subst (λ x. IsUnder x u q) (sym g.other) (subst (λ k. IsUnder (tree_for k old) u q) e h))
              | inr f ↦ absurd (not_other kind literal e f.0)
            ]),
          )
        ] where
          forth : IsUnder (tree_for literal new) u q → IsUnder (tree_for literal old) u q ⊎ ((literal ≡ literal) × (u ≡ t) × (q ≡ p))
          forth h = elim ((g.here.stored u q).0 h) as (λ _. IsUnder (tree_for literal old) u q ⊎ ((literal ≡ literal) × (u ≡ t) × (q ≡ p))) [ inl a ↦ inl a | inr e ↦ inr (refl, e.0, e.1) ]

          back : IsUnder (tree_for literal old) u q ⊎ ((literal ≡ literal) × (u ≡ t) × (q ≡ p)) → IsUnder (tree_for literal new) u q
          back (inl a) = (g.here.stored u q).1 (inl a)
          back (inr e) = (g.here.stored u q).1 (inr (e.1, e.2))

    pub gain_keeps : (kind : Bool) → KeepsLeaves (tree_for kind old) (tree_for kind new)
    gain_keeps = both_kinds KeepsLeaves old new literal g.here.keeps g.other (λ k u q stands under. stands)

  module _ (leaf : ℕ) (l : LoseOne old new literal p leaf) where
    pub lose_legal : AreLegal old → AreLegal new
    lose_legal legal = (by true, by false) where
      by : (kind : Bool) → IsLegal (tree_for kind new)
      by = both_kinds (λ a b. IsLegal b) old new literal l.here.legal l.other (legal_tree old legal (not literal))

    pub lose_stored : (kind : Bool) (u : Term) (q : Posting) → IsUnder (tree_for kind new) u q ↔ (IsUnder (tree_for kind old) u q × (kind ≡ literal → q ≢ p))
    lose_stored kind u q =
        elim (this_or_other kind literal) as (λ _. IsUnder (tree_for kind new) u q ↔ (IsUnder (tree_for kind old) u q × (kind ≡ literal → q ≢ p))) [
          | inl e ↦ subst (λ k. IsUnder (tree_for k new) u q ↔ (IsUnder (tree_for k old) u q × (k ≡ literal → q ≢ p))) (sym e) (forth, back)
          | inr e ↦ (
            (λ h. (subst (λ k. IsUnder (tree_for k old) u q) (sym e) (subst (λ x. IsUnder x u q) l.other (subst (λ k. IsUnder (tree_for k new) u q) e h)), λ f. absurd (not_other kind literal e f))),
            (λ h. subst (λ k. IsUnder (tree_for k new) u q) (sym e) (subst (λ x. IsUnder x u q) (sym l.other) (subst (λ k. IsUnder (tree_for k old) u q) e h.0))),
          )
        ] where
          forth : IsUnder (tree_for literal new) u q → IsUnder (tree_for literal old) u q × (literal ≡ literal → q ≢ p)
          forth h = (((l.here.stored u q).0 h).0, λ e. ((l.here.stored u q).0 h).1)

          back : IsUnder (tree_for literal old) u q × (literal ≡ literal → q ≢ p) → IsUnder (tree_for literal new) u q
          back h = (l.here.stored u q).1 (h.0, h.1 refl)

    pub lose_keeps : (kind : Bool) → KeepsLeaves (tree_for kind old) (tree_for kind new)
    lose_keeps = both_kinds KeepsLeaves old new literal l.here.removes.keeps l.other (λ k u q stands under. stands)
