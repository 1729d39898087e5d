-- What stays where postings of one key come or go.
use Rattle.std.proofs.Common.{◌≡◌, ◌≢◌, inl, inr, ℕ, ◌≤◌, Bool, List, [], length, Some, slice_get, refl, sym, ◌∙◌, subst, arith}
use Rattle.std.proofs.lemmas.Bool.Decides.{eqb_tells}
use Rattle.si_defs.specs.declared.TheConstants.{MOST_OCCURRENCES}
use Rattle.si_flat.specs.Cells.{Term}
use Rattle.si_legal.specs.declared.Posting.{Posting}
use Rattle.si_legal.specs.StoredSets.{IsUnder}
use Rattle.si_held.specs.TwoTrees.{TwoTrees, tree_for, AreLegal, IsNewKey, HoldSame, RemovesClause}
use Rattle.si_forest.specs.Locations.{Location}
use Rattle.si_forest.specs.Pairs.{ChangeOnly}
use Rattle.si_forest.specs.Locations.{posting_of, AreLocated}
use Rattle.si_forest.specs.Kept.{AreNoted}

-- ---- changes
pub no_change : (key : ℕ) (trees : TwoTrees) → AreLegal trees → ChangeOnly key trees trees
no_change key trees legal = record {
  legal = legal;
  stored = λ literal t p differs. (λ h. h, λ h. h);
  keep = λ literal leaf t p differs stands. stands;
}

pub change_then : (key : ℕ) (old mid new : TwoTrees) → ChangeOnly key old mid → ChangeOnly key mid new → ChangeOnly key old new
change_then key old mid new one two = record {
  legal = two.legal;
  stored = λ literal t p differs. (
    (λ h. (one.stored literal t p differs).0 ((two.stored literal t p differs).0 h)),
    (λ h. (two.stored literal t p differs).1 ((one.stored literal t p differs).1 h)),
  );
  keep = λ literal leaf t p differs stands. two.keep literal leaf t p differs (one.keep literal leaf t p differs stands);
}

-- where all postings of the key go, and where there are none before and after
pub removes : (key : ℕ) (old new : TwoTrees) → ChangeOnly key old new → IsNewKey key new → RemovesClause key old new
removes key old new change gone literal t p = (
  (λ h. ((change.stored literal t p (gone literal t p h)).0 h, gone literal t p h)),
  (λ h. (change.stored literal t p h.1).1 h.0),
)

pub holds_same : (key : ℕ) (old new : TwoTrees) → ChangeOnly key old new → IsNewKey key old → IsNewKey key new → HoldSame old new
holds_same key old new change none gone literal t p = (
  (λ h. (change.stored literal t p (gone literal t p h)).0 h),
  (λ h. (change.stored literal t p (none literal t p h)).1 h),
)

-- ---- locations
pub no_item : {X : Type 0} (n : ℕ) (x : X) → slice_get [] n ≡ Some x → ⊥
no_item n x e = cc

-- no posting of the key, and no location
pub none_located : (key : ℕ) (trees : TwoTrees) → IsNewKey key trees → AreLocated key [] trees
none_located key trees none = record {
  stand = λ n at e. absurd (no_item n at e);
  located = λ literal t p under is. absurd (none literal t p under is);
}

pub located_none : (key : ℕ) (locations : List Location) (old new : TwoTrees) → AreLocated key locations old → IsNewKey key old → IsNewKey key new → AreLocated key locations new
located_none key locations old new h none gone = record {
  stand = λ n at e. let s = h.stand n at e in absurd (none at.literal s.0 (posting_of key n) (at.leaf, s.1) refl);
  located = λ literal t p under is. absurd (gone literal t p under is);
}

pub located_still : (key other : ℕ) (locations : List Location) (old new : TwoTrees) → ChangeOnly key old new → other ≢ key → AreLocated other locations old → AreLocated other locations new
located_still key other locations old new change differs h = record {
  stand = λ n at e. let s = h.stand n at e in (s.0, change.keep at.literal at.leaf s.0 (posting_of other n) differs s.1);
  located = λ literal t p under is. h.located literal t p ((change.stored literal t p (λ e. differs (sym is ∙ e))).0 under) is;
}

-- ---- all locations
-- nothing is stored, and no key has notes
pub none_noted : (notes : ℕ → List Location) (trees : TwoTrees) → ((key : ℕ) → notes key ≡ []) → ((literal : Bool) (t : Term) (p : Posting) → IsUnder (tree_for literal trees) t p → ⊥) → AreNoted notes trees
none_noted notes trees empty none = record {
  each = λ key. subst (λ l. AreLocated key l trees) (sym (empty key)) (none_located key trees (λ literal t p under is. none literal t p under));
  few = λ key. subst (λ l. length l ≤ MOST_OCCURRENCES) (sym (empty key)) (omega arith);
}

-- other postings of one key, at these locations
pub noted_set : (key : ℕ) (own : List Location) (before notes : ℕ → List Location) (old new : TwoTrees) → AreNoted before old → ChangeOnly key old new → AreLocated key own new → length own ≤ MOST_OCCURRENCES → notes key ≡ own → ((other : ℕ) → other ≢ key → notes other ≡ before other) → AreNoted notes new
noted_set key own before notes old new h change located few here others = record {
  each = λ k. elim (eqb_tells k key) as (λ _. AreLocated k (notes k) new) [
    | inl same ↦ subst (λ n. AreLocated n (notes n) new) (sym same.1) (subst (λ l. AreLocated key l new) (sym here) located)
    | inr differs ↦ subst (λ l. AreLocated k l new) (sym (others k differs.1)) (located_still key k (before k) old new change differs.1 (h.each k))
  ];
  few = λ k. elim (eqb_tells k key) as (λ _. length (notes k) ≤ MOST_OCCURRENCES) [
    | inl same ↦ subst (λ n. length (notes n) ≤ MOST_OCCURRENCES) (sym same.1) (subst (λ l. length l ≤ MOST_OCCURRENCES) (sym here) few)
    | inr differs ↦ subst (λ l. length l ≤ MOST_OCCURRENCES) (sym (others k differs.1)) (h.few k)
  ];
}
