-- The postings of a clause go, one after the other.
use Rattle.std.proofs.Common.{◌≡◌, ◌≢◌, ◌↔◌, inl, inr, ℕ, ◌+◌, ◌<◌, ◌≤◌, Bool, List, length, Some, slice_get, suc, refl, sym, ◌∙◌, ap, subst, arith}
use Rattle.std.proofs.lemmas.Bool.Decides.{eqb_tells}
use Rattle.std.proofs.lemmas.Option.{same_Some, slice_get_within}
use Rattle.si_flat.specs.Cells.{Term}
use Rattle.si_legal.specs.declared.Posting.{Posting}
use Rattle.si_legal.specs.Trees.{StandsIn}
use Rattle.si_legal.specs.StoredSets.{IsUnder}
use Rattle.si_held.specs.TwoTrees.{TwoTrees, tree_for, AreLegal, IsNewKey}
use Rattle.si_forest.specs.Locations.{Location}
use Rattle.si_forest.specs.Pairs.{LoseFirst, LoseOne, ChangeOnly}
use Rattle.si_forest.specs.Locations.{posting_of, location, AreLocated}
use Rattle.si_forest.proofs.TreeLaws.{lose_legal, lose_stored, lose_keeps}

-- not one of the first n postings of this key
abbrev pub IsLeft : ℕ → ℕ → Posting → Type 0
IsLeft key n p = p.clause ≡ key → n ≤ p.entry

-- the first n postings of this key are gone
pub record AreGone (key n : ℕ) (old new : TwoTrees) : Type 0 where
  pub legal : AreLegal new
  pub stored : (literal : Bool) (t : Term) (p : Posting)
      → IsUnder (tree_for literal new) t p ↔ (IsUnder (tree_for literal old) t p × IsLeft key n p)
  pub keep : (literal : Bool) (leaf : ℕ) (t : Term) (p : Posting) → IsLeft key n p
      → StandsIn (tree_for literal old) leaf t p → StandsIn (tree_for literal new) leaf t p
  pub first : LoseFirst key n old new

pub gone_start : (key : ℕ) (trees : TwoTrees) → AreLegal trees → AreGone key 0 trees trees
gone_start key trees legal = record {
  legal = legal;
  stored = λ literal t p. ((λ h. (h, λ e. omega arith)), λ h. h.0);
  keep = λ literal leaf t p still stands. stands;
  first = refl;
}

-- the next one stands where it stood
pub still_stands : (key n : ℕ) (locations : List Location) (at : Location) (old now : TwoTrees) → AreLocated key locations old → slice_get locations n ≡ Some at → AreGone key n old now → (t : Term) × StandsIn (tree_for at.literal now) at.leaf t (posting_of key n)
still_stands key n locations at old now located e gone =
    let s = located.stand n at e in
    (s.0, gone.keep at.literal at.leaf s.0 (posting_of key n) (λ same. omega arith) s.1)

pub same_posting : (key n : ℕ) (p : Posting) → p.clause ≡ key → p.entry ≡ n → p ≡ posting_of key n
same_posting key n p e f = λ i. record { clause = e i; entry = f i }

pub gone_more : (key n : ℕ) (locations : List Location) (at : Location) (old now new : TwoTrees) → AreLocated key locations old → slice_get locations n ≡ Some at → AreGone key n old now → LoseOne now new at.literal (posting_of key n) at.leaf → AreGone key (n + 1) old new
gone_more key n locations at old now new located e gone lose = record {
  legal = lose_legal now new at.literal (posting_of key n) at.leaf lose gone.legal;
  stored = λ literal t p. (forth literal t p, back literal t p);
  keep = λ literal leaf t p still stands.
      lose_keeps now new at.literal (posting_of key n) at.leaf lose literal leaf t p
      (gone.keep literal leaf t p (before p still) stands)
      (back literal t p ((leaf, stands), still));
  first =
      let one : suc n ≡ n + 1 = omega arith in
      subst (λ m. LoseFirst key m old new) one (now, at.literal, at.leaf, gone.first, lose);
} where
  before : (p : Posting) → IsLeft key (n + 1) p → IsLeft key n p
  before p still same = let more : n + 1 ≤ p.entry = still same in omega arith

  -- the posting that goes is in the tree of its kind alone
  of_kind : (literal : Bool) (t : Term) (p : Posting) → IsUnder (tree_for literal old) t p → p ≡ posting_of key n → literal ≡ at.literal
  of_kind literal t p under same =
      let there = located.located literal t p under (ap (λ q. q.clause) same) in
      ap (λ l. l.literal) (same_Some (location literal there.0) at (sym there.1 ∙ subst (λ k. slice_get locations k ≡ Some at) (sym (ap (λ q. q.entry) same)) e))

  after : (literal : Bool) (t : Term) (p : Posting) → IsUnder (tree_for literal old) t p → IsLeft key n p → (literal ≡ at.literal → p ≢ posting_of key n) → IsLeft key (n + 1) p
  after literal t p under still differs same =
      elim (eqb_tells p.entry n) as (λ _. n + 1 ≤ p.entry) [
        | inl f ↦ absurd (differs (of_kind literal t p under (same_posting key n p same f.1)) (same_posting key n p same f.1))
        | inr f ↦ let apart : p.entry ≢ n = f.1 in let least : n ≤ p.entry = still same in omega arith
      ]

  forth : (literal : Bool) (t : Term) (p : Posting) → IsUnder (tree_for literal new) t p → IsUnder (tree_for literal old) t p × IsLeft key (n + 1) p
  forth literal t p h =
      let l = (lose_stored now new at.literal (posting_of key n) at.leaf lose literal t p).0 h in
      let g = (gone.stored literal t p).0 l.0 in
      (g.0, after literal t p g.0 g.1 l.1)

  again : (p : Posting) → IsLeft key (n + 1) p → p ≡ posting_of key n → ⊥
  again p still same =
      let more : n + 1 ≤ p.entry = still (ap (λ q. q.clause) same) in
      let is : p.entry ≡ n = ap (λ q. q.entry) same in
      omega arith

  back : (literal : Bool) (t : Term) (p : Posting) → IsUnder (tree_for literal old) t p × IsLeft key (n + 1) p → IsUnder (tree_for literal new) t p
  back literal t p h = (lose_stored now new at.literal (posting_of key n) at.leaf lose literal t p).1 ((gone.stored literal t p).1 (h.0, before p h.1), λ f same. again p h.1 same)

-- ---- all are gone
pub gone_change : (key n : ℕ) (old new : TwoTrees) → AreGone key n old new → ChangeOnly key old new
gone_change key n old new gone = record {
  legal = gone.legal;
  stored = λ literal t p differs. ((λ h. ((gone.stored literal t p).0 h).0), (λ h. (gone.stored literal t p).1 (h, λ same. absurd (differs same))));
  keep = λ literal leaf t p differs stands. gone.keep literal leaf t p (λ same. absurd (differs same)) stands;
}

pub all_gone : (key n : ℕ) (locations : List Location) (old new : TwoTrees) → AreLocated key locations old → length locations ≤ n → AreGone key n old new → IsNewKey key new
all_gone key n locations old new located all gone literal t p under same =
    let g = (gone.stored literal t p).0 under in
    let there = located.located literal t p g.0 same in
    let within : p.entry < length locations = slice_get_within locations p.entry (location literal there.0) there.1 in
    let past : n ≤ p.entry = g.1 same in
    omega arith
