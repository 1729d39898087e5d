-- One posting comes or goes, by what is stored.
use Rattle.std.proofs.Common.{◌≡◌, ◌≢◌, ◌⊎◌, ◌↔◌, inl, inr, ℕ, List, [], ◌∷◌, ◌++◌, refl, sym, subst}
use Rattle.si_defs.specs.Substitutions.{IsAmong, AreDistinct}
use Rattle.si_defs.proofs.ListLaws.{among_front, among_back, among_parts, among_either}
use Rattle.si_flat.specs.Cells.{Term}
use Rattle.si_legal.specs.declared.Posting.{Posting}
use Rattle.si_legal.specs.Trees.{leaf, Tree, IsLeaf, StandsIn}
use Rattle.si_legal.specs.Legal.{IsLegal, IsLegalContent}
use Rattle.si_legal.specs.StoredSets.{AreUnder, IsUnder, OthersStay, Gains, Loses}
use Rattle.si_changes.proofs.EqualTerms.{term_or_not}
use Rattle.si_insert.specs.Inserting.{Inserts, KeepsAll}
use Rattle.si_insert.proofs.AnewLaws.{stored_there}
use Rattle.si_prune.specs.Pruning.{RemovesPosting}
use Rattle.si_forest.specs.OnePosting.{GainsOne, KeepsTree, LosesOne}
use Rattle.si_flat.specs.declared.Cell.{Cell}
use Rattle.si_flat.specs.Cells.{StandsFor}
use Rattle.si_changes.proofs.PostingLaws.{among_without}
use Rattle.si_changes.proofs.StoredLaws.{one_leaf, among_leaf}

-- ---- the postings under one term
under_leaf : (tree : Tree Term) (t : Term) (ps : List Posting) (q : Posting) → AreUnder tree t ps → IsAmong ps q → IsUnder tree t q
under_leaf tree t ps q (inl there) among = (there.0, (ps, there.1, among))
under_leaf tree t ps q (inr none) among = absurd (subst (λ qs. IsAmong qs q) none.1 among)

others_stored : (old new : Tree Term) (t u : Term) (q : Posting) → OthersStay old new t → u ≢ t → IsUnder new u q ↔ IsUnder old u q
others_stored old new t u q stay differs = (
  stored_there new old u q (λ ps h. (stay u ps differs).1 h),
  stored_there old new u q (λ ps h. (stay u ps differs).0 h),
)

-- ---- a posting comes
pub gains_one : (old new : Tree Term) (t : Term) (p : Posting) → IsLegal old → IsLegal new → Gains old new t p → (u : Term) (q : Posting) → IsUnder new u q ↔ (IsUnder old u q ⊎ ((u ≡ t) × (q ≡ p)))
gains_one old new t p legal legal_new g u q =
    elim (term_or_not u t) as (λ _. IsUnder new u q ↔ (IsUnder old u q ⊎ ((u ≡ t) × (q ≡ p)))) [
      | inl e ↦ subst (λ x. IsUnder new x q ↔ (IsUnder old x q ⊎ ((x ≡ t) × (q ≡ p)))) (sym e) (forth, back)
      | inr differs ↦
          let o = others_stored old new t u q g.others differs in
          ((λ h. inl (o.0 h)), (λ c. elim c as (λ _. IsUnder new u q) [ inl h ↦ o.1 h | inr e ↦ absurd (differs e.0) ]))
    ] where
      forth : IsUnder new t q → IsUnder old t q ⊎ ((t ≡ t) × (q ≡ p))
      forth h = elim (among_either g.before p q (among_leaf new t (g.before ++ p ∷ []) q legal_new g.last h)) as (λ _. IsUnder old t q ⊎ ((t ≡ t) × (q ≡ p))) [
        | inl a ↦ inl (under_leaf old t g.before q g.had a)
        | inr e ↦ inr (refl, sym e)
      ]

      back : (IsUnder old t q ⊎ ((t ≡ t) × (q ≡ p))) → IsUnder new t q
      back (inl h) = under_leaf new t (g.before ++ p ∷ []) q g.last (among_front g.before (p ∷ []) q (among_leaf old t g.before q legal g.had h))
      back (inr e) = under_leaf new t (g.before ++ p ∷ []) q g.last (among_back g.before (p ∷ []) q (inl (sym e.1)))

-- ---- a posting goes
module _ {X : Type 0} where
  other_among : (front back : List X) (x y : X) → IsAmong (front ++ x ∷ back) y → y ≢ x → IsAmong (front ++ back) y
  other_among front back x y a differs =
      elim (among_parts front (x ∷ back) y a) as (λ _. IsAmong (front ++ back) y) [
        | inl b ↦ among_front front back y b
        | inr b ↦ elim b as (λ _. IsAmong (front ++ back) y) [ inl e ↦ absurd (differs (sym e)) | inr d ↦ among_back front back y d ]
      ]

  gone_among : (front back : List X) (x : X) → AreDistinct (front ++ x ∷ back) → IsAmong (front ++ back) x → ⊥
  gone_among [] back x distinct a = distinct.0 a
  gone_among (y ∷ front) back x distinct (inl e) = distinct.0 (among_back front (x ∷ back) y (inl (sym e)))
  gone_among (y ∷ front) back x distinct (inr a) = gone_among front back x distinct.1 a

once_in_leaf : (tree : Tree Term) (t : Term) (ps : List Posting) → IsLegal tree → AreUnder tree t ps → AreDistinct ps
once_in_leaf tree t ps legal (inl there) =
    let node = legal.nodes there.0 there.1.node there.1.reached.1 in
    let content : IsLegalContent tree there.0 ((there.0, there.1.node) ∷ node.above) (leaf ps) = subst (IsLegalContent tree there.0 ((there.0, there.1.node) ∷ node.above)) there.1.content node.content in
    content.2
once_in_leaf tree t ps legal (inr none) = subst AreDistinct (sym none.1) tt

pub loses_one : (old new : Tree Term) (key : ℕ) (t : Term) (p : Posting) → IsLegal old → IsLegal new → StandsIn old key t p → Loses old new t p → (u : Term) (q : Posting) → IsUnder new u q ↔ (IsUnder old u q × (q ≢ p))
loses_one old new key t p legal legal_new stands l u q =
    elim (term_or_not u t) as (λ _. IsUnder new u q ↔ (IsUnder old u q × (q ≢ p))) [
      | inl e ↦ subst (λ x. IsUnder new x q ↔ (IsUnder old x q × (q ≢ p))) (sym e) (forth, back)
      | inr differs ↦
          let o = others_stored old new t u q l.others differs in
          ((λ h. (o.0 h, λ e. elsewhere differs (subst (λ r. IsUnder old u r) e (o.0 h)))), (λ c. o.1 c.0))
    ] where
      elsewhere : u ≢ t → IsUnder old u p → ⊥
      elsewhere differs h =
          let same = legal.postings_differ h.0 key u t p h.1 stands in
          let leaf_is : IsLeaf old key u h.1.0 = subst (λ k. IsLeaf old k u h.1.0) same h.1.1 in
          differs (one_leaf old key u t h.1.0 stands.0 leaf_is stands.1).0

      forth : IsUnder new t q → IsUnder old t q × (q ≢ p)
      forth h =
          let a = among_leaf new t (l.before ++ l.after) q legal_new l.has h in
          (under_leaf old t (l.before ++ p ∷ l.after) q l.had (among_without l.before l.after p q a), λ e. gone_among l.before l.after p (once_in_leaf old t (l.before ++ p ∷ l.after) legal l.had) (subst (IsAmong (l.before ++ l.after)) e a))

      back : IsUnder old t q × (q ≢ p) → IsUnder new t q
      back h = under_leaf new t (l.before ++ l.after) q l.has (other_among l.before l.after p q (among_leaf old t (l.before ++ p ∷ l.after) q legal l.had h.0) h.1)

-- ---- what the calls do
pub inserted : (old new : Tree Term) (cells : List Cell) (t : Term) (p : Posting) (key : ℕ) → IsLegal old → IsLegal new → StandsFor cells t → Inserts old new cells p key → GainsOne old new t p key
inserted old new cells t p key legal legal_new stands i = record {
  legal = legal_new;
  stored = gains_one old new t p legal legal_new (i.gains t stands);
  stands = i.stands t stands;
  keeps = i.keeps;
}

pub kept : (old new : Tree Term) → IsLegal new → KeepsAll old new → KeepsTree old new
kept old new legal k = record {
  legal = legal;
  stored = λ t p. (stored_there new old t p (λ ps h. (k.0 t ps).1 h), stored_there old new t p (λ ps h. (k.0 t ps).0 h));
  keeps = k.1;
}

pub removed : (old new : Tree Term) (key : ℕ) (t : Term) (p : Posting) → IsLegal old → IsLegal new → StandsIn old key t p → RemovesPosting old new key p → LosesOne old new p key
removed old new key t p legal legal_new stands r = record {
  legal = legal_new;
  stood = (t, stands);
  stored = loses_one old new key t p legal legal_new stands (r.loses t stands.0 stands.1);
  removes = r;
}
