-- A second clause of one literal comes into two trees and goes, proved.
use Rattle.std.proofs.Common.{◌≡◌, ◌⊎◌, inl, inr, ℕ, zero, suc, Bool, true, false, [], ◌∷◌, None, Some, Option, refl, ap, sym, ◌∙◌, subst, arith}
use Rattle.std.specs.Prelude.{slice_get}
use Rattle.std.proofs.lemmas.Option.{same_Some}
use Rattle.si_defs.specs.Substitutions.{IsAmong}
use Rattle.si_defs.specs.Entries.{literal_entry, term_entry, Placed, entries}
use Rattle.si_flat.specs.Cells.{entry, Term}
use Rattle.si_flat.specs.Flattened.{numbered_entry}
use Rattle.si_legal.specs.declared.Posting.{Posting}
use Rattle.si_legal.specs.StoredSets.{IsUnder}
use Rattle.si_legal.specs.KeptTrees.{is_literal}
use Rattle.si_held.specs.TwoTrees.{tree_for, IsPostingIn}
use Rattle.si_tree_examples.specs.SomeKept.{argument, literal, numbers, entry_of, second_clause, trees_of_one, trees_of_two, AddsSecond, NoOtherKeyAdded, RemovesSecond, NoOtherKeyRemoved}
use Rattle.si_tree_examples.proofs.KeptProved.{Named, postings_of, entry_at, number_at, term_at, kind_is, one, two, tree_at, there, only}

-- ---- what the trees hold
-- a posting of one of these clauses, under the term that they share
record IsHeld (ns : Named) (literals : Bool) (t : Term) (p : Posting) : Type 0 where
  term_is : t ≡ term_at literals
  among : IsAmong (postings_of (number_at literals) ns) p

held : (ns : Named) (literals : Bool) (t : Term) (p : Posting) → IsUnder (tree_at ns literals) t p → IsHeld ns literals t p
held ns literals t p u =
    let is = only (term_at literals) (postings_of (number_at literals) ns) t p u in
    record { term_is = is.0; among = is.1 }

is_held : (ns : Named) (literals : Bool) (t : Term) (p : Posting) → IsHeld ns literals t p → IsUnder (tree_at ns literals) t p
is_held ns literals t p h =
    subst (λ u. IsUnder (tree_at ns literals) u p) (sym h.term_is) (there (term_at literals) (postings_of (number_at literals) ns) p h.among)

tree_one : (literals : Bool) → tree_for literals trees_of_one ≡ tree_at one literals
tree_one true = refl
tree_one false = refl

tree_two : (literals : Bool) → tree_for literals trees_of_two ≡ tree_at two literals
tree_two true = refl
tree_two false = refl

held_by_one : (literals : Bool) (t : Term) (p : Posting) → IsUnder (tree_for literals trees_of_one) t p → IsHeld one literals t p
held_by_one literals t p u = held one literals t p (subst (λ tree. IsUnder tree t p) (tree_one literals) u)

held_by_two : (literals : Bool) (t : Term) (p : Posting) → IsUnder (tree_for literals trees_of_two) t p → IsHeld two literals t p
held_by_two literals t p u = held two literals t p (subst (λ tree. IsUnder tree t p) (tree_two literals) u)

under_one : (literals : Bool) (t : Term) (p : Posting) → t ≡ term_at literals → entry_of 5 (number_at literals) ≡ p → IsUnder (tree_for literals trees_of_one) t p
under_one literals t p term e = subst (λ tree. IsUnder tree t p) (sym (tree_one literals)) (is_held one literals t p (record { term_is = term; among = inl e }))

under_two : (literals : Bool) (t : Term) (p : Posting) → t ≡ term_at literals → IsAmong (postings_of (number_at literals) two) p → IsUnder (tree_for literals trees_of_two) t p
under_two literals t p term among = subst (λ tree. IsUnder tree t p) (sym (tree_two literals)) (is_held two literals t p (record { term_is = term; among = among }))

-- ---- the postings of the second clause
abbrev IsOfSecond : Bool → Term → Posting → Type 0
IsOfSecond literals t p = IsPostingIn numbers 7 second_clause literals t p

of_second : (literals : Bool) (t : Term) (p : Posting) → t ≡ term_at literals → entry_of 7 (number_at literals) ≡ p → IsOfSecond literals t p
of_second true t p term e = subst (IsOfSecond true t) e (record {
  key_is = refl;
  placed = record { entry = literal_entry literal; place = record { literal = 1; path = [] } };
  numbered = refl;
  kind = refl;
  term_is = term;
})
of_second false t p term e = subst (IsOfSecond false t) e (record {
  key_is = refl;
  placed = record { entry = term_entry argument; place = record { literal = 1; path = 1 ∷ [] } };
  numbered = refl;
  kind = refl;
  term_is = term;
})

is_second : (literals : Bool) (t : Term) (p : Posting) → IsOfSecond literals t p → (t ≡ term_at literals) × (entry_of 7 (number_at literals) ≡ p)
is_second literals t p h = with_number p.entry refl h.numbered where
  none_some : ◌≡◌ {A = Option Placed} None (Some h.placed) → ⊥
  none_some e = cc

  of_kind : (l : Bool) → entry_at l ≡ h.placed.entry → number_at l ≡ p.entry → (t ≡ term_at literals) × (entry_of 7 (number_at literals) ≡ p)
  of_kind l e d =
      let same : l ≡ literals = sym (kind_is l) ∙ ap is_literal e ∙ h.kind in
      let number : number_at literals ≡ p.entry = sym (ap number_at same) ∙ d in
      let key : 7 ≡ p.clause = sym h.key_is in (
        h.term_is ∙ sym (ap (numbered_entry numbers entry) e) ∙ ap term_at same,
        (λ i. record { clause = key i; entry = number i }),
      )

  with_number : (n : ℕ) → n ≡ p.entry → slice_get (entries second_clause) n ≡ Some h.placed → (t ≡ term_at literals) × (entry_of 7 (number_at literals) ≡ p)
  with_number zero d has = of_kind true (ap (λ q. q.entry) (same_Some _ h.placed has)) d
  with_number (suc zero) d has = of_kind false (ap (λ q. q.entry) (same_Some _ h.placed has)) d
  with_number (suc (suc n)) d has = absurd (none_some has)

-- ---- it comes
pub adds_second : AddsSecond
adds_second literals t p = (forth, back) where
  forth : IsUnder (tree_for literals trees_of_two) t p → IsUnder (tree_for literals trees_of_one) t p ⊎ IsOfSecond literals t p
  forth u = by (held_by_two literals t p u).among where
    term : t ≡ term_at literals
    term = (held_by_two literals t p u).term_is

    by : IsAmong (postings_of (number_at literals) two) p → IsUnder (tree_for literals trees_of_one) t p ⊎ IsOfSecond literals t p
    by (inl e) = inl (under_one literals t p term e)
    by (inr (inl e)) = inr (of_second literals t p term e)
    by (inr (inr n)) = absurd n

  back : IsUnder (tree_for literals trees_of_one) t p ⊎ IsOfSecond literals t p → IsUnder (tree_for literals trees_of_two) t p
  back (inl u) = by (held_by_one literals t p u).among where
    by : IsAmong (postings_of (number_at literals) one) p → IsUnder (tree_for literals trees_of_two) t p
    by (inl e) = under_two literals t p (held_by_one literals t p u).term_is (inl e)
    by (inr n) = absurd n
  back (inr h) = let is = is_second literals t p h in under_two literals t p is.0 (inr (inl is.1))

abbrev whole : Term
whole = term_at true

pub no_other_key_added : NoOtherKeyAdded
no_other_key_added h = by ((h true whole (entry_of 7 0)).0 (under_two true whole (entry_of 7 0) refl (inr (inl refl)))) where
  of_one : IsAmong (postings_of 0 one) (entry_of 7 0) → ⊥
  of_one (inl e) = omega (arith, ap (λ q. q.clause) e)
  of_one (inr n) = n

  by : IsUnder (tree_for true trees_of_one) whole (entry_of 7 0) ⊎ IsPostingIn numbers 9 second_clause true whole (entry_of 7 0) → ⊥
  by (inl u) = of_one (held_by_one true whole (entry_of 7 0) u).among
  by (inr q) = omega (arith, q.key_is)

-- ---- it goes
pub removes_second : RemovesSecond
removes_second literals t p = (forth, back) where
  forth : IsUnder (tree_for literals trees_of_one) t p → IsUnder (tree_for literals trees_of_two) t p × (p.clause ≡ 7 → ⊥)
  forth u = by (held_by_one literals t p u).among where
    by : IsAmong (postings_of (number_at literals) one) p → IsUnder (tree_for literals trees_of_two) t p × (p.clause ≡ 7 → ⊥)
    by (inl e) = (under_two literals t p (held_by_one literals t p u).term_is (inl e), (λ d. omega (arith, d, ap (λ q. q.clause) e)))
    by (inr n) = absurd n

  back : IsUnder (tree_for literals trees_of_two) t p × (p.clause ≡ 7 → ⊥) → IsUnder (tree_for literals trees_of_one) t p
  back (u, differs) = by (held_by_two literals t p u).among where
    by : IsAmong (postings_of (number_at literals) two) p → IsUnder (tree_for literals trees_of_one) t p
    by (inl e) = under_one literals t p (held_by_two literals t p u).term_is e
    by (inr (inl e)) = absurd (differs (sym (ap (λ q. q.clause) e)))
    by (inr (inr n)) = absurd n

pub no_other_key_removed : NoOtherKeyRemoved
no_other_key_removed h = ((h true whole (entry_of 5 0)).0 (under_one true whole (entry_of 5 0) refl refl)).1 refl
