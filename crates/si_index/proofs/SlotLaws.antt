-- Laws of the kept clauses by their slots.
use Rattle.std.proofs.Common.{◌≡◌, ℕ, zero, suc, List, [], ◌∷◌, inl, inr, sym, ◌∙◌, ap, subst}
use Rattle.std.specs.Prelude.{Some, slice_get}
use Rattle.std.proofs.lemmas.Option.{same_Some, none-some}
use Rattle.si_defs.specs.Substitutions.{IsAmong}
use Rattle.si_defs.proofs.ListLaws.{all_got}
use Rattle.si_term.specs.Meaning.{clause_of}
use Rattle.si_term.specs.declared.clause.Clause.{Clause}
use Rattle.si_keyed.specs.Keyed.{item_keys, HasKey}
use Rattle.si_keyed.specs.Placed.{placed_items, HasPlace, PlacesRise}
use Rattle.si_keyed.proofs.PlacedLaws.{key_is}
use Rattle.si_index.specs.Kept.{Kept, clauses_of}
use Rattle.si_index.specs.Slots.{Slots, HasSlots, IsIn}
use Rattle.si_index.specs.Searching.{numbers_of, IsKnownClause, IsReadyToSearch}
use Rattle.si_index.specs.declared.search.Search.{Search}

pub place_among : {X : Type 0} (xs : List X) (x : X) → IsAmong xs x → (n : ℕ) × (slice_get xs n ≡ Some x)
place_among [] x a = absurd a
place_among (y ∷ xs) x (inl same) = (0, ap Some same)
place_among (y ∷ xs) x (inr a) = let h = place_among xs x a in (suc h.0, h.1)

pub placed_among : (slots : Slots) (slot key : ℕ) (c : Clause) → IsAmong slots (slot, (key, c)) → IsAmong (placed_items slots) (key, c)
placed_among [] slot key c a = absurd a
placed_among (x ∷ slots) slot key c (inl e) = inl (ap (λ (y : ℕ × (ℕ × Clause)). y.1) e)
placed_among (x ∷ slots) slot key c (inr a) = inr (placed_among slots slot key c a)

pub clause_among : (slots : Slots) (slot key : ℕ) (c : Clause) → IsAmong slots (slot, (key, c)) → IsAmong (clauses_of (placed_items slots)) (clause_of c)
clause_among [] slot key c a = absurd a
clause_among (x ∷ slots) slot key c (inl e) = inl (ap (λ (y : ℕ × (ℕ × Clause)). clause_of y.1.1) e)
clause_among (x ∷ slots) slot key c (inr a) = inr (clause_among slots slot key c a)

-- ---- the clause at a position
key_got : (slots : Slots) (n : ℕ) (x : ℕ × (ℕ × Clause)) → slice_get slots n ≡ Some x → slice_get (item_keys (placed_items slots)) n ≡ Some x.1.0
key_got [] n x got = absurd (none-some x got)
key_got (y ∷ slots) zero x got = ap (λ (z : ℕ × (ℕ × Clause)). Some z.1.0) (same_Some y x got)
key_got (y ∷ slots) (suc n) x got = key_got slots n x got

clause_got : (slots : Slots) (n : ℕ) (x : ℕ × (ℕ × Clause)) → slice_get slots n ≡ Some x → slice_get (clauses_of (placed_items slots)) n ≡ Some (clause_of x.1.1)
clause_got [] n x got = absurd (none-some x got)
clause_got (y ∷ slots) zero x got = ap (λ (z : ℕ × (ℕ × Clause)). Some (clause_of z.1.1)) (same_Some y x got)
clause_got (y ∷ slots) (suc n) x got = clause_got slots n x got

module _ (k : Kept) (slots : Slots) (h : HasSlots k slots) (n slot key : ℕ) (c : Clause) (there : slice_get slots n ≡ Some (slot, (key, c))) where
  pub has_key : slice_get k.keys n ≡ Some key
  has_key = ap (λ l. slice_get l n) (sym h.keys) ∙ key_got slots n (slot, (key, c)) there

  pub has_clause : slice_get k.clauses n ≡ Some (clause_of c)
  has_clause = ap (λ l. slice_get l n) (sym h.clauses) ∙ clause_got slots n (slot, (key, c)) there

pub slot_known : (s : Search) (n slot key : ℕ) (c : Clause) → IsReadyToSearch s → slice_get s.slots n ≡ Some (slot, (key, c)) → IsKnownClause (numbers_of s) (clause_of c)
slot_known s n slot key c ready there =
    all_got (IsKnownClause (numbers_of s)) s.index.now.clauses n (clause_of c) ready.known (has_clause s.index.now s.slots ready.slots n slot key c there)

-- ---- keys
-- a slot has one key
pub one_key : (slots : Slots) (slot j k : ℕ) → PlacesRise slots → IsIn slots slot j → IsIn slots slot k → j ≡ k
one_key slots slot j k rise a b = sym (key_is slots slot j a.0 rise a.1) ∙ key_is slots slot k b.0 rise b.1

pub is_placed : (k : Kept) (slots : Slots) (key : ℕ) → HasSlots k slots → IsAmong k.keys key → HasKey (placed_items slots) key
is_placed k slots key h a = subst (λ l. IsAmong l key) (sym h.keys) a

pub has_place : (slots : Slots) (slot key : ℕ) → IsIn slots slot key → HasPlace slots slot
has_place slots slot key a = ((key, a.0), a.1)
