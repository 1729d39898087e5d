-- Slots that have a value in a list of pairs, and slots that have none.
use Rattle.std.proofs.Common.{◌≡◌, ◌≢◌, ℕ, inl, inr, List, [], ◌∷◌, ◌++◌, refl, None, Some}
use Rattle.std.proofs.lemmas.Bool.Decides.{eqb_tells}
use Rattle.std.specs.List.{AllByRecursion}
use Rattle.si_defs.proofs.ListLaws.{all_got}
use Rattle.si_trail.specs.Trails.{value_at, IsSlotOf}

module _ {X : Type 0} where
  -- a slot without a value is no slot of a pair
  pub apart_from : (pairs : List (ℕ × X)) (slot : ℕ) → value_at pairs slot ≡ None → AllByRecursion (λ pair. pair.0 ≢ slot) pairs
  apart_from [] slot unbound = tt
  apart_from (pair ∷ pairs) slot unbound =
      elim (eqb_tells pair.0 slot) [
        | inl h ↦ let bad : Some pair.1 ≡ None = rw h.0 at unbound in cc
        | inr h ↦ (h.1, apart_from pairs slot (rw h.0 at unbound))
      ]

  -- the slot of a pair has a value
  pub slot_bound : (pairs : List (ℕ × X)) (n slot : ℕ) → IsSlotOf pairs n slot → value_at pairs slot ≡ None → ⊥
  slot_bound pairs n slot s unbound = all_got (λ pair. pair.0 ≢ slot) pairs n (slot, s.0) (apart_from pairs slot unbound) s.1 refl

  -- what a slot is bound to, it stays bound to
  pub still_bound : (pairs more : List (ℕ × X)) (slot : ℕ) (v : X) → value_at pairs slot ≡ Some v → value_at (pairs ++ more) slot ≡ Some v
  still_bound [] more slot v bound = cc
  still_bound (pair ∷ pairs) more slot v bound =
      elim (eqb_tells pair.0 slot) [
        | inl h ↦ let now : Some pair.1 ≡ Some v = rw h.0 at bound in rw h.0 now
        | inr h ↦ rw h.0 (still_bound pairs more slot v (rw h.0 at bound))
      ]
