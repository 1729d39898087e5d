-- Which slots the values of bindings use.
use Rattle.std.proofs.Common.{◌≡◌, ℕ, ◌+◌, ◌<◌, inl, inr, List, [], ◌∷◌, ◌++◌, length, take, get_or, suc, zero, refl, sym, ◌∙◌, ap, subst, arith, length-append, Option, Some, None}
use Rattle.std.proofs.Math.Seq.{take-suc}
use Rattle.std.proofs.lemmas.Bool.Decides.{eqb_tells}
use Rattle.std.proofs.lemmas.Bool.{cases_lt}
use Rattle.std.specs.Prelude.{Vec}
use Rattle.std.specs.List.{AllByRecursion}
use Rattle.std.specs.Borrow.{Bor}
use Rattle.std.proofs.lemmas.Option.{same_Some}
use Rattle.std.proofs.lemmas.List.{get_or_past}
use Rattle.si_flat.specs.declared.Cell.{Cell}
use Rattle.si_flat.specs.declared.Cell.TheVariants as cell
use Rattle.si_trail.specs.Trails.{value_at}
use Rattle.si_unify.specs.declared.slots.Slots.{Slots}
use Rattle.si_unify.specs.Solving.{Pairs, slot_count, AreInRange, RanksBelow, IsAcyclic, IsBinding}
use Rattle.si_unify.specs.Spots.{cell_slot}
use Rattle.si_unify.specs.Circles.{with_slot}
use Rattle.si_unify.proofs.Places.{value_holds}
use Rattle.si_form.specs.Classes.{slots_of}
use Rattle.si_form.specs.Ordering.{list_of, uses_at, list_or_none, IsListed, HasNoCircle}
use Rattle.si_form.specs.Uses.{used_in, used_by, UsesBelow}

-- ---- the slots among cells
pub slots_append : (slots : Slots) (xs ys : List Cell) → slots_of slots (xs ++ ys) ≡ slots_of slots xs ++ slots_of slots ys
slots_append slots [] ys = refl
slots_append slots (cell.App s a n ∷ xs) ys = slots_append slots xs ys
slots_append slots (cell.Query n ∷ xs) ys = ap (λ l. n ∷ l) (slots_append slots xs ys)
slots_append slots (cell.Entry n ∷ xs) ys = ap (λ l. (slots.query + n) ∷ l) (slots_append slots xs ys)
slots_append slots (cell.Ind n ∷ xs) ys = ap (λ l. (slots.query + slots.entry + n) ∷ l) (slots_append slots xs ys)

pub slots_more : (slots : Slots) (cells : List Cell) (i : ℕ) (o : Option ℕ) (used : List ℕ) → i < length cells → used ≡ slots_of slots (take i cells) → o ≡ cell_slot slots (get_or cells i (cell.App 0 0 0)) → used ++ with_slot o [] ≡ slots_of slots (take (i + 1) cells)
slots_more slots cells i o used less so_far is =
    let n : i + 1 ≡ suc i = omega arith in
    let taken : take (i + 1) cells ≡ take i cells ++ get_or cells i (cell.App 0 0 0) ∷ [] = ap (λ m. take m cells) n ∙ take-suc cells i (cell.App 0 0 0) less in
    ap (λ l. l ++ with_slot o []) so_far
    ∙ ap (λ p. slots_of slots (take i cells) ++ with_slot p []) is
    ∙ sym (slots_append slots (take i cells) (get_or cells i (cell.App 0 0 0) ∷ []))
    ∙ ap (slots_of slots) (sym taken)

-- ---- the lists of the first slots
pub get_or_front : {X : Type 0} (xs ys : List X) (i : ℕ) (d : X) → i < length xs → get_or (xs ++ ys) i d ≡ get_or xs i d
get_or_front [] ys i d less = absurd (omega (arith, less))
get_or_front (x ∷ xs) ys zero d less = refl
get_or_front (x ∷ xs) ys (suc i) d less = get_or_front xs ys i d (omega (arith, less))

pub get_or_last : {X : Type 0} (xs : List X) (y d : X) → get_or (xs ++ y ∷ []) (length xs) d ≡ y
get_or_last [] y d = refl
get_or_last (x ∷ xs) y d = get_or_last xs y d

pub uses_more : {A : Type 0} (slots : Slots) (pairs : Pairs) (lists new : List (Option (Vec ℕ A))) (used : Option (Vec ℕ A)) → UsesBelow slots pairs lists → new ≡ lists ++ used ∷ [] → list_of used ≡ used_by slots pairs (length lists) → UsesBelow slots pairs new
uses_more slots pairs lists new used h is last = subst (UsesBelow slots pairs) (sym is) below
  where
    below : UsesBelow slots pairs (lists ++ used ∷ [])
    below slot less =
        elim (eqb_tells slot (length lists)) [
          | inl e ↦ ap list_of (ap (λ n. get_or (lists ++ used ∷ []) n None) e.1 ∙ get_or_last lists used None) ∙ last ∙ ap (used_by slots pairs) (sym e.1)
          | inr e ↦
              let before : slot < length lists = omega (arith, e.1, less, length-append lists (used ∷ [])) in
              ap list_of (get_or_front lists (used ∷ []) slot None before) ∙ h slot before
        ]

-- ---- no circle
pub range_slots : (slots : Slots) (cells : List Cell) → AreInRange slots cells → AllByRecursion (λ j. j < slot_count slots) (slots_of slots cells)
range_slots slots [] h = tt
range_slots slots (cell.App s a n ∷ cells) h = range_slots slots cells h.1
range_slots slots (cell.Query n ∷ cells) h = (omega (arith, h.0), range_slots slots cells h.1)
range_slots slots (cell.Entry n ∷ cells) h = (omega (arith, h.0), range_slots slots cells h.1)
range_slots slots (cell.Ind n ∷ cells) h = (omega (arith, h.0), range_slots slots cells h.1)

rank_slots : (slots : Slots) (rank : ℕ → ℕ) (slot : ℕ) (cells : List Cell) → AllByRecursion (RanksBelow slots rank slot) cells → AllByRecursion (λ j. rank j < rank slot) (slots_of slots cells)
rank_slots slots rank slot [] h = tt
rank_slots slots rank slot (cell.App s a n ∷ cells) h = rank_slots slots rank slot cells h.1
rank_slots slots rank slot (cell.Query n ∷ cells) h = (h.0, rank_slots slots rank slot cells h.1)
rank_slots slots rank slot (cell.Entry n ∷ cells) h = (h.0, rank_slots slots rank slot cells h.1)
rank_slots slots rank slot (cell.Ind n ∷ cells) h = (h.0, rank_slots slots rank slot cells h.1)

module _ {A : Type 0} (slots : Slots) (pairs : Pairs) (lists : List (Option (Vec ℕ A))) (long : length lists ≡ slot_count slots) (below : UsesBelow slots pairs lists) (bindings : AllByRecursion (IsBinding slots) pairs) where
  pub listed_inside : (k : ℕ) → IsListed (uses_at lists) k → k < slot_count slots
  listed_inside k l =
      elim (cases_lt k (length lists)) [
        | inl less ↦ omega (arith, less, long)
        | inr more ↦ let bad : None ≡ Some l.0 = sym (ap list_of (get_or_past lists k None more)) ∙ l.1 in cc
      ]

  -- a number that has a list is a bound slot
  pub bound_of_listed : (k : ℕ) → IsListed (uses_at lists) k → (v : Bor (List Cell)) × (value_at pairs k ≡ Some v) × (uses_at lists k ≡ Some (slots_of slots v.now))
  bound_of_listed k l = by (value_at pairs k) refl
    where
      at : uses_at lists k ≡ used_by slots pairs k
      at = below k (omega (arith, listed_inside k l, long))

      by : (o : Option (Bor (List Cell))) → value_at pairs k ≡ o → (v : Bor (List Cell)) × (value_at pairs k ≡ Some v) × (uses_at lists k ≡ Some (slots_of slots v.now))
      by None e = let bad : None ≡ Some l.0 = sym (at ∙ ap (used_in slots) e) ∙ l.1 in cc
      by (Some v) e = (v, e, at ∙ ap (used_in slots) e)

  pub listed_of_bound : (k : ℕ) (v : Bor (List Cell)) → k < slot_count slots → value_at pairs k ≡ Some v → IsListed (uses_at lists) k
  listed_of_bound k v less e = (slots_of slots v.now, below k (omega (arith, less, long)) ∙ ap (used_in slots) e)

  of_list : (P : ℕ → ℕ → Type 0) (k : ℕ) → ((v : Bor (List Cell)) → value_at pairs k ≡ Some v → AllByRecursion (P k) (slots_of slots v.now)) → AllByRecursion (P k) (list_or_none (uses_at lists k))
  of_list P k give = by (uses_at lists k) refl
    where
      by : (o : Option (List ℕ)) → uses_at lists k ≡ o → AllByRecursion (P k) (list_or_none o)
      by None e = tt
      by (Some xs) e =
          let b = bound_of_listed k (xs, e) in
          let same : xs ≡ slots_of slots b.0.now = same_Some xs (slots_of slots b.0.now) (sym e ∙ b.2) in
          subst (AllByRecursion (P k)) (sym same) (give b.0 b.1)

  pub no_circle : IsAcyclic slots pairs → HasNoCircle (uses_at lists) (length lists)
  no_circle t = record {
    inside = λ k l. omega (arith, listed_inside k l, long);
    used_inside = λ k. of_list (λ i j. j < length lists) k (λ v e. subst (λ n. AllByRecursion (λ j. j < n) (slots_of slots v.now)) (sym long) (range_slots slots v.now (value_holds (IsBinding slots) pairs k v bindings e).in_range));
    rank = t.0;
    falls = λ k. of_list (λ i j. t.0 j < t.0 i) k (λ v e. rank_slots slots t.0 k v.now (value_holds (λ pair. AllByRecursion (RanksBelow slots t.0 pair.0) pair.1.now) pairs k v t.1 e));
  }
