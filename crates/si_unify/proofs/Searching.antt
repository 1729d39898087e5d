-- The steps of the search for a circle.
use Rattle.std.proofs.Common.{◌≡◌, ◌≢◌, ℕ, ◌+◌, ◌<◌, ◌≤◌, ◌⊎◌, inl, inr, true, false, cond, List, [], ◌∷◌, ◌++◌, length, take, get_or, refl, sym, ◌∙◌, ap, subst, arith, Option, None, Some}
use Rattle.std.proofs.Math.ListN.{set}
use Rattle.std.proofs.lemmas.List.{length-set, take_more}
use Rattle.std.proofs.lemmas.Bool.Decides.{eqb_tells}
use Rattle.std.proofs.lemmas.Bool.{eq-eqb}
use Rattle.std.proofs.lemmas.Option.{slice_get_within, get_or_from_slice_get}
use Rattle.std.proofs.lemmas.List.Sums.{sum_by-set}
use Rattle.std.specs.Prelude.{◌==◌, ◌^◌, sum_by, slice_get}
use Rattle.std.specs.List.{AllByRecursion}
use Rattle.std.specs.Borrow.{Bor}
use Rattle.si_defs.specs.Substitutions.{IsAmong}
use Rattle.si_defs.proofs.ListLaws.{all_weaker, set_same, set_other, all_from}
use Rattle.si_flat.specs.declared.Cell.{Cell}
use Rattle.si_flat.specs.declared.Cell.TheVariants as cell
use Rattle.si_trail.specs.Trails.{value_at}
use Rattle.si_unify.specs.declared.slots.Slots.{Slots}
use Rattle.si_unify.specs.declared.states.State.{State}
use Rattle.si_unify.specs.declared.states.State.TheVariants.{New, Open, Done}
use Rattle.si_unify.specs.declared.circles.Visit.{Visit}
use Rattle.si_unify.specs.declared.circles.Visit.TheVariants.{Enter, Leave}
use Rattle.si_unify.specs.Solving.{Pairs, slot_count, IsTriangularBy, RanksBelow, IsBinding}
use Rattle.si_unify.specs.Spots.{cell_slot, IsUnbound, CellIsUnbound}
use Rattle.si_unify.specs.Circles.{if_value, if_bound, with_slot, bound_slots, HasMadeVisit, HasDone, enter_each, pile, visits_of, AreEntered, below_value, slots_below, visit_slot, visit_slots, IsDone, AreCovered, RanksUnder, ComeDown, AreRanked, leave_slots, IsSearching, StayDone, HasSearchedCircle}
use Rattle.si_unify.specs.States.{state_weight}
use Rattle.si_unify.proofs.Places.{value_holds}

-- ---- states of slots
done_stays_at_done : (states : List State) (slot : ℕ) → slot < length states → StayDone states (set states slot Done)
done_stays_at_done states slot less other done =
    elim (eqb_tells other slot) [
      | inl h ↦ subst (IsDone (set states slot Done)) (sym h.1) (set_same states slot Done less)
      | inr h ↦ set_other states slot other Done h.1 ∙ done
    ]

new_not_done : (states : List State) (slot other : ℕ) → slice_get states slot ≡ Some New → IsDone states other → other ≢ slot
new_not_done states slot other is_new done e = let bad : Some New ≡ Some Done = sym is_new ∙ subst (IsDone states) e done in cc

done_stays_at_open : (states : List State) (slot : ℕ) → slice_get states slot ≡ Some New → StayDone states (set states slot Open)
done_stays_at_open states slot is_new other done = set_other states slot other Open (new_not_done states slot other is_new done) ∙ done

-- what is done after a slot was opened was done before
done_before_open : (states : List State) (slot other : ℕ) → slot < length states → IsDone (set states slot Open) other → IsDone states other
done_before_open states slot other less done =
    elim (eqb_tells other slot) [
      | inl h ↦ let bad : Some Open ≡ Some Done = sym (set_same states slot Open less) ∙ subst (IsDone (set states slot Open)) h.1 done in cc
      | inr h ↦ sym (set_other states slot other Open h.1) ∙ done
    ]

-- ---- covered visits
still_among : (states : List State) (one two : List ℕ) (x : ℕ) → ((z : ℕ) → IsAmong one z → IsDone states z ⊎ IsAmong two z) → (z : ℕ) → IsAmong (x ∷ one) z → IsDone states z ⊎ IsAmong (x ∷ two) z
still_among states one two x give z h =
    elim h [
      | inl e ↦ inr (inl e)
      | inr k ↦ elim (give z k) [ inl d ↦ inl d | inr a ↦ inr (inr a) ]
    ]

covered_still :
    (slots : Slots) (pairs : Pairs) (states new : List State) (one two : List ℕ) (visits : List Visit)
    → StayDone states new
    → ((z : ℕ) → IsAmong one z → IsDone new z ⊎ IsAmong two z)
    → AreCovered slots pairs states one visits
    → AreCovered slots pairs new two visits
covered_still slots pairs states new one two [] stay give h = tt
covered_still slots pairs states new one two (Enter slot ∷ visits) stay give h =
    (tt, covered_still slots pairs states new (slot ∷ one) (slot ∷ two) visits stay (still_among new one two slot give) h.1)
covered_still slots pairs states new one two (Leave slot ∷ visits) stay give h = (
  all_weaker (λ c. IsDone states c ⊎ IsAmong one c) (λ c. IsDone new c ⊎ IsAmong two c) (slots_below slots pairs slot)
      (λ c k. elim k [ inl d ↦ inl (stay c d) | inr a ↦ give c a ]) h.0,
  covered_still slots pairs states new (slot ∷ one) (slot ∷ two) visits stay (still_among new one two slot give) h.1,
)

covered_entries : (slots : Slots) (pairs : Pairs) (states : List State) (before xs : List ℕ) (visits : List Visit) → AreCovered slots pairs states (pile xs before) visits → AreCovered slots pairs states before (enter_each xs ++ visits)
covered_entries slots pairs states before [] visits h = h
covered_entries slots pairs states before (x ∷ xs) visits h = (tt, covered_entries slots pairs states (x ∷ before) xs visits h)

among_pile : (xs before : List ℕ) (z : ℕ) → IsAmong before z → IsAmong (pile xs before) z
among_pile [] before z h = h
among_pile (x ∷ xs) before z h = among_pile xs (x ∷ before) z (inr h)

among_piled : (xs before : List ℕ) (z : ℕ) → IsAmong xs z → IsAmong (pile xs before) z
among_piled [] before z h = elim h [ ]
among_piled (x ∷ xs) before z h = elim h [ inl e ↦ among_pile xs (x ∷ before) z (inl e) | inr k ↦ among_piled xs (x ∷ before) z k ]

-- ---- ranks of what is done
-- a slot that was done is done again
ordered_kept : (slots : Slots) (pairs : Pairs) (states : List State) (slot : ℕ) → AreRanked slots pairs (IsDone states) → IsDone states slot → AreRanked slots pairs (IsDone (set states slot Done))
ordered_kept slots pairs states slot h was =
    let less : slot < length states = slice_get_within states slot Done was in
    let back : (z : ℕ) → IsDone (set states slot Done) z → IsDone states z =
    λ z d. elim (eqb_tells z slot) [ inl k ↦ subst (IsDone states) (sym k.1) was | inr k ↦ sym (set_other states slot z Done k.1) ∙ d ] in
    record {
      rank = h.rank;
      top = h.top;
      few = λ z d. h.few z (back z d);
      down = λ z d.
          all_weaker (λ c. IsDone states c × (h.rank c < h.rank z)) (λ c. IsDone (set states slot Done) c × (h.rank c < h.rank z)) (slots_below slots pairs z)
          (λ c k. (done_stays_at_done states slot less c k.0, k.1)) (h.down z (back z d));
    }

abbrev pub raised : (ℕ → ℕ) → ℕ → ℕ → ℕ → ℕ
raised rank top slot z = cond (z == slot) top (rank z)

raised_other : (rank : ℕ → ℕ) (top slot z : ℕ) → z ≢ slot → raised rank top slot z ≡ rank z
raised_other rank top slot z differs = elim (eqb_tells z slot) [ inl k ↦ absurd (differs k.1) | inr k ↦ rw k.0 refl ]

raised_same : (rank : ℕ → ℕ) (top slot z : ℕ) → z ≡ slot → raised rank top slot z ≡ top
raised_same rank top slot z e = rw (eq-eqb z slot e) refl

-- a slot comes after all that were done before
ordered_more : (slots : Slots) (pairs : Pairs) (states : List State) (slot : ℕ) → slot < length states → AreRanked slots pairs (IsDone states) → (IsDone states slot → ⊥) → AllByRecursion (IsDone states) (slots_below slots pairs slot) → AreRanked slots pairs (IsDone (set states slot Done))
ordered_more slots pairs states slot less h not_done children =
    let other : (c : ℕ) → IsDone states c → c ≢ slot = λ c d e. not_done (subst (IsDone states) e d) in
    record {
      rank = raised h.rank h.top slot;
      top = h.top + 1;
      few = λ z d.
          elim (eqb_tells z slot) [
            | inl k ↦ omega (arith, raised_same h.rank h.top slot z k.1)
            | inr k ↦ omega (arith, raised_other h.rank h.top slot z k.1, h.few z (sym (set_other states slot z Done k.1) ∙ d))
          ];
      down = λ z d.
          elim (eqb_tells z slot) [
            | inl k ↦
                subst (λ y. AllByRecursion (λ c. IsDone (set states slot Done) c × (raised h.rank h.top slot c < raised h.rank h.top slot y)) (slots_below slots pairs y)) (sym k.1)
                (
                all_weaker (IsDone states) (λ c. IsDone (set states slot Done) c × (raised h.rank h.top slot c < raised h.rank h.top slot slot)) (slots_below slots pairs slot)
                (λ c e. (
                  done_stays_at_done states slot less c e,
                  omega (arith, raised_other h.rank h.top slot c (other c e), raised_same h.rank h.top slot slot refl, h.few c e),
                ))
                children
                )
            | inr k ↦
                all_weaker (λ c. IsDone states c × (h.rank c < h.rank z)) (λ c. IsDone (set states slot Done) c × (raised h.rank h.top slot c < raised h.rank h.top slot z)) (slots_below slots pairs z)
                (λ c e. (
                  done_stays_at_done states slot less c e.0,
                  omega (arith, raised_other h.rank h.top slot c (other c e.0), raised_other h.rank h.top slot z k.1, e.1),
                ))
                (h.down z (sym (set_other states slot z Done k.1) ∙ d))
          ];
    }

-- ---- the steps
pub leave_step : (slots : Slots) (pairs : Pairs) (states : List State) (slot : ℕ) (visits : List Visit) → IsSearching slots pairs states (Leave slot ∷ visits) → IsSearching slots pairs (set states slot Done) visits
leave_step slots pairs states slot visits h =
    let less : slot < length states = omega (arith, h.valid.0, h.long) in
    record {
      bindings = h.bindings;
      long = omega (arith, length-set states slot Done, h.long);
      ordered = ordered_left (slice_get states slot) refl;
      covered =
          covered_still slots pairs states (set states slot Done) (slot ∷ []) [] visits (done_stays_at_done states slot less)
          (λ z a. elim a [ inl e ↦ inl (subst (IsDone (set states slot Done)) e (set_same states slot Done less)) | inr n ↦ elim n [ ] ]) h.covered.1;
      come_down = λ rank t. (h.come_down rank t).1;
      opened = λ z e.
          elim (eqb_tells z slot) [
            | inl k ↦ let bad : Some Done ≡ Some Open = sym (set_same states slot Done less) ∙ subst (λ y. slice_get (set states slot Done) y ≡ Some Open) k.1 e in cc
            | inr k ↦
                elim (h.opened z (sym (set_other states slot z Done k.1) ∙ e)) [
                  | inl same ↦ absurd (k.1 (sym same))
                  | inr a ↦ a
                ]
          ];
      valid = h.valid.1;
    }
  where
    children_done : AllByRecursion (IsDone states) (slots_below slots pairs slot)
    children_done = all_weaker (λ c. IsDone states c ⊎ IsAmong [] c) (IsDone states) (slots_below slots pairs slot) (λ c k. elim k [ inl d ↦ d | inr n ↦ elim n [ ] ]) h.covered.0

    ordered_left : (o : Option State) → slice_get states slot ≡ o → AreRanked slots pairs (IsDone (set states slot Done))
    ordered_left (Some Done) e = ordered_kept slots pairs states slot h.ordered e
    ordered_left (Some New) e = ordered_more slots pairs states slot (omega (arith, h.valid.0, h.long)) h.ordered (λ d. let bad : Some New ≡ Some Done = sym e ∙ d in cc) children_done
    ordered_left (Some Open) e = ordered_more slots pairs states slot (omega (arith, h.valid.0, h.long)) h.ordered (λ d. let bad : Some Open ≡ Some Done = sym e ∙ d in cc) children_done
    ordered_left None e = ordered_more slots pairs states slot (omega (arith, h.valid.0, h.long)) h.ordered (λ d. let bad : None ≡ Some Done = sym e ∙ d in cc) children_done

-- a slot that is done isn't searched again
pub done_step : (slots : Slots) (pairs : Pairs) (states : List State) (slot : ℕ) (visits : List Visit) → IsSearching slots pairs states (Enter slot ∷ visits) → IsDone states slot → IsSearching slots pairs states visits
done_step slots pairs states slot visits h done = record {
  bindings = h.bindings;
  long = h.long;
  ordered = h.ordered;
  covered =
      covered_still slots pairs states states (slot ∷ []) [] visits (λ z d. d)
      (λ z a. elim a [ inl e ↦ inl (subst (IsDone states) e done) | inr n ↦ elim n [ ] ]) h.covered.1;
  come_down = λ rank t. (h.come_down rank t).1;
  opened = h.opened;
  valid = h.valid.1;
}

-- a slot that is met while it is being searched closes a circle
under_itself : (rank : ℕ → ℕ) (slot : ℕ) (visits : List Visit) → IsAmong (leave_slots visits) slot → AllByRecursion (RanksUnder rank slot) visits → ⊥
under_itself rank slot [] among under = elim among [ ]
under_itself rank slot (Enter other ∷ visits) among under = under_itself rank slot visits among under.1
under_itself rank slot (Leave other ∷ visits) among under =
    elim among [
      | inl e ↦ let less : rank slot < rank other = under.0 in absurd (omega (arith, ap rank e))
      | inr a ↦ under_itself rank slot visits a under.1
    ]

pub circle_found : (slots : Slots) (pairs : Pairs) (states new : List State) (slot : ℕ) (visits first : List Visit) → IsSearching slots pairs states (Enter slot ∷ visits) → slice_get states slot ≡ Some Open → HasSearchedCircle slots pairs states new first false
circle_found slots pairs states new slot visits first h is_open rank t = under_itself rank slot visits (h.opened slot is_open) (h.come_down rank t).0

-- the bound variables of a value have smaller ranks
pub ranks_below_cell : (slots : Slots) (rank : ℕ → ℕ) (slot next : ℕ) (c : Cell) → RanksBelow slots rank slot c → cell_slot slots c ≡ Some next → rank next < rank slot
ranks_below_cell slots rank slot next (cell.App s a n) h e = cc
ranks_below_cell slots rank slot next (cell.Query n) h e = let k : next ≡ n = cc in subst (λ x. rank x < rank slot) (sym k) h
ranks_below_cell slots rank slot next (cell.Entry n) h e = let k : next ≡ slots.query + n = cc in subst (λ x. rank x < rank slot) (sym k) h
ranks_below_cell slots rank slot next (cell.Ind n) h e = let k : next ≡ slots.query + slots.entry + n = cc in subst (λ x. rank x < rank slot) (sym k) h

-- ---- entering a slot
pile-append : (xs ys before : List ℕ) → pile (xs ++ ys) before ≡ pile ys (pile xs before)
pile-append [] ys before = refl
pile-append (x ∷ xs) ys before = pile-append xs ys (x ∷ before)

bound_slots-append : (slots : Slots) (pairs : Pairs) (xs : List Cell) (c : Cell) → bound_slots slots pairs (xs ++ c ∷ []) ≡ bound_slots slots pairs xs ++ with_slot (if_bound pairs (cell_slot slots c)) []
bound_slots-append slots pairs [] c = refl
bound_slots-append slots pairs (x ∷ xs) c =
    ap (with_slot (if_bound pairs (cell_slot slots x))) (bound_slots-append slots pairs xs c)
    ∙ with_front (if_bound pairs (cell_slot slots x)) (bound_slots slots pairs xs) (with_slot (if_bound pairs (cell_slot slots c)) [])
  where
    with_front : (o : Option ℕ) (as' bs : List ℕ) → with_slot o (as' ++ bs) ≡ with_slot o as' ++ bs
    with_front None as' bs = refl
    with_front (Some x) as' bs = refl

pub one_entry_more :
    (slots : Slots) (pairs : Pairs) (xs : List Cell) (c : Cell) (o : Option ℕ)
    → o ≡ if_bound pairs (cell_slot slots c)
    → pile (bound_slots slots pairs (xs ++ c ∷ [])) [] ≡ with_slot o (pile (bound_slots slots pairs xs) [])
one_entry_more slots pairs xs c o e =
    ap (λ l. pile l []) (bound_slots-append slots pairs xs c)
    ∙ pile-append (bound_slots slots pairs xs) (with_slot (if_bound pairs (cell_slot slots c)) []) []
    ∙ ap (λ q. pile (with_slot q []) (pile (bound_slots slots pairs xs) [])) (sym e)
    ∙ one o
  where
    one : (o : Option ℕ) → pile (with_slot o []) (pile (bound_slots slots pairs xs) []) ≡ with_slot o (pile (bound_slots slots pairs xs) [])
    one None = refl
    one (Some x) = refl

pub none_entered : (slots : Slots) (pairs : Pairs) (cells : List Cell) (i : ℕ) (d : Cell) (old new : List Visit) → i < length cells → AreEntered slots pairs (take i cells) old new → None ≡ if_bound pairs (cell_slot slots (get_or cells i d)) → AreEntered slots pairs (take (i + 1) cells) old new
none_entered slots pairs cells i d old new less h e =
    h ∙ ap (λ l. enter_each l ++ old) (sym (ap (λ l. pile (bound_slots slots pairs l) []) (take_more cells i d less) ∙ one_entry_more slots pairs (take i cells) (get_or cells i d) None e))

pub one_entered : (slots : Slots) (pairs : Pairs) (cells : List Cell) (i next : ℕ) (d : Cell) (old before new : List Visit) → i < length cells → AreEntered slots pairs (take i cells) old before → Some next ≡ if_bound pairs (cell_slot slots (get_or cells i d)) → new ≡ Enter next ∷ before → AreEntered slots pairs (take (i + 1) cells) old new
one_entered slots pairs cells i next d old before new less h e is =
    is
    ∙ ap (λ l. Enter next ∷ l) h
    ∙ ap (λ l. enter_each l ++ old) (sym (ap (λ l. pile (bound_slots slots pairs l) []) (take_more cells i d less) ∙ one_entry_more slots pairs (take i cells) (get_or cells i d) (Some next) e))

-- ---- cells of which none is a bound variable's
not_bound : (pairs : Pairs) (o : Option ℕ) → IsUnbound pairs o → if_bound pairs o ≡ None
not_bound pairs None h = refl
not_bound pairs (Some slot) h = ap (λ v. if_value v slot) h

pub none_bound : (slots : Slots) (pairs : Pairs) (cells : List Cell) → AllByRecursion (CellIsUnbound slots pairs) cells → bound_slots slots pairs cells ≡ []
none_bound slots pairs [] h = refl
none_bound slots pairs (c ∷ cells) h =
    ap (λ o. with_slot o (bound_slots slots pairs cells)) (not_bound pairs (cell_slot slots c) h.0) ∙ none_bound slots pairs cells h.1

-- and the way back
pub only_unbound : (slots : Slots) (pairs : Pairs) (cells : List Cell) → bound_slots slots pairs cells ≡ [] → AllByRecursion (CellIsUnbound slots pairs) cells
only_unbound slots pairs [] none = tt
only_unbound slots pairs (c ∷ cells) none =
    let first = unbound (cell_slot slots c) (bound_slots slots pairs cells) none in
    (first.0, only_unbound slots pairs cells first.1)
  where
    no_value : (o : Option (Bor (List Cell))) (slot : ℕ) (rest : List ℕ) → with_slot (if_value o slot) rest ≡ [] → (o ≡ None) × (rest ≡ [])
    no_value None slot rest e = (refl, e)
    no_value (Some v) slot rest e = cc

    unbound : (o : Option ℕ) (rest : List ℕ) → with_slot (if_bound pairs o) rest ≡ [] → IsUnbound pairs o × (rest ≡ [])
    unbound None rest e = (tt, e)
    unbound (Some slot) rest e = no_value (value_at pairs slot) slot rest e

-- ---- opening a slot
all_pile : (P : ℕ → Type 0) (xs before : List ℕ) → AllByRecursion P xs → AllByRecursion P before → AllByRecursion P (pile xs before)
all_pile P [] before h k = k
all_pile P (x ∷ xs) before h k = all_pile P xs (x ∷ before) h.1 (h.0, k)

all_with_slot : (P : ℕ → Type 0) (o : Option ℕ) (xs : List ℕ) → ((z : ℕ) → o ≡ Some z → P z) → AllByRecursion P xs → AllByRecursion P (with_slot o xs)
all_with_slot P None xs give h = h
all_with_slot P (Some z) xs give h = (give z refl, h)

bound_value : (pairs : Pairs) (o : Option ℕ) (z : ℕ) → if_bound pairs o ≡ Some z → (o ≡ Some z) × ((v : Bor (List Cell)) × (value_at pairs z ≡ Some v))
bound_value pairs None z e = cc
bound_value pairs (Some slot) z e = go (value_at pairs slot) refl e
  where
    go : (o : Option (Bor (List Cell))) → value_at pairs slot ≡ o → if_value o slot ≡ Some z → (Some slot ≡ Some z) × ((v : Bor (List Cell)) × (value_at pairs z ≡ Some v))
    go None is e = cc
    go (Some v) is e = let same : slot ≡ z = cc in (e, (v, subst (λ k. value_at pairs k ≡ Some v) same is))

bound_valid : (slots : Slots) (pairs : Pairs) (cells : List Cell) → AllByRecursion (IsBinding slots) pairs → AllByRecursion (λ z. z < slot_count slots) (bound_slots slots pairs cells)
bound_valid slots pairs [] h = tt
bound_valid slots pairs (c ∷ cells) h =
    all_with_slot (λ z. z < slot_count slots) (if_bound pairs (cell_slot slots c)) (bound_slots slots pairs cells)
    (λ z e. let b = bound_value pairs (cell_slot slots c) z e in (value_holds (IsBinding slots) pairs z b.1.0 h b.1.1).below)
    (bound_valid slots pairs cells h)

below_valid : (slots : Slots) (pairs : Pairs) (slot : ℕ) → AllByRecursion (IsBinding slots) pairs → AllByRecursion (λ z. z < slot_count slots) (slots_below slots pairs slot)
below_valid slots pairs slot h = go (value_at pairs slot)
  where
    go : (o : Option (Bor (List Cell))) → AllByRecursion (λ z. z < slot_count slots) (below_value slots pairs o)
    go None = tt
    go (Some v) = bound_valid slots pairs v.now h

bound_ranks : (slots : Slots) (pairs : Pairs) (rank : ℕ → ℕ) (slot : ℕ) (cells : List Cell) → AllByRecursion (RanksBelow slots rank slot) cells → AllByRecursion (λ z. rank z < rank slot) (bound_slots slots pairs cells)
bound_ranks slots pairs rank slot [] h = tt
bound_ranks slots pairs rank slot (c ∷ cells) h =
    all_with_slot (λ z. rank z < rank slot) (if_bound pairs (cell_slot slots c)) (bound_slots slots pairs cells)
    (λ z e. ranks_below_cell slots rank slot z c h.0 (bound_value pairs (cell_slot slots c) z e).0)
    (bound_ranks slots pairs rank slot cells h.1)

below_ranks : (slots : Slots) (pairs : Pairs) (rank : ℕ → ℕ) (slot : ℕ) → IsTriangularBy slots rank pairs → AllByRecursion (λ z. rank z < rank slot) (slots_below slots pairs slot)
below_ranks slots pairs rank slot t = go (value_at pairs slot) refl
  where
    go : (o : Option (Bor (List Cell))) → value_at pairs slot ≡ o → AllByRecursion (λ z. rank z < rank slot) (below_value slots pairs o)
    go None e = tt
    go (Some v) e = bound_ranks slots pairs rank slot v.now (value_holds (λ pair. AllByRecursion (RanksBelow slots rank pair.0) pair.1.now) pairs slot v t e)

under_further : (rank : ℕ → ℕ) (x slot : ℕ) (t : Visit) → rank x < rank slot → RanksUnder rank slot t → RanksUnder rank x t
under_further rank x slot (Enter other) less h = tt
under_further rank x slot (Leave other) less h = omega (arith, less, h)

under_entries : (rank : ℕ → ℕ) (x : ℕ) (xs : List ℕ) (visits : List Visit) → AllByRecursion (RanksUnder rank x) visits → AllByRecursion (RanksUnder rank x) (enter_each xs ++ visits)
under_entries rank x [] visits h = h
under_entries rank x (y ∷ xs) visits h = (tt, under_entries rank x xs visits h)

come_down_entries : (rank : ℕ → ℕ) (slot : ℕ) (xs : List ℕ) (visits : List Visit) → AllByRecursion (λ z. rank z < rank slot) xs → AllByRecursion (RanksUnder rank slot) visits → ComeDown rank visits → ComeDown rank (enter_each xs ++ Leave slot ∷ visits)
come_down_entries rank slot [] visits h under down = (under, down)
come_down_entries rank slot (x ∷ xs) visits h under down = (
  under_entries rank x xs (Leave slot ∷ visits)
      (h.0, all_weaker (RanksUnder rank slot) (RanksUnder rank x) visits (λ t k. under_further rank x slot t h.0 k) under),
  come_down_entries rank slot xs visits h.1 under down,
)

leaves-entries : (xs : List ℕ) (visits : List Visit) → leave_slots (enter_each xs ++ visits) ≡ leave_slots visits
leaves-entries [] visits = refl
leaves-entries (x ∷ xs) visits = leaves-entries xs visits

valid_entries : (slots : Slots) (xs : List ℕ) (visits : List Visit) → AllByRecursion (λ z. z < slot_count slots) xs → AllByRecursion (λ t. visit_slot t < slot_count slots) visits → AllByRecursion (λ t. visit_slot t < slot_count slots) (enter_each xs ++ visits)
valid_entries slots [] visits h k = k
valid_entries slots (x ∷ xs) visits h k = (h.0, valid_entries slots xs visits h.1 k)

among_behind : (xs : List ℕ) (visits : List Visit) (z : ℕ) → IsAmong (visit_slots visits) z → IsAmong (visit_slots (enter_each xs ++ visits)) z
among_behind [] visits z h = h
among_behind (x ∷ xs) visits z h = inr (among_behind xs visits z h)

pub open_step : (slots : Slots) (pairs : Pairs) (states : List State) (slot : ℕ) (visits : List Visit) → IsSearching slots pairs states (Enter slot ∷ visits) → slice_get states slot ≡ Some New → IsSearching slots pairs (set states slot Open) (visits_of slots pairs slot ++ Leave slot ∷ visits)
open_step slots pairs states slot visits h is_new =
    let less : slot < length states = slice_get_within states slot New is_new in
    let xs : List ℕ = pile (slots_below slots pairs slot) [] in
    record {
      bindings = h.bindings;
      long = omega (arith, length-set states slot Open, h.long);
      ordered = record {
        rank = h.ordered.rank;
        top = h.ordered.top;
        few = λ z d. h.ordered.few z (done_before_open states slot z less d);
        down = λ z d.
            all_weaker (λ c. IsDone states c × (h.ordered.rank c < h.ordered.rank z)) (λ c. IsDone (set states slot Open) c × (h.ordered.rank c < h.ordered.rank z)) (slots_below slots pairs z)
            (λ c k. (done_stays_at_open states slot is_new c k.0, k.1)) (h.ordered.down z (done_before_open states slot z less d));
      };
      covered =
          covered_entries slots pairs (set states slot Open) [] xs (Leave slot ∷ visits) (
            all_from (λ c. IsDone (set states slot Open) c ⊎ IsAmong (pile xs []) c) (slots_below slots pairs slot)
                (λ c a. inr (among_piled xs [] c (among_piled (slots_below slots pairs slot) [] c a))),
            covered_still slots pairs states (set states slot Open) (slot ∷ []) (slot ∷ pile xs []) visits (done_stays_at_open states slot is_new)
                (λ z a. elim a [ inl e ↦ inr (inl e) | inr n ↦ elim n [ ] ]) h.covered.1,
          );
      come_down = λ rank t.
          let k = h.come_down rank t in
          come_down_entries rank slot xs visits (all_pile (λ z. rank z < rank slot) (slots_below slots pairs slot) [] (below_ranks slots pairs rank slot t) tt) k.0 k.1;
      opened = λ z e.
          subst (λ l. IsAmong l z) (sym (leaves-entries xs (Leave slot ∷ visits)))
          (
          elim (eqb_tells z slot) [
            | inl k ↦ inl (sym k.1)
            | inr k ↦ inr (h.opened z (sym (set_other states slot z Open k.1) ∙ e))
          ]
          );
      valid =
          valid_entries slots xs (Leave slot ∷ visits)
          (all_pile (λ z. z < slot_count slots) (slots_below slots pairs slot) [] (below_valid slots pairs slot h.bindings) tt)
          (h.valid.0, h.valid.1);
    }

-- ---- the outcome of a step
weight_less : (states : List State) (slot : ℕ) (s : State) → slot < length states → state_weight s ≤ state_weight (get_or states slot s) → sum_by state_weight (set states slot s) ≤ sum_by state_weight states
weight_less states slot s less h = let e = sum_by-set state_weight states slot s s less in omega (arith, e, h)

pub left_done : (slots : Slots) (pairs : Pairs) (states : List State) (slot : ℕ) (visits : List Visit) → IsSearching slots pairs states (Leave slot ∷ visits) → HasDone slots pairs states (set states slot Done) (Leave slot ∷ visits) visits true
left_done slots pairs states slot visits h =
    let less : slot < length states = omega (arith, h.valid.0, h.long) in
    let fewer = weight_less states slot Done less (omega arith) in
    record {
      searching = leave_step slots pairs states slot visits h;
      stay = done_stays_at_done states slot less;
      kept = λ z a. elim a [ inl e ↦ inl (subst (IsDone (set states slot Done)) e (set_same states slot Done less)) | inr k ↦ inr k ];
      less = omega (arith, fewer);
    }

pub done_done : (slots : Slots) (pairs : Pairs) (states : List State) (slot : ℕ) (visits : List Visit) → IsSearching slots pairs states (Enter slot ∷ visits) → IsDone states slot → HasDone slots pairs states states (Enter slot ∷ visits) visits true
done_done slots pairs states slot visits h done = record {
  searching = done_step slots pairs states slot visits h done;
  stay = λ z d. d;
  kept = λ z a. elim a [ inl e ↦ inl (subst (IsDone states) e done) | inr k ↦ inr k ];
  less = omega arith;
}

pub circle_done : (slots : Slots) (pairs : Pairs) (states new : List State) (slot : ℕ) (visits new_visits : List Visit) → IsSearching slots pairs states (Enter slot ∷ visits) → slice_get states slot ≡ Some Open → HasDone slots pairs states new (Enter slot ∷ visits) new_visits false
circle_done slots pairs states new slot visits new_visits h is_open rank t = under_itself rank slot visits (h.opened slot is_open) (h.come_down rank t).0

pub open_done :
    (slots : Slots) (pairs : Pairs) (states : List State) (slot : ℕ) (visits new_visits : List Visit)
    → IsSearching slots pairs states (Enter slot ∷ visits)
    → slice_get states slot ≡ Some New
    → new_visits ≡ visits_of slots pairs slot ++ Leave slot ∷ visits
    → length new_visits < 2 ^ 64
    → HasDone slots pairs states (set states slot Open) (Enter slot ∷ visits) new_visits true
open_done slots pairs states slot visits new_visits h is_new e few =
    let less : slot < length states = slice_get_within states slot New is_new in
    let was : get_or states slot Open ≡ New = get_or_from_slice_get states slot New Open is_new in
    let one_less = sum_by-set state_weight states slot Open Open less in
    let weighs : state_weight (get_or states slot Open) ≡ 1 = ap state_weight was in
    let fewer : sum_by state_weight (set states slot Open) + 1 ≡ sum_by state_weight states = omega (arith, one_less, weighs) in
    record {
      searching = subst (IsSearching slots pairs (set states slot Open)) (sym e) (open_step slots pairs states slot visits h is_new);
      stay = done_stays_at_open states slot is_new;
      kept = λ z a. inr (subst (λ l. IsAmong (visit_slots l) z) (sym e) (among_behind (pile (slots_below slots pairs slot) []) (Leave slot ∷ visits) z a));
      less = omega (arith, fewer, few);
    }

-- ---- the whole search
pub record IsSearchUnderway (slots : Slots) (pairs : Pairs) (old states : List State) (old_visits visits : List Visit) : Type 0 where
  pub searching : IsSearching slots pairs states visits
  pub stay : StayDone old states
  pub kept : (slot : ℕ) → IsAmong (visit_slots old_visits) slot → IsDone states slot ⊎ IsAmong (visit_slots visits) slot

pub search_starts : (slots : Slots) (pairs : Pairs) (states : List State) (visits : List Visit) → IsSearching slots pairs states visits → IsSearchUnderway slots pairs states states visits visits
search_starts slots pairs states visits h = record { searching = h; stay = λ z d. d; kept = λ z a. inr a }

pub search_goes_on : (slots : Slots) (pairs : Pairs) (old states new : List State) (old_visits visits new_visits : List Visit) → IsSearchUnderway slots pairs old states old_visits visits → HasMadeVisit slots pairs states new visits new_visits → IsSearchUnderway slots pairs old new old_visits new_visits
search_goes_on slots pairs old states new old_visits visits new_visits h s = record {
  searching = s.searching;
  stay = λ z d. s.stay z (h.stay z d);
  kept = λ z a. elim (h.kept z a) [ inl d ↦ inl (s.stay z d) | inr k ↦ s.kept z k ];
}

pub search_ends : (slots : Slots) (pairs : Pairs) (old states : List State) (old_visits : List Visit) → IsSearchUnderway slots pairs old states old_visits [] → HasSearchedCircle slots pairs old states old_visits true
search_ends slots pairs old states old_visits h = (h.searching, h.stay, λ z a. elim (h.kept z a) [ inl d ↦ d | inr n ↦ elim n [ ] ])

-- ---- the same, where the visit is told by an equation
pub left_told : (slots : Slots) (pairs : Pairs) (states : List State) (slot : ℕ) (visit : Visit) (visits : List Visit) → visit ≡ Leave slot → IsSearching slots pairs states (visit ∷ visits) → HasDone slots pairs states (set states slot Done) (visit ∷ visits) visits true
left_told slots pairs states slot visit visits e h =
    subst (λ t. HasDone slots pairs states (set states slot Done) (t ∷ visits) visits true) (sym e)
    (left_done slots pairs states slot visits (subst (λ t. IsSearching slots pairs states (t ∷ visits)) e h))

pub done_told : (slots : Slots) (pairs : Pairs) (states : List State) (slot : ℕ) (visit : Visit) (visits : List Visit) → visit ≡ Enter slot → IsSearching slots pairs states (visit ∷ visits) → IsDone states slot → HasDone slots pairs states states (visit ∷ visits) visits true
done_told slots pairs states slot visit visits e h done =
    subst (λ t. HasDone slots pairs states states (t ∷ visits) visits true) (sym e)
    (done_done slots pairs states slot visits (subst (λ t. IsSearching slots pairs states (t ∷ visits)) e h) done)

pub circle_told : (slots : Slots) (pairs : Pairs) (states new : List State) (slot : ℕ) (visit : Visit) (visits new_visits : List Visit) → visit ≡ Enter slot → IsSearching slots pairs states (visit ∷ visits) → slice_get states slot ≡ Some Open → HasDone slots pairs states new (visit ∷ visits) new_visits false
circle_told slots pairs states new slot visit visits new_visits e h is_open =
    circle_done slots pairs states new slot visits new_visits (subst (λ t. IsSearching slots pairs states (t ∷ visits)) e h) is_open

pub open_told :
    (slots : Slots) (pairs : Pairs) (states : List State) (slot : ℕ) (visit : Visit) (visits new_visits : List Visit)
    → visit ≡ Enter slot
    → IsSearching slots pairs states (visit ∷ visits)
    → slice_get states slot ≡ Some New
    → new_visits ≡ visits_of slots pairs slot ++ Leave slot ∷ visits
    → length new_visits < 2 ^ 64
    → HasDone slots pairs states (set states slot Open) (visit ∷ visits) new_visits true
open_told slots pairs states slot visit visits new_visits e h is_new is few =
    subst (λ t. HasDone slots pairs states (set states slot Open) (t ∷ visits) new_visits true) (sym e)
    (open_done slots pairs states slot visits new_visits (subst (λ t. IsSearching slots pairs states (t ∷ visits)) e h) is_new is few)
