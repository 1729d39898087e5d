-- States of slots, and the slots whose state has changed.
use Rattle.std.proofs.Common.{◌≡◌, ◌≢◌, ℕ, ◌<◌, ◌≤◌, inl, inr, List, [], ◌∷◌, ◌++◌, length, length-append, get_or, replicate, refl, sym, ◌∙◌, ap, subst, arith, suc, zero, Some}
use Rattle.std.proofs.Math.ListN.{set}
use Rattle.std.proofs.lemmas.List.{length-set}
use Rattle.std.proofs.lemmas.Bool.Decides.{eqb_tells}
use Rattle.std.proofs.lemmas.Option.{get_or_from_slice_get}
use Rattle.std.proofs.lemmas.List.Sums.{sum_by-cons, sum_by-set, get_or-le-sum_by}
use Rattle.std.specs.Prelude.{sum_by, slice_get, Bool, true, false, if◌then◌else◌, take}
use Rattle.std.specs.List.{AllByRecursion}
use Rattle.si_defs.specs.Substitutions.{IsAmong}
use Rattle.si_defs.proofs.ListLaws.{all_weaker, all_take, all_append, all_front, all_back, among_front, among_either, set_same, set_other, among_back}
use Rattle.si_unify.specs.declared.states.State.{State}
use Rattle.si_unify.specs.declared.states.State.TheVariants.{New, Open, Done}
use Rattle.si_unify.specs.States.{state_weight, AreMet, AreNew, HasRoomForSlots}

pub new_at : (states : List State) (slot : ℕ) (s : State) → AreNew states → slice_get states slot ≡ Some s → s ≡ New
new_at [] slot s h e = cc
new_at (x ∷ states) zero s h e = let same : x ≡ s = cc in sym same ∙ h.0
new_at (x ∷ states) (suc n) s h e = new_at states n s h.1 e

all_new : (n : ℕ) → AreNew (replicate n New)
all_new zero = tt
all_new (suc n) = (refl, all_new n)

get_new : (states : List State) (slot : ℕ) → AreNew states → slot < length states → slice_get states slot ≡ Some New
get_new [] slot h less = absurd (omega arith)
get_new (x ∷ states) zero h less = ap Some h.0
get_new (x ∷ states) (suc slot) h less = get_new states slot h.1 (omega arith)

all_new_by : (states : List State) → ((slot : ℕ) → slot < length states → slice_get states slot ≡ Some New) → AreNew states
all_new_by [] give = tt
all_new_by (x ∷ states) give =
    let first : x ≡ New = let e = give 0 (omega arith) in cc in
    (first, all_new_by states (λ slot less. give (suc slot) (omega (arith, less))))

-- ---- rows of slots
still_inside : (states : List State) (met : List ℕ) (slot : ℕ) (s : State) → AllByRecursion (λ z. z < length states) met → AllByRecursion (λ z. z < length (set states slot s)) met
still_inside states met slot s h =
    all_weaker (λ z. z < length states) (λ z. z < length (set states slot s)) met (λ z less. omega (arith, less, length-set states slot s)) h

-- ---- the slots that were met
-- a slot that isn't new may get any state
met_changed : (states : List State) (met : List ℕ) (slot : ℕ) (s : State) → AreMet states met → slot < length states → IsAmong met slot → AreMet (set states slot s) met
met_changed states met slot s h less among = record {
  inside = still_inside states met slot s h.inside;
  others = λ z z_less.
      elim (eqb_tells z slot) [
        | inl k ↦ inr (subst (IsAmong met) (sym k.1) among)
        | inr k ↦
            elim (h.others z (omega (arith, z_less, length-set states slot s))) [
              | inl e ↦ inl (set_other states slot z s k.1 ∙ e)
              | inr a ↦ inr a
            ]
      ];
}

met_pushed : (states : List State) (met : List ℕ) (slot : ℕ) → AreMet states met → slot < length states → AreMet states (met ++ slot ∷ [])
met_pushed states met slot h less = record {
  inside = all_append (λ z. z < length states) met (slot ∷ []) h.inside (less, tt);
  others = λ z z_less. elim (h.others z z_less) [ inl e ↦ inl e | inr a ↦ inr (among_front met (slot ∷ []) z a) ];
}

pub met_popped : (states : List State) (met front : List ℕ) (slot : ℕ) → met ≡ front ++ slot ∷ [] → AreMet states met → AreMet (set states slot New) front
met_popped states met front slot e h =
    let inside : AllByRecursion (λ z. z < length states) (front ++ slot ∷ []) = subst (AllByRecursion (λ z. z < length states)) e h.inside in
    let less : slot < length states = (all_back (λ z. z < length states) front (slot ∷ []) inside).0 in
    record {
      inside = still_inside states front slot New (all_front (λ z. z < length states) front (slot ∷ []) inside);
      others = λ z z_less.
          elim (eqb_tells z slot) [
            | inl k ↦ inl (subst (λ y. slice_get (set states slot New) y ≡ Some New) (sym k.1) (set_same states slot New less))
            | inr k ↦
                elim (h.others z (omega (arith, z_less, length-set states slot New))) [
                  | inl new ↦ inl (set_other states slot z New k.1 ∙ new)
                  | inr a ↦
                      elim (among_either front slot z (subst (λ l. IsAmong l z) e a)) [
                        | inl f ↦ inr f
                        | inr same ↦ absurd (k.1 (sym same))
                      ]
                ]
          ];
    }

pub popped_inside : (states : List State) (met front : List ℕ) (slot : ℕ) → met ≡ front ++ slot ∷ [] → AreMet states met → slot < length states
popped_inside states met front slot e h =
    (all_back (λ z. z < length states) front (slot ∷ []) (subst (AllByRecursion (λ z. z < length states)) e h.inside)).0

pub none_met : (states : List State) (met : List ℕ) → length met ≡ 0 → AreMet states met → AreNew states
none_met states [] e h = all_new_by states (λ z less. elim (h.others z less) [ inl new ↦ new | inr a ↦ elim a [ ] ])
none_met states (z ∷ met) e h = absurd (omega (arith, e))

-- a slot whose state was new has been noted
pub new_changed :
    (states now : List State) (met now_met : List ℕ) (slot : ℕ) (s : State)
    → now ≡ states
    → now_met ≡ met ++ slot ∷ []
    → AreMet states met
    → slot < length states
    → AreMet (set now slot s) now_met
new_changed states now met now_met slot s e f h less =
    subst (λ l. AreMet (set l slot s) now_met) (sym e)
    (subst (AreMet (set states slot s)) (sym f) (met_changed states (met ++ slot ∷ []) slot s (met_pushed states met slot h less) less (among_back met (slot ∷ []) slot (inl refl))))

-- one whose state was another had been noted before
pub other_changed :
    (states now : List State) (met now_met : List ℕ) (slot : ℕ) (s d : State)
    → now ≡ states
    → now_met ≡ met
    → AreMet states met
    → slot < length states
    → (d ≡ New → ⊥)
    → d ≡ get_or states slot d
    → AreMet (set now slot s) now_met
other_changed states now met now_met slot s d e f h less differs told =
    let among : IsAmong met slot =
    elim (h.others slot less) [
      | inl new ↦ absurd (differs (told ∙ get_or_from_slice_get states slot New d new))
      | inr a ↦ a
    ] in
    subst (λ l. AreMet (set l slot s) now_met) (sym e) (subst (AreMet (set states slot s)) (sym f) (met_changed states met slot s h less among))

-- ---- the room for slots that are met
weighs_little : (s : State) → state_weight s ≤ 1
weighs_little New = omega arith
weighs_little Open = omega arith
weighs_little Done = omega arith

weighs_nothing : (s : State) → s ≢ New → state_weight s ≡ 0
weighs_nothing New differs = absurd (differs refl)
weighs_nothing Open differs = refl
weighs_nothing Done differs = refl

few_new : (states : List State) → sum_by state_weight states ≤ length states
few_new [] = omega arith
few_new (s ∷ states) = omega (arith, weighs_little s, sum_by-cons state_weight s states, few_new states)

all_weigh : (states : List State) → AreNew states → sum_by state_weight states ≡ length states
all_weigh [] h = refl
all_weigh (s ∷ states) h = omega (arith, ap state_weight h.0, sum_by-cons state_weight s states, all_weigh states h.1)

-- where all are new, none has been met
pub none_noted : (states : List State) (met : List ℕ) (capacity : ℕ) → AreNew states → HasRoomForSlots states met capacity → length met ≡ 0
none_noted states met capacity new h = omega (arith, all_weigh states new, h.few)

pub room_at_first : (states : List State) (met : List ℕ) (capacity : ℕ) → length met ≡ 0 → length states ≤ capacity → HasRoomForSlots states met capacity
room_at_first states met capacity none fits = record { few = omega (arith, none, few_new states); fits = fits }

-- a new slot finds room
pub room_for_one : (states : List State) (met : List ℕ) (capacity slot : ℕ) (d : State) → HasRoomForSlots states met capacity → slot < length states → d ≡ New → d ≡ get_or states slot d → length met < capacity
room_for_one states met capacity slot d h less is_new told =
    omega (arith, h.few, h.fits, get_or-le-sum_by state_weight states slot d less, ap state_weight is_new, ap state_weight told)

pub room_after_one :
    (states now : List State) (met now_met : List ℕ) (capacity slot : ℕ) (s d : State)
    → now ≡ states
    → now_met ≡ met ++ slot ∷ []
    → HasRoomForSlots states met capacity
    → slot < length states
    → d ≡ New
    → d ≡ get_or states slot d
    → s ≢ New
    → HasRoomForSlots (set now slot s) now_met capacity
room_after_one states now met now_met capacity slot s d e f h less is_new told differs =
    subst (λ l. HasRoomForSlots (set l slot s) now_met capacity) (sym e)
    (
    record {
      few =
          omega (arith, h.few, sum_by-set state_weight states slot s d less, ap state_weight is_new, ap state_weight told, weighs_nothing s differs, length-set states slot s, ap length f, length-append met (slot ∷ []));
      fits = omega (arith, h.fits, length-set states slot s);
    }
    )

pub room_as_before :
    (states now : List State) (met now_met : List ℕ) (capacity slot : ℕ) (s : State)
    → now ≡ states
    → now_met ≡ met
    → HasRoomForSlots states met capacity
    → slot < length states
    → s ≢ New
    → HasRoomForSlots (set now slot s) now_met capacity
room_as_before states now met now_met capacity slot s e f h less differs =
    subst (λ l. HasRoomForSlots (set l slot s) now_met capacity) (sym e)
    (
    record {
      few = omega (arith, h.few, sum_by-set state_weight states slot s s less, weighs_nothing s differs, length-set states slot s, ap length f);
      fits = omega (arith, h.fits, length-set states slot s);
    }
    )

pub room_after_pop : (states : List State) (met front : List ℕ) (capacity slot : ℕ) → met ≡ front ++ slot ∷ [] → HasRoomForSlots states met capacity → slot < length states → HasRoomForSlots (set states slot New) front capacity
room_after_pop states met front capacity slot e h less = record {
  few = omega (arith, h.few, sum_by-set state_weight states slot New New less, weighs_little (get_or states slot New), length-set states slot New, ap length e, length-append front (slot ∷ []));
  fits = omega (arith, h.fits, length-set states slot New);
}

-- ---- making room
pub new_still : (b : Bool) (n k : ℕ) (old new : List State) → AreNew old → new ≡ (if b then take n old ++ replicate k New else old) → AreNew new
new_still true n k old new h e = subst AreNew (sym e) (all_append (λ s. s ≡ New) (take n old) (replicate k New) (all_take (λ s. s ≡ New) n old h) (all_new k))
new_still false n k old new h e = subst AreNew (sym e) h

pub met_none : (states : List State) (met : List ℕ) → AreNew states → length met ≡ 0 → AreMet states met
met_none states [] new e = record { inside = tt; others = λ z less. inl (get_new states z new less) }
met_none states (z ∷ met) new e = absurd (omega (arith, e))

pub fits_still : (b : Bool) (len old_len count capacity : ℕ) → len ≡ (if b then count else old_len) → count ≤ capacity → old_len ≤ capacity → len ≤ capacity
fits_still true len old_len count capacity e h k = omega (arith, e, h)
fits_still false len old_len count capacity e h k = omega (arith, e, k)
