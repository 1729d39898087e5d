-- The table of places beside the indicators that were opened.
use Rattle.std.proofs.Common.{◌≡◌, ℕ, suc, zero, ◌+◌, ◌<◌, inl, inr, Bool, true, false, cond, ◌==◌, List, [], ◌∷◌, ◌++◌, length, take, get_or, refl, sym, ◌∙◌, ap, subst, arith, Some, add-zero}
use Rattle.std.specs.Prelude.{slice_get, slice_set}
use Rattle.std.specs.Prelude.{option_map}
use Rattle.std.proofs.lemmas.Option.{slice_get_within, get_or_from_slice_get, slice_get-map}
use Rattle.si_defs.proofs.ListLaws.{set_same, set_other, get_front, get_among}
use Rattle.si_flat.proofs.RowLaws.{distinct_append}
use Rattle.std.proofs.lemmas.List.{map-append}
use Rattle.std.proofs.lemmas.Bool.Decides.{eqb_tells}
use Rattle.std.proofs.lemmas.Bool.{eq-eqb}
use Rattle.si_defs.specs.Substitutions.{IsAmong, AreDistinct}
use Rattle.si_insert.specs.declared.open.Opened.{Opened}
use Rattle.si_insert.specs.Opened.{numbers, AreListedFrom, with_bound}

-- ---- a number is found
pub record IsFound (places : List ℕ) (k : ℕ) (all : List Opened) (n : ℕ) : Type 0 where
  pub number : ℕ
  pub opened : Opened
  pub place : ℕ
  pub leads : slice_get places n ≡ Some place
  pub counted : place ≡ k + number
  pub item : slice_get all number ≡ Some opened
  pub indicator : opened.indicator ≡ n
  pub among : IsAmong all opened

pub found : (places : List ℕ) (k : ℕ) (all : List Opened) (n : ℕ) → AreListedFrom places k all → IsAmong (numbers all) n → IsFound places k all n
found places k [] n h among = absurd among
found places k (o ∷ os) n h (inl e) = record {
  number = 0;
  opened = o;
  place = k;
  leads = ap (λ m. slice_get places m) (sym e) ∙ h.0;
  counted = sym (add-zero k);
  item = refl;
  indicator = e;
  among = inl refl;
}
found places k (o ∷ os) n h (inr later) =
    let f = found places (suc k) os n h.1 later in
    record {
      number = suc f.number;
      opened = f.opened;
      place = f.place;
      leads = f.leads;
      counted = f.counted ∙ omega arith;
      item = f.item;
      indicator = f.indicator;
      among = inr f.among;
    }

-- ---- the list grows and shrinks
pub at_grown : (places more : List ℕ) (k : ℕ) (all : List Opened) → AreListedFrom places k all → AreListedFrom (places ++ more) k all
at_grown places more k [] h = tt
at_grown places more k (o ∷ os) h = (get_front places more o.indicator k h.0, at_grown places more (suc k) os h.1)

pub at_pushed : (places : List ℕ) (k at : ℕ) (all : List Opened) (o : Opened) → AreListedFrom places k all → (IsAmong (numbers all) o.indicator → ⊥) → o.indicator < length places → at ≡ k + length all → AreListedFrom (slice_set places o.indicator at) k (all ++ o ∷ [])
at_pushed places k at [] o h new less e = (set_same places o.indicator at less ∙ ap (λ m. Some m) (e ∙ add-zero k), tt)
at_pushed places k at (p ∷ ps) o h new less e = (
  set_other places o.indicator p.indicator at (λ same. new (inl same)) ∙ h.0,
  at_pushed places (suc k) at ps o h.1 (λ among. new (inr among)) less (e ∙ omega arith),
)

pub at_taken : (places : List ℕ) (k m : ℕ) (all : List Opened) → AreListedFrom places k all → AreListedFrom places k (take m all)
at_taken places k zero all h = tt
at_taken places k (suc m) [] h = tt
at_taken places k (suc m) (o ∷ os) h = (h.0, at_taken places (suc k) m os h.1)

pub numbers-pushed : (all : List Opened) (o : Opened) → numbers (all ++ o ∷ []) ≡ numbers all ++ o.indicator ∷ []
numbers-pushed all o = map-append (λ p. p.indicator) all (o ∷ [])

pub distinct_pushed : (all : List Opened) (o : Opened) → AreDistinct (numbers all) → (IsAmong (numbers all) o.indicator → ⊥) → AreDistinct (numbers (all ++ o ∷ []))
distinct_pushed all o h new =
    subst AreDistinct (sym (numbers-pushed all o)) (distinct_append (numbers all) (o.indicator ∷ []) h (λ among. among, tt) (λ n among one. elim one [ inl e ↦ new (subst (IsAmong (numbers all)) (sym e) among) | inr none ↦ none ]))

pub distinct_taken : (m : ℕ) (all : List Opened) → AreDistinct (numbers all) → AreDistinct (numbers (take m all))
distinct_taken zero all h = tt
distinct_taken (suc m) [] h = tt
distinct_taken (suc m) (o ∷ os) h = (λ among. h.0 (fewer m os o.indicator among), distinct_taken m os h.1) where
  fewer : (k : ℕ) (ps : List Opened) (n : ℕ) → IsAmong (numbers (take k ps)) n → IsAmong (numbers ps) n
  fewer zero ps n among = absurd among
  fewer (suc k) [] n among = among
  fewer (suc k) (p ∷ ps) n (inl e) = inl e
  fewer (suc k) (p ∷ ps) n (inr later) = inr (fewer k ps n later)

-- ---- an indicator is bound
pub numbers-bound : (n : ℕ) (all : List Opened) → numbers (with_bound n all) ≡ numbers all
numbers-bound n [] = refl
numbers-bound n (o ∷ os) = λ i. same (o.indicator == n) i ∷ numbers-bound n os i where
  same : (b : Bool) → (cond b (record o { bound = true }) o).indicator ≡ o.indicator
  same true = refl
  same false = refl

pub at_bound : (places : List ℕ) (k n : ℕ) (all : List Opened) → AreListedFrom places k all → AreListedFrom places k (with_bound n all)
at_bound places k n [] h = tt
at_bound places k n (o ∷ os) h = (same (o.indicator == n) h.0, at_bound places (suc k) n os h.1) where
  same : (b : Bool) → slice_get places o.indicator ≡ Some k → slice_get places (cond b (record o { bound = true }) o).indicator ≡ Some k
  same true e = e
  same false e = e

others_stay : (n : ℕ) (all : List Opened) → (IsAmong (numbers all) n → ⊥) → with_bound n all ≡ all
others_stay n [] new = refl
others_stay n (o ∷ os) new =
    let differs : (o.indicator == n) ≡ false = elim (eqb_tells o.indicator n) [ inl e ↦ absurd (new (inl e.1)) | inr e ↦ e.0 ] in
    (λ i. cond (differs i) (record o { bound = true }) o ∷ others_stay n os (λ among. new (inr among)) i)

-- the one is written at its place
pub bound_there : (n i : ℕ) (all : List Opened) (o : Opened) → AreDistinct (numbers all) → slice_get all i ≡ Some o → o.indicator ≡ n → slice_set all i (record o { bound = true }) ≡ with_bound n all
bound_there n i [] o distinct item is = cc
bound_there n zero (p ∷ ps) o distinct item is =
    let same : p ≡ o = cc in
    let told : (p.indicator == n) ≡ true = eq-eqb p.indicator n (ap (λ q. q.indicator) same ∙ is) in
    λ j. cond (sym told j) (record (sym same j) { bound = true }) p ∷ sym (others_stay n ps (λ among. distinct.0 (subst (IsAmong (numbers ps)) (sym is ∙ sym (ap (λ q. q.indicator) same)) among))) j
bound_there n (suc i) (p ∷ ps) o distinct item is =
    let later : IsAmong (numbers ps) n = subst (IsAmong (numbers ps)) is (get_among (numbers ps) i o.indicator (slice_get-map (λ q. q.indicator) ps i ∙ ap (option_map (λ q. q.indicator)) item)) in
    let told : (p.indicator == n) ≡ false = elim (eqb_tells p.indicator n) [ inl e ↦ absurd (distinct.0 (subst (IsAmong (numbers ps)) (sym e.1) later)) | inr e ↦ e.0 ] in
    λ j. cond (sym told j) (record p { bound = true }) p ∷ bound_there n i ps o distinct.1 item is j where
      among_numbers : (os : List Opened) (k : ℕ) (q : Opened) → slice_get os k ≡ Some q → IsAmong (numbers os) q.indicator
      among_numbers [] k q e = cc
      among_numbers (r ∷ os) zero q e = inl (ap (λ s. s.indicator) (by e)) where
        by : Some r ≡ Some q → r ≡ q
        by e = cc
      among_numbers (r ∷ os) (suc k) q e = inr (among_numbers os k q e)

-- ---- read by an index
pub read : {X : Type 0} → (xs : List X) (i : ℕ) (x k : X) → x ≡ get_or xs i x → slice_get xs i ≡ Some k → x ≡ k
read xs i x k e item = e ∙ get_or_from_slice_get xs i k x item

pub found_in : (places : List ℕ) (opened now : List Opened) (n : ℕ) → AreListedFrom places 0 opened → opened ≡ now → IsAmong (numbers now) n → IsFound places 0 opened n
found_in places opened now n h e among = found places 0 opened n h (subst (λ l. IsAmong (numbers l) n) (sym e) among)

-- what the table leads to is the number in the list
pub number_read : (places : List ℕ) (opened : List Opened) (n x : ℕ) → (f : IsFound places 0 opened n) → x ≡ get_or places n x → x ≡ f.number
number_read places opened n x f e = read places n x f.place e f.leads ∙ f.counted ∙ omega arith

pub number_within : (places : List ℕ) (opened : List Opened) (n x : ℕ) → (f : IsFound places 0 opened n) → x ≡ get_or places n x → x < length opened
number_within places opened n x f e = omega (arith, slice_get_within opened f.number f.opened f.item, number_read places opened n x f e)
