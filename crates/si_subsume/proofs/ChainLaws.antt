-- Chains of literals with one label: built from the last one on, and walked from the first.
use Rattle.std.proofs.Common.{◌≡◌, ℕ, zero, suc, ◌+◌, ◌-◌, ◌<◌, ◌≤◌, ◌==◌, Bool, true, false, cond, List, [], ◌∷◌, ◌++◌, length, get_or, drop, reverse, replicate, slice_set, refl, ap, sym, ◌∙◌, subst, arith, drop-cons, append_assoc, append-nil, length-drop, drop-drop, take, take-suc, take_all, lt_of_not-le}
use Rattle.std.proofs.Math.ListN.{drop_of_length-le}
use Rattle.std.proofs.lemmas.List.{reverse-append, append_cancel_right}
use Rattle.std.proofs.lemmas.Bool.{eqb-true, eq-eqb}
use Rattle.si_subsume.specs.Parts.{select, parts_from, first_same, nexts_same, AreChained}

-- ---- built from the last one on
pub record IsChaining (first next labels : List ℕ) (behind : ℕ) : Type 0 where
  pub size : length first ≡ length labels
  pub firsts_are : (q : ℕ) → q < length labels → get_or first q 0 ≡ first_same (length labels) (length labels - behind) (drop (length labels - behind) labels) q
  pub nexts_are : reverse next ≡ nexts_same (length labels) (length labels - behind) (drop (length labels - behind) labels)

replicated : (n x q : ℕ) → q < n → get_or (replicate n x) q 0 ≡ x
replicated zero x q h = absurd (omega (arith, h))
replicated (suc n) x zero h = refl
replicated (suc n) x (suc q) h = replicated n x q (omega (arith, h))

replicate_size : (n x : ℕ) → length (replicate n x) ≡ n
replicate_size zero x = refl
replicate_size (suc n) x = ap suc (replicate_size n x)

pub chaining_start : (first next labels : List ℕ) → first ≡ replicate (length labels) (length labels) → next ≡ [] → IsChaining first next labels 0
chaining_start first next labels filled none = record {
  size = ap length filled ∙ replicate_size (length labels) (length labels);
  firsts_are = λ q h.
      ap (λ l. get_or l q 0) filled ∙ replicated (length labels) (length labels) q h
      ∙ sym (ap (λ ls. first_same (length labels) (length labels - 0) ls q) (drop_of_length-le labels (omega arith)));
  nexts_are = ap reverse none ∙ sym (ap (nexts_same (length labels) (length labels - 0)) (drop_of_length-le labels (omega arith)));
}

-- a place that was written
pub written_here : {A : Type 0} (xs : List A) (at : ℕ) (v e : A) → at < length xs → get_or (slice_set xs at v) at e ≡ v
written_here [] at v e h = absurd (omega (arith, h))
written_here (x ∷ xs) zero v e h = refl
written_here (x ∷ xs) (suc at) v e h = written_here xs at v e (omega (arith, h))

pub written_else : {A : Type 0} (xs : List A) (at q : ℕ) (v e : A) → (at ≡ q → ⊥) → get_or (slice_set xs at v) q e ≡ get_or xs q e
written_else [] at q v e apart = refl
written_else (x ∷ xs) zero zero v e apart = absurd (apart refl)
written_else (x ∷ xs) zero (suc q) v e apart = refl
written_else (x ∷ xs) (suc at) zero v e apart = refl
written_else (x ∷ xs) (suc at) (suc q) v e apart = written_else xs at q v e (λ same. apart (ap suc same))

written : (xs : List ℕ) (at v q : ℕ) → at < length xs → get_or (slice_set xs at v) q 0 ≡ cond (at == q) v (get_or xs q 0)
written xs at v q h = by (at == q) refl
  where
    by : (b : Bool) → (at == q) ≡ b → get_or (slice_set xs at v) q 0 ≡ cond b v (get_or xs q 0)
    by true e = sym (ap (λ k. get_or (slice_set xs at v) k 0) (eqb-true at q e)) ∙ written_here xs at v 0 h
    by false e = written_else xs at q v 0 (λ same. let bad : true ≡ false = sym (eq-eqb at q same) ∙ e in cc)

set_size : (xs : List ℕ) (at v : ℕ) → length (slice_set xs at v) ≡ length xs
set_size [] at v = refl
set_size (x ∷ xs) zero v = refl
set_size (x ∷ xs) (suc at) v = ap suc (set_size xs at v)

pub chaining_more : (first new next after labels : List ℕ) (behind number : ℕ) → IsChaining first next labels behind → behind < length labels → number ≡ length labels - 1 - behind
    → get_or labels number 0 < length labels → new ≡ slice_set first (get_or labels number 0) number → after ≡ next ++ get_or first (get_or labels number 0) 0 ∷ []
    → IsChaining new after labels (behind + 1)
chaining_more first new next after labels behind number h less number_is below set pushed =
    let end = length labels in
    let label = get_or labels number 0 in
    let start : end - (behind + 1) ≡ number = omega (arith, number_is) in
    let above : suc number ≡ end - behind = omega (arith, number_is, less) in
    let split : drop number labels ≡ label ∷ drop (end - behind) labels =
    drop-cons labels number 0 (omega (arith, number_is, less)) ∙ ap (λ k. label ∷ drop k labels) above in
    record {
      size = ap length set ∙ set_size first label number ∙ h.size;
      firsts_are = λ q within.
          ap (λ l. get_or l q 0) set
          ∙ written first label number q (omega (arith, below, h.size))
          ∙ (λ i. cond (label == q) number (h.firsts_are q within i))
          ∙ ap (λ k. cond (label == q) number (first_same end k (drop (end - behind) labels) q)) (sym above)
          ∙ sym (λ i. first_same end (start i) (whole split start i) q);
      nexts_are =
          ap reverse pushed
          ∙ reverse-append next (get_or first label 0 ∷ [])
          ∙ (λ i. get_or first label 0 ∷ h.nexts_are i)
          ∙ (λ i. h.firsts_are label below i ∷ nexts_same end (end - behind) (drop (end - behind) labels))
          ∙ ap (λ k. first_same end k (drop (end - behind) labels) label ∷ nexts_same end k (drop (end - behind) labels)) (sym above)
          ∙ sym (λ i. nexts_same end (start i) (whole split start i));
    }
  where
    whole : drop number labels ≡ get_or labels number 0 ∷ drop (length labels - behind) labels → length labels - (behind + 1) ≡ number → drop (length labels - (behind + 1)) labels ≡ get_or labels number 0 ∷ drop (length labels - behind) labels
    whole split start = ap (λ k. drop k labels) start ∙ split

pub chained : (first next labels : List ℕ) → IsChaining first next labels (length labels) → AreChained first (reverse next) labels
chained first next labels h =
    let start : length labels - length labels ≡ 0 = omega arith in
    record {
      size = h.size;
      firsts_are = λ q within. h.firsts_are q within ∙ (λ i. first_same (length labels) (start i) (drop (start i) labels) q);
      nexts_are = h.nexts_are ∙ (λ i. nexts_same (length labels) (start i) (drop (start i) labels));
    }

-- ---- walked from the first
nexts_at : (end k : ℕ) (ls : List ℕ) (i : ℕ) → i < length ls → get_or (nexts_same end k ls) i 0 ≡ first_same end (suc (k + i)) (drop (suc i) ls) (get_or ls i 0)
nexts_at end k [] i within = absurd (omega (arith, within))
nexts_at end k (l ∷ ls) zero within = ap (λ n. first_same end (suc n) ls l) (omega arith)
nexts_at end k (l ∷ ls) (suc i) within =
    nexts_at end (suc k) ls i (omega (arith, within)) ∙ ap (λ n. first_same end (suc n) (drop (suc i) ls) (get_or ls i 0)) (omega arith)

module _ {A : Type 0} (e : A) where
  -- by the lists from a place on
  abbrev FoundIn : (ls : List ℕ) (q k at : ℕ) (xs : List A) → Type 0
  FoundIn ls q k at xs =
      (k ≤ at) × (get_or ls (at - k) 0 ≡ q)
      × (select ls q xs ≡ get_or xs (at - k) e ∷ select (drop (suc at - k) ls) q (drop (suc at - k) xs))

  found_in : (end k : ℕ) (ls : List ℕ) (xs : List A) (q : ℕ) → k + length ls ≡ end → length xs ≡ length ls → first_same end k ls q < end → FoundIn ls q k (first_same end k ls q) xs
  found_in end k [] xs q whole size within = absurd (omega (arith, within))
  found_in end k (l ∷ ls) [] q whole size within = absurd (omega (arith, size))
  found_in end k (l ∷ ls) (x ∷ xs) q whole size within = by (l == q) refl within (found_in end (suc k) ls xs q (omega (arith, whole)) (omega (arith, size)))
    where
      here : (at : ℕ) → at ≡ k → l ≡ q → FoundIn (l ∷ ls) q k at (x ∷ xs)
      here at same own =
          let zeroed : at - k ≡ 0 = omega (arith, same) in
          let one : suc at - k ≡ suc 0 = omega (arith, same) in
          let mine : cond (l == q) (x ∷ select ls q xs) (select ls q xs) ≡ x ∷ select ls q xs = ap (λ (b : Bool). cond b (x ∷ select ls q xs) (select ls q xs)) (eq-eqb l q own) in (
            omega (arith, same),
            ap (λ n. get_or (l ∷ ls) n 0) zeroed ∙ own,
            mine ∙ sym ((λ i. get_or (x ∷ xs) (zeroed i) e ∷ select (drop (one i) (l ∷ ls)) q (drop (one i) (x ∷ xs)))),
          )

      later : (at : ℕ) → (l == q) ≡ false → FoundIn ls q (suc k) at xs → FoundIn (l ∷ ls) q k at (x ∷ xs)
      later at other h =
          let less : at - k ≡ suc (at - suc k) = omega (arith, h.0) in
          let more : suc at - k ≡ suc (suc at - suc k) = omega (arith, h.0) in (
            omega (arith, h.0),
            ap (λ n. get_or (l ∷ ls) n 0) less ∙ h.1,
            ap (λ (b : Bool). cond b (x ∷ select ls q xs) (select ls q xs)) other ∙ h.2 ∙ sym ((λ i. get_or (x ∷ xs) (less i) e ∷ select (drop (more i) (l ∷ ls)) q (drop (more i) (x ∷ xs)))),
          )

      by : (b : Bool) → (l == q) ≡ b → cond (l == q) k (first_same end (suc k) ls q) < end → (first_same end (suc k) ls q < end → FoundIn ls q (suc k) (first_same end (suc k) ls q) xs)
          → FoundIn (l ∷ ls) q k (cond (l == q) k (first_same end (suc k) ls q)) (x ∷ xs)
      by true is less rest = here (cond (l == q) k (first_same end (suc k) ls q)) (ap (λ (b : Bool). cond b k (first_same end (suc k) ls q)) is) (eqb-true l q is)
      by false is less rest =
          let at : cond (l == q) k (first_same end (suc k) ls q) ≡ first_same end (suc k) ls q = ap (λ (b : Bool). cond b k (first_same end (suc k) ls q)) is in
          later (cond (l == q) k (first_same end (suc k) ls q)) is (subst (λ n. FoundIn ls q (suc k) n xs) (sym at) (rest (subst (λ n. n < end) at less)))

-- none is left
none_in_any : {A : Type 0} (end k : ℕ) (ls : List ℕ) (xs : List A) (q : ℕ) → k + length ls ≡ end → end ≤ first_same end k ls q → select ls q xs ≡ []
none_in_any end k [] xs q whole at_end = refl
none_in_any end k (l ∷ ls) [] q whole at_end = refl
none_in_any end k (l ∷ ls) (x ∷ xs) q whole at_end = by (l == q) refl at_end (none_in_any end (suc k) ls xs q (omega (arith, whole)))
  where
    by : (b : Bool) → (l == q) ≡ b → end ≤ cond (l == q) k (first_same end (suc k) ls q) → (end ≤ first_same end (suc k) ls q → select ls q xs ≡ []) → cond (l == q) (x ∷ select ls q xs) (select ls q xs) ≡ []
    by true is on rest = absurd (omega (arith, whole, subst (λ n. end ≤ n) (ap (λ (b : Bool). cond b k (first_same end (suc k) ls q)) is) on))
    by false is on rest = ap (λ (b : Bool). cond b (x ∷ select ls q xs) (select ls q xs)) is ∙ rest (subst (λ n. end ≤ n) (ap (λ (b : Bool). cond b k (first_same end (suc k) ls q)) is) on)

-- ---- the walk
next_size : (end k : ℕ) (ls : List ℕ) → length (nexts_same end k ls) ≡ length ls
next_size end k [] = refl
next_size end k (l ∷ ls) = ap suc (next_size end (suc k) ls)

pub next_length : (first next labels : List ℕ) → AreChained first next labels → length next ≡ length labels
next_length first next labels h = ap length h.nexts_are ∙ next_size (length labels) 0 labels

first_later : (end k : ℕ) (ls : List ℕ) (q : ℕ) → k + length ls ≡ end → k ≤ first_same end k ls q
first_later end k [] q whole = omega (arith, whole)
first_later end k (l ∷ ls) q whole = by (l == q) (first_later end (suc k) ls q (omega (arith, whole)))
  where
    by : (b : Bool) → suc k ≤ first_same end (suc k) ls q → k ≤ cond b k (first_same end (suc k) ls q)
    by true rest = omega arith
    by false rest = omega (arith, rest)

get_dropped : {B : Type 0} (ys : List B) (n i : ℕ) (e : B) → n ≤ i → get_or (drop n ys) (i - n) e ≡ get_or ys i e
get_dropped ys zero i e h = ap (λ k. get_or ys k e) (omega arith)
get_dropped [] (suc n) i e h = refl
get_dropped (y ∷ ys) (suc n) zero e h = absurd (omega (arith, h))
get_dropped (y ∷ ys) (suc n) (suc i) e h = ap (λ k. get_or (drop n ys) k e) (omega arith) ∙ get_dropped ys n i e (omega (arith, h))

drop_on : {B : Type 0} (ys : List B) (n i : ℕ) → n ≤ i → drop (i - n) (drop n ys) ≡ drop i ys
drop_on ys n i h = drop-drop (i - n) n ys ∙ ap (λ k. drop k ys) (omega (arith, h))

-- Of the items with the label some were passed. The next one stands at the place, if it is none of
-- the end.
pub record IsWalking {A : Type 0} (labels : List ℕ) (q : ℕ) (xs whole so_far : List A) (at : ℕ) : Type 0 where
  pub from : ℕ
  pub within : from ≤ length labels
  pub place : at ≡ first_same (length labels) from (drop from labels) q
  pub left : whole ≡ so_far ++ select (drop from labels) q (drop from xs)

module _ {A : Type 0} (first next labels : List ℕ) (chained : AreChained first next labels) (q : ℕ) (xs : List A) (sizes : length xs ≡ length labels) where
  pub walk_start : (old so_far : List A) (at : ℕ) → q < length labels → so_far ≡ old → at ≡ get_or first q 0 → IsWalking labels q xs (old ++ select labels q xs) so_far at
  walk_start old so_far at within same place = record {
    from = 0;
    within = omega arith;
    place = place ∙ chained.firsts_are q within;
    left = ap (λ l. l ++ select labels q xs) (sym same);
  }

  -- what stands at the place
  pub record HasNext (so_far : List A) (whole : List A) (at : ℕ) (e : A) : Type 0 where
    pub label : get_or labels at 0 ≡ q
    pub left : whole ≡ so_far ++ get_or xs at e ∷ select (drop (suc at) labels) q (drop (suc at) xs)
    pub later : at < get_or next at 0
    pub place : get_or next at 0 ≡ first_same (length labels) (suc at) (drop (suc at) labels) q

  pub next_there : (whole so_far : List A) (at : ℕ) (e : A) → IsWalking labels q xs whole so_far at → at < length labels → HasNext so_far whole at e
  next_there whole so_far at e w less =
      let whole_size : w.from + length (drop w.from labels) ≡ length labels = omega (arith, length-drop w.from labels, w.within) in
      let same_size : length (drop w.from xs) ≡ length (drop w.from labels) = omega (arith, length-drop w.from xs, length-drop w.from labels, sizes) in
      let f = subst (λ n. FoundIn e (drop w.from labels) q w.from n (drop w.from xs)) (sym w.place)
      (found_in e (length labels) w.from (drop w.from labels) (drop w.from xs) q whole_size same_size (subst (λ n. n < length labels) w.place less)) in
      let own : get_or labels at 0 ≡ q = sym (get_dropped labels w.from at 0 f.0) ∙ f.1 in
      let there : get_or next at 0 ≡ first_same (length labels) (suc at) (drop (suc at) labels) q =
      ap (λ l. get_or l at 0) chained.nexts_are ∙ nexts_at (length labels) 0 labels at less ∙ ap (λ n. first_same (length labels) (suc n) (drop (suc at) labels) (get_or labels at 0)) (omega arith) ∙ ap (first_same (length labels) (suc at) (drop (suc at) labels)) own in
      let on : suc at ≤ first_same (length labels) (suc at) (drop (suc at) labels) q =
      first_later (length labels) (suc at) (drop (suc at) labels) q (omega (arith, length-drop (suc at) labels, less)) in
      record {
        label = own;
        left =
            w.left ∙ ap (λ l. so_far ++ l) f.2
            ∙ (λ i. so_far ++ get_dropped xs w.from at e f.0 i ∷ select (drop_on labels w.from (suc at) (omega (arith, f.0)) i) q (drop_on xs w.from (suc at) (omega (arith, f.0)) i));
        later = omega (arith, on, there);
        place = there;
      }

  pub walk_on : (whole so_far more : List A) (at after : ℕ) (e : A) → HasNext so_far whole at e → at < length labels → more ≡ so_far ++ get_or xs at e ∷ [] → after ≡ get_or next at 0 → IsWalking labels q xs whole more after
  walk_on whole so_far more at after e h less pushed stepped = record {
    from = suc at;
    within = omega (arith, less);
    place = stepped ∙ h.place;
    left = h.left ∙ sym (append_assoc so_far (get_or xs at e ∷ []) (select (drop (suc at) labels) q (drop (suc at) xs))) ∙ ap (λ l. l ++ select (drop (suc at) labels) q (drop (suc at) xs)) (sym pushed);
  }

  pub walk_end : (whole so_far : List A) (at : ℕ) → IsWalking labels q xs whole so_far at → length labels ≤ at → so_far ≡ whole
  walk_end whole so_far at w ended =
      let whole_size : w.from + length (drop w.from labels) ≡ length labels = omega (arith, length-drop w.from labels, w.within) in
      sym (w.left ∙ ap (λ l. so_far ++ l) (none_in_any (length labels) w.from (drop w.from labels) (drop w.from xs) q whole_size (subst (λ n. length labels ≤ n) w.place ended)) ∙ append-nil so_far)

-- ---- written along a chain
taken_before : {A : Type 0} (xs : List A) (at : ℕ) (v : A) → take at (slice_set xs at v) ≡ take at xs
taken_before [] at v = refl
taken_before (x ∷ xs) zero v = refl
taken_before (x ∷ xs) (suc at) v = ap (λ l. x ∷ l) (taken_before xs at v)

dropped_after : {A : Type 0} (xs : List A) (at : ℕ) (v : A) → drop (suc at) (slice_set xs at v) ≡ drop (suc at) xs
dropped_after [] at v = refl
dropped_after (x ∷ xs) zero v = refl
dropped_after (x ∷ xs) (suc at) v = dropped_after xs at v

-- the items with a label before one of them, that one, and those after it
split_there : {A : Type 0} (ls : List ℕ) (xs : List A) (at q : ℕ) (e : A) → length xs ≡ length ls → at < length ls → get_or ls at 0 ≡ q
    → select ls q xs ≡ select (take at ls) q (take at xs) ++ get_or xs at e ∷ select (drop (suc at) ls) q (drop (suc at) xs)
split_there [] xs at q e size less own = absurd (omega (arith, less))
split_there (l ∷ ls) [] at q e size less own = absurd (omega (arith, size))
split_there (l ∷ ls) (x ∷ xs) zero q e size less own = ap (λ (b : Bool). cond b (x ∷ select ls q xs) (select ls q xs)) (eq-eqb l q own)
split_there (l ∷ ls) (x ∷ xs) (suc at) q e size less own = by (l == q) (split_there ls xs at q e (omega (arith, size)) (omega (arith, less)) own)
  where
    by : (b : Bool) → select ls q xs ≡ select (take at ls) q (take at xs) ++ get_or xs at e ∷ select (drop (suc at) ls) q (drop (suc at) xs)
        → cond b (x ∷ select ls q xs) (select ls q xs) ≡ cond b (x ∷ select (take at ls) q (take at xs)) (select (take at ls) q (take at xs)) ++ get_or xs at e ∷ select (drop (suc at) ls) q (drop (suc at) xs)
    by true rest = ap (λ l. x ∷ l) rest
    by false rest = rest

-- another label's items stay
others_stay : {A : Type 0} (ls : List ℕ) (xs : List A) (at p q : ℕ) (v : A) → get_or ls at 0 ≡ q → at < length ls → (p ≡ q → ⊥) → select ls p (slice_set xs at v) ≡ select ls p xs
others_stay [] xs at p q v own less apart = absurd (omega (arith, less))
others_stay (l ∷ ls) [] at p q v own less apart = refl
others_stay (l ∷ ls) (x ∷ xs) zero p q v own less apart = by (l == p) refl
  where
    by : (b : Bool) → (l == p) ≡ b → cond b (v ∷ select ls p xs) (select ls p xs) ≡ cond b (x ∷ select ls p xs) (select ls p xs)
    by true is = absurd (apart (sym (eqb-true l p is) ∙ own))
    by false is = refl
others_stay (l ∷ ls) (x ∷ xs) (suc at) p q v own less apart =
    ap (λ r. cond (l == p) (x ∷ r) r) (others_stay ls xs at p q v own (omega (arith, less)) apart)

-- Of the values so many were written at the places with the label; the next one goes to the place.
pub record IsWriting (labels : List ℕ) (q : ℕ) (values old now : List ℕ) (at i : ℕ) : Type 0 where
  pub from : ℕ
  pub within : from ≤ length labels
  pub place : at ≡ first_same (length labels) from (drop from labels) q
  pub done : select labels q now ≡ take i values ++ select (drop from labels) q (drop from now)
  pub count : length values ≡ i + length (select (drop from labels) q (drop from now))
  pub others : (p : ℕ) → (p ≡ q → ⊥) → select labels p now ≡ select labels p old
  pub size : length now ≡ length labels

module _ (first next labels : List ℕ) (chained : AreChained first next labels) (q : ℕ) where
  pub write_start : (values old : List ℕ) (at : ℕ) → q < length labels → length old ≡ length labels → length values ≡ length (select labels q old) → at ≡ get_or first q 0 → IsWriting labels q values old old at 0
  write_start values old at within size count place = record {
    from = 0;
    within = omega arith;
    place = place ∙ chained.firsts_are q within;
    done = refl;
    count = omega (arith, count);
    others = λ p apart. refl;
    size = size;
  }

  write_whole : (values old now : List ℕ) (at i : ℕ) → (w : IsWriting labels q values old now at i) → w.from + length (drop w.from labels) ≡ length labels
  write_whole values old now at i w = omega (arith, length-drop w.from labels, w.within)

  pub place_inside : (values old now : List ℕ) (at i : ℕ) → IsWriting labels q values old now at i → i < length values → at < length labels
  place_inside values old now at i w less = lt_of_not-le (λ past.
      let none : select (drop w.from labels) q (drop w.from now) ≡ [] =
      none_in_any (length labels) w.from (drop w.from labels) (drop w.from now) q (write_whole values old now at i w) (subst (λ n. length labels ≤ n) w.place past) in
      omega (arith, less, w.count, ap length none))

  pub write_on : (values old now after : List ℕ) (at i step : ℕ) → IsWriting labels q values old now at i → i < length values → after ≡ slice_set now at (get_or values i 0) → step ≡ get_or next at 0
      → IsWriting labels q values old after step (i + 1)
  write_on values old now after at i step w less set stepped =
      let inside = place_inside values old now at i w less in
      let same_size : length (drop w.from now) ≡ length (drop w.from labels) = omega (arith, length-drop w.from now, length-drop w.from labels, w.size) in
      let f = subst (λ n. FoundIn 0 (drop w.from labels) q w.from n (drop w.from now)) (sym w.place)
      (found_in 0 (length labels) w.from (drop w.from labels) (drop w.from now) q (write_whole values old now at i w) same_size (subst (λ n. n < length labels) w.place inside)) in
      let rest = select (drop (suc at) labels) q (drop (suc at) now) in
      let v = get_or values i 0 in
      let own : get_or labels at 0 ≡ q = sym (get_dropped labels w.from at 0 f.0) ∙ f.1 in
      let left : select (drop w.from labels) q (drop w.from now) ≡ get_or now at 0 ∷ rest =
      f.2 ∙ (λ i. get_dropped now w.from at 0 f.0 i ∷ select (drop_on labels w.from (suc at) (omega (arith, f.0)) i) q (drop_on now w.from (suc at) (omega (arith, f.0)) i)) in
      let front : select (take at labels) q (take at now) ≡ take i values =
      append_cancel_right (select (take at labels) q (take at now)) (take i values) (get_or now at 0 ∷ rest)
      (sym (split_there labels now at q 0 w.size inside own) ∙ w.done ∙ ap (λ l. take i values ++ l) left) in
      let dropped : drop (suc at) after ≡ drop (suc at) now = ap (drop (suc at)) set ∙ dropped_after now at v in
      let after_size : length after ≡ length labels = ap length set ∙ set_size now at v ∙ w.size in
      let one_more : suc i ≡ i + 1 = omega arith in
      let taken : take (i + 1) values ≡ take i values ++ v ∷ [] = subst (λ n. take n values ≡ take i values ++ v ∷ []) one_more (take-suc values i 0 less) in
      record {
        from = suc at;
        within = omega (arith, inside);
        place = stepped ∙ ap (λ l. get_or l at 0) chained.nexts_are ∙ nexts_at (length labels) 0 labels at inside
            ∙ ap (λ n. first_same (length labels) (suc n) (drop (suc at) labels) (get_or labels at 0)) (omega arith)
            ∙ ap (first_same (length labels) (suc at) (drop (suc at) labels)) own;
        done =
            split_there labels after at q 0 after_size inside own
            ∙ ap (λ l. select (take at labels) q l ++ get_or after at 0 ∷ select (drop (suc at) labels) q (drop (suc at) after)) (ap (take at) set ∙ taken_before now at v)
            ∙ ap (λ l. l ++ get_or after at 0 ∷ select (drop (suc at) labels) q (drop (suc at) after)) front
            ∙ ap (λ n. take i values ++ n ∷ select (drop (suc at) labels) q (drop (suc at) after)) (ap (λ l. get_or l at 0) set ∙ written_here now at v 0 (omega (arith, inside, w.size)))
            ∙ sym (append_assoc (take i values) (v ∷ []) (select (drop (suc at) labels) q (drop (suc at) after)))
            ∙ ap (λ l. l ++ select (drop (suc at) labels) q (drop (suc at) after)) (sym taken);
        count = omega (arith, w.count, ap length left, ap (λ l. length (select (drop (suc at) labels) q l)) dropped);
        others = λ p apart. ap (select labels p) set ∙ others_stay labels now at p q v own inside apart ∙ w.others p apart;
        size = after_size;
      }

  pub write_end : (values old now : List ℕ) (at : ℕ) → IsWriting labels q values old now at (length values) → select labels q now ≡ values
  write_end values old now at w =
      let none : select (drop w.from labels) q (drop w.from now) ≡ [] = nothing (select (drop w.from labels) q (drop w.from now)) (omega (arith, w.count)) in
      w.done ∙ ap (λ l. take (length values) values ++ l) none ∙ append-nil (take (length values) values) ∙ take_all (length values) values (omega arith)
    where
      nothing : (xs : List ℕ) → length xs ≡ 0 → xs ≡ []
      nothing [] h = refl
      nothing (x ∷ xs) h = absurd (omega (arith, h))

-- ---- one part after the other
-- so many labels were passed
pub record ArePassed {A : Type 0} (labels : List ℕ) (n : ℕ) (xs whole so_far : List A) (label : ℕ) : Type 0 where
  pub within : label ≤ n
  pub left : whole ≡ so_far ++ parts_from labels label (n - label) xs

all_of : (n : ℕ) → n ≡ n - 0
all_of n = omega arith

pub passed_start : {A : Type 0} (labels : List ℕ) (n : ℕ) (xs so_far : List A) → so_far ≡ [] → ArePassed labels n xs (parts_from labels 0 n xs) so_far 0
passed_start labels n xs so_far none = record {
  within = omega arith;
  left = ap (λ k. parts_from labels 0 k xs) (all_of n) ∙ ap (λ l. l ++ parts_from labels 0 (n - 0) xs) (sym none);
}

-- what is left begins with the next part
pub next_part : {A : Type 0} (labels : List ℕ) (n : ℕ) (xs : List A) (label : ℕ) → label < n
    → parts_from labels label (n - label) xs ≡ select labels label xs ++ parts_from labels (label + 1) (n - (label + 1)) xs
next_part labels n xs label less =
    let count : n - label ≡ suc (n - (label + 1)) = omega (arith, less) in
    let on : suc label ≡ label + 1 = omega arith in
    ap (λ k. parts_from labels label k xs) count ∙ ap (λ k. select labels label xs ++ parts_from labels k (n - (label + 1)) xs) on

pub passed_more : {A : Type 0} (labels : List ℕ) (n : ℕ) (xs whole so_far more : List A) (label : ℕ) → ArePassed labels n xs whole so_far label → label < n → more ≡ so_far ++ select labels label xs
    → ArePassed labels n xs whole more (label + 1)
passed_more labels n xs whole so_far more label h less pushed = record {
  within = omega (arith, less);
  left = h.left ∙ ap (λ l. so_far ++ l) (next_part labels n xs label less) ∙ sym (append_assoc so_far (select labels label xs) (parts_from labels (label + 1) (n - (label + 1)) xs))
      ∙ ap (λ l. l ++ parts_from labels (label + 1) (n - (label + 1)) xs) (sym pushed);
}

pub passed_all : {A : Type 0} (labels : List ℕ) (n : ℕ) (xs whole so_far : List A) → ArePassed labels n xs whole so_far n → so_far ≡ whole
passed_all labels n xs whole so_far h =
    let none : n - n ≡ 0 = omega arith in
    sym (h.left ∙ ap (λ k. so_far ++ parts_from labels n k xs) none ∙ append-nil so_far)
