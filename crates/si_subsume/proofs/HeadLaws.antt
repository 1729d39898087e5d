-- Targets by their heads.
use Rattle.std.proofs.Common.{◌≡◌, ℕ, zero, suc, ◌+◌, ◌-◌, ◌<◌, ◌≤◌, ◌==◌, Bool, true, false, cond, ◌&&◌, List, [], ◌∷◌, ◌++◌, length, get_or, drop, reverse, refl, ap, sym, ◌∙◌, arith, drop-cons, Some}
use Rattle.std.proofs.Math.ListN.{drop_of_length-le}
use Rattle.std.proofs.lemmas.List.{reverse-append}
use Rattle.std.proofs.lemmas.Bool.{eqb-true, eq-eqb}
use Rattle.std.proofs.lemmas.Option.{slice_get_within}
use Rattle.std.specs.Map.{lookup}
use Rattle.std.specs.Option.{unwrap_or}
use Rattle.std.specs.Prelude.{slice_get, Option}
use Rattle.std.specs.Borrow.{Bor}
use Rattle.si_defs.proofs.BoolLaws.{agreed}
use Rattle.si_flat.specs.declared.Cell.{Cell}
use Rattle.si_subsume.specs.declared.heads.Head.{Head}
use Rattle.si_subsume.specs.Heads.{equal_heads, slice_head, first_in, nexts, IsFirstBy, HasTargetByHead}
use Rattle.si_subsume.specs.Search.{Slices}

-- ---- the index is built from the last target on
pub record IsIndexing (entries : List (Head × ℕ)) (next : List ℕ) (targets : Slices) (behind : ℕ) : Type 0 where
  pub first : IsFirstBy entries (length targets) (length targets - behind) (drop (length targets - behind) targets)
  pub nexts_are : reverse next ≡ nexts (length targets) (length targets - behind) (drop (length targets - behind) targets)

pub indexing_start : (entries : List (Head × ℕ)) (next : List ℕ) (targets : Slices) → entries ≡ [] → next ≡ [] → IsIndexing entries next targets 0
indexing_start entries next targets none none_next = record {
  first = λ h.
      ap (λ es. unwrap_or (lookup (equal_heads h) es) (length targets)) none
      ∙ sym (ap (λ bs. first_in (length targets) (length targets - 0) bs h) (drop_of_length-le targets (omega arith)));
  nexts_are = ap reverse none_next ∙ sym (ap (nexts (length targets) (length targets - 0)) (drop_of_length-le targets (omega arith)));
}

pub indexing_more : (old new : List (Head × ℕ)) (next after : List ℕ) (targets : Slices) (behind number : ℕ) (later : Option ℕ) (d : Bor (List Cell))
    → IsIndexing old next targets behind
    → behind < length targets
    → number ≡ length targets - 1 - behind
    → later ≡ lookup (equal_heads (slice_head (get_or targets number d))) old
    → ((h : Head) → lookup (equal_heads h) new ≡ cond (equal_heads (slice_head (get_or targets number d)) h) (Some number) (lookup (equal_heads h) old))
    → after ≡ next ++ unwrap_or later (length targets) ∷ []
    → IsIndexing new after targets (behind + 1)
indexing_more old new next after targets behind number later d h less number_is later_is updates pushed =
    let end = length targets in
    let start : end - (behind + 1) ≡ number = omega (arith, number_is) in
    let above : suc number ≡ end - behind = omega (arith, number_is, less) in
    let split : drop number targets ≡ get_or targets number d ∷ drop (end - behind) targets =
    drop-cons targets number d (omega (arith, number_is, less)) ∙ ap (λ k. get_or targets number d ∷ drop k targets) above in
    record {
      first = λ g.
          ap (λ o. unwrap_or o end) (updates g)
          ∙ by (equal_heads (slice_head (get_or targets number d)) g) (lookup (equal_heads g) old) number
          ∙ (λ i. cond (swapped (slice_head (get_or targets number d)) g i) number (h.first g i))
          ∙ ap (λ k. cond (equal_heads g (slice_head (get_or targets number d))) number (first_in end k (drop (end - behind) targets) g)) (sym above)
          ∙ sym (λ i. first_in end (start i) (whole split start i) g);
      nexts_are =
          ap reverse pushed
          ∙ reverse-append next (unwrap_or later end ∷ [])
          ∙ (λ i. unwrap_or (later_is i) end ∷ h.nexts_are i)
          ∙ (λ i. h.first (slice_head (get_or targets number d)) i ∷ nexts end (end - behind) (drop (end - behind) targets))
          ∙ ap (λ k. first_in end k (drop (end - behind) targets) (slice_head (get_or targets number d)) ∷ nexts end k (drop (end - behind) targets)) (sym above)
          ∙ sym (λ i. nexts end (start i) (whole split start i));
    }
  where
    by : (b : Bool) (o : Option ℕ) (n : ℕ) → unwrap_or (cond b (Some n) o) (length targets) ≡ cond b n (unwrap_or o (length targets))
    by true o n = refl
    by false o n = refl

    whole : drop number targets ≡ get_or targets number d ∷ drop (length targets - behind) targets → length targets - (behind + 1) ≡ number → drop (length targets - (behind + 1)) targets ≡ get_or targets number d ∷ drop (length targets - behind) targets
    whole split start = ap (λ k. drop k targets) start ∙ split

    flipped : (m n : ℕ) → (m == n) ≡ (n == m)
    flipped m n = agreed (m == n) (n == m) (λ e. eq-eqb n m (sym (eqb-true m n e))) (λ e. eq-eqb m n (sym (eqb-true n m e)))

    swapped : (h g : Head) → equal_heads h g ≡ equal_heads g h
    swapped h g = λ i. flipped h.sym g.sym i && flipped h.arity g.arity i

-- ---- what is passed over
-- no slice before the first one with the head has it
pub skipped : (end k : ℕ) (bs : Slices) (h : Head) (i : ℕ) (b : Bor (List Cell)) → slice_get bs i ≡ Some b → k + i < first_in end k bs h → equal_heads h (slice_head b) ≡ false
skipped end k [] h i b e less = cc
skipped end k (c ∷ bs) h zero b e less = by (equal_heads h (slice_head c)) refl less
  where
    same : c ≡ b
    same = cc

    by : (t : Bool) → equal_heads h (slice_head c) ≡ t → k + 0 < cond t k (first_in end (suc k) bs h) → equal_heads h (slice_head b) ≡ false
    by true is less = absurd (omega (arith, less))
    by false is less = ap (λ z. equal_heads h (slice_head z)) (sym same) ∙ is
skipped end k (c ∷ bs) h (suc i) b e less = by (equal_heads h (slice_head c)) less (skipped end (suc k) bs h i b e)
  where
    by : (t : Bool) → k + suc i < cond t k (first_in end (suc k) bs h) → (suc k + i < first_in end (suc k) bs h → equal_heads h (slice_head b) ≡ false) → equal_heads h (slice_head b) ≡ false
    by true less rest = absurd (omega (arith, less))
    by false less rest = rest (omega (arith, less))

-- the first one has it
pub record IsHit (k : ℕ) (bs : Slices) (h : Head) (n : ℕ) : Type 0 where
  pub place : ℕ
  pub number : n ≡ k + place
  pub slice : Bor (List Cell)
  pub slice_is : slice_get bs place ≡ Some slice
  pub has : equal_heads h (slice_head slice) ≡ true

pub hit : (end k : ℕ) (bs : Slices) (h : Head) → first_in end k bs h < end → IsHit k bs h (first_in end k bs h)
hit end k [] h less = absurd (omega (arith, less))
hit end k (c ∷ bs) h less = by (equal_heads h (slice_head c)) refl less (hit end (suc k) bs h)
  where
    by : (t : Bool) → equal_heads h (slice_head c) ≡ t → cond t k (first_in end (suc k) bs h) < end → (first_in end (suc k) bs h < end → IsHit (suc k) bs h (first_in end (suc k) bs h)) → IsHit k (c ∷ bs) h (cond t k (first_in end (suc k) bs h))
    by true is less rest = record { place = 0; number = omega arith; slice = c; slice_is = refl; has = is }
    by false is less rest =
        let r = rest less in
        record { place = suc r.place; number = omega (arith, r.number); slice = r.slice; slice_is = r.slice_is; has = r.has }

-- it is no later than the end
pub first_within : (end k : ℕ) (bs : Slices) (h : Head) → k + length bs ≡ end → first_in end k bs h ≤ end
first_within end k [] h e = omega arith
first_within end k (b ∷ bs) h e = by (equal_heads h (slice_head b)) (first_within end (suc k) bs h (omega (arith, e)))
  where
    by : (t : Bool) → first_in end (suc k) bs h ≤ end → cond t k (first_in end (suc k) bs h) ≤ end
    by true le = omega (arith, e)
    by false le = le

-- there is one with the head where the first isn't the end
pub target_there : (targets : Slices) (h : Head) → (first_in (length targets) 0 targets h ≡ length targets → ⊥) → HasTargetByHead targets h
target_there targets h found =
    let there = hit (length targets) 0 targets h (omega (arith, first_within (length targets) 0 targets h (omega arith), found)) in
    (there.place, there.slice, there.slice_is, there.has)

pub no_target : (targets : Slices) (h : Head) → first_in (length targets) 0 targets h ≡ length targets → HasTargetByHead targets h → ⊥
no_target targets h none (n, b, got, has) =
    let differs : equal_heads h (slice_head b) ≡ false = skipped (length targets) 0 targets h n b got (omega (arith, none, slice_get_within targets n b got)) in
    let bad : true ≡ false = sym has ∙ differs in cc

-- the next one after a slice
pub next_at : (end k : ℕ) (bs : Slices) (i : ℕ) (b : Bor (List Cell)) → slice_get bs i ≡ Some b → get_or (nexts end k bs) i 0 ≡ first_in end (suc (k + i)) (drop (suc i) bs) (slice_head b)
next_at end k [] i b e = cc
next_at end k (c ∷ bs) zero b e =
    let same : c ≡ b = cc in
    let here : suc k ≡ suc (k + 0) = omega arith in
    (λ j. first_in end (here j) bs (slice_head (same j)))
next_at end k (c ∷ bs) (suc i) b e =
    let here : suc (suc k + i) ≡ suc (k + suc i) = omega arith in
    next_at end (suc k) bs i b e ∙ ap (λ n. first_in end n (drop (suc i) bs) (slice_head b)) here

pub length-nexts : (end k : ℕ) (bs : Slices) → length (nexts end k bs) ≡ length bs
length-nexts end k [] = refl
length-nexts end k (b ∷ bs) = ap (λ n. suc n) (length-nexts end (suc k) bs)

pub got_behind : (bs : Slices) (n i : ℕ) → slice_get (drop n bs) i ≡ slice_get bs (n + i)
got_behind bs zero i = ap (slice_get bs) (plus i)
  where
    plus : (i : ℕ) → i ≡ 0 + i
    plus i = omega arith
got_behind [] (suc n) i = refl
got_behind (b ∷ bs) (suc n) i = got_behind bs n i ∙ ap (slice_get (b ∷ bs)) (plus n i)
  where
    plus : (n i : ℕ) → suc (n + i) ≡ suc n + i
    plus n i = omega arith

-- heads that are told the same are the same
pub heads_same : (h g : Head) → equal_heads h g ≡ true → h ≡ g
heads_same h g e = by (h.sym == g.sym) refl (h.arity == g.arity) refl e
  where
    by : (a : Bool) → (h.sym == g.sym) ≡ a → (b : Bool) → (h.arity == g.arity) ≡ b → (a && b) ≡ true → h ≡ g
    by true p true q e = λ i. record { sym = eqb-true h.sym g.sym p i; arity = eqb-true h.arity g.arity q i }
    by true p false q e = cc
    by false p b q e = cc
