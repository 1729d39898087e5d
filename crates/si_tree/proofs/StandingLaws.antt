-- Laws of the postings that stand in slots.
use Rattle.std.proofs.Common.{◌≡◌, ℕ, zero, suc, ◌+◌, ◌<◌, ◌≤◌, List, [], ◌∷◌, ◌++◌, Bool, true, false, Some, length, take, arith, inl, inr, refl, sym, ◌∙◌, ap, subst, cond, drop, get_or}
use Rattle.std.proofs.lemmas.List.{drop_more, length-append}
use Rattle.std.proofs.lemmas.Option.{same_Some}
use Rattle.std.specs.Prelude.{slice_get, slice_set}
use Rattle.std.specs.List.{filter}
use Rattle.si_defs.specs.Substitutions.{IsAmong}
use Rattle.si_legal.specs.declared.Posting.{Posting}
use Rattle.si_tree.specs.declared.postings.Slot.{Slot}
use Rattle.si_tree.specs.Changes.{IsWithout}
use Rattle.si_tree.specs.Slots.{filled_slot, posting_in, put_if, stands, standing, HasPostingAt}

put_before : (b : Bool) (p : Posting) (ps qs : List Posting) → put_if b p (ps ++ qs) ≡ put_if b p ps ++ qs
put_before true p ps qs = refl
put_before false p ps qs = refl

pub standing_split : (xs ys : List Slot) → standing (xs ++ ys) ≡ standing xs ++ standing ys
standing_split [] ys = refl
standing_split (x ∷ xs) ys = ap (put_if (stands x) (posting_in x)) (standing_split xs ys) ∙ put_before (stands x) (posting_in x) (standing xs) (standing ys)

put_few : (b : Bool) (p : Posting) (ps : List Posting) → length (put_if b p ps) ≤ 1 + length ps
put_few true p ps = omega arith
put_few false p ps = omega arith

pub few_standing : (ss : List Slot) → length (standing ss) ≤ length ss
few_standing [] = omega arith
few_standing (s ∷ ss) = omega (arith, put_few (stands s) (posting_in s) (standing ss), few_standing ss)

-- one more
pub standing_pushed : (ss : List Slot) (p : Posting) (new : List Slot) → new ≡ ss ++ filled_slot p ∷ [] → stands (filled_slot p) ≡ true → standing new ≡ standing ss ++ p ∷ []
standing_pushed ss p new e there = ap standing e ∙ standing_split ss (filled_slot p ∷ []) ∙ ap (λ b. standing ss ++ put_if b p []) there

pub pushed_length : (ss : List Slot) (p : Posting) (new : List Slot) → new ≡ ss ++ filled_slot p ∷ [] → stands (filled_slot p) ≡ true → length (standing new) ≡ length (standing ss) + 1
pushed_length ss p new e there = ap length (standing_pushed ss p new e there) ∙ length-append (standing ss) (p ∷ [])

-- the posting that stood there goes
pub emptied : (ss : List Slot) (n : ℕ) (p : Posting) (s : Slot) → HasPostingAt ss n p → stands s ≡ false → IsWithout (standing ss) p (standing (slice_set ss n s))
emptied [] n p s there f = absurd (by there.0) where
  by : slice_get [] n ≡ Some (filled_slot p) → ⊥
  by g = cc
emptied (x ∷ xs) zero p s there f = record {
  before = [];
  after = standing xs;
  old_is = ap (λ z. put_if (stands z) (posting_in z) (standing xs)) (same_Some x (filled_slot p) there.0) ∙ ap (λ b. put_if b p (standing xs)) there.1;
  new_is = ap (λ b. put_if b (posting_in s) (standing xs)) f;
}
emptied (x ∷ xs) (suc n) p s there f =
    let rest = emptied xs n p s there f in
    record {
      before = put_if (stands x) (posting_in x) rest.before;
      after = rest.after;
      old_is = ap (put_if (stands x) (posting_in x)) rest.old_is ∙ put_before (stands x) (posting_in x) rest.before (p ∷ rest.after);
      new_is = ap (put_if (stands x) (posting_in x)) rest.new_is ∙ put_before (stands x) (posting_in x) rest.before rest.after;
    }

-- ---- one slot
pub one_stands : (p : Posting) (s : Slot) → s ≡ filled_slot p → stands s ≡ true → standing (s ∷ []) ≡ p ∷ []
one_stands p s is there = standing_pushed [] p (s ∷ []) (ap (λ x. x ∷ []) is) (sym (ap stands is) ∙ there)

pub none_stands : (s : Slot) → stands s ≡ false → standing (s ∷ []) ≡ []
none_stands s f = ap (λ b. put_if b (posting_in s) []) f

pub two_stand : (s : Slot) (p : Posting) (new : List Slot) → new ≡ s ∷ filled_slot p ∷ [] → stands s ≡ true → stands (filled_slot p) ≡ true → standing new ≡ posting_in s ∷ p ∷ []
two_stand s p new e first second =
    standing_pushed (s ∷ []) p new e second ∙ ap (λ b. put_if b (posting_in s) [] ++ p ∷ []) first

-- empty slots go
closed_one : (b : Bool) (s : Slot) (left ss : List Slot) → (stands s) ≡ b → standing left ≡ standing ss → standing (cond (stands s) (s ∷ left) left) ≡ standing (s ∷ ss)
closed_one true s left ss e rest = ap (λ b. standing (cond b (s ∷ left) left)) e ∙ ap (put_if (stands s) (posting_in s)) rest
closed_one false s left ss e rest = ap (λ b. standing (cond b (s ∷ left) left)) e ∙ rest ∙ ap (λ b. put_if b (posting_in s) (standing ss)) (sym e)

pub closed : (ss : List Slot) → standing (filter (λ (s : Slot). stands s) ss) ≡ standing ss
closed [] = refl
closed (s ∷ ss) = closed_one (stands s) s (filter (λ (x : Slot). stands x) ss) ss refl (closed ss)

-- ---- a walk
pub passed : (ss : List Slot) (i : ℕ) (d : Slot) → i < length ss → stands (get_or ss i d) ≡ false → standing (drop (i + 1) ss) ≡ standing (drop i ss)
passed ss i d lt e = sym (ap standing (drop_more ss i d lt) ∙ ap (λ b. put_if b (posting_in (get_or ss i d)) (standing (drop (i + 1) ss))) e)

pub met : (ss : List Slot) (i : ℕ) (d : Slot) → i < length ss → stands (get_or ss i d) ≡ true → standing (drop i ss) ≡ posting_in (get_or ss i d) ∷ standing (drop (i + 1) ss)
met ss i d lt e = ap standing (drop_more ss i d lt) ∙ ap (λ b. put_if b (posting_in (get_or ss i d)) (standing (drop (i + 1) ss))) e

-- ---- where a posting stands
stands_there : (b : Bool) (s : Slot) (p : Posting) → stands s ≡ b → IsAmong (put_if b (posting_in s) []) p → (s ≡ filled_slot p) × (stands (filled_slot p) ≡ true)
stands_there true s p e (inl same) =
    let is : s ≡ filled_slot p = λ i. record { clause = (same i).clause; entry = (same i).entry } in
    (is, sym (ap stands is) ∙ e)
stands_there true s p e (inr nothing) = absurd nothing
stands_there false s p e nothing = absurd nothing

-- the posting of the only slot goes
pub only_emptied : (s new : Slot) (p : Posting) → IsAmong (standing (s ∷ [])) p → stands new ≡ false → IsWithout (standing (s ∷ [])) p (standing (new ∷ []))
only_emptied s new p among f =
    let there = stands_there (stands s) s p refl among in
    emptied (s ∷ []) zero p new (ap Some there.0, there.1) f

not_behind : (b : Bool) (q p : Posting) (xs ys : List Posting) → (IsAmong (put_if b q xs) p → ⊥) → ((IsAmong xs p → ⊥) → IsAmong ys p → ⊥) → IsAmong (put_if b q ys) p → ⊥
not_behind true q p xs ys before later (inl same) = before (inl same)
not_behind true q p xs ys before later (inr among) = later (λ x. before (inr x)) among
not_behind false q p xs ys before later among = later before among

not_after : (ss : List Slot) (n : ℕ) (p : Posting) → (IsAmong (standing (take n ss)) p → ⊥) → (HasPostingAt ss n p → ⊥) → IsAmong (standing (take (suc n) ss)) p → ⊥
not_after [] zero p before here among = absurd among
not_after [] (suc n) p before here among = absurd among
not_after (s ∷ ss) zero p before here among = let there = stands_there (stands s) s p refl among in here (ap Some there.0, there.1)
not_after (s ∷ ss) (suc n) p before here among =
    not_behind (stands s) (posting_in s) p (standing (take n ss)) (standing (take (suc n) ss)) before (λ earlier. not_after ss n p earlier here) among

-- not among the first ones, and not in the next slot
pub not_yet : (ss : List Slot) (n : ℕ) (p : Posting) → (IsAmong (standing (take n ss)) p → ⊥) → (HasPostingAt ss n p → ⊥) → IsAmong (standing (take (n + 1) ss)) p → ⊥
not_yet ss n p before here among =
    let on : n + 1 ≡ suc n = omega arith in
    not_after ss n p before here (subst (λ m. IsAmong (standing (take m ss)) p) on among)

pub one_fewer : (old new : List Posting) (p : Posting) → IsWithout old p new → length old ≡ length new + 1
one_fewer old new p w =
    omega (arith, ap length w.old_is, ap length w.new_is, length-append w.before (p ∷ w.after), length-append w.before w.after)
