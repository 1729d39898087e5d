-- Comparing pair after pair until none is left.
use Rattle.std.proofs.Common.{◌≡◌, ℕ, ◌+◌, ◌<◌, ◌≤◌, true, false, List, [], ◌∷◌, ◌++◌, length, take, sym, ◌∙◌, ap, subst, arith, suc, zero, length-append, Some}
use Rattle.std.proofs.lemmas.List.{take_all, take-append-le}
use Rattle.std.proofs.lemmas.Option.{slice_get_within}
use Rattle.std.specs.Prelude.{slice_get}
use Rattle.std.specs.List.{AllByRecursion}
use Rattle.si_defs.specs.Substitutions.{Grows}
use Rattle.si_defs.specs.Terms as terms
use Rattle.si_defs.proofs.ListLaws.{all_with, all_weaker, all_append, all_front, all_take, all_got}
use Rattle.si_defs.proofs.TermLaws.{size_some}
use Rattle.si_flat.specs.Cells.{Variable, Term}
use Rattle.si_unify.specs.declared.spots.SpotPair.{SpotPair}
use Rattle.si_unify.specs.declared.spots.Question.{Question}
use Rattle.si_unify.specs.Solving.{Pairs, IsSolvedBy}
use Rattle.si_unify.specs.Spots.{IsSoundQuestion, MakesEqual, MakesEqualUpTo, IsApart, ArePairs, IsGoingOn, Follows, HasCompared, HasClosed}
use Rattle.si_unify.proofs.Meeting.{goes_nowhere}
use Rattle.si_unify.proofs.Comparing.{up_to_fewer, equal_before, solved_before, going_further, stood_before}

pub record IsClosing (q : Question) (old pairs : Pairs) (old_keys keys : List SpotPair) (next : ℕ) : Type 0 where
  pub going : IsGoingOn q old pairs old_keys keys
  pub within : next ≤ length keys
  pub done : AllByRecursion (Follows q pairs keys) (take next keys)
  pub complete :
      (f : Variable → Term)
      → IsSolvedBy q.slots old f
      → AllByRecursion (MakesEqual q old f) old_keys
      → IsSolvedBy q.slots pairs f × AllByRecursion (MakesEqual q pairs f) keys

pub closing_starts : (q : Question) (pairs : Pairs) (keys : List SpotPair) → IsSoundQuestion q pairs → ArePairs q pairs keys → IsClosing q pairs pairs keys keys 0
closing_starts q pairs keys legal apart = record {
  going = goes_nowhere q pairs keys legal apart;
  within = omega arith;
  done = all_take_none keys;
  complete = λ f solved equal. (solved, equal);
}
  where
    all_take_none : (ks : List SpotPair) → AllByRecursion (Follows q pairs keys) (take 0 ks)
    all_take_none [] = tt
    all_take_none (k ∷ ks) = tt

-- what follows from pairs that are known now, follows from those that are known later
follows_still : (q : Question) (pairs new : Pairs) (keys new_keys : List SpotPair) (pair : SpotPair) → Grows pairs new → Grows keys new_keys → IsApart q pairs pair → Follows q pairs keys pair → Follows q new new_keys pair
follows_still q pairs new keys new_keys pair grows keys_grow apart h t u left right f solved equal =
    h t u (stood_before q pairs new pair.left _ t grows apart.left left) (stood_before q pairs new pair.right _ u grows apart.right right) f
    (solved_before q pairs new f grows solved)
    (λ n less. equal_before q pairs new keys new_keys f n grows keys_grow (equal n less))

take_one_more : (keys : List SpotPair) (next : ℕ) (pair : SpotPair) → slice_get keys next ≡ Some pair → take (suc next) keys ≡ take next keys ++ pair ∷ []
take_one_more [] next pair e = cc
take_one_more (k ∷ keys) zero pair e = let here : k ≡ pair = cc in take_first k keys pair here
  where
    take_first : (k : SpotPair) (keys : List SpotPair) (pair : SpotPair) → k ≡ pair → take 1 (k ∷ keys) ≡ pair ∷ []
    take_first k [] pair e = ap (λ x. x ∷ []) e
    take_first k (l ∷ keys) pair e = ap (λ x. x ∷ []) e
take_one_more (k ∷ keys) (suc next) pair e = ap (λ l. k ∷ l) (take_one_more keys next pair e)

pub closing_goes_on :
    (q : Question) (old pairs new : Pairs) (old_keys keys new_keys : List SpotPair) (next : ℕ) (pair : SpotPair)
    → IsClosing q old pairs old_keys keys next
    → slice_get keys next ≡ Some pair
    → HasCompared q pairs new keys new_keys pair true
    → IsClosing q old new old_keys new_keys (next + 1)
closing_goes_on q old pairs new old_keys keys new_keys next pair h here compared =
    let less : next < length keys = slice_get_within keys next pair here in
    let grown : new_keys ≡ keys ++ compared.0.keys_grow.0 = compared.0.keys_grow.1 in
    let one : next + 1 ≡ suc next = omega arith in
    let front : take (next + 1) new_keys ≡ take next keys ++ pair ∷ [] =
    ap (take (next + 1)) grown
    ∙ take-append-le (next + 1) keys compared.0.keys_grow.0 (omega (arith, less))
    ∙ ap (λ n. take n keys) one
    ∙ take_one_more keys next pair here in
    record {
      going = going_further q old pairs new old_keys keys new_keys h.going compared.0;
      within = omega (arith, less, ap length grown, length-append keys compared.0.keys_grow.0);
      done =
          subst (AllByRecursion (Follows q new new_keys)) (sym front)
          (
          all_append (Follows q new new_keys) (take next keys) (pair ∷ [])
          (
          all_with (IsApart q pairs) (Follows q pairs keys) (Follows q new new_keys) (take next keys)
          (λ k apart follows. follows_still q pairs new keys new_keys k compared.0.grows compared.0.keys_grow apart follows)
          (all_take (IsApart q pairs) next keys h.going.keys) h.done
          )
          (compared.1, tt)
          );
      complete = λ f solved equal.
          let r = h.complete f solved equal in compared.2 f r.0 r.1 (all_got (MakesEqual q pairs f) keys next pair r.1 here);
    }

pub closing_fails :
    (q : Question) (old pairs new : Pairs) (old_keys keys new_keys : List SpotPair) (next : ℕ) (pair : SpotPair)
    → IsClosing q old pairs old_keys keys next
    → slice_get keys next ≡ Some pair
    → HasCompared q pairs new keys new_keys pair false
    → HasClosed q old new old_keys false
closing_fails q old pairs new old_keys keys new_keys next pair h here compared f solved equal =
    let r = h.complete f solved equal in compared f r.0 r.1 (all_got (MakesEqual q pairs f) keys next pair r.1 here)

-- ---- at the end each pair follows from the smaller ones, so all are equal
all_for_each : (P : ℕ → SpotPair → Type 0) (keys : List SpotPair) → ((n : ℕ) → AllByRecursion (P n) keys) → AllByRecursion (λ k. (n : ℕ) → P n k) keys
all_for_each P [] h = tt
all_for_each P (k ∷ keys) h = (λ n. (h n).0, all_for_each P keys (λ n. (h n).1))

module _ (q : Question) (pairs : Pairs) (keys : List SpotPair) (done : AllByRecursion (Follows q pairs keys) keys) (f : Variable → Term) (solved : IsSolvedBy q.slots pairs f) where
  equal_up_to : (n : ℕ) → AllByRecursion (MakesEqualUpTo q pairs f n) keys
  equal_up_to zero =
      all_weaker (Follows q pairs keys) (MakesEqualUpTo q pairs f 0) keys
      (λ k _ t u left right few. absurd (omega (arith, few, size_some (terms.substitute f t)))) done
  equal_up_to (suc n) =
      all_weaker (Follows q pairs keys) (MakesEqualUpTo q pairs f (suc n)) keys
      (λ k follows t u left right few. follows t u left right f solved (λ m less. up_to_fewer q pairs keys f m n (omega (arith, few, less)) (equal_up_to n))) done

  pub all_equal : AllByRecursion (MakesEqual q pairs f) keys
  all_equal =
      all_weaker (λ k. (n : ℕ) → MakesEqualUpTo q pairs f n k) (MakesEqual q pairs f) keys
      (λ k h t u left right. h (terms.size (terms.substitute f t)) t u left right (omega arith))
      (all_for_each (MakesEqualUpTo q pairs f) keys equal_up_to)

pub closing_ends :
    (q : Question) (old pairs : Pairs) (old_keys keys : List SpotPair) (next : ℕ)
    → IsClosing q old pairs old_keys keys next
    → length keys ≤ next
    → HasClosed q old pairs old_keys true
closing_ends q old pairs old_keys keys next h over =
    let done : AllByRecursion (Follows q pairs keys) keys = subst (AllByRecursion (Follows q pairs keys)) (take_all next keys over) h.done in (
      h.going.legal,
      λ f solved.
          all_front (MakesEqual q pairs f) old_keys h.going.keys_grow.0
          (subst (AllByRecursion (MakesEqual q pairs f)) h.going.keys_grow.1 (all_equal q pairs keys done f solved)),
      λ f solved equal. (h.complete f solved equal).0,
      h.going.handed_in,
    )
