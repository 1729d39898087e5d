-- From the two terms to the answer.
use Rattle.std.proofs.Common.{◌≡◌, ℕ, ◌+◌, ◌≤◌, Bool, true, false, List, [], length, take, refl, sym, ◌∙◌, ap, subst, arith, append-nil, length-append}
use Rattle.std.proofs.Math.Seq.{take-append_seam}
use Rattle.std.proofs.lemmas.Bool.Decides.{nat_tests}
use Rattle.std.proofs.lemmas.Bool.{eq-eqb}
use Rattle.std.specs.Prelude.{◌==◌}
use Rattle.std.specs.List.{AllByRecursion}
use Rattle.si_defs.specs.Terms as terms
use Rattle.si_flat.specs.Cells.{Symbol, Variable, Term, same_variable, StandsFor, IsWhole}
use Rattle.si_defs.specs.Substitutions.{Substitution, image, Grows}
use Rattle.si_defs.proofs.ListLaws.{all_weaker}
use Rattle.si_unify.specs.declared.spots.SpotPair.{SpotPair}
use Rattle.si_unify.specs.declared.spots.Question.{Question}
use Rattle.si_unify.specs.Solving.{Pairs, slot_count, AreInRange, Equalizes, IsSolvedBy, IsAcyclic, IsBinding, IsSolution, IsCommon, HasSolved}
use Rattle.si_unify.specs.Spots.{text, IsAt, left_spot, right_spot, SpotStandsFor, IsSubterm, at_spot, IsSoundQuestion, MakesEqual, MakesEqualUpTo, HasMetSpots, HasClosed, HasAnswered}
use Rattle.si_unify.specs.Circles.{SaysTriangular}
use Rattle.si_unify.proofs.Places.{whole_at}
use Rattle.si_unify.proofs.Pieces.{handed_on}
use Rattle.si_unify.proofs.Comparing.{equal_before, solved_before}
use Rattle.si_unify.proofs.Ranks.{chained_of_triangular}
use Rattle.si_unify.proofs.Weights.{triangular_of_solved}
use Rattle.si_unify.proofs.Solutions.{solved_of_triangular}

-- the two terms stand at their spots
pub left_stands : (q : Question) (pairs : Pairs) (t : Term) → StandsFor q.left.now t → SpotStandsFor q pairs (left_spot q) t
left_stands q pairs t h = subst (λ l. IsAt l 0 t) (sym here) (whole_at q.left.now t h)
  where
    here : text q pairs (slot_count q.slots) ≡ q.left.now
    here = rw (eq-eqb (slot_count q.slots) (slot_count q.slots) refl) refl

pub right_stands : (q : Question) (pairs : Pairs) (t : Term) → StandsFor q.right.now t → SpotStandsFor q pairs (right_spot q) t
right_stands q pairs t h = subst (λ l. IsAt l 0 t) (sym here) (whole_at q.right.now t h)
  where
    differs : (n : ℕ) → ((n + 1) == n) ≡ false
    differs n = grind (arith, nat_tests)

    here : text q pairs (slot_count q.slots + 1) ≡ q.right.now
    here = rw (differs (slot_count q.slots), eq-eqb (slot_count q.slots + 1) (slot_count q.slots + 1) refl) refl

-- the same, where the slots have been counted
pub left_subterm : (q : Question) (pairs : Pairs) (n : ℕ) → n ≡ slot_count q.slots → IsSoundQuestion q pairs → IsSubterm q pairs (at_spot (record { base = n; at = 0 }) q.left)
left_subterm q pairs n e legal =
    subst (λ k. IsSubterm q pairs (at_spot (record { base = k; at = 0 }) q.left)) (sym e) (
    record {
      term = legal.left_whole.0;
      stands = left_stands q pairs legal.left_whole.0 legal.left_whole.1;
      whole = legal.left_whole.1;
    }
    )

pub right_subterm : (q : Question) (pairs : Pairs) (n : ℕ) → n ≡ slot_count q.slots → IsSoundQuestion q pairs → IsSubterm q pairs (at_spot (record { base = n + 1; at = 0 }) q.right)
right_subterm q pairs n e legal =
    subst (λ k. IsSubterm q pairs (at_spot (record { base = k + 1; at = 0 }) q.right)) (sym e) (
    record {
      term = legal.right_whole.0;
      stands = right_stands q pairs legal.right_whole.0 legal.right_whole.1;
      whole = legal.right_whole.1;
    }
    )

pub met_at :
    (q : Question) (old new : Pairs) (old_keys new_keys : List SpotPair) (n : ℕ) (b : Bool)
    → n ≡ slot_count q.slots
    → HasMetSpots q old new old_keys new_keys (record { base = n; at = 0 }) (record { base = n + 1; at = 0 }) b
    → HasMetSpots q old new old_keys new_keys (left_spot q) (right_spot q) b
met_at q old new old_keys new_keys n b e h =
    subst (λ k. HasMetSpots q old new old_keys new_keys (record { base = k; at = 0 }) (record { base = k + 1; at = 0 }) b) e h

pub legal_at_first : (q : Question) (pairs : Pairs) → AllByRecursion (IsBinding q.slots) pairs → IsAcyclic q.slots pairs → IsWhole q.left.now → IsWhole q.right.now → AreInRange q.slots q.left.now → AreInRange q.slots q.right.now → IsSoundQuestion q pairs
legal_at_first q pairs bindings triangular left right left_range right_range = record {
  bindings = bindings;
  left_whole = left;
  right_whole = right;
  left_in_range = left_range;
  right_in_range = right_range;
  chained = chained_of_triangular q.slots pairs triangular;
}

-- what was bound before stands in front
pub front_of : {X : Type 0} (old new : List X) → Grows old new → take (length old) new ≡ old
front_of old new grows = ap (take (length old)) grows.1 ∙ take-append_seam old grows.0

pub front_within : {X : Type 0} (old new : List X) → Grows old new → length old ≤ length new
front_within old new grows = omega (arith, ap length grows.1, length-append old grows.0)

-- ---- the answers
module _ (q : Question) (old mid : Pairs) (first keys : List SpotPair) (empty : first ≡ []) (legal : IsSoundQuestion q old) where
  module _ (met : HasMetSpots q old mid first keys (left_spot q) (right_spot q) true) where
    complete_so_far : (f : Variable → Term) → IsSolvedBy q.slots old f → Equalizes f q.left.now q.right.now → IsSolvedBy q.slots mid f × AllByRecursion (MakesEqual q mid f) keys
    complete_so_far f solved equal =
        (met.1 legal.left_whole.0 legal.right_whole.0 (left_stands q old _ legal.left_whole.1) (right_stands q old _ legal.right_whole.1)).complete
        f solved (subst (AllByRecursion (MakesEqual q old f)) (sym empty) tt) (equal legal.left_whole.0 legal.right_whole.0 legal.left_whole.1 legal.right_whole.1)

    module _ (new : Pairs) (grows : Grows mid new) (closed : HasClosed q mid new keys true) where
      complete_still : (f : Variable → Term) → IsSolvedBy q.slots old f → Equalizes f q.left.now q.right.now → IsSolvedBy q.slots new f
      complete_still f solved equal = let h = complete_so_far f solved equal in closed.2 f h.0 h.1

      sound_still : (f : Variable → Term) → IsSolvedBy q.slots new f → Equalizes f q.left.now q.right.now
      sound_still f solved t u left right =
          (met.1 t u (left_stands q old t left) (right_stands q old u right)).sound
          f (solved_before q mid new f grows solved)
          (
          equal_before q mid new keys keys f (terms.size (terms.substitute f t)) grows ([], sym (append-nil keys))
          (
          all_weaker (MakesEqual q new f) (MakesEqualUpTo q new f (terms.size (terms.substitute f t))) keys
          (λ k h a b stands_a stands_b few. h a b stands_a stands_b)
          (closed.1 f solved)
          )
          )

      pub answered : (b : Bool) → SaysTriangular q.slots new b → HasAnswered q old new b
      answered true told = (
        closed.0.bindings,
        told.0,
        sound_still,
        complete_still,
        told.1,
        handed_on old mid new q.left.now q.right.now met.0.handed_in closed.3,
      )
      answered false told = λ f solved equal. told (triangular_of_solved q.slots new f closed.0.bindings closed.0.chained (complete_still f solved equal))

    pub answered_unclosed : (new : Pairs) → HasClosed q mid new keys false → HasAnswered q old new false
    answered_unclosed new closed = λ f solved equal. let h = complete_so_far f solved equal in closed f h.0 h.1

  pub answered_unmet : (new : Pairs) → HasMetSpots q old mid first keys (left_spot q) (right_spot q) false → HasAnswered q old new false
  answered_unmet new met = λ f solved equal.
      met legal.left_whole.0 legal.right_whole.0 (left_stands q old _ legal.left_whole.1) (right_stands q old _ legal.right_whole.1)
      f solved (equal legal.left_whole.0 legal.right_whole.0 legal.left_whole.1 legal.right_whole.1)

-- ---- what the answers say of substitutions
pub solved_of : (q : Question) (old new : Pairs) (b : Bool) → Grows old new → HasAnswered q old new b → HasSolved q.slots old new q.left.now q.right.now b
solved_of q old new true grows h =
    let common : (s : Substitution Symbol Variable) → IsSolution q.slots new s → IsCommon q.slots old q.left.now q.right.now s =
    λ s solved. (solved_before q old new (image same_variable s) grows solved, h.2 (image same_variable s) solved) in
    let some = solved_of_triangular q.slots new h.0 h.4 h.1 in (
      (some.0, common some.0 some.1),
      λ s. (common s, λ both. h.3 (image same_variable s) both.0 both.1),
    )
solved_of q old new false grows h = λ some. h (image same_variable some.0) some.1.0 some.1.1

-- where it can't be done, nothing is said of the new list
pub unsolved_of : (q : Question) (old new other : Pairs) → HasAnswered q old new false → HasSolved q.slots old other q.left.now q.right.now false
unsolved_of q old new other h = λ some. h (image same_variable some.0) some.1.0 some.1.1
