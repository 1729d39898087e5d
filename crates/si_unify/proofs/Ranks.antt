-- Ranks that are no larger than the number of bindings, and what a search that found no circle
-- tells.
use Rattle.std.proofs.Common.{◌≡◌, ℕ, ◌+◌, ◌<◌, ◌≤◌, inl, inr, Bool, true, false, cond, List, [], ◌∷◌, length, refl, ap, arith, Option, None, Some}
use Rattle.std.proofs.lemmas.Bool.Decides.{eqb_tells, nat_tests}
use Rattle.std.proofs.lemmas.Bool.{eq-eqb}
use Rattle.std.proofs.Math.Dec.{leb}
use Rattle.std.specs.List.{AllByRecursion}
use Rattle.std.specs.Borrow.{Bor}
use Rattle.si_defs.proofs.ListLaws.{all_with, all_weaker}
use Rattle.si_flat.specs.declared.Cell.{Cell}
use Rattle.si_flat.specs.declared.Cell.TheVariants as cell
use Rattle.si_trail.specs.Trails.{value_at}
use Rattle.si_unify.specs.declared.slots.Slots.{Slots}
use Rattle.si_unify.specs.Solving.{Pairs, IsAcyclic, RanksBelow}
use Rattle.si_unify.specs.Spots.{cell_slot, ChainComesDown, ComesDown, IsChained}

-- how many pairs have a slot of at most this rank

abbrev at_most : (ℕ → ℕ) → ℕ → Pairs → ℕ
at_most rank n [] = 0
at_most rank n (pair ∷ pairs) = cond (leb (rank pair.0) n) 1 0 + at_most rank n pairs

at_most_all : (rank : ℕ → ℕ) (n : ℕ) (pairs : Pairs) → at_most rank n pairs ≤ length pairs
at_most_all rank n [] = omega arith
at_most_all rank n (pair ∷ pairs) = go (leb (rank pair.0) n) (at_most_all rank n pairs)
  where
    go : (b : Bool) → at_most rank n pairs ≤ length pairs → cond b 1 0 + at_most rank n pairs ≤ length (pair ∷ pairs)
    go true h = omega (arith, h)
    go false h = omega (arith, h)

at_most_more : (rank : ℕ → ℕ) (m n : ℕ) (pairs : Pairs) → m ≤ n → at_most rank m pairs ≤ at_most rank n pairs
at_most_more rank m n [] h = omega arith
at_most_more rank m n (pair ∷ pairs) h = let k = at_most_more rank m n pairs h in grind (arith, nat_tests)

-- a slot that is bound counts itself
at_most_less : (rank : ℕ → ℕ) (m : ℕ) (pairs : Pairs) (slot : ℕ) (v : Bor (List Cell)) → value_at pairs slot ≡ Some v → m < rank slot → at_most rank m pairs < at_most rank (rank slot) pairs
at_most_less rank m [] slot v e less = cc
at_most_less rank m (pair ∷ pairs) slot v e less =
    elim (eqb_tells pair.0 slot) [
      | inl h ↦
          let others = at_most_more rank m (rank slot) pairs (omega (arith, less)) in
          let same : rank pair.0 ≡ rank slot = ap rank h.1 in
          grind (arith, nat_tests)
      | inr h ↦
          let others = at_most_less rank m pairs slot v (rw h.0 at e) less in
          grind (arith, nat_tests)
    ]

at_most_some : (rank : ℕ → ℕ) (pairs : Pairs) (slot : ℕ) (v : Bor (List Cell)) → value_at pairs slot ≡ Some v → 0 < at_most rank (rank slot) pairs
at_most_some rank [] slot v e = cc
at_most_some rank (pair ∷ pairs) slot v e =
    elim (eqb_tells pair.0 slot) [
      | inl h ↦ let same : rank pair.0 ≡ rank slot = ap rank h.1 in grind (arith, nat_tests)
      | inr h ↦ let others = at_most_some rank pairs slot v (rw h.0 at e) in grind (arith, nat_tests)
    ]

-- each pair's slot has a value
abbrev pub IsBound : Pairs → ℕ × Bor (List Cell) → Type 0
IsBound pairs pair = (v : Bor (List Cell)) × (value_at pairs pair.0 ≡ Some v)

bound_behind : (first pair : ℕ × Bor (List Cell)) (pairs : Pairs) → IsBound pairs pair → IsBound (first ∷ pairs) pair
bound_behind first pair pairs h =
    elim (eqb_tells first.0 pair.0) [ inl k ↦ (first.1, rw k.0 refl) | inr k ↦ (h.0, rw k.0 h.1) ]

all_bound : (pairs : Pairs) → AllByRecursion (IsBound pairs) pairs
all_bound [] = tt
all_bound (pair ∷ pairs) = (
  (pair.1, rw (eq-eqb pair.0 pair.0 refl) refl),
  all_weaker (IsBound pairs) (IsBound (pair ∷ pairs)) pairs (λ p h. bound_behind pair p pairs h) (all_bound pairs),
)

below_at_most : (slots : Slots) (rank : ℕ → ℕ) (pairs : Pairs) (slot : ℕ) (o : Option ℕ) (v : Bor (List Cell)) → value_at pairs slot ≡ Some v → ChainComesDown rank slot o → ChainComesDown (λ z. at_most rank (rank z) pairs) slot o
below_at_most slots rank pairs slot None v e h = tt
below_at_most slots rank pairs slot (Some next) v e h = at_most_less rank (rank next) pairs slot v e h

below_of_ranks : (slots : Slots) (rank : ℕ → ℕ) (slot : ℕ) (c : Cell) → RanksBelow slots rank slot c → ChainComesDown rank slot (cell_slot slots c)
below_of_ranks slots rank slot (cell.App s a n) h = tt
below_of_ranks slots rank slot (cell.Query n) h = h
below_of_ranks slots rank slot (cell.Entry n) h = h
below_of_ranks slots rank slot (cell.Ind n) h = h

down_of_ranks : (slots : Slots) (rank : ℕ → ℕ) (pairs : Pairs) (slot : ℕ) (cells : List Cell) (v : Bor (List Cell)) → value_at pairs slot ≡ Some v → AllByRecursion (RanksBelow slots rank slot) cells → ComesDown slots (λ z. at_most rank (rank z) pairs) slot cells
down_of_ranks slots rank pairs slot [] v e h = tt
down_of_ranks slots rank pairs slot (c ∷ cells) v e h = below_at_most slots rank pairs slot (cell_slot slots c) v e (below_of_ranks slots rank slot c h.0)

-- a triangular list has ranks that are no larger than its length
pub chained_of_triangular : (slots : Slots) (pairs : Pairs) → IsAcyclic slots pairs → IsChained slots pairs
chained_of_triangular slots pairs t =
    let rank : ℕ → ℕ = λ z. at_most t.0 (t.0 z) pairs in
    record {
      rank = rank;
      few = λ z. at_most_all t.0 (t.0 z) pairs;
      positive = all_weaker (IsBound pairs) (λ pair. 0 < rank pair.0) pairs (λ pair h. at_most_some t.0 pairs pair.0 h.0 h.1) (all_bound pairs);
      down =
          all_with (IsBound pairs) (λ pair. AllByRecursion (RanksBelow slots t.0 pair.0) pair.1.now) (λ pair. ComesDown slots rank pair.0 pair.1.now) pairs
          (λ pair h k. down_of_ranks slots t.0 pairs pair.0 pair.1.now h.0 h.1 k) (all_bound pairs) t.1;
    }
