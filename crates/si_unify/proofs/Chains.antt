-- Going down a chain of variables that are bound to variables.
use Rattle.std.proofs.Common.{◌≡◌, ℕ, ◌+◌, ◌<◌, ◌≤◌, List, [], ◌∷◌, length, get_or, refl, sym, ◌∙◌, ap, subst, arith, Option, None, Some}
use Rattle.std.specs.Borrow.{Bor}
use Rattle.si_defs.specs.Terms as terms
use Rattle.si_flat.specs.declared.Cell.{Cell}
use Rattle.si_flat.specs.declared.Cell.TheVariants as cell
use Rattle.si_flat.specs.Cells.{Variable, Term, variable_cell, StandsFor}
use Rattle.si_trail.specs.Trails.{value_at}
use Rattle.si_unify.specs.declared.slots.Slots.{Slots}
use Rattle.si_unify.specs.declared.spots.Spot.{Spot}
use Rattle.si_unify.specs.declared.spots.Subterm.{Subterm}
use Rattle.si_unify.specs.declared.spots.Question.{Question}
use Rattle.si_unify.specs.Solving.{Pairs, variable_of, CellIsInRange, Equalizes, IsSolvedBy, IsBinding}
use Rattle.si_unify.specs.Spots.{IsAt, SpotStandsFor, IsSpot, IsSubterm, at_spot, cell_at, cell_slot, ChainComesDown, ComesDown, IsSoundQuestion, IsUnbound, slot_at, ComesTo}
use Rattle.si_unify.proofs.Places.{value_holds, whole_at, first_cell, cell-at, inside, in_range-at, in_range-variable, variable_of-slot_of, text-bound, text_in_range, slot_variable}

abbrev pub no_cell : Cell
no_cell = cell.App 0 0 0

abbrev pub at_slot : ℕ → Spot
at_slot slot = record { base = slot; at = 0 }

-- ---- the first cell of a subterm
pub head_inside : (q : Question) (pairs : Pairs) (s : Subterm) → IsSubterm q pairs s → 0 < length s.cells.now
head_inside q pairs s is = inside s.cells.now 0 is.term (whole_at s.cells.now is.term is.whole)

pub head_is : (q : Question) (pairs : Pairs) (s : Subterm) → IsSubterm q pairs s → get_or s.cells.now 0 no_cell ≡ cell_at q pairs s.spot
head_is q pairs s is =
    cell-at s.cells.now 0 is.term no_cell (whole_at s.cells.now is.term is.whole) ∙ sym (cell-at _ _ is.term no_cell is.stands)

-- ---- chains
-- the term at the spot is one that each solution makes equal to t
pub record Reaches (q : Question) (pairs : Pairs) (t : Term) (spot : Spot) : Type 0 where
  pub term : Term
  pub stands : SpotStandsFor q pairs spot term
  pub same : (f : Variable → Term) → IsSolvedBy q.slots pairs f → terms.substitute f t ≡ terms.substitute f term

-- so many steps down the chain
pub record IsOnChain (q : Question) (pairs : Pairs) (from spot : Spot) (steps : ℕ) : Type 0 where
  pub legal : IsSoundQuestion q pairs
  pub comes : (t : Term) → SpotStandsFor q pairs from t → Reaches q pairs t spot
  pub some : IsSpot q pairs from
  pub short : steps ≤ length pairs
  pub low : (slot : ℕ) → slot_at q pairs spot ≡ Some slot → legal.chained.rank slot + steps ≤ length pairs

pub chain_starts : (q : Question) (pairs : Pairs) (from : Spot) → IsSoundQuestion q pairs → IsSpot q pairs from → IsOnChain q pairs from from 0
chain_starts q pairs from legal some = record {
  legal = legal;
  comes = λ t h. record { term = t; stands = h; same = λ f _. refl };
  some = some;
  short = omega arith;
  low = λ slot _. omega (arith, legal.chained.few slot);
}

-- a variable's term, and that of its value
value_same :
    (q : Question) (pairs : Pairs) (spot : Spot) (t : Term) (slot : ℕ) (v : Bor (List Cell)) (u : Term)
    → IsSoundQuestion q pairs
    → SpotStandsFor q pairs spot t
    → slot_at q pairs spot ≡ Some slot
    → value_at pairs slot ≡ Some v
    → StandsFor v.now u
    → (f : Variable → Term)
    → IsSolvedBy q.slots pairs f
    → terms.substitute f t ≡ terms.substitute f u
value_same q pairs spot t slot v u legal stands here bound whole f solved =
    let first = cell-at _ _ t no_cell stands in
    let x = slot_variable q.slots t slot (ap (cell_slot q.slots) (sym first) ∙ here) in
    let range : CellIsInRange q.slots (first_cell t) =
    subst (CellIsInRange q.slots) first (in_range-at q.slots _ _ no_cell (text_in_range q pairs spot.base legal) (inside _ _ t stands)) in
    let range' : CellIsInRange q.slots (variable_cell x.0) = subst (λ w. CellIsInRange q.slots (first_cell w)) x.1 range in
    let back : variable_of q.slots slot ≡ x.0 =
    ap (variable_of q.slots) (sym x.2) ∙ variable_of-slot_of q.slots x.0 (in_range-variable q.slots x.0 range') in
    let equal : Equalizes f (variable_cell (variable_of q.slots slot) ∷ []) v.now =
    value_holds (λ pair. Equalizes f (variable_cell (variable_of q.slots pair.0) ∷ []) pair.1.now) pairs slot v solved.equal bound in
    ap (terms.substitute f) x.1
    ∙ ap f (sym back)
    ∙ equal (terms.var (variable_of q.slots slot)) u (record { cells_are = refl; sound = tt }) whole

value_stands :
    (q : Question) (pairs : Pairs) (slot : ℕ) (v : Bor (List Cell)) (u : Term)
    → IsSoundQuestion q pairs
    → value_at pairs slot ≡ Some v
    → StandsFor v.now u
    → SpotStandsFor q pairs (at_slot slot) u
value_stands q pairs slot v u legal bound whole =
    let here = text-bound q pairs slot v (value_holds (IsBinding q.slots) pairs slot v legal.bindings bound).below bound in
    subst (λ l. IsAt l 0 u) (sym here) (whole_at v.now u whole)

-- the next slot has a smaller rank
next_below : (slots : Slots) (rank : ℕ → ℕ) (slot next : ℕ) (u : Term) (cells : List Cell) → StandsFor cells u → ComesDown slots rank slot cells → cell_slot slots (get_or cells 0 no_cell) ≡ Some next → rank next < rank slot
next_below slots rank slot next u [] whole down e = cc
next_below slots rank slot next u (c ∷ cells) whole down e = subst (ChainComesDown rank slot) e down

pub chain_goes_on :
    (q : Question) (pairs : Pairs) (from spot : Spot) (steps slot : ℕ) (v : Bor (List Cell))
    → IsOnChain q pairs from spot steps
    → slot_at q pairs spot ≡ Some slot
    → value_at pairs slot ≡ Some v
    → IsOnChain q pairs from (at_slot slot) (steps + 1)
chain_goes_on q pairs from spot steps slot v h here bound =
    let binding = value_holds (IsBinding q.slots) pairs slot v h.legal.bindings bound in
    let u = binding.whole.0 in
    let whole = binding.whole.1 in
    let positive : 0 < h.legal.chained.rank slot = value_holds (λ pair. 0 < h.legal.chained.rank pair.0) pairs slot v h.legal.chained.positive bound in
    let down : ComesDown q.slots h.legal.chained.rank slot v.now =
    value_holds (λ pair. ComesDown q.slots h.legal.chained.rank pair.0 pair.1.now) pairs slot v h.legal.chained.down bound in
    record {
      legal = h.legal;
      comes = λ t stands. let r = h.comes t stands in record {
        term = u;
        stands = value_stands q pairs slot v u h.legal bound whole;
        same = λ f solved. r.same f solved ∙ value_same q pairs spot r.term slot v u h.legal r.stands here bound whole f solved;
      };
      some = h.some;
      short = omega (arith, positive, h.low slot here);
      low = λ next e.
          let there = text-bound q pairs slot v binding.below bound in
          let less = next_below q.slots h.legal.chained.rank slot next u v.now whole down (ap (λ l. cell_slot q.slots (get_or l 0 no_cell)) (sym there) ∙ e) in
          omega (arith, less, h.low slot here);
    }

pub chain_ends :
    (q : Question) (pairs : Pairs) (from spot : Spot) (steps : ℕ)
    → IsOnChain q pairs from spot steps
    → IsUnbound pairs (slot_at q pairs spot)
    → (t : Term)
    → SpotStandsFor q pairs from t
    → ComesTo q pairs t spot
chain_ends q pairs from spot steps h ends t stands =
    let r = h.comes t stands in record { term = r.term; stands = r.stands; same = r.same; ends = ends }

-- a value is a subterm
pub value_subterm : (q : Question) (pairs : Pairs) (slot : ℕ) (v : Bor (List Cell)) → IsSoundQuestion q pairs → value_at pairs slot ≡ Some v → IsSubterm q pairs (at_spot (at_slot slot) v)
value_subterm q pairs slot v legal bound =
    let whole = (value_holds (IsBinding q.slots) pairs slot v legal.bindings bound).whole in
    record {
      term = whole.0;
      stands = value_stands q pairs slot v whole.0 legal bound whole.1;
      whole = whole.1;
    }

-- a chain is no longer than the list
pub chain_full : (q : Question) (pairs : Pairs) (from spot : Spot) (steps : ℕ) → IsOnChain q pairs from spot steps → length pairs ≤ steps → IsUnbound pairs (slot_at q pairs spot)
chain_full q pairs from spot steps h full = at_end (slot_at q pairs spot) refl
  where
    bound_end : (slot : ℕ) → slot_at q pairs spot ≡ Some slot → (o : Option (Bor (List Cell))) → value_at pairs slot ≡ o → value_at pairs slot ≡ None
    bound_end slot here None e = e
    bound_end slot here (Some v) e = let on = chain_goes_on q pairs from spot steps slot v h here e in absurd (omega (arith, on.short))

    at_end : (o : Option ℕ) → slot_at q pairs spot ≡ o → IsUnbound pairs o
    at_end None e = tt
    at_end (Some slot) e = bound_end slot e (value_at pairs slot) refl
