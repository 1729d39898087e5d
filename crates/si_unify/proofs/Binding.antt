-- Binding a variable to what another spot has.
use Rattle.std.proofs.Common.{◌≡◌, ◌≢◌, ℕ, ◌+◌, ◌<◌, ◌≤◌, inl, inr, false, cond, List, [], ◌∷◌, ◌++◌, length, take, drop, get_or, refl, sym, ◌∙◌, ap, subst, arith, append-nil, length-append, Option, None, Some}
use Rattle.std.proofs.lemmas.List.{take-append-drop}
use Rattle.std.proofs.lemmas.Bool.Decides.{eqb_tells}
use Rattle.std.proofs.lemmas.Bool.{eq-eqb}
use Rattle.std.specs.Prelude.{◌==◌}
use Rattle.std.specs.List.{AllByRecursion}
use Rattle.std.specs.Borrow.{Bor}
use Rattle.si_defs.specs.Terms as terms
use Rattle.si_defs.proofs.ListLaws.{all_with, all_weaker, all_append, all_front, all_back}
use Rattle.si_flat.specs.declared.Cell.{Cell}
use Rattle.si_flat.specs.Cells.{Variable, query, entry, ind, Term, variable_cell, cells_of, StandsFor, IsWhole}
use Rattle.si_trail.specs.Trails.{value_at}
use Rattle.si_unify.specs.declared.slots.Slots.{Slots}
use Rattle.si_unify.specs.declared.spots.Spot.{Spot}
use Rattle.si_unify.specs.declared.spots.SpotPair.{SpotPair}
use Rattle.si_unify.specs.declared.spots.Subterm.{Subterm}
use Rattle.si_unify.specs.declared.spots.Question.{Question}
use Rattle.si_unify.proofs.Pieces.{handed_one_more, piece_at}
use Rattle.si_unify.specs.Solving.{IsHandedIn, IsPieceOf, Pairs, slot_count, slot_of, variable_of, is_frozen, IsInRange, CellIsInRange, AreInRange, Equalizes, IsSolvedBy, IsBinding}
use Rattle.si_unify.specs.Spots.{cells_now, text, IsAt, SpotStandsFor, IsSpot, IsSubterm, at_spot, Binds, cell_slot, ChainComesDown, ComesDown, IsChained, IsSoundQuestion, MakesEqual, IsApart, ArePairs, Meets, IsGoingOn, IsUnbound}
use Rattle.si_unify.proofs.Reading.{same_term, one_term}
use Rattle.si_unify.proofs.Lists.{apart_from, still_bound}
use Rattle.si_unify.proofs.Places.{value_holds, at_unique, first_cell, first_of, inside, text_in_range, variable_of-slot_of}

-- ---- texts stay as the list grows
pub text_stays : (q : Question) (pairs more : Pairs) (base : ℕ) → 0 < length (text q pairs base) → text q (pairs ++ more) base ≡ text q pairs base
text_stays q pairs more base some =
    elim (eqb_tells base (slot_count q.slots)) [
      | inl h ↦ rw h.0 refl
      | inr h ↦
          elim (eqb_tells base (slot_count q.slots + 1)) [
            | inl k ↦ rw (h.0, k.0) refl
            | inr k ↦ rw (h.0, k.0) (value_stays (value_at pairs base) refl (rw (h.0, k.0) at some))
          ]
    ]
  where
    value_stays : (o : Option (Bor (List Cell))) → value_at pairs base ≡ o → 0 < length (cells_now (value_at pairs base)) → cells_now (value_at (pairs ++ more) base) ≡ cells_now (value_at pairs base)
    value_stays None e some = let none : 0 < length (cells_now None) = rw e at some in absurd (omega arith)
    value_stays (Some v) e some = ap cells_now (still_bound pairs more base v e ∙ sym e)

some_text : (q : Question) (pairs : Pairs) (spot : Spot) (t : Term) → SpotStandsFor q pairs spot t → 0 < length (text q pairs spot.base)
some_text q pairs spot t stands = omega (arith, inside _ _ t stands)

pub stands_still : (q : Question) (pairs more : Pairs) (spot : Spot) (t : Term) → SpotStandsFor q pairs spot t → SpotStandsFor q (pairs ++ more) spot t
stands_still q pairs more spot t stands = subst (λ l. IsAt l spot.at t) (sym (text_stays q pairs more spot.base (some_text q pairs spot t stands))) stands

-- a spot that stood before has the term that it had
pub stood : (q : Question) (pairs more : Pairs) (spot : Spot) (t u : Term) → SpotStandsFor q pairs spot t → SpotStandsFor q (pairs ++ more) spot u → SpotStandsFor q pairs spot u
stood q pairs more spot t u before after = subst (λ l. IsAt l spot.at u) (text_stays q pairs more spot.base (some_text q pairs spot t before)) after

pub apart_still : (q : Question) (pairs more : Pairs) (pair : SpotPair) → IsApart q pairs pair → IsApart q (pairs ++ more) pair
apart_still q pairs more pair h = record {
  symbol = h.symbol;
  left_arguments = h.left_arguments;
  right_arguments = h.right_arguments;
  left = stands_still q pairs more pair.left _ h.left;
  right = stands_still q pairs more pair.right _ h.right;
}

pub pairs_still : (q : Question) (pairs more : Pairs) (keys : List SpotPair) → ArePairs q pairs keys → ArePairs q (pairs ++ more) keys
pairs_still q pairs more keys h = all_weaker (IsApart q pairs) (IsApart q (pairs ++ more)) keys (apart_still q pairs more) h

pub equal_still : (q : Question) (pairs more : Pairs) (f : Variable → Term) (keys : List SpotPair) → ArePairs q pairs keys → AllByRecursion (MakesEqual q pairs f) keys → AllByRecursion (MakesEqual q (pairs ++ more) f) keys
equal_still q pairs more f keys apart equal =
    all_with (IsApart q pairs) (MakesEqual q pairs f) (MakesEqual q (pairs ++ more) f) keys
    (λ pair h k t u left right. k t u (stood q pairs more pair.left _ t h.left left) (stood q pairs more pair.right _ u h.right right))
    apart equal

pub solved_front : (slots : Slots) (pairs more : Pairs) (f : Variable → Term) → IsSolvedBy slots (pairs ++ more) f → IsSolvedBy slots pairs f
solved_front slots pairs more f h = record { frozen = h.frozen; equal = all_front (λ pair. Equalizes f (variable_cell (variable_of slots pair.0) ∷ []) pair.1.now) pairs more h.equal }

-- ---- what is cut out at a spot
pub cut_stands : (cells piece : List Cell) (at : ℕ) (u : Term) → IsAt cells at u → piece ≡ take (length piece) (drop at cells) → IsWhole piece → StandsFor piece u
cut_stands cells piece at u stands e whole =
    let at_w : IsAt cells at whole.0 = record {
      after = drop (length piece) (drop at cells);
      from =
          sym (take-append-drop (length piece) (drop at cells))
          ∙ ap (λ l. l ++ drop (length piece) (drop at cells)) (sym e ∙ whole.1.cells_are);
      sound = whole.1.sound;
    } in
    subst (StandsFor piece) (at_unique cells at whole.0 u at_w stands) whole.1

-- the cells of a subterm stand for the term at its spot
pub same_whole : (q : Question) (pairs : Pairs) (s : Subterm) (t : Term) → IsSubterm q pairs s → SpotStandsFor q pairs s.spot t → StandsFor s.cells.now t
same_whole q pairs s t is stands = subst (StandsFor s.cells.now) (at_unique _ _ is.term t is.stands stands) is.whole

-- the cells of the term at a spot
pub cut_subterm :
    (q : Question) (pairs : Pairs) (spot : Spot) (piece : Bor (List Cell))
    → IsSpot q pairs spot
    → piece.now ≡ take (length piece.now) (drop spot.at (text q pairs spot.base))
    → IsWhole piece.now
    → IsSubterm q pairs (at_spot spot piece)
cut_subterm q pairs spot piece some place whole = record {
  term = some.0;
  stands = some.1;
  whole = cut_stands (text q pairs spot.base) piece.now spot.at some.0 some.1 place whole;
}

piece_in_range : (slots : Slots) (cells piece : List Cell) → AreInRange slots cells → IsPieceOf cells piece → AreInRange slots piece
piece_in_range slots cells piece range h =
    all_back (CellIsInRange slots) h.before piece
    (all_front (CellIsInRange slots) (h.before ++ piece) h.after (subst (AreInRange slots) h.whole range))

pub binds_subterm :
    (q : Question) (old new : Pairs) (slot : ℕ) (s : Subterm)
    → IsSoundQuestion q old
    → IsSubterm q old s
    → new ≡ old ++ (slot, s.cells) ∷ []
    → Binds q old new slot s.spot
binds_subterm q old new slot s legal is e =
    let piece = piece_at (text q old s.spot.base) s.cells.now s.spot.at is.term is.stands is.whole in
    record {
      value = s.cells;
      pairs = e;
      whole = λ u stands. same_whole q old s u is stands;
      in_range = piece_in_range q.slots (text q old s.spot.base) s.cells.now (text_in_range q old s.spot.base legal) piece;
      piece = piece;
    }

-- ---- ranks
abbrev pub above : Option ℕ → ℕ → ℕ → ℕ
above None slot rank = rank + 1
above (Some target) slot rank = cond (target == slot) 0 (rank + 1)

above_most : (target : Option ℕ) (slot rank : ℕ) → above target slot rank ≤ rank + 1
above_most None slot rank = omega arith
above_most (Some target) slot rank = elim (eqb_tells target slot) [ inl h ↦ rw h.0 (omega arith) | inr h ↦ rw h.0 (omega arith) ]

-- a slot that isn't the target
abbrev pub IsNot : Option ℕ → ℕ → Type 0
IsNot None slot = Unit {0}
IsNot (Some target) slot = target ≢ slot

above_exact : (target : Option ℕ) (slot rank : ℕ) → IsNot target slot → above target slot rank ≡ rank + 1
above_exact None slot rank differs = refl
above_exact (Some target) slot rank differs = elim (eqb_tells target slot) [ inl h ↦ absurd (differs h.1) | inr h ↦ rw h.0 refl ]

none_all : (pairs : Pairs) → AllByRecursion (λ pair. IsNot None pair.0) pairs
none_all [] = tt
none_all (p ∷ ps) = (tt, none_all ps)

bound_apart : (pairs : Pairs) (o : Option ℕ) → IsUnbound pairs o → AllByRecursion (λ pair. IsNot o pair.0) pairs
bound_apart pairs None ends = none_all pairs
bound_apart pairs (Some k) ends = all_weaker (λ pair. pair.0 ≢ k) (λ pair. k ≢ pair.0) pairs (λ pair h e. h (sym e)) (apart_from pairs k ends)

below_still : (o : Option ℕ) (rank : ℕ → ℕ) (slot : ℕ) (next : Option ℕ) → IsNot o slot → ChainComesDown rank slot next → ChainComesDown (λ k. above o k (rank k)) slot next
below_still o rank slot None differs h = tt
below_still o rank slot (Some next) differs h =
    let here : above o slot (rank slot) ≡ rank slot + 1 = above_exact o slot (rank slot) differs in
    omega (arith, here, above_most o next (rank next), h)

down_still : (slots : Slots) (o : Option ℕ) (rank : ℕ → ℕ) (slot : ℕ) (cells : List Cell) → IsNot o slot → ComesDown slots rank slot cells → ComesDown slots (λ k. above o k (rank k)) slot cells
down_still slots o rank slot [] differs h = tt
down_still slots o rank slot (c ∷ cells) differs h = below_still o rank slot (cell_slot slots c) differs h

down_new : (o : Option ℕ) (rank : ℕ → ℕ) (slot : ℕ) → IsNot o slot → ChainComesDown (λ k. above o k (rank k)) slot o
down_new None rank slot differs = tt
down_new (Some target) rank slot differs =
    let here : above (Some target) slot (rank slot) ≡ rank slot + 1 = above_exact (Some target) slot (rank slot) differs in
    let there : above (Some target) target (rank target) ≡ 0 = rw (eq-eqb target target refl) refl in
    omega (arith, here, there)

down_first : (slots : Slots) (rank : ℕ → ℕ) (slot : ℕ) (cells : List Cell) (u : Term) → StandsFor cells u → ChainComesDown rank slot (cell_slot slots (first_cell u)) → ComesDown slots rank slot cells
down_first slots rank slot [] u whole h = tt
down_first slots rank slot (c ∷ cells) u whole h =
    let first : c ≡ first_cell u = ap (λ l. get_or l 0 c) (whole.cells_are ∙ sym (append-nil (cells_of u))) ∙ first_of u [] c in
    subst (λ d. ChainComesDown rank slot (cell_slot slots d)) (sym first) h

pub chained_bound :
    (slots : Slots) (pairs : Pairs) (slot : ℕ) (v : Bor (List Cell)) (u : Term)
    → IsChained slots pairs
    → StandsFor v.now u
    → IsUnbound pairs (cell_slot slots (first_cell u))
    → IsNot (cell_slot slots (first_cell u)) slot
    → IsChained slots (pairs ++ (slot, v) ∷ [])
chained_bound slots pairs slot v u chained whole ends differs =
    let o : Option ℕ = cell_slot slots (first_cell u) in
    let apart : AllByRecursion (λ pair. IsNot o pair.0) pairs = bound_apart pairs o ends in
    let rank : ℕ → ℕ = λ k. above o k (chained.rank k) in
    record {
      rank = rank;
      few = λ k. omega (arith, above_most o k (chained.rank k), chained.few k, length-append pairs ((slot, v) ∷ []));
      positive = all_append (λ pair. 0 < rank pair.0) pairs ((slot, v) ∷ [])
          (all_weaker (λ pair. IsNot o pair.0) (λ pair. 0 < rank pair.0) pairs (λ pair h. omega (arith, above_exact o pair.0 (chained.rank pair.0) h)) apart)
          (omega (arith, above_exact o slot (chained.rank slot) differs), tt);
      down = all_append (λ pair. ComesDown slots rank pair.0 pair.1.now) pairs ((slot, v) ∷ [])
          (
          all_with (λ pair. IsNot o pair.0) (λ pair. ComesDown slots chained.rank pair.0 pair.1.now) (λ pair. ComesDown slots rank pair.0 pair.1.now) pairs
          (λ pair h k. down_still slots o chained.rank pair.0 pair.1.now h k)
          apart chained.down
          )
          (down_first slots rank slot v.now u whole (down_new o chained.rank slot differs), tt);
    }

-- ---- binding a variable that is free and unbound
-- what is known where the variable x is bound to the term u, whose cells are v
pub record CanBind (q : Question) (pairs : Pairs) (keys : List SpotPair) (x : Variable) (u : Term) (slot : ℕ) (v : Bor (List Cell)) : Type 0 where
  pub legal : IsSoundQuestion q pairs
  pub apart : ArePairs q pairs keys
  pub slot_is : slot_of q.slots x ≡ slot
  pub range : IsInRange q.slots x
  pub free : is_frozen q.slots x ≡ false
  pub whole : StandsFor v.now u
  pub value_range : AreInRange q.slots v.now
  pub handed_in : IsHandedIn pairs q.left.now q.right.now v.now
  pub ends : IsUnbound pairs (cell_slot q.slots (first_cell u))
  pub differs : IsNot (cell_slot q.slots (first_cell u)) slot

pub slot_below : (slots : Slots) (x : Variable) → IsInRange slots x → slot_of slots x < slot_count slots
slot_below slots (query n) h = omega arith
slot_below slots (entry n) h = omega arith
slot_below slots (ind n) h = omega arith

back_of : (q : Question) (pairs : Pairs) (keys : List SpotPair) (x : Variable) (u : Term) (slot : ℕ) (v : Bor (List Cell)) → CanBind q pairs keys x u slot v → variable_of q.slots slot ≡ x
back_of q pairs keys x u slot v h = ap (variable_of q.slots) (sym h.slot_is) ∙ variable_of-slot_of q.slots x h.range

pub bound_legal : (q : Question) (pairs : Pairs) (keys : List SpotPair) (x : Variable) (u : Term) (slot : ℕ) (v : Bor (List Cell)) → CanBind q pairs keys x u slot v → IsSoundQuestion q (pairs ++ (slot, v) ∷ [])
bound_legal q pairs keys x u slot v h = record {
  bindings = all_append (IsBinding q.slots) pairs ((slot, v) ∷ []) h.legal.bindings (
    record {
      below = subst (λ k. k < slot_count q.slots) h.slot_is (slot_below q.slots x h.range);
      unfrozen = ap (is_frozen q.slots) (back_of q pairs keys x u slot v h) ∙ h.free;
      whole = (u, h.whole);
      in_range = h.value_range;
    },
    tt,
  );
  left_whole = h.legal.left_whole;
  right_whole = h.legal.right_whole;
  left_in_range = h.legal.left_in_range;
  right_in_range = h.legal.right_in_range;
  chained = chained_bound q.slots pairs slot v u h.legal.chained h.whole h.ends h.differs;
}

-- the only term of a variable's cell is the variable
one_variable : (x : Variable) (t : Term) → StandsFor (variable_cell x ∷ []) t → t ≡ terms.var x
one_variable x t h = sym (same_term (terms.var x) t [] [] tt h.sound (h.cells_are ∙ sym (append-nil (cells_of t)))).same

pub bound_solved :
    (q : Question) (pairs : Pairs) (keys : List SpotPair) (x : Variable) (u : Term) (slot : ℕ) (v : Bor (List Cell))
    → CanBind q pairs keys x u slot v
    → (f : Variable → Term)
    → IsSolvedBy q.slots pairs f
    → f x ≡ terms.substitute f u
    → IsSolvedBy q.slots (pairs ++ (slot, v) ∷ []) f
bound_solved q pairs keys x u slot v h f solved e = record {
  frozen = solved.frozen;
  equal = all_append (λ pair. Equalizes f (variable_cell (variable_of q.slots pair.0) ∷ []) pair.1.now) pairs ((slot, v) ∷ []) solved.equal (
    λ t w t_stands w_stands.
        ap (terms.substitute f) (one_variable (variable_of q.slots slot) t t_stands)
        ∙ ap f (back_of q pairs keys x u slot v h)
        ∙ e
        ∙ ap (terms.substitute f) (one_term v.now u w h.whole w_stands),
    tt,
  );
}

pub bound_equal :
    (q : Question) (pairs : Pairs) (keys : List SpotPair) (x : Variable) (u : Term) (slot : ℕ) (v : Bor (List Cell))
    → CanBind q pairs keys x u slot v
    → (f : Variable → Term)
    → IsSolvedBy q.slots (pairs ++ (slot, v) ∷ []) f
    → f x ≡ terms.substitute f u
bound_equal q pairs keys x u slot v h f solved =
    let last = (all_back (λ pair. Equalizes f (variable_cell (variable_of q.slots pair.0) ∷ []) pair.1.now) pairs ((slot, v) ∷ []) solved.equal).0 in
    ap f (sym (back_of q pairs keys x u slot v h))
    ∙ last (terms.var (variable_of q.slots slot)) u (record { cells_are = refl; sound = tt }) h.whole

-- the variable on the left, or on the right
pub binding_meets : (q : Question) (pairs : Pairs) (keys : List SpotPair) (x : Variable) (u : Term) (slot : ℕ) (v : Bor (List Cell)) → CanBind q pairs keys x u slot v → Meets q pairs (pairs ++ (slot, v) ∷ []) keys keys (terms.var x) u
binding_meets q pairs keys x u slot v h = record {
  sound = λ f solved _. bound_equal q pairs keys x u slot v h f solved;
  complete = λ f solved equal e. (bound_solved q pairs keys x u slot v h f solved e, equal_still q pairs ((slot, v) ∷ []) f keys h.apart equal);
}

pub binding_meets_right : (q : Question) (pairs : Pairs) (keys : List SpotPair) (x : Variable) (u : Term) (slot : ℕ) (v : Bor (List Cell)) → CanBind q pairs keys x u slot v → Meets q pairs (pairs ++ (slot, v) ∷ []) keys keys u (terms.var x)
binding_meets_right q pairs keys x u slot v h = record {
  sound = λ f solved _. sym (bound_equal q pairs keys x u slot v h f solved);
  complete = λ f solved equal e. (bound_solved q pairs keys x u slot v h f solved (sym e), equal_still q pairs ((slot, v) ∷ []) f keys h.apart equal);
}

pub binding_goes_on : (q : Question) (pairs : Pairs) (keys : List SpotPair) (x : Variable) (u : Term) (slot : ℕ) (v : Bor (List Cell)) → CanBind q pairs keys x u slot v → IsGoingOn q pairs (pairs ++ (slot, v) ∷ []) keys keys
binding_goes_on q pairs keys x u slot v h = record {
  grows = ((slot, v) ∷ [], refl);
  keys_grow = ([], sym (append-nil keys));
  legal = bound_legal q pairs keys x u slot v h;
  keys = pairs_still q pairs ((slot, v) ∷ []) keys h.apart;
  handed_in = handed_one_more pairs q.left.now q.right.now slot v h.handed_in;
}

-- ---- texts are whole
pub text_whole : (q : Question) (pairs : Pairs) (spot : Spot) → IsSoundQuestion q pairs → IsSpot q pairs spot → IsWhole (text q pairs spot.base)
text_whole q pairs spot legal stands =
    elim (eqb_tells spot.base (slot_count q.slots)) [
      | inl h ↦ rw h.0 legal.left_whole
      | inr h ↦
          elim (eqb_tells spot.base (slot_count q.slots + 1)) [
            | inl k ↦ rw (h.0, k.0) legal.right_whole
            | inr k ↦ rw (h.0, k.0) (value_whole (value_at pairs spot.base) refl (rw (h.0, k.0) at (some_text q pairs spot stands.0 stands.1)))
          ]
    ]
  where
    value_whole : (o : Option (Bor (List Cell))) → value_at pairs spot.base ≡ o → 0 < length (cells_now (value_at pairs spot.base)) → IsWhole (cells_now (value_at pairs spot.base))
    value_whole None e some = let none : 0 < length (cells_now None) = rw e at some in absurd (omega arith)
    value_whole (Some v) e some = rw e (value_holds (IsBinding q.slots) pairs spot.base v legal.bindings e).whole
