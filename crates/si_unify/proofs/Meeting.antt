-- What happens where two ends of chains meet.
use Rattle.std.proofs.Common.{◌≡◌, ◌≢◌, ℕ, ◌+◌, ◌<◌, ◌⊎◌, inl, inr, Bool, true, false, cond, List, [], ◌∷◌, ◌++◌, refl, sym, ◌∙◌, ap, subst, arith, append-nil, Option, None, Some}
use Rattle.std.proofs.lemmas.Bool.Decides.{eqb_tells}
use Rattle.std.proofs.lemmas.Bool.{eq-eqb, eqb-true, and_parts}
use Rattle.std.specs.Prelude.{◌==◌, ◌&&◌, slice_get}
use Rattle.std.specs.List.{AllByRecursion}
use Rattle.std.specs.Borrow.{Bor}
use Rattle.si_defs.specs.Terms as terms
use Rattle.si_defs.proofs.ListLaws.{all_append, all_got}
use Rattle.si_defs.proofs.TermLaws.{no_arguments}
use Rattle.si_flat.specs.declared.Cell.{Cell}
use Rattle.si_flat.specs.declared.Cell.TheVariants as cell
use Rattle.si_flat.specs.Cells.{Symbol, Variable, query, entry, ind, Term, Terms, variable_cell, IsSound, StandsFor}
use Rattle.si_unify.specs.declared.slots.Slots.{Slots}
use Rattle.si_unify.specs.declared.spots.Spot.{Spot}
use Rattle.si_unify.specs.declared.spots.SpotPair.{SpotPair}
use Rattle.si_unify.specs.declared.spots.Question.{Question}
use Rattle.si_unify.proofs.Pieces.{handed_still, handed_piece, text_handed_in}
use Rattle.si_unify.specs.Solving.{IsPieceOf, Pairs, slot_count, slot_of, variable_of, is_frozen, CellIsInRange, AreInRange}
use Rattle.si_unify.specs.Spots.{text, SpotStandsFor, IsSpot, IsEnd, cell_at, slot_at, cell_slot, free_slot, same_slot, IsSoundQuestion, MakesEqual, MakesEqualUpTo, IsApart, ArePairs, Meets, Refutes, IsGoingOn, IsUnbound, Binds, HasMetSpots}
use Rattle.si_unify.specs.Symbols.{same_symbol}
use Rattle.si_unify.proofs.Places.{at_unique, first_cell, cell-at, inside, in_range-at, in_range-variable, variable_of-slot_of, text_in_range, slot_variable}
use Rattle.si_unify.proofs.Chains.{no_cell}
use Rattle.si_unify.proofs.Binding.{IsNot, CanBind, slot_below, binding_meets, binding_meets_right, binding_goes_on}

-- ---- what the cell at a spot tells
pub first_at : (q : Question) (pairs : Pairs) (spot : Spot) (t : Term) → SpotStandsFor q pairs spot t → cell_at q pairs spot ≡ first_cell t
first_at q pairs spot t stands = cell-at _ _ t no_cell stands

pub range_at : (q : Question) (pairs : Pairs) (spot : Spot) (t : Term) → IsSoundQuestion q pairs → SpotStandsFor q pairs spot t → CellIsInRange q.slots (first_cell t)
range_at q pairs spot t legal stands =
    subst (CellIsInRange q.slots) (first_at q pairs spot t stands) (in_range-at q.slots _ _ no_cell (text_in_range q pairs spot.base legal) (inside _ _ t stands))

-- a free variable
pub record IsFree (slots : Slots) (t : Term) (slot : ℕ) : Type 0 where
  pub variable : Variable
  pub is : t ≡ terms.var variable
  pub slot_is : slot_of slots variable ≡ slot
  pub free : is_frozen slots variable ≡ false

pub free_variable : (slots : Slots) (t : Term) (slot : ℕ) → free_slot slots (first_cell t) ≡ Some slot → IsFree slots t slot
free_variable slots (terms.app s ts) slot e = cc
free_variable slots (terms.var (ind n)) slot e = record { variable = ind n; is = refl; slot_is = cc; free = refl }
free_variable slots (terms.var (query n)) slot e = query_free slots.freeze_query refl e
  where
    query_free : (b : Bool) → slots.freeze_query ≡ b → cond b None (Some n) ≡ Some slot → IsFree slots (terms.var (query n)) slot
    query_free true is e = cc
    query_free false is e = record { variable = query n; is = refl; slot_is = cc; free = is }
free_variable slots (terms.var (entry n)) slot e = entry_free slots.freeze_entry refl e
  where
    entry_free : (b : Bool) → slots.freeze_entry ≡ b → cond b None (Some (slots.query + n)) ≡ Some slot → IsFree slots (terms.var (entry n)) slot
    entry_free true is e = cc
    entry_free false is e = record { variable = entry n; is = refl; slot_is = cc; free = is }

abbrev frozen_slot : Bool → ℕ → Option ℕ
frozen_slot b n = cond b None (Some n)

pub frozen_variable : (slots : Slots) (x : Variable) → free_slot slots (variable_cell x) ≡ None → is_frozen slots x ≡ true
frozen_variable slots (ind n) e = cc
frozen_variable slots (query n) e = go slots.freeze_query refl e
  where
    go : (b : Bool) → slots.freeze_query ≡ b → frozen_slot b n ≡ None → slots.freeze_query ≡ true
    go true is e = is
    go false is e = cc
frozen_variable slots (entry n) e = go slots.freeze_entry refl e
  where
    go : (b : Bool) → slots.freeze_entry ≡ b → frozen_slot b (slots.query + n) ≡ None → slots.freeze_entry ≡ true
    go true is e = is
    go false is e = cc

-- ---- nothing changes
pub goes_nowhere : (q : Question) (pairs : Pairs) (keys : List SpotPair) → IsSoundQuestion q pairs → ArePairs q pairs keys → IsGoingOn q pairs pairs keys keys
goes_nowhere q pairs keys legal apart = record {
  grows = ([], sym (append-nil pairs));
  keys_grow = ([], sym (append-nil keys));
  legal = legal;
  keys = apart;
  handed_in = handed_still pairs q.left.now q.right.now;
}

pub equal_meets : (q : Question) (pairs : Pairs) (keys : List SpotPair) (t u : Term) → t ≡ u → Meets q pairs pairs keys keys t u
equal_meets q pairs keys t u e = record {
  sound = λ f _ _. ap (terms.substitute f) e;
  complete = λ f solved equal _. (solved, equal);
}

-- ---- one variable on both sides
some_slot : (o p : Option ℕ) → same_slot o p ≡ true → (slot : ℕ) × (o ≡ Some slot) × (p ≡ Some slot)
some_slot None p e = cc
some_slot (Some m) None e = cc
some_slot (Some m) (Some n) e =
    elim (eqb_tells m n) [
      | inl h ↦ (m, refl, ap Some (sym h.1))
      | inr h ↦ let bad : true ≡ false = sym e ∙ h.0 in cc
    ]

pub same_variable_met : (q : Question) (pairs : Pairs) (keys : List SpotPair) (left right : Spot) → IsSoundQuestion q pairs → ArePairs q pairs keys → same_slot (slot_at q pairs left) (slot_at q pairs right) ≡ true → HasMetSpots q pairs pairs keys keys left right true
same_variable_met q pairs keys left right legal apart e =
    let s = some_slot (slot_at q pairs left) (slot_at q pairs right) e in (
      goes_nowhere q pairs keys legal apart,
      λ t u left_stands right_stands.
          let x = slot_variable q.slots t s.0 (ap (cell_slot q.slots) (sym (first_at q pairs left t left_stands)) ∙ s.1) in
          let y = slot_variable q.slots u s.0 (ap (cell_slot q.slots) (sym (first_at q pairs right u right_stands)) ∙ s.2) in
          let x_range = in_range-variable q.slots x.0 (subst (λ w. CellIsInRange q.slots (first_cell w)) x.1 (range_at q pairs left t legal left_stands)) in
          let y_range = in_range-variable q.slots y.0 (subst (λ w. CellIsInRange q.slots (first_cell w)) y.1 (range_at q pairs right u legal right_stands)) in
          let same : x.0 ≡ y.0 =
          sym (variable_of-slot_of q.slots x.0 x_range) ∙ ap (variable_of q.slots) (x.2 ∙ sym y.2) ∙ variable_of-slot_of q.slots y.0 y_range in
          equal_meets q pairs keys t u (x.1 ∙ ap terms.var same ∙ sym y.1),
    )

-- ---- a free variable on one side
not_same : (o : Option ℕ) (slot : ℕ) → same_slot (Some slot) o ≡ false → IsNot o slot
not_same None slot e = tt
not_same (Some k) slot e = λ same. let bad : true ≡ false = sym (eq-eqb slot k (sym same)) ∙ e in cc

same_slot_comm : (o p : Option ℕ) → same_slot o p ≡ same_slot p o
same_slot_comm None None = refl
same_slot_comm None (Some n) = refl
same_slot_comm (Some m) None = refl
same_slot_comm (Some m) (Some n) = elim (eqb_tells m n) [ inl h ↦ h.0 ∙ sym (eq-eqb n m (sym h.1)) | inr h ↦ h.0 ∙ sym (differ n m (λ e. h.1 (sym e))) ]
  where
    differ : (a b : ℕ) → a ≢ b → (a == b) ≡ false
    differ a b ne = elim (eqb_tells a b) [ inl h ↦ absurd (ne h.1) | inr h ↦ h.0 ]

pub slot_of-cell : (slots : Slots) (x : Variable) → cell_slot slots (variable_cell x) ≡ Some (slot_of slots x)
slot_of-cell slots (query n) = refl
slot_of-cell slots (entry n) = refl
slot_of-cell slots (ind n) = refl

pub record MeetsEnds (q : Question) (pairs : Pairs) (keys : List SpotPair) (left right : Spot) : Type 0 where
  pub legal : IsSoundQuestion q pairs
  pub apart : ArePairs q pairs keys
  pub left_end : IsEnd q pairs left
  pub right_end : IsEnd q pairs right
  pub differ : same_slot (slot_at q pairs left) (slot_at q pairs right) ≡ false

can_bind :
    (q : Question) (pairs : Pairs) (keys : List SpotPair) (left right : Spot) (t u : Term) (slot : ℕ) (v : Bor (List Cell))
    → MeetsEnds q pairs keys left right
    → SpotStandsFor q pairs left t
    → SpotStandsFor q pairs right u
    → (free : IsFree q.slots t slot)
    → StandsFor v.now u
    → AreInRange q.slots v.now
    → IsPieceOf (text q pairs right.base) v.now
    → CanBind q pairs keys free.variable u slot v
can_bind q pairs keys left right t u slot v h left_stands right_stands free whole range piece =
    let right_is : slot_at q pairs right ≡ cell_slot q.slots (first_cell u) = ap (cell_slot q.slots) (first_at q pairs right u right_stands) in
    let left_is : slot_at q pairs left ≡ Some slot =
    ap (cell_slot q.slots) (first_at q pairs left t left_stands ∙ ap first_cell free.is) ∙ slot_of-cell q.slots free.variable ∙ ap Some free.slot_is in
    record {
      legal = h.legal;
      apart = h.apart;
      slot_is = free.slot_is;
      range = in_range-variable q.slots free.variable (subst (λ w. CellIsInRange q.slots (first_cell w)) free.is (range_at q pairs left t h.legal left_stands));
      free = free.free;
      whole = whole;
      value_range = range;
      handed_in = handed_piece pairs q.left.now q.right.now _ v.now (text_handed_in q pairs right.base) piece;
      ends = subst (IsUnbound pairs) right_is h.right_end.ends;
      differs = not_same _ slot (subst (λ o. same_slot (Some slot) o ≡ false) right_is (subst (λ o. same_slot o (slot_at q pairs right) ≡ false) left_is h.differ));
    }

free_at : (q : Question) (pairs : Pairs) (spot : Spot) (t : Term) (slot : ℕ) → SpotStandsFor q pairs spot t → free_slot q.slots (cell_at q pairs spot) ≡ Some slot → IsFree q.slots t slot
free_at q pairs spot t slot stands e = free_variable q.slots t slot (ap (free_slot q.slots) (sym (first_at q pairs spot t stands)) ∙ e)

pub left_bound : (q : Question) (pairs new : Pairs) (keys : List SpotPair) (left right : Spot) (slot : ℕ) → MeetsEnds q pairs keys left right → free_slot q.slots (cell_at q pairs left) ≡ Some slot → Binds q pairs new slot right → HasMetSpots q pairs new keys keys left right true
left_bound q pairs new keys left right slot h free binds =
    let some = h.left_end.spot_is in
    let other = h.right_end.spot_is in
    let x = free_at q pairs left some.0 slot some.1 free in
    subst (λ l. HasMetSpots q pairs l keys keys left right true) (sym binds.pairs) (
      binding_goes_on q pairs keys x.variable other.0 slot binds.value
          (can_bind q pairs keys left right some.0 other.0 slot binds.value h some.1 other.1 x (binds.whole other.0 other.1) binds.in_range binds.piece),
      λ t u left_stands right_stands.
          let y = free_at q pairs left t slot left_stands free in
          subst (λ w. Meets q pairs (pairs ++ (slot, binds.value) ∷ []) keys keys w u) (sym y.is)
          (binding_meets q pairs keys y.variable u slot binds.value
          (can_bind q pairs keys left right t u slot binds.value h left_stands right_stands y (binds.whole u right_stands) binds.in_range binds.piece)),
    )

turned : (q : Question) (pairs : Pairs) (keys : List SpotPair) (left right : Spot) → MeetsEnds q pairs keys left right → MeetsEnds q pairs keys right left
turned q pairs keys left right h = record {
  legal = h.legal;
  apart = h.apart;
  left_end = h.right_end;
  right_end = h.left_end;
  differ = same_slot_comm (slot_at q pairs right) (slot_at q pairs left) ∙ h.differ;
}

pub right_bound : (q : Question) (pairs new : Pairs) (keys : List SpotPair) (left right : Spot) (slot : ℕ) → MeetsEnds q pairs keys left right → free_slot q.slots (cell_at q pairs right) ≡ Some slot → Binds q pairs new slot left → HasMetSpots q pairs new keys keys left right true
right_bound q pairs new keys left right slot h free binds =
    let k = turned q pairs keys left right h in
    let some = h.right_end.spot_is in
    let other = h.left_end.spot_is in
    let x = free_at q pairs right some.0 slot some.1 free in
    subst (λ l. HasMetSpots q pairs l keys keys left right true) (sym binds.pairs) (
      binding_goes_on q pairs keys x.variable other.0 slot binds.value
          (can_bind q pairs keys right left some.0 other.0 slot binds.value k some.1 other.1 x (binds.whole other.0 other.1) binds.in_range binds.piece),
      λ t u left_stands right_stands.
          let y = free_at q pairs right u slot right_stands free in
          subst (λ w. Meets q pairs (pairs ++ (slot, binds.value) ∷ []) keys keys t w) (sym y.is)
          (binding_meets_right q pairs keys y.variable t slot binds.value
          (can_bind q pairs keys right left u t slot binds.value k right_stands left_stands y (binds.whole t left_stands) binds.in_range binds.piece)),
    )

pub free_below : (q : Question) (pairs : Pairs) (spot : Spot) (slot : ℕ) → IsSoundQuestion q pairs → IsSpot q pairs spot → free_slot q.slots (cell_at q pairs spot) ≡ Some slot → slot < slot_count q.slots
free_below q pairs spot slot legal some free =
    let x = free_at q pairs spot some.0 slot some.1 free in
    subst (λ k. k < slot_count q.slots) x.slot_is
    (slot_below q.slots x.variable (in_range-variable q.slots x.variable (subst (λ w. CellIsInRange q.slots (first_cell w)) x.is (range_at q pairs spot some.0 legal some.1))))

pub free_unbound : (q : Question) (pairs : Pairs) (spot : Spot) (slot : ℕ) → IsEnd q pairs spot → free_slot q.slots (cell_at q pairs spot) ≡ Some slot → IsUnbound pairs (Some slot)
free_unbound q pairs spot slot h free =
    let x = free_at q pairs spot h.spot_is.0 slot h.spot_is.1 free in
    subst (IsUnbound pairs)
    (ap (cell_slot q.slots) (first_at q pairs spot h.spot_is.0 h.spot_is.1 ∙ ap first_cell x.is) ∙ slot_of-cell q.slots x.variable ∙ ap Some x.slot_is)
    h.ends

-- ---- neither side is free
frozen_at : (q : Question) (pairs : Pairs) (spot : Spot) (x : Variable) → SpotStandsFor q pairs spot (terms.var x) → free_slot q.slots (cell_at q pairs spot) ≡ None → is_frozen q.slots x ≡ true
frozen_at q pairs spot x stands e = frozen_variable q.slots x (ap (free_slot q.slots) (sym (first_at q pairs spot (terms.var x) stands)) ∙ e)

same_number : (m n : ℕ) → m ≡ n → (m == n) ≡ true
same_number m n e = eq-eqb m n e

pub both_heads : (s r : Symbol) (m n : ℕ) → s ≡ r → same_symbol (cell.App s.number s.arity m) (cell.App r.number r.arity n) ≡ true
both_heads s r m n e = rw (eq-eqb s.number r.number (ap (λ a. a.number) e), eq-eqb s.arity r.arity (ap (λ a. a.arity) e)) refl

pub record HaveHead (t u : Term) : Type 0 where
  pub symbol : Symbol
  pub left_arguments : Terms
  pub right_arguments : Terms
  pub left : t ≡ terms.app symbol left_arguments
  pub right : u ≡ terms.app symbol right_arguments

no_symbol : (x : Variable) (c : Cell) {P : Type 0} → same_symbol (variable_cell x) c ≡ true → P
no_symbol (query n) c e = cc
no_symbol (entry n) c e = cc
no_symbol (ind n) c e = cc

no_symbol_right : (s : Symbol) (m : ℕ) (x : Variable) {P : Type 0} → same_symbol (cell.App s.number s.arity m) (variable_cell x) ≡ true → P
no_symbol_right s m (query n) e = cc
no_symbol_right s m (entry n) e = cc
no_symbol_right s m (ind n) e = cc

pub have_head : (t u : Term) → same_symbol (first_cell t) (first_cell u) ≡ true → HaveHead t u
have_head (terms.var x) u e = no_symbol x (first_cell u) e
have_head (terms.app s ts) (terms.var y) e = no_symbol_right s (1 + terms.sizes ts) y e
have_head (terms.app s ts) (terms.app r us) e =
    elim (eqb_tells s.number r.number) [
      | inl h ↦
          elim (eqb_tells s.arity r.arity) [
            | inl k ↦
                let make : ℕ → ℕ → Symbol = λ a b. record { number = a; arity = b } in
                let same : r ≡ s = ap (λ a. make a r.arity) (sym h.1) ∙ ap (make s.number) (sym k.1) in
                record {
                  symbol = s;
                  left_arguments = ts;
                  right_arguments = us;
                  left = refl;
                  right = ap (λ p. terms.app p us) same;
                }
            | inr k ↦ let bad : false ≡ true = rw (h.0, k.0) at e in cc
          ]
      | inr h ↦ let bad : false ≡ true = rw h.0 at e in cc
    ]

clash : (q : Question) (pairs : Pairs) (left right : Spot) (t u : Term) → same_slot (slot_at q pairs left) (slot_at q pairs right) ≡ false → SpotStandsFor q pairs left t → SpotStandsFor q pairs right u → free_slot q.slots (cell_at q pairs left) ≡ None → free_slot q.slots (cell_at q pairs right) ≡ None → same_symbol (first_cell t) (first_cell u) ≡ false → Refutes q pairs t u
clash q pairs left right (terms.var x) (terms.var y) differ left_stands right_stands left_fixed right_fixed none f solved e =
    let fx = solved.frozen x (frozen_at q pairs left x left_stands left_fixed) in
    let fy = solved.frozen y (frozen_at q pairs right y right_stands right_fixed) in
    let e' : terms.var x ≡ terms.var y = sym fx ∙ e ∙ fy in
    let same : x ≡ y = cc in
    let left_is : slot_at q pairs left ≡ Some (slot_of q.slots x) = ap (cell_slot q.slots) (first_at q pairs left _ left_stands) ∙ slot_of-cell q.slots x in
    let right_is : slot_at q pairs right ≡ Some (slot_of q.slots y) = ap (cell_slot q.slots) (first_at q pairs right _ right_stands) ∙ slot_of-cell q.slots y in
    let no : (slot_of q.slots x == slot_of q.slots y) ≡ false = rw (left_is, right_is) at differ in
    let bad : true ≡ false = sym (eq-eqb _ _ (ap (slot_of q.slots) same)) ∙ no in
    cc
clash q pairs left right (terms.var x) (terms.app r us) differ left_stands right_stands left_fixed right_fixed none f solved e =
    let fx = solved.frozen x (frozen_at q pairs left x left_stands left_fixed) in
    let bad : terms.var x ≡ terms.app r (terms.substitute_all f us) = sym fx ∙ e in
    cc
clash q pairs left right (terms.app s ts) (terms.var y) differ left_stands right_stands left_fixed right_fixed none f solved e =
    let fy = solved.frozen y (frozen_at q pairs right y right_stands right_fixed) in
    let bad : terms.app s (terms.substitute_all f ts) ≡ terms.var y = e ∙ fy in
    cc
clash q pairs left right (terms.app s ts) (terms.app r us) differ left_stands right_stands left_fixed right_fixed none f solved e =
    let same : s ≡ r = cc in
    let bad : true ≡ false = sym (both_heads s r (1 + terms.sizes ts) (1 + terms.sizes us) same) ∙ none in
    cc

pub clash_met :
    (q : Question) (pairs new : Pairs) (keys new_keys : List SpotPair) (left right : Spot)
    → MeetsEnds q pairs keys left right
    → free_slot q.slots (cell_at q pairs left) ≡ None
    → free_slot q.slots (cell_at q pairs right) ≡ None
    → same_symbol (cell_at q pairs left) (cell_at q pairs right) ≡ false
    → HasMetSpots q pairs new keys new_keys left right false
clash_met q pairs new keys new_keys left right h left_fixed right_fixed none t u left_stands right_stands =
    clash q pairs left right t u h.differ left_stands right_stands left_fixed right_fixed
    (rw (first_at q pairs left t left_stands, first_at q pairs right u right_stands) at none)

head_at : (q : Question) (pairs : Pairs) (left right : Spot) (t u : Term) → SpotStandsFor q pairs left t → SpotStandsFor q pairs right u → same_symbol (cell_at q pairs left) (cell_at q pairs right) ≡ true → HaveHead t u
head_at q pairs left right t u left_stands right_stands e =
    have_head t u (rw (first_at q pairs left t left_stands, first_at q pairs right u right_stands) at e)

-- a constant on both sides
pub constant_met :
    (q : Question) (pairs : Pairs) (keys : List SpotPair) (left right : Spot) (number len : ℕ)
    → MeetsEnds q pairs keys left right
    → same_symbol (cell_at q pairs left) (cell_at q pairs right) ≡ true
    → cell_at q pairs left ≡ cell.App number 0 len
    → HasMetSpots q pairs pairs keys keys left right true
constant_met q pairs keys left right number len h e constant = (
  goes_nowhere q pairs keys h.legal h.apart,
  λ t u left_stands right_stands.
      let head = head_at q pairs left right t u left_stands right_stands e in
      let cells : cell.App head.symbol.number head.symbol.arity (1 + terms.sizes head.left_arguments) ≡ cell.App number 0 len =
      sym (first_at q pairs left t left_stands ∙ ap first_cell head.left) ∙ constant in
      let none : head.symbol.arity ≡ 0 = cc in
      let left_sound : IsSound (terms.app head.symbol head.left_arguments) = subst IsSound head.left left_stands.sound in
      let right_sound : IsSound (terms.app head.symbol head.right_arguments) = subst IsSound head.right right_stands.sound in
      let left_none = no_arguments head.left_arguments (left_sound.0 ∙ none) in
      let right_none = no_arguments head.right_arguments (right_sound.0 ∙ none) in
      equal_meets q pairs keys t u (head.left ∙ ap (terms.app head.symbol) (left_none ∙ sym right_none) ∙ sym head.right),
)

-- two spots whose cells have the same symbol
pub apart_at :
    (q : Question) (pairs : Pairs) (left right : Spot)
    → IsSpot q pairs left
    → IsSpot q pairs right
    → same_symbol (cell_at q pairs left) (cell_at q pairs right) ≡ true
    → IsApart q pairs (record { left = left; right = right })
apart_at q pairs left right t u e =
    let head = head_at q pairs left right t.0 u.0 t.1 u.1 e in
    record {
      symbol = head.symbol;
      left_arguments = head.left_arguments;
      right_arguments = head.right_arguments;
      left = subst (SpotStandsFor q pairs left) head.left t.1;
      right = subst (SpotStandsFor q pairs right) head.right u.1;
    }

-- a pair that is to be compared
pub pair_met :
    (q : Question) (pairs : Pairs) (keys new_keys : List SpotPair) (left right : Spot) (i : ℕ)
    → MeetsEnds q pairs keys left right
    → same_symbol (cell_at q pairs left) (cell_at q pairs right) ≡ true
    → (new_keys ≡ keys) ⊎ (new_keys ≡ keys ++ record { left = left; right = right } ∷ [])
    → slice_get new_keys i ≡ Some (record { left = left; right = right })
    → HasMetSpots q pairs pairs keys new_keys left right true
pair_met q pairs keys new_keys left right i h e grown stored =
    let pair : SpotPair = record { left = left; right = right } in
    let here : IsApart q pairs pair = apart_at q pairs left right h.left_end.spot_is h.right_end.spot_is e in (
      record {
        grows = ([], sym (append-nil pairs));
        keys_grow = elim grown [ inl g ↦ ([], g ∙ sym (append-nil keys)) | inr g ↦ (pair ∷ [], g) ];
        legal = h.legal;
        keys =
            elim grown [
              | inl g ↦ subst (ArePairs q pairs) (sym g) h.apart
              | inr g ↦ subst (ArePairs q pairs) (sym g) (all_append (IsApart q pairs) keys (pair ∷ []) h.apart (here, tt))
            ];
        handed_in = handed_still pairs q.left.now q.right.now;
      },
      λ t u left_stands right_stands. record {
        sound = λ f solved equal.
            all_got (MakesEqualUpTo q pairs f (terms.size (terms.substitute f t))) new_keys i pair equal stored t u left_stands right_stands (omega arith);
        complete = λ f solved equal same.
            let new_pair : MakesEqual q pairs f pair =
            λ t' u' left' right'.
            ap (terms.substitute f) (at_unique _ _ t' t left' left_stands) ∙ same ∙ ap (terms.substitute f) (at_unique _ _ u u' right_stands right') in (
              solved,
              elim grown [
                | inl g ↦ subst (AllByRecursion (MakesEqual q pairs f)) (sym g) equal
                | inr g ↦ subst (AllByRecursion (MakesEqual q pairs f)) (sym g) (all_append (MakesEqual q pairs f) keys (pair ∷ []) equal (new_pair, tt))
              ],
            );
      },
    )

-- ---- what the cells tell of the spots
pub same_told : (slots : Slots) (a b left right : Cell) (o p : Option ℕ) (r : Bool) → o ≡ cell_slot slots a → p ≡ cell_slot slots b → a ≡ left → b ≡ right → r ≡ same_slot o p → same_slot (cell_slot slots left) (cell_slot slots right) ≡ r
same_told slots a b left right o p r o_is p_is a_is b_is e =
    sym (e ∙ ap (λ x. same_slot x p) (o_is ∙ ap (cell_slot slots) a_is) ∙ ap (same_slot (cell_slot slots left)) (p_is ∙ ap (cell_slot slots) b_is))

pub symbols_told : (a b left right : Cell) (r : Bool) → a ≡ left → b ≡ right → r ≡ same_symbol a b → same_symbol left right ≡ r
symbols_told a b left right r a_is b_is e = sym (e ∙ ap (λ x. same_symbol x b) a_is ∙ ap (same_symbol left) b_is)

-- ---- what the set of pairs tells
same_spot : (a b : Spot) → (a.base == b.base && a.at == b.at) ≡ true → a ≡ b
same_spot a b e =
    let h = and_parts (a.base == b.base) (a.at == b.at) e in
    let make : ℕ → ℕ → Spot = λ m n. record { base = m; at = n } in
    ap (λ m. make m a.at) (eqb-true a.base b.base h.0) ∙ ap (make b.base) (eqb-true a.at b.at h.1)

pub same_pair : (left right : Spot) (k : SpotPair) → ((left.base == k.left.base && left.at == k.left.at) && (right.base == k.right.base && right.at == k.right.at)) ≡ true → k ≡ record { left = left; right = right }
same_pair left right k e =
    let h = and_parts (left.base == k.left.base && left.at == k.left.at) (right.base == k.right.base && right.at == k.right.at) e in
    let make : Spot → Spot → SpotPair = λ m n. record { left = m; right = n } in
    sym (ap (λ m. make m right) (same_spot left k.left h.0) ∙ ap (make k.left) (same_spot right k.right h.1))
