-- What stands at spots, and one step down a chain of bound variables.
use Rattle.std.proofs.Common.{◌≡◌, ◌≢◌, ℕ, ◌+◌, ◌<◌, inl, inr, true, false, cond, List, [], ◌∷◌, ◌++◌, length, get_or, refl, sym, ◌∙◌, ap, subst, arith, suc, zero, add-zero, append-nil, Option, None, Some}
use Rattle.std.proofs.lemmas.List.{get_or-drop, length-drop}
use Rattle.std.proofs.lemmas.Bool.Decides.{eqb_tells, nat_tests}
use Rattle.std.specs.Prelude.{◌==◌}
use Rattle.std.specs.List.{AllByRecursion}
use Rattle.std.specs.Borrow.{Bor}
use Rattle.std.proofs.lemmas.Bool.{lt-ltb, le-ltb}
use Rattle.si_defs.specs.Terms as terms
use Rattle.si_flat.specs.declared.Cell.{Cell}
use Rattle.si_flat.specs.declared.Cell.TheVariants as cell
use Rattle.si_flat.specs.Cells.{Variable, query, entry, ind, Term, variable_cell, cells_of, StandsFor}
use Rattle.si_trail.specs.Trails.{value_at}
use Rattle.si_unify.specs.declared.slots.Slots.{Slots}
use Rattle.si_unify.specs.declared.spots.Question.{Question}
use Rattle.si_unify.specs.declared.spots.Spot.{Spot}
use Rattle.si_unify.specs.Solving.{Pairs, slot_count, slot_of, variable_of, IsInRange, CellIsInRange, AreInRange, IsBinding}
use Rattle.si_unify.specs.Spots.{cells_now, text, IsAt, IsSpot, cell_slot, IsSoundQuestion}
use Rattle.si_unify.proofs.Reading.{same_term}

-- ---- lists of bindings
pub value_holds : (P : ℕ × Bor (List Cell) → Type 0) (pairs : Pairs) (slot : ℕ) (v : Bor (List Cell)) → AllByRecursion P pairs → value_at pairs slot ≡ Some v → P (slot, v)
value_holds P [] slot v all e = cc
value_holds P (pair ∷ pairs) slot v all e =
    elim (eqb_tells pair.0 slot) [
      | inl h ↦
          let found : Some pair.1 ≡ Some v = rw h.0 at e in
          let value : pair.1 ≡ v = cc in
          subst (λ w. P (slot, w)) value (subst (λ k. P (k, pair.1)) h.1 all.0)
      | inr h ↦ value_holds P pairs slot v all.1 (rw h.0 at e)
    ]

-- ---- cells
pub at_unique : (cells : List Cell) (at : ℕ) (t u : Term) → IsAt cells at t → IsAt cells at u → t ≡ u
at_unique cells at t u p q = (same_term t u p.after q.after p.sound q.sound (sym p.from ∙ q.from)).same

pub whole_at : (cells : List Cell) (t : Term) → StandsFor cells t → IsAt cells 0 t
whole_at cells t h = record { after = []; from = h.cells_are ∙ sym (append-nil (cells_of t)); sound = h.sound }

-- the first cell of a term
abbrev pub first_cell : Term → Cell
first_cell (terms.var x) = variable_cell x
first_cell (terms.app s ts) = cell.App s.number s.arity (1 + terms.sizes ts)

pub first_of : (t : Term) (rest : List Cell) (d : Cell) → get_or (cells_of t ++ rest) 0 d ≡ first_cell t
first_of (terms.var x) rest d = refl
first_of (terms.app s ts) rest d = refl

pub cell-at : (cells : List Cell) (at : ℕ) (t : Term) (d : Cell) → IsAt cells at t → get_or cells at d ≡ first_cell t
cell-at cells at t d h =
    ap (λ k. get_or cells k d) (sym (add-zero at)) ∙ sym (get_or-drop at cells 0 d) ∙ ap (λ l. get_or l 0 d) h.from ∙ first_of t h.after d

long_enough : (t : Term) (rest : List Cell) → 0 < length (cells_of t ++ rest)
long_enough (terms.var x) rest = omega arith
long_enough (terms.app s ts) rest = omega arith

pub inside : (cells : List Cell) (at : ℕ) (t : Term) → IsAt cells at t → at < length cells
inside cells at t h = omega (arith, length-drop at cells, ap length h.from, long_enough t h.after)

pub in_range-at : (slots : Slots) (cells : List Cell) (at : ℕ) (d : Cell) → AreInRange slots cells → at < length cells → CellIsInRange slots (get_or cells at d)
in_range-at slots [] at d all less = absurd (omega arith)
in_range-at slots (c ∷ cells) zero d all less = all.0
in_range-at slots (c ∷ cells) (suc at) d all less = in_range-at slots cells at d all.1 (omega arith)

-- ---- variables and slots
pub in_range-variable : (slots : Slots) (x : Variable) → CellIsInRange slots (variable_cell x) → IsInRange slots x
in_range-variable slots (query n) h = h
in_range-variable slots (entry n) h = h
in_range-variable slots (ind n) h = h

pub variable_of-slot_of : (slots : Slots) (x : Variable) → IsInRange slots x → variable_of slots (slot_of slots x) ≡ x
variable_of-slot_of slots (query n) h = rw (lt-ltb n slots.query h) refl
variable_of-slot_of slots (entry n) h =
    rw (le-ltb (slots.query + n) slots.query (omega arith), lt-ltb (slots.query + n) (slots.query + slots.entry) (omega arith)) (ap entry (omega arith))
variable_of-slot_of slots (ind n) h =
    rw (
      le-ltb (slots.query + slots.entry + n) slots.query (omega arith),
      le-ltb (slots.query + slots.entry + n) (slots.query + slots.entry) (omega arith),
    )
    (ap ind (omega arith))

-- ---- texts
other : (m n : ℕ) → m < n → (m == n) ≡ false
other m n h = grind (arith, nat_tests)

pub text-bound : (q : Question) (pairs : Pairs) (slot : ℕ) (v : Bor (List Cell)) → slot < slot_count q.slots → value_at pairs slot ≡ Some v → text q pairs slot ≡ v.now
text-bound q pairs slot v less e = rw (other slot (slot_count q.slots) less, other slot (slot_count q.slots + 1) (omega arith), e) refl

-- where a spot is, there are cells
pub base_bound : (q : Question) (pairs : Pairs) (spot : Spot) → IsSpot q pairs spot → spot.base ≢ slot_count q.slots → spot.base ≢ slot_count q.slots + 1 → value_at pairs spot.base ≢ None
base_bound q pairs spot h left right none =
    let no_cells : text q pairs spot.base ≡ [] = rw (apart spot.base (slot_count q.slots) left, apart spot.base (slot_count q.slots + 1) right, none) refl in
    omega (arith, inside (text q pairs spot.base) spot.at h.0 h.1, ap length no_cells)
  where
    apart : (m n : ℕ) → m ≢ n → (m == n) ≡ false
    apart m n differ = elim (eqb_tells m n) [ inl h ↦ absurd (differ h.1) | inr h ↦ h.0 ]

pub text_in_range : (q : Question) (pairs : Pairs) (base : ℕ) → IsSoundQuestion q pairs → AreInRange q.slots (text q pairs base)
text_in_range q pairs base legal =
    elim (base == slot_count q.slots) as (λ b. AreInRange q.slots (cond b q.left.now (cond (base == slot_count q.slots + 1) q.right.now (cells_now (value_at pairs base))))) [
      | true ↦ legal.left_in_range
      | false ↦
          elim (base == slot_count q.slots + 1) as (λ b. AreInRange q.slots (cond b q.right.now (cells_now (value_at pairs base)))) [
            | true ↦ legal.right_in_range
            | false ↦ value_in_range q pairs base legal (value_at pairs base) refl
          ]
    ]
  where
    value_in_range : (q : Question) (pairs : Pairs) (base : ℕ) → IsSoundQuestion q pairs → (o : Option (Bor (List Cell))) → value_at pairs base ≡ o → AreInRange q.slots (cells_now o)
    value_in_range q pairs base legal None e = tt
    value_in_range q pairs base legal (Some v) e = (value_holds (IsBinding q.slots) pairs base v legal.bindings e).in_range

-- the variable at a spot, from the slot of its cell
pub slot_variable : (slots : Slots) (t : Term) (slot : ℕ) → cell_slot slots (first_cell t) ≡ Some slot → (x : Variable) × (t ≡ terms.var x) × (slot_of slots x ≡ slot)
slot_variable slots (terms.var (query n)) slot e = (query n, refl, cc)
slot_variable slots (terms.var (entry n)) slot e = (entry n, refl, cc)
slot_variable slots (terms.var (ind n)) slot e = (ind n, refl, cc)
slot_variable slots (terms.app s ts) slot e = cc
