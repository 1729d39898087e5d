-- Two terms of which one is a variable, or whose heads differ.
use Rattle.std.proofs.Common.{◌≡◌, ℕ, ◌+◌, ◌≤◌, true, List, [], ◌∷◌, get_or, refl, sym, ◌∙◌, ap, subst, arith, None, Some}
use Rattle.std.specs.List.{AllByRecursion}
use Rattle.std.specs.Borrow.{Bor}
use Rattle.si_defs.specs.Terms as terms
use Rattle.si_flat.specs.declared.Cell.{Cell}
use Rattle.si_flat.specs.declared.Cell.TheVariants as cell
use Rattle.si_flat.specs.Cells.{Symbol, Variable, query, entry, ind, Term, Terms, variable_cell, cells_of, cells_of_all, StandsFor, IsWhole}
use Rattle.si_trail.specs.Trails.{value_at}
use Rattle.si_unify.specs.declared.slots.Slots.{Slots}
use Rattle.si_unify.specs.Solving.{Pairs, slot_of, variable_of, is_frozen, CellIsInRange, AreInRange, Equalizes, IsSolvedBy, IsBinding, IsInRange}
use Rattle.si_unify.specs.Spots.{free_slot}
use Rattle.si_unify.specs.Symbols.{same_symbol, IsSameVariable}
use Rattle.si_unify.proofs.Places.{value_holds, first_cell, whole_at, cell-at, inside, in_range-at, in_range-variable, variable_of-slot_of}
use Rattle.si_unify.proofs.Reading.{one_term}
use Rattle.si_unify.proofs.Weights.{fits_all}
use Rattle.si_unify.proofs.Meeting.{both_heads, free_variable, frozen_variable}
use Rattle.si_fit.specs.Ends.{EndsAt}
use Rattle.si_fit.specs.Meeting.{IsOpenSlot, slot_cells, HasMet, LeavesFrozen}
use Rattle.si_fit.specs.declared.meeting.Met.{Met}
use Rattle.si_fit.specs.declared.meeting.Met.TheVariants.{Equal, Clash, Unknown}
use Rattle.si_fit.specs.Occurring.{IsOtherUnbound, IsFreeFor, image_size, OccursIn}
use Rattle.si_fit.proofs.EndLaws.{no_cell}
use Rattle.si_fit.proofs.OccurringLaws.{images_fit}

-- ---- nothing is bound
pub same_met : (slots : Slots) (pairs : Pairs) (left right : List Cell) → left ≡ right → HasMet slots pairs pairs left right Equal
same_met slots pairs left right e f = (
  λ solved. (solved, λ t u left_stands right_stands. ap (terms.substitute f) (one_term right t u (subst (λ l. StandsFor l t) e left_stands) right_stands)),
  λ both. both.0,
)

-- the slot has this value
pub value_met : (slots : Slots) (old new : Pairs) (slot : ℕ) (v : Bor (List Cell)) (term : List Cell) (m : Met) → AllByRecursion (IsBinding slots) old → value_at old slot ≡ Some v → HasMet slots old new v.now term m → HasMet slots old new (slot_cells slots slot) term m
value_met slots old new slot v term m bindings e h = go m h where
  whole : IsWhole v.now
  whole = (value_holds (IsBinding slots) old slot v bindings e).whole

  stands : StandsFor (slot_cells slots slot) (terms.var (variable_of slots slot))
  stands = record { cells_are = refl; sound = tt }

  bound : (f : Variable → Term) → IsSolvedBy slots old f → Equalizes f (slot_cells slots slot) v.now
  bound f is = value_holds (λ pair. Equalizes f (variable_cell (variable_of slots pair.0) ∷ []) pair.1.now) old slot v is.equal e

  from_value : (f : Variable → Term) → IsSolvedBy slots old f → Equalizes f v.now term → Equalizes f (slot_cells slots slot) term
  from_value f is equal t u left right = bound f is t whole.0 left whole.1 ∙ equal whole.0 u whole.1 right

  to_value : (f : Variable → Term) → IsSolvedBy slots old f → Equalizes f (slot_cells slots slot) term → Equalizes f v.now term
  to_value f is equal t u left right = sym (bound f is (terms.var (variable_of slots slot)) t stands left) ∙ equal (terms.var (variable_of slots slot)) u stands right

  go : (n : Met) → HasMet slots old new v.now term n → HasMet slots old new (slot_cells slots slot) term n
  go Unknown k = tt
  go Equal k = λ f. (
    λ solved. let both = (k f).0 solved in (both.0, from_value f both.0 both.1),
    λ both. (k f).1 (both.0, to_value f both.0 both.1),
  )
  go Clash k = λ f solved equal. k f solved (to_value f solved equal)

-- where the chain of a term's variable ends
pub end_met : (slots : Slots) (old new : Pairs) (start end right : List Cell) (m : Met) → EndsAt slots old start end → HasMet slots old new end right m → HasMet slots old new start right m
end_met slots old new start end right m e h = go m h where
  from_end : (f : Variable → Term) → IsSolvedBy slots old f → Equalizes f end right → Equalizes f start right
  from_end f is equal t u left_stands right_stands =
      ap (terms.substitute f) (one_term start t e.first left_stands e.first_stands) ∙ e.same f is ∙ equal e.last u e.last_stands right_stands

  to_end : (f : Variable → Term) → IsSolvedBy slots old f → Equalizes f start right → Equalizes f end right
  to_end f is equal t u left_stands right_stands =
      ap (terms.substitute f) (one_term end t e.last left_stands e.last_stands) ∙ sym (e.same f is) ∙ equal e.first u e.first_stands right_stands

  go : (n : Met) → HasMet slots old new end right n → HasMet slots old new start right n
  go Unknown k = tt
  go Equal k = λ f. (
    λ solved. let both = (k f).0 solved in (both.0, from_end f both.0 both.1),
    λ both. (k f).1 (both.0, to_end f both.0 both.1),
  )
  go Clash k = λ f solved equal. k f solved (to_end f solved equal)

-- ---- turned
equal_turned : (f : Variable → Term) (left right : List Cell) → Equalizes f left right → Equalizes f right left
equal_turned f left right h t u left_stands right_stands = sym (h u t right_stands left_stands)

pub met_turned : (slots : Slots) (old new : Pairs) (left right : List Cell) (m : Met) → HasMet slots old new left right m → HasMet slots old new right left m
met_turned slots old new left right Unknown h = tt
met_turned slots old new left right Equal h = λ f. (
  λ solved. let both = (h f).0 solved in (both.0, equal_turned f left right both.1),
  λ both. (h f).1 (both.0, equal_turned f right left both.1),
)
met_turned slots old new left right Clash h = λ f solved equal. h f solved (equal_turned f right left equal)

-- ---- heads
head_of : (cells : List Cell) (t : Term) → StandsFor cells t → get_or cells 0 no_cell ≡ first_cell t
head_of cells t h = cell-at cells 0 t no_cell (whole_at cells t h)

-- a variable that isn't frozen, by its cell
pub record IsVariable (slots : Slots) (slot : ℕ) (cells : List Cell) : Type 0 where
  pub slot_open : IsOpenSlot slots slot
  pub cells_are : slot_cells slots slot ≡ cells

pub variable_at : (slots : Slots) (slot : ℕ) (cells : List Cell) → IsWhole cells → AreInRange slots cells → free_slot slots (get_or cells 0 no_cell) ≡ Some slot → IsVariable slots slot cells
variable_at slots slot cells whole range e =
    let x = free_variable slots whole.0 slot (ap (free_slot slots) (sym (head_of cells whole.0 whole.1)) ∙ e) in
    let here : get_or cells 0 no_cell ≡ variable_cell x.variable = head_of cells whole.0 whole.1 ∙ ap first_cell x.is in
    let within = in_range-variable slots x.variable (subst (CellIsInRange slots) here (in_range-at slots cells 0 no_cell range (inside cells 0 whole.0 (whole_at cells whole.0 whole.1)))) in
    let back : x.variable ≡ variable_of slots slot = sym (variable_of-slot_of slots x.variable within) ∙ ap (variable_of slots) x.slot_is in
    record {
      slot_open = record {
        range = subst (λ y. IsInRange slots y) back within;
        slot_is = ap (slot_of slots) (sym back) ∙ x.slot_is;
        unfrozen = ap (is_frozen slots) (sym back) ∙ x.free;
      };
      cells_are = ap (λ y. variable_cell y ∷ []) (sym back) ∙ sym (whole.1.cells_are ∙ ap cells_of x.is);
    }

pub left_met : (slots : Slots) (old new : Pairs) (slot : ℕ) (left right : List Cell) (m : Met) → IsVariable slots slot left → HasMet slots old new (slot_cells slots slot) right m → HasMet slots old new left right m
left_met slots old new slot left right m x h = subst (λ l. HasMet slots old new l right m) x.cells_are h

pub right_met : (slots : Slots) (old new : Pairs) (slot : ℕ) (left right : List Cell) (m : Met) → IsVariable slots slot right → HasMet slots old new (slot_cells slots slot) left m → HasMet slots old new left right m
right_met slots old new slot left right m x h = met_turned slots old new right left m (left_met slots old new slot right left m x h)

-- symbols that differ
self_variable : (x y : Variable) → x ≡ y → IsSameVariable (variable_cell x) (variable_cell y)
self_variable x y e = subst (λ z. IsSameVariable (variable_cell x) (variable_cell z)) e (self x) where
  self : (x : Variable) → IsSameVariable (variable_cell x) (variable_cell x)
  self (query n) = refl
  self (entry n) = refl
  self (ind n) = refl

apart : (slots : Slots) (t u : Term) (f : Variable → Term) → (IsSameVariable (first_cell t) (first_cell u) → ⊥) → free_slot slots (first_cell t) ≡ None → free_slot slots (first_cell u) ≡ None → (same_symbol (first_cell t) (first_cell u) ≡ true → ⊥) → LeavesFrozen slots f → terms.substitute f t ≡ terms.substitute f u → ⊥
apart slots (terms.var x) (terms.var y) f others left right heads leaves e =
    let same : terms.var x ≡ terms.var y = sym (leaves x (frozen_variable slots x left)) ∙ e ∙ leaves y (frozen_variable slots y right) in
    let is : x ≡ y = cc in others (self_variable x y is)
apart slots (terms.var x) (terms.app r us) f others left right heads leaves e =
    let bad : terms.var x ≡ terms.app r (terms.substitute_all f us) = sym (leaves x (frozen_variable slots x left)) ∙ e in cc
apart slots (terms.app s ts) (terms.var y) f others left right heads leaves e =
    let bad : terms.app s (terms.substitute_all f ts) ≡ terms.var y = e ∙ leaves y (frozen_variable slots y right) in cc
apart slots (terms.app s ts) (terms.app r us) f others left right heads leaves e =
    let same : s ≡ r = cc in heads (both_heads s r (1 + terms.sizes ts) (1 + terms.sizes us) same)

pub heads_clash : (slots : Slots) (old new : Pairs) (left right : List Cell) → IsWhole left → IsWhole right → (IsSameVariable (get_or left 0 no_cell) (get_or right 0 no_cell) → ⊥) → free_slot slots (get_or left 0 no_cell) ≡ None → free_slot slots (get_or right 0 no_cell) ≡ None → (same_symbol (get_or left 0 no_cell) (get_or right 0 no_cell) ≡ true → ⊥) → HasMet slots old new left right Clash
heads_clash slots old new left right t u others left_fixed right_fixed heads f solved equal =
    let left_is = head_of left t.0 t.1 in
    let right_is = head_of right u.0 u.1 in
    apart slots t.0 u.0 f
    (λ e. others (subst (λ c. IsSameVariable c (get_or right 0 no_cell)) (sym left_is) (subst (IsSameVariable (first_cell t.0)) (sym right_is) e)))
    (ap (free_slot slots) (sym left_is) ∙ left_fixed)
    (ap (free_slot slots) (sym right_is) ∙ right_fixed)
    (λ e. heads (ap (λ c. same_symbol c (get_or right 0 no_cell)) left_is ∙ ap (same_symbol (first_cell t.0)) right_is ∙ e))
    solved.frozen
    (equal t.0 u.0 t.1 u.1)

-- ---- one variable on both sides
one_variable : (x y : Variable) → IsSameVariable (variable_cell x) (variable_cell y) → x ≡ y
one_variable (query m) (query n) e = ap query e
one_variable (entry m) (entry n) e = ap entry e
one_variable (ind m) (ind n) e = ap ind e
one_variable (query m) (entry n) e = absurd e
one_variable (query m) (ind n) e = absurd e
one_variable (entry m) (query n) e = absurd e
one_variable (entry m) (ind n) e = absurd e
one_variable (ind m) (query n) e = absurd e
one_variable (ind m) (entry n) e = absurd e

one_head : (t u : Term) → IsSameVariable (first_cell t) (first_cell u) → t ≡ u
one_head (terms.var x) (terms.var y) e = ap terms.var (one_variable x y e)
one_head (terms.var (query n)) (terms.app r us) e = absurd e
one_head (terms.var (entry n)) (terms.app r us) e = absurd e
one_head (terms.var (ind n)) (terms.app r us) e = absurd e
one_head (terms.app s ts) u e = absurd e

pub variable_met : (slots : Slots) (pairs : Pairs) (left right : List Cell) → IsWhole left → IsWhole right → IsSameVariable (get_or left 0 no_cell) (get_or right 0 no_cell) → HasMet slots pairs pairs left right Equal
variable_met slots pairs left right t u e =
    let heads = subst (λ c. IsSameVariable c (first_cell u.0)) (head_of left t.0 t.1) (subst (IsSameVariable (get_or left 0 no_cell)) (head_of right u.0 u.1) e) in
    same_met slots pairs left right (t.1.cells_are ∙ ap cells_of (one_head t.0 u.0 heads) ∙ sym u.1.cells_are)

-- ---- a bound variable on one side
pub left_followed : (slots : Slots) (old new : Pairs) (slot : ℕ) (left right : List Cell) (v : Bor (List Cell)) (m : Met) → IsVariable slots slot left → AllByRecursion (IsBinding slots) old → value_at old slot ≡ Some v → HasMet slots old new v.now right m → HasMet slots old new left right m
left_followed slots old new slot left right v m x bindings bound h = left_met slots old new slot left right m x (value_met slots old new slot v right m bindings bound h)

pub right_followed : (slots : Slots) (old new : Pairs) (slot : ℕ) (left right : List Cell) (v : Bor (List Cell)) (m : Met) → IsVariable slots slot right → AllByRecursion (IsBinding slots) old → value_at old slot ≡ Some v → HasMet slots old new left v.now m → HasMet slots old new left right m
right_followed slots old new slot left right v m x bindings bound h =
    met_turned slots old new right left m (left_followed slots old new slot right left v m x bindings bound (met_turned slots old new left v.now m h))

-- ---- unbound variables
-- one variable on both sides
pub slot_met : (slots : Slots) (pairs : Pairs) (slot : ℕ) (left right : List Cell) → IsVariable slots slot left → IsVariable slots slot right → HasMet slots pairs pairs left right Equal
slot_met slots pairs slot left right x y = same_met slots pairs left right (sym x.cells_are ∙ y.cells_are)

-- a head that is free for a slot
pub fixed_free : (slots : Slots) (pairs : Pairs) (slot : ℕ) (c : Cell) → free_slot slots c ≡ None → IsFreeFor slots pairs slot c
fixed_free slots pairs slot c e = subst (IsOtherUnbound pairs slot) (sym e) tt

pub other_free : (slots : Slots) (pairs : Pairs) (slot other : ℕ) (c : Cell) → free_slot slots c ≡ Some other → (other ≡ slot → ⊥) → value_at pairs other ≡ None → IsFreeFor slots pairs slot c
other_free slots pairs slot other c e apart unbound = subst (IsOtherUnbound pairs slot) (sym e) (apart, unbound)

-- ---- a variable in the arguments of a symbol
symbol_head : (t : Term) (s a n : ℕ) → first_cell t ≡ cell.App s a n → (symbol : Symbol) × (arguments : Terms) × (t ≡ terms.app symbol arguments)
symbol_head (terms.var (query k)) s a n e = cc
symbol_head (terms.var (entry k)) s a n e = cc
symbol_head (terms.var (ind k)) s a n e = cc
symbol_head (terms.app symbol arguments) s a n e = (symbol, arguments, refl)

pub occurs_clash : (slots : Slots) (old new : Pairs) (slot : ℕ) (cells : List Cell) (s a n : ℕ) → IsWhole cells → get_or cells 0 no_cell ≡ cell.App s a n → OccursIn slots old slot cells → HasMet slots old new (slot_cells slots slot) cells Clash
occurs_clash slots old new slot cells s a n t head occurs f solved equal =
    let is = symbol_head t.0 s a n (sym (head_of cells t.0 t.1) ∙ head) in
    let room : ℕ = terms.sizes (terms.substitute_all f is.1) in
    let fits : AllByRecursion (λ c. image_size f c ≤ room) cells =
    subst (AllByRecursion (λ c. image_size f c ≤ room)) (sym (t.1.cells_are ∙ ap cells_of is.2)) (omega arith, images_fit slots old slot f room (cells_of_all is.1) (fits_all f room is.1 (omega arith))) in
    let same : f (variable_of slots slot) ≡ terms.app is.0 (terms.substitute_all f is.1) =
    equal (terms.var (variable_of slots slot)) t.0 (record { cells_are = refl; sound = tt }) t.1 ∙ ap (terms.substitute f) is.2 in
    absurd (omega (arith, occurs f room solved fits, ap terms.size same))
