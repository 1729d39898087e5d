-- A slot that is bound to a term that doesn't lead to it.
use Rattle.std.proofs.Common.{◌≡◌, ℕ, zero, suc, ◌+◌, ◌<◌, ◌≤◌, ◌||◌, inl, inr, Bool, true, false, cond, List, [], ◌∷◌, ◌++◌, length, get_or, refl, sym, ◌∙◌, ap, subst, arith, append-nil, Option, None, Some}
use Rattle.std.proofs.lemmas.Bool.{eq-eqb}
use Rattle.std.specs.List.{AllByRecursion}
use Rattle.std.specs.Borrow.{Bor}
use Rattle.si_defs.specs.Terms as terms
use Rattle.si_defs.proofs.ListLaws.{all_with, all_weaker, all_append, all_get}
use Rattle.si_flat.specs.declared.Cell.{Cell}
use Rattle.si_flat.specs.declared.Cell.TheVariants as cell
use Rattle.si_flat.specs.Cells.{Term, IsWhole}
use Rattle.si_trail.specs.Trails.{value_at, HasDistinctSlots}
use Rattle.si_unify.specs.declared.slots.Slots.{Slots}
use Rattle.si_unify.specs.Solving.{Pairs, slot_of, variable_of, CellIsInRange, AreInRange, RanksBelow, IsAcyclic, IsBinding, AllowsSolving}
use Rattle.si_unify.specs.Spots.{cell_slot, ChainComesDown, IsUnbound}
use Rattle.si_unify.proofs.Places.{whole_at, first_cell, cell-at, inside, in_range-at, in_range-variable}
use Rattle.si_unify.proofs.Reading.{one_term}
use Rattle.si_unify.proofs.Binding.{IsNot, CanBind, solved_front, bound_legal, bound_solved, bound_equal}
use Rattle.si_unify.proofs.Meeting.{slot_of-cell}
use Rattle.si_unify.proofs.Triangular.{IsFound, all_told}
use Rattle.si_unify.proofs.Answering.{legal_at_first}
use Rattle.si_fit.specs.Meeting.{IsOpenSlot, slot_cells, HasMet}
use Rattle.si_fit.specs.Occurring.{IsOtherUnbound, IsFreeFor, slot_leads, value_leads, leads_to, AvoidsCell, Avoids}
use Rattle.si_fit.specs.declared.meeting.Met.TheVariants.{Equal}
use Rattle.si_fit.proofs.EndLaws.{no_cell}
use Rattle.si_fit.proofs.OccurringLaws.{leads_still, leads_on}
use Rattle.si_fit.proofs.FrozenLaws.{frozen_or_free, frozen_unbound}

-- a term whose head is free begins with a symbol or an unbound variable
ends_unbound : (slots : Slots) (pairs : Pairs) (slot : ℕ) (t : Term) → AllByRecursion (IsBinding slots) pairs → CellIsInRange slots (first_cell t) → IsFreeFor slots pairs slot (first_cell t) → IsUnbound pairs (cell_slot slots (first_cell t))
ends_unbound slots pairs slot (terms.app s ts) bindings range h = tt
ends_unbound slots pairs slot (terms.var x) bindings range h = subst (IsUnbound pairs) (sym (slot_of-cell slots x)) unbound where
  unbound : value_at pairs (slot_of slots x) ≡ None
  unbound = elim (frozen_or_free slots x) [
    | inl frozen ↦ frozen_unbound slots pairs x bindings (in_range-variable slots x range) frozen
    | inr is ↦ (subst (IsOtherUnbound pairs slot) is h).1
  ]

-- ---- ranks by cells
pub below_of : (slots : Slots) (rank : ℕ → ℕ) (k : ℕ) (c : Cell) → RanksBelow slots rank k c → ChainComesDown rank k (cell_slot slots c)
below_of slots rank k (cell.App s a n) h = tt
below_of slots rank k (cell.Query n) h = h
below_of slots rank k (cell.Entry n) h = h
below_of slots rank k (cell.Ind n) h = h

pub of_below : (slots : Slots) (rank : ℕ → ℕ) (k : ℕ) (c : Cell) → ChainComesDown rank k (cell_slot slots c) → RanksBelow slots rank k c
of_below slots rank k (cell.App s a n) h = tt
of_below slots rank k (cell.Query n) h = h
of_below slots rank k (cell.Entry n) h = h
of_below slots rank k (cell.Ind n) h = h

-- no cell's slot ranks higher
abbrev pub slot_rank : (ℕ → ℕ) → Option ℕ → ℕ
slot_rank rank None = 0
slot_rank rank (Some k) = rank k

abbrev pub top_rank : Slots → (ℕ → ℕ) → List Cell → ℕ
top_rank slots rank [] = 0
top_rank slots rank (c ∷ cells) = slot_rank rank (cell_slot slots c) + top_rank slots rank cells

pub none_higher : (slots : Slots) (rank : ℕ → ℕ) (cells : List Cell) → AllByRecursion (λ c. slot_rank rank (cell_slot slots c) ≤ top_rank slots rank cells) cells
none_higher slots rank [] = tt
none_higher slots rank (c ∷ cells) = (
  omega arith,
  all_weaker (λ d. slot_rank rank (cell_slot slots d) ≤ top_rank slots rank cells) (λ d. slot_rank rank (cell_slot slots d) ≤ top_rank slots rank (c ∷ cells)) cells (λ d h. omega (arith, h)) (none_higher slots rank cells),
)

module _ (slots : Slots) (pairs : Pairs) (slot count : ℕ) (v : Bor (List Cell)) (ready : AllowsSolving slots pairs count) (distinct : HasDistinctSlots pairs) (slot_open : IsOpenSlot slots slot) (unbound : value_at pairs slot ≡ None) (whole : IsWhole v.now) (range : AreInRange slots v.now) (free : Avoids slots pairs slot v.now) (first : IsFreeFor slots pairs slot (get_or v.now 0 no_cell)) where
  -- ---- ranks: what leads to the slot is lifted above what the term leads to
  abbrev old : ℕ → ℕ
  old = ready.triangular.0

  abbrev lift : ℕ
  lift = 1 + top_rank slots old v.now

  abbrev lifted : Bool → ℕ
  lifted b = cond b lift 0

  abbrev leads : ℕ → Bool
  leads k = leads_to slots pairs slot (old k) k

  abbrev rank : ℕ → ℕ
  rank k = old k + lifted (leads k)

  -- the value of a slot that is bound leads no further than the slot
  old_below : (k : ℕ) (w : Bor (List Cell)) (o : Option ℕ) → value_at pairs k ≡ Some w → ((n : ℕ) → slot_leads (leads_to slots pairs slot n) o ≡ true → leads_to slots pairs slot (suc n) k ≡ true) → ChainComesDown old k o → ChainComesDown rank k o
  old_below k w None bound on h = tt
  old_below k w (Some m) bound on h = go (leads m) refl where
    go : (b : Bool) → leads m ≡ b → rank m < rank k
    go false e = let low : rank m ≡ old m + 0 = ap (λ b. old m + lifted b) e in omega (arith, low, h)
    go true e =
        let there : leads k ≡ true = up (old k) refl e in
        let low : rank m ≡ old m + lift = ap (λ b. old m + lifted b) e in
        let high : rank k ≡ old k + lift = ap (λ b. old k + lifted b) there in
        omega (arith, low, high, h)
      where
        up : (n : ℕ) → old k ≡ n → leads m ≡ true → leads k ≡ true
        up zero is e = absurd (omega (arith, is, h))
        up (suc n) is e = ap (λ a. leads_to slots pairs slot a k) is ∙ on n (leads_still slots pairs slot (old m) n m (omega (arith, is, h)) e)

  old_cells : (k : ℕ) (w : Bor (List Cell)) → value_at pairs k ≡ Some w → AllByRecursion (RanksBelow slots old k) w.now → AllByRecursion (RanksBelow slots rank k) w.now
  old_cells k w bound h =
      all_with (λ c. (n : ℕ) → slot_leads (leads_to slots pairs slot n) (cell_slot slots c) ≡ true → leads_to slots pairs slot (suc n) k ≡ true) (RanksBelow slots old k) (RanksBelow slots rank k) w.now
      (λ c on below. of_below slots rank k c (old_below k w (cell_slot slots c) bound on (below_of slots old k c below)))
      (each (λ n c. slot_leads (leads_to slots pairs slot n) (cell_slot slots c) ≡ true → leads_to slots pairs slot (suc n) k ≡ true) w.now (λ n. leads_on slots pairs slot n k w bound)) h
    where
      each : (P : ℕ → Cell → Type 0) (cells : List Cell) → ((n : ℕ) → AllByRecursion (P n) cells) → AllByRecursion (λ c. (n : ℕ) → P n c) cells
      each P [] give = tt
      each P (c ∷ cells) give = (λ n. (give n).0, each P cells (λ n. (give n).1))

  -- the slot itself leads to itself
  self_leads : (n : ℕ) → leads_to slots pairs slot n slot ≡ true
  self_leads zero = eq-eqb slot slot refl
  self_leads (suc n) = ap (λ b. b || value_leads (leads_to slots pairs slot n) slots (value_at pairs slot)) (eq-eqb slot slot refl)

  new_below : (o : Option ℕ) → ((n : ℕ) → slot_leads (leads_to slots pairs slot n) o ≡ false) → slot_rank old o ≤ top_rank slots old v.now → ChainComesDown rank slot o
  new_below None none low = tt
  new_below (Some m) none low =
      let here : rank m ≡ old m + 0 = ap (λ b. old m + lifted b) (none (old m)) in
      let there : rank slot ≡ old slot + lift = ap (λ b. old slot + lifted b) (self_leads (old slot)) in
      omega (arith, here, there, low)

  still_acyclic : IsAcyclic slots (pairs ++ (slot, v) ∷ [])
  still_acyclic = (
    rank,
    all_append (λ pair. AllByRecursion (RanksBelow slots rank pair.0) pair.1.now) pairs ((slot, v) ∷ [])
        (all_with (IsFound pairs) (λ pair. AllByRecursion (RanksBelow slots old pair.0) pair.1.now) (λ pair. AllByRecursion (RanksBelow slots rank pair.0) pair.1.now) pairs
        (λ pair bound h. old_cells pair.0 pair.1 bound h)
        (all_told pairs distinct) ready.triangular.1) (
          all_with (AvoidsCell slots pairs slot) (λ c. slot_rank old (cell_slot slots c) ≤ top_rank slots old v.now) (RanksBelow slots rank slot) v.now
              (λ c avoids low. of_below slots rank slot c (new_below (cell_slot slots c) avoids low))
              free (none_higher slots old v.now),
          tt,
        ),
  )

  -- ---- what the solver's own binding asks for
  head_differs : (o : Option ℕ) → ((n : ℕ) → slot_leads (leads_to slots pairs slot n) o ≡ false) → IsNot o slot
  head_differs None none = tt
  head_differs (Some m) none = λ e. (let bad : true ≡ false = sym (eq-eqb m slot e) ∙ none 0 in cc)

  head_is : get_or v.now 0 no_cell ≡ first_cell whole.0
  head_is = cell-at v.now 0 whole.0 no_cell (whole_at v.now whole.0 whole.1)

  some : 0 < length v.now
  some = inside v.now 0 whole.0 (whole_at v.now whole.0 whole.1)

  can_bind : CanBind (record { slots = slots; left = v; right = v }) pairs [] (variable_of slots slot) whole.0 slot v
  can_bind = record {
    legal = legal_at_first (record { slots = slots; left = v; right = v }) pairs ready.bindings ready.triangular whole whole range range;
    apart = tt;
    slot_is = slot_open.slot_is;
    range = slot_open.range;
    free = slot_open.unfrozen;
    whole = whole.1;
    value_range = range;
    handed_in = inl (record { before = []; after = []; whole = sym (append-nil v.now) });
    ends = ends_unbound slots pairs slot whole.0 ready.bindings (subst (CellIsInRange slots) head_is (in_range-at slots v.now 0 no_cell range some)) (subst (IsFreeFor slots pairs slot) head_is first);
    differs = head_differs (cell_slot slots (first_cell whole.0)) (subst (AvoidsCell slots pairs slot) head_is (all_get (AvoidsCell slots pairs slot) v.now 0 no_cell free some));
  }

  -- ---- bound
  pub bound_ready : AllowsSolving slots (pairs ++ (slot, v) ∷ []) count
  bound_ready = record {
    room = ready.room;
    bindings = (bound_legal (record { slots = slots; left = v; right = v }) pairs [] (variable_of slots slot) whole.0 slot v can_bind).bindings;
    triangular = still_acyclic;
  }

  pub bound_met : HasMet slots pairs (pairs ++ (slot, v) ∷ []) (slot_cells slots slot) v.now Equal
  bound_met = λ f. (
    λ solved. (
      solved_front slots pairs ((slot, v) ∷ []) f solved,
      λ t u left right.
          ap (terms.substitute f) (one_term (slot_cells slots slot) t (terms.var (variable_of slots slot)) left (record { cells_are = refl; sound = tt }))
          ∙ bound_equal (record { slots = slots; left = v; right = v }) pairs [] (variable_of slots slot) whole.0 slot v can_bind f solved
          ∙ ap (terms.substitute f) (one_term v.now whole.0 u whole.1 right),
    ),
    λ both. bound_solved (record { slots = slots; left = v; right = v }) pairs [] (variable_of slots slot) whole.0 slot v can_bind f both.0 (both.1 (terms.var (variable_of slots slot)) whole.0 (record { cells_are = refl; sound = tt }) whole.1),
  )
