-- Down a chain of bound variables.
use Rattle.std.proofs.Common.{◌≡◌, ℕ, ◌+◌, ◌<◌, ◌≤◌, List, [], ◌∷◌, length, get_or, refl, sym, ◌∙◌, ap, subst, arith, Option, None, Some}
use Rattle.std.specs.Borrow.{Bor}
use Rattle.si_defs.specs.Terms as terms
use Rattle.si_flat.specs.declared.Cell.{Cell}
use Rattle.si_flat.specs.declared.Cell.TheVariants as cell
use Rattle.si_flat.specs.Cells.{Variable, Term, variable_cell, StandsFor, IsWhole, ind}
use Rattle.si_trail.specs.Trails.{value_at}
use Rattle.si_unify.specs.declared.slots.Slots.{Slots}
use Rattle.si_unify.specs.Rooms.{AreNoLongerThan}
use Rattle.si_unify.specs.Solving.{Pairs, variable_of, slot_of, CellIsInRange, AreInRange, Equalizes, IsSolvedBy, IsBinding, AllowsSolving}
use Rattle.si_unify.specs.Spots.{cell_slot, ChainComesDown, ComesDown, IsChained, IsUnbound}
use Rattle.si_unify.proofs.Places.{value_holds, whole_at, first_cell, cell-at, inside, in_range-at, in_range-variable, variable_of-slot_of, slot_variable}
use Rattle.si_unify.proofs.Reading.{one_term}
use Rattle.si_unify.proofs.Answering.{legal_at_first}
use Rattle.si_fit.specs.Ends.{HasFollowed}

abbrev pub no_cell : Cell
no_cell = cell.App 0 0 0

abbrev pub lent : List Cell → Bor (List Cell)
lent cells = record { ref_ptr = (0, 0); now = cells }

-- an indicator by itself
pub indicator_whole : (cells : List Cell) (n : ℕ) → cells ≡ cell.Ind n ∷ [] → IsWhole cells
indicator_whole cells n e = (terms.var (ind n), record { cells_are = e; sound = tt })

-- ---- one variable
-- what a solution makes of a bound variable is what it makes of its value
pub value_same : (slots : Slots) (pairs : Pairs) (x : Variable) (v : Bor (List Cell)) (u : Term) → CellIsInRange slots (variable_cell x) → value_at pairs (slot_of slots x) ≡ Some v → StandsFor v.now u → (f : Variable → Term) → IsSolvedBy slots pairs f → f x ≡ terms.substitute f u
value_same slots pairs x v u range bound stands f is =
    let here = value_holds (λ pair. Equalizes f (variable_cell (variable_of slots pair.0) ∷ []) pair.1.now) pairs (slot_of slots x) v is.equal bound in
    let name = variable_of-slot_of slots x (in_range-variable slots x range) in
    subst (λ y. Equalizes f (variable_cell y ∷ []) v.now) name here (terms.var x) u (record { cells_are = refl; sound = tt }) stands

-- where the next variable is, it ranks below
next_below : (slots : Slots) (rank : ℕ → ℕ) (slot next : ℕ) (cells : List Cell) → ComesDown slots rank slot cells → cell_slot slots (get_or cells 0 no_cell) ≡ Some next → rank next < rank slot
next_below slots rank slot next [] down e = absurd (by e) where
  by : None ≡ Some next → ⊥
  by p = cc
next_below slots rank slot next (c ∷ cells) down e = subst (ChainComesDown rank slot) e down

module _ (slots : Slots) (pairs : Pairs) (start : List Cell) where
  pub record IsDown (reached : List Cell) (steps : ℕ) : Type 0 where
    pub chained : IsChained slots pairs
    pub bindings : (slot : ℕ) (v : Bor (List Cell)) → value_at pairs slot ≡ Some v → IsBinding slots (slot, v)
    pub first : Term
    pub first_stands : StandsFor start first
    pub last : Term
    pub last_stands : StandsFor reached last
    pub same : (f : Variable → Term) → IsSolvedBy slots pairs f → terms.substitute f first ≡ terms.substitute f last
    pub range : AreInRange slots reached
    pub short : steps ≤ length pairs
    pub within : (n : ℕ) → AreNoLongerThan n pairs → length start ≤ n → length reached ≤ n
    pub low : (slot : ℕ) → cell_slot slots (get_or reached 0 no_cell) ≡ Some slot → chained.rank slot + steps ≤ length pairs

  pub down_starts : (count : ℕ) → AllowsSolving slots pairs count → IsWhole start → AreInRange slots start → IsDown start 0
  down_starts count solving whole range =
      let chained = (legal_at_first (record { slots = slots; left = lent start; right = lent start }) pairs solving.bindings solving.triangular whole whole range range).chained in
      record {
        chained = chained;
        bindings = λ slot v e. value_holds (IsBinding slots) pairs slot v solving.bindings e;
        first = whole.0;
        first_stands = whole.1;
        last = whole.0;
        last_stands = whole.1;
        same = λ f is. refl;
        range = range;
        short = omega arith;
        within = λ n values few. few;
        low = λ slot e. omega (arith, chained.few slot);
      }

  pub some_reached : (reached : List Cell) (steps : ℕ) → IsDown reached steps → 0 < length reached
  some_reached reached steps h = inside reached 0 h.last (whole_at reached h.last h.last_stands)

  head_of : (reached : List Cell) (steps : ℕ) (h : IsDown reached steps) → get_or reached 0 no_cell ≡ first_cell h.last
  head_of reached steps h = cell-at reached 0 h.last no_cell (whole_at reached h.last h.last_stands)

  pub down_further : (reached : List Cell) (steps slot : ℕ) (v : Bor (List Cell)) → IsDown reached steps → Some slot ≡ cell_slot slots (get_or reached 0 no_cell) → Some v ≡ value_at pairs slot → IsDown v.now (steps + 1)
  down_further reached steps slot v h here bound =
      let binding = h.bindings slot v (sym bound) in
      let x = slot_variable slots h.last slot (sym (here ∙ ap (cell_slot slots) (head_of reached steps h))) in
      let range : CellIsInRange slots (variable_cell x.0) = subst (CellIsInRange slots) (head_of reached steps h ∙ ap first_cell x.1) (in_range-at slots reached 0 no_cell h.range (some_reached reached steps h)) in
      let positive = value_holds (λ pair. 0 < h.chained.rank pair.0) pairs slot v h.chained.positive (sym bound) in
      let down = value_holds (λ pair. ComesDown slots h.chained.rank pair.0 pair.1.now) pairs slot v h.chained.down (sym bound) in
      let low = h.low slot (sym here) in
      record {
        chained = h.chained;
        bindings = h.bindings;
        first = h.first;
        first_stands = h.first_stands;
        last = binding.whole.0;
        last_stands = binding.whole.1;
        same = λ f is. h.same f is ∙ ap (terms.substitute f) x.1 ∙ value_same slots pairs x.0 v binding.whole.0 range (ap (value_at pairs) x.2 ∙ sym bound) binding.whole.1 f is;
        range = binding.in_range;
        short = omega (arith, low, positive);
        within = λ n values few. value_holds (λ pair. length pair.1.now ≤ n) pairs slot v values (sym bound);
        low = λ next e. omega (arith, low, next_below slots h.chained.rank slot next v.now down e);
      }

  ended : (reached : List Cell) (steps : ℕ) → IsDown reached steps → IsUnbound pairs (cell_slot slots (get_or reached 0 no_cell)) → HasFollowed slots pairs start reached
  ended reached steps h unbound = record {
    ends = record {
      first = h.first;
      first_stands = h.first_stands;
      last = h.last;
      last_stands = h.last_stands;
      same = h.same;
      unbound = unbound;
    };
    range = h.range;
    within = h.within;
  }

  pub ends_unbound : (reached : List Cell) (steps : ℕ) (h : IsDown reached steps) (o : Option ℕ) → o ≡ cell_slot slots (get_or reached 0 no_cell) → IsUnbound pairs o → HasFollowed slots pairs start reached
  ends_unbound reached steps h o e unbound = ended reached steps h (subst (IsUnbound pairs) e unbound)

  pub ends_full : (reached : List Cell) (steps : ℕ) (h : IsDown reached steps) → length pairs ≤ steps → HasFollowed slots pairs start reached
  ends_full reached steps h full = ended reached steps h (by (cell_slot slots (get_or reached 0 no_cell)) refl) where
    bound : (slot : ℕ) → cell_slot slots (get_or reached 0 no_cell) ≡ Some slot → (o : Option (Bor (List Cell))) → value_at pairs slot ≡ o → value_at pairs slot ≡ None
    bound slot here None e = e
    bound slot here (Some v) e = absurd (omega (arith, full, h.low slot here, value_holds (λ pair. 0 < h.chained.rank pair.0) pairs slot v h.chained.positive e))

    by : (o : Option ℕ) → cell_slot slots (get_or reached 0 no_cell) ≡ o → IsUnbound pairs o
    by None e = tt
    by (Some slot) e = bound slot e (value_at pairs slot) refl

  -- ---- the first step by itself
  pub ends_on : (reached end : List Cell) (steps : ℕ) → IsDown reached steps → HasFollowed slots pairs reached end → HasFollowed slots pairs start end
  ends_on reached end steps h is = record {
    ends = record {
      first = h.first;
      first_stands = h.first_stands;
      last = is.ends.last;
      last_stands = is.ends.last_stands;
      same = λ f solved. h.same f solved ∙ ap (terms.substitute f) (one_term reached h.last is.ends.first h.last_stands is.ends.first_stands) ∙ is.ends.same f solved;
      unbound = is.ends.unbound;
    };
    range = is.range;
    within = λ n values few. is.within n values (h.within n values few);
  }

  -- the slot of an indicator
  pub indicator_slot : (number : ℕ) → start ≡ cell.Ind number ∷ [] → Some (slots.query + slots.entry + number) ≡ cell_slot slots (get_or start 0 no_cell)
  indicator_slot number e = sym (ap (λ l. cell_slot slots (get_or l 0 no_cell)) e)

  pub indicator_down : (count number : ℕ) (v : Bor (List Cell)) → start ≡ cell.Ind number ∷ [] → AllowsSolving slots pairs count → AreInRange slots start → Some v ≡ value_at pairs (slots.query + slots.entry + number) → IsDown v.now 1
  indicator_down count number v e solving range bound =
      down_further start 0 (slots.query + slots.entry + number) v (down_starts count solving (indicator_whole start number e) range) (indicator_slot number e) bound

  pub indicator_unbound : (count number : ℕ) → start ≡ cell.Ind number ∷ [] → AllowsSolving slots pairs count → AreInRange slots start → None ≡ value_at pairs (slots.query + slots.entry + number) → HasFollowed slots pairs start start
  indicator_unbound count number e solving range free =
      ends_unbound start 0 (down_starts count solving (indicator_whole start number e) range) (Some (slots.query + slots.entry + number)) (indicator_slot number e) (sym free)
