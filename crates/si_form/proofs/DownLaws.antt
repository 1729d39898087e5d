-- Down a chain of variables that are bound to variables, to an application or a variable that isn't
-- bound.
use Rattle.std.proofs.Common.{◌≡◌, ℕ, ◌+◌, ◌^◌, ◌<◌, ◌≤◌, ◌⊎◌, inl, inr, suc, zero, List, [], ◌∷◌, length, get_or, refl, sym, ◌∙◌, ap, subst, arith, Option, None, Some}
use Rattle.std.specs.List.{AllByRecursion}
use Rattle.std.specs.Borrow.{Bor}
use Rattle.si_defs.specs.Terms as terms
use Rattle.si_flat.specs.declared.Cell.{Cell}
use Rattle.si_flat.specs.declared.Cell.TheVariants as cell
use Rattle.si_flat.specs.Cells.{Variable, query, entry, ind, Term, variable_cell, StandsFor}
use Rattle.si_flat.proofs.Subterms.{length-cells_of}
use Rattle.si_trail.specs.Trails.{value_at}
use Rattle.si_unify.specs.declared.slots.Slots.{Slots}
use Rattle.si_unify.specs.Solving.{Pairs, slot_count, variable_of, CellIsInRange, Equalizes, IsSolvedBy, IsAcyclic, IsBinding}
use Rattle.si_unify.specs.Spots.{cell_slot, ChainComesDown, ComesDown, IsChained}
use Rattle.si_unify.proofs.Places.{value_holds, whole_at, first_cell, cell-at, inside, in_range-at, in_range-variable, variable_of-slot_of, slot_variable}
use Rattle.si_unify.proofs.Ranks.{chained_of_triangular}
use Rattle.si_unify.proofs.Binding.{slot_below}
use Rattle.si_form.specs.Unifying.{IsGeneral, HasApplication, IsBoundTo}
use Rattle.si_form.proofs.TrailLaws.{HasSlot, cell_has_slot, variables_ranked}

-- so many steps down from a slot
pub record IsDown (slots : Slots) (pairs : Pairs) (slot at k : ℕ) : Type 0 where
  pub chained : IsChained slots pairs
  pub inside : at < slot_count slots
  pub low : chained.rank at + k ≤ length pairs
  pub same : (f : Variable → Term) → IsSolvedBy slots pairs f → f (variable_of slots slot) ≡ f (variable_of slots at)

pub down_begins : (slots : Slots) (pairs : Pairs) (slot : ℕ) → IsAcyclic slots pairs → slot < slot_count slots → IsDown slots pairs slot slot 0
down_begins slots pairs slot acyclic less =
    let chained = chained_of_triangular slots pairs acyclic in
    record { chained = chained; inside = less; low = omega (arith, chained.few slot); same = λ f _. refl }

abbrev pub no_cell : Cell
no_cell = cell.App 0 0 0

pub variable_slot : (slots : Slots) (x : Variable) → None ≡ cell_slot slots (variable_cell x) → ⊥
variable_slot slots (query n) e = cc
variable_slot slots (entry n) e = cc
variable_slot slots (ind n) e = cc

next_below : (slots : Slots) (rank : ℕ → ℕ) (slot next : ℕ) (cells : List Cell) → 0 < length cells → ComesDown slots rank slot cells → cell_slot slots (get_or cells 0 no_cell) ≡ Some next → rank next < rank slot
next_below slots rank slot next [] less down e = absurd (omega (arith, less))
next_below slots rank slot next (c ∷ cells) less down e = subst (ChainComesDown rank slot) e down

module _ (slots : Slots) (pairs : Pairs) (bindings : AllByRecursion (IsBinding slots) pairs) (slot at k : ℕ) (h : IsDown slots pairs slot at k) where
  pub down_unbound : value_at pairs at ≡ None → IsBoundTo slots pairs slot None
  down_unbound unbound f general = (variable_of slots at, h.same f general.solves ∙ general.leaves at h.inside unbound)

  pub down_ends : length pairs ≤ k → IsBoundTo slots pairs slot None
  down_ends full = by (value_at pairs at) refl
    where
      by : (o : Option (Bor (List Cell))) → value_at pairs at ≡ o → IsBoundTo slots pairs slot None
      by None e = down_unbound e
      by (Some v) e = let positive : 0 < h.chained.rank at = value_holds (λ pair. 0 < h.chained.rank pair.0) pairs at v h.chained.positive e in absurd (omega (arith, positive, h.low, full))

  module _ (v : Bor (List Cell)) (bound : value_at pairs at ≡ Some v) where
    binding : IsBinding slots (at, v)
    binding = value_holds (IsBinding slots) pairs at v bindings bound

    pub value_inside : 0 < length v.now
    value_inside = inside v.now 0 binding.whole.0 (whole_at v.now binding.whole.0 binding.whole.1)

    first : get_or v.now 0 no_cell ≡ first_cell binding.whole.0
    first = cell-at v.now 0 binding.whole.0 no_cell (whole_at v.now binding.whole.0 binding.whole.1)

    image : (f : Variable → Term) → IsSolvedBy slots pairs f → f (variable_of slots slot) ≡ terms.substitute f binding.whole.0
    image f solved =
        h.same f solved
        ∙ value_holds (λ pair. Equalizes f (variable_cell (variable_of slots pair.0) ∷ []) pair.1.now) pairs at v solved.equal bound
        (terms.var (variable_of slots at)) binding.whole.0 (record { cells_are = refl; sound = tt }) binding.whole.1

    pub down_more : (next : ℕ) → Some next ≡ cell_slot slots (get_or v.now 0 no_cell) → IsDown slots pairs slot next (k + 1)
    down_more next here =
        let x = slot_variable slots binding.whole.0 next (ap (cell_slot slots) (sym first) ∙ sym here) in
        let range : CellIsInRange slots (first_cell binding.whole.0) = subst (CellIsInRange slots) first (in_range-at slots v.now 0 no_cell binding.in_range value_inside) in
        let range' = in_range-variable slots x.0 (subst (λ w. CellIsInRange slots (first_cell w)) x.1 range) in
        let down : ComesDown slots h.chained.rank at v.now = value_holds (λ pair. ComesDown slots h.chained.rank pair.0 pair.1.now) pairs at v h.chained.down bound in
        let less = next_below slots h.chained.rank at next v.now value_inside down (sym here) in
        record {
          chained = h.chained;
          inside = subst (λ i. i < slot_count slots) x.2 (slot_below slots x.0 range');
          low = omega (arith, h.low, less);
          same = λ f solved. image f solved ∙ ap (terms.substitute f) x.1 ∙ ap f (sym (ap (variable_of slots) (sym x.2) ∙ variable_of-slot_of slots x.0 range'));
        }

    applies : (n : ℕ) → None ≡ cell_slot slots (get_or v.now 0 no_cell) → n ≡ length v.now → (f : Variable → Term) → IsGeneral slots pairs f → HasApplication slots f slot n
    applies n here long f general = by binding.whole.0 first (image f general.solves) binding.whole.1 known
      where
        known : AllByRecursion (HasSlot slots) (terms.variables binding.whole.0)
        known =
            variables_ranked (CellIsInRange slots) (HasSlot slots) binding.whole.0 (λ x c. cell_has_slot slots x c)
            (subst (AllByRecursion (CellIsInRange slots)) binding.whole.1.cells_are binding.in_range)

        by : (t : Term) → get_or v.now 0 no_cell ≡ first_cell t → f (variable_of slots slot) ≡ terms.substitute f t → StandsFor v.now t → AllByRecursion (HasSlot slots) (terms.variables t) → HasApplication slots f slot n
        by (terms.var x) e is stands all = absurd (variable_slot slots x (here ∙ ap (cell_slot slots) e))
        by (terms.app s ts) e is stands all = record {
          symbol = s;
          arguments = ts;
          image_is = is;
          known = all;
          size_is = sym (length-cells_of (terms.app s ts)) ∙ ap length (sym stands.cells_are) ∙ sym long;
        }

    pub down_applies : (n : ℕ) → None ≡ cell_slot slots (get_or v.now 0 no_cell) → n ≡ length v.now → n < 2 ^ 32 → IsBoundTo slots pairs slot (Some n)
    down_applies n here long small = (small, applies n here long)

-- ---- the image of a slot's variable is a variable, or comes from a value
abbrev pub ComesFromUpTo : Slots → (Variable → Term) → ℕ → ℕ → Type 0
ComesFromUpTo slots f slot n =
    ((y : Variable) × (f (variable_of slots slot) ≡ terms.var y)) ⊎ ((size : ℕ) × (size ≤ n) × HasApplication slots f slot size)

module _ (slots : Slots) (pairs : Pairs) (bindings : AllByRecursion (IsBinding slots) pairs) (n : ℕ) (few : AllByRecursion (λ pair. length pair.1.now ≤ n) pairs) (slot : ℕ) (f : Variable → Term) (general : IsGeneral slots pairs f) where
  comes_from : (steps at k : ℕ) → length pairs ≤ k + steps → IsDown slots pairs slot at k → ComesFromUpTo slots f slot n
  comes_from zero at k full h = inl (down_ends slots pairs bindings slot at k h (omega (arith, full)) f general)
  comes_from (suc steps) at k full h = by (value_at pairs at) refl (λ next d. comes_from steps next (k + 1) (omega (arith, full)) d)
    where
      by : (o : Option (Bor (List Cell))) → value_at pairs at ≡ o → ((next : ℕ) → IsDown slots pairs slot next (k + 1) → ComesFromUpTo slots f slot n) → ComesFromUpTo slots f slot n
      by None e later = inl (down_unbound slots pairs bindings slot at k h e f general)
      by (Some v) e later = go (cell_slot slots (get_or v.now 0 no_cell)) refl
        where
          go : (o : Option ℕ) → o ≡ cell_slot slots (get_or v.now 0 no_cell) → ComesFromUpTo slots f slot n
          go None here = inr (length v.now, value_holds (λ pair. length pair.1.now ≤ n) pairs at v few e, applies slots pairs bindings slot at k h v e (length v.now) here refl f general)
          go (Some next) here = later next (down_more slots pairs bindings slot at k h v e next here)

  pub comes_from_value : IsAcyclic slots pairs → slot < slot_count slots → ComesFromUpTo slots f slot n
  comes_from_value acyclic inside = comes_from (length pairs) slot 0 (omega arith) (down_begins slots pairs slot acyclic inside)
