-- The first slot whose variable becomes that of another, and cells with the variables that lead.
use Rattle.std.proofs.Common.{◌≡◌, ℕ, ◌+◌, ◌<◌, ◌≤◌, inl, inr, List, [], ◌∷◌, ◌++◌, length, take, get_or, map, suc, refl, sym, ◌∙◌, ap, subst, arith, Option, Some, None}
use Rattle.std.proofs.lemmas.List.{map-append, take_all}
use Rattle.std.proofs.Math.Seq.{take-suc}
use Rattle.std.specs.Prelude.{slice_get}
use Rattle.std.specs.List.{AllByRecursion}
use Rattle.std.specs.Borrow.{Bor}
use Rattle.si_defs.proofs.ListLaws.{all_weaker, all_get}
use Rattle.si_flat.specs.declared.Cell.{Cell}
use Rattle.si_flat.specs.declared.Cell.TheVariants as cell
use Rattle.si_flat.specs.Cells.{Variable, Term, variable_cell, IsWhole}
use Rattle.si_trail.specs.Trails.{value_at, HasDistinctSlots}
use Rattle.si_unify.specs.declared.slots.Slots.{Slots}
use Rattle.si_unify.specs.Solving.{Pairs, slot_count, variable_of, CellIsInRange, AreInRange, IsAcyclic, IsBinding}
use Rattle.si_unify.specs.Spots.{cell_slot, IsUnbound, CellIsUnbound}
use Rattle.si_unify.proofs.Places as places
use Rattle.si_form.specs.Direct.{head_slot, IsFirstAmong, IsFirst, led_variable, renamed, AreRenamed, AreDirect, AreApplied, CanBeReadOff}
use Rattle.si_form.specs.Unifying.{right_side, IsGeneral, HasRightSide, AreFree}
use Rattle.si_form.proofs.DownLaws.{no_cell}
use Rattle.si_form.proofs.PairLaws.{all_more, all_begins, all_ends}
use Rattle.si_form.proofs.DirectLaws.{IsCellOf, cell_variable, binding_at, direct_at, first_leads, variable_renamed, application_right, leader_right}
use Rattle.si_form.proofs.TrailLaws.{has_general}

pub can_be_read : (slots : Slots) (pairs : Pairs) → AreFree slots → AllByRecursion (IsBinding slots) pairs → HasDistinctSlots pairs → IsAcyclic slots pairs → AreDirect slots pairs → CanBeReadOff slots pairs
can_be_read slots pairs free bindings distinct triangular direct = record {
  none = free.none;
  bindings = bindings;
  direct = direct;
  general = has_general slots free.query free.entry pairs bindings distinct triangular;
}

-- ---- the first slot
module _ (slots : Slots) (pairs : Pairs) (slot : ℕ) where
  pub first_begins : IsFirstAmong slots pairs (take 0 pairs) slot slot
  first_begins = record {
    becomes = inl refl;
    own = omega arith;
    others = all_begins (λ pair. head_slot slots pair.1.now ≡ Some slot → slot ≤ pair.0) pairs;
  }

  module _ (n first other : ℕ) (v : Bor (List Cell)) (at : slice_get pairs n ≡ Some (other, v)) (h : IsFirstAmong slots pairs (take n pairs) slot first) where
    pub first_stays : (head_slot slots v.now ≡ Some slot → first ≤ other) → IsFirstAmong slots pairs (take (n + 1) pairs) slot first
    first_stays least = record {
      becomes = h.becomes;
      own = h.own;
      others = all_more (λ pair. head_slot slots pair.1.now ≡ Some slot → first ≤ pair.0) pairs n (other, v) at least h.others;
    }

    pub first_moves : value_at pairs other ≡ Some v → head_slot slots v.now ≡ Some slot → other < first → IsFirstAmong slots pairs (take (n + 1) pairs) slot other
    first_moves bound head before = record {
      becomes = inr (v, bound, head);
      own = omega (arith, before, h.own);
      others =
          all_more (λ pair. head_slot slots pair.1.now ≡ Some slot → other ≤ pair.0) pairs n (other, v) at (λ e. omega arith)
          (
          all_weaker (λ pair. head_slot slots pair.1.now ≡ Some slot → first ≤ pair.0) (λ pair. head_slot slots pair.1.now ≡ Some slot → other ≤ pair.0) (take n pairs)
          (λ pair least e. let l = least e in omega (arith, l, before)) h.others
          );
    }

  pub first_ends : (n first : ℕ) → length pairs ≤ n → IsFirstAmong slots pairs (take n pairs) slot first → IsFirst slots pairs slot first
  first_ends n first full h = record {
    becomes = h.becomes;
    own = h.own;
    others = all_ends (λ pair. head_slot slots pair.1.now ≡ Some slot → first ≤ pair.0) pairs n full h.others;
  }

-- ---- renamed cells
module _ (slots : Slots) (pairs : Pairs) (can : CanBeReadOff slots pairs) where
  pub symbol_stays : (c : Cell) → None ≡ cell_slot slots c → (f : Variable → Term) → c ≡ renamed slots f c
  symbol_stays (cell.App s a n) e f = refl
  symbol_stays (cell.Query n) e f = cc
  symbol_stays (cell.Entry n) e f = cc
  symbol_stays (cell.Ind n) e f = cc

  module _ (cells : List Cell) (range : AreInRange slots cells) (unbound : AllByRecursion (CellIsUnbound slots pairs) cells) (i j first : ℕ) (less : i < length cells) (e : Some j ≡ cell_slot slots (get_or cells i no_cell)) (h : IsFirst slots pairs j first) where
    own : IsCellOf slots (get_or cells i no_cell) j
    own = cell_variable slots (get_or cells i no_cell) j (all_get (CellIsInRange slots) cells i no_cell range less) e

    pub first_inside : first < slot_count slots
    first_inside = omega (arith, h.own, own.inside)

    pub variable_changes : (f : Variable → Term) → IsGeneral slots pairs f → variable_cell (variable_of slots first) ≡ renamed slots f (get_or cells i no_cell)
    variable_changes f general =
        let none : value_at pairs j ≡ None = subst (IsUnbound pairs) (sym e) (all_get (CellIsUnbound slots pairs) cells i no_cell unbound less) in
        ap (λ o. variable_cell (led_variable slots o (variable_of slots j))) (sym (first_leads slots pairs can.bindings can.direct f general j first own.inside none h))
        ∙ variable_renamed slots f (variable_of slots j)
        ∙ ap (renamed slots f) (sym own.cell_is)

    variable_stays : first ≡ j → (f : Variable → Term) → IsGeneral slots pairs f → get_or cells i no_cell ≡ renamed slots f (get_or cells i no_cell)
    variable_stays same f general = own.cell_is ∙ ap (λ k. variable_cell (variable_of slots k)) (sym same) ∙ variable_changes f general

  pub renamed_begins : (cells new : List Cell) → new ≡ [] → AreRenamed slots pairs (take 0 cells) new
  renamed_begins [] new none f general = none
  renamed_begins (c ∷ cells) new none f general = none

  taken : (cells : List Cell) (i : ℕ) → i < length cells → take (i + 1) cells ≡ take i cells ++ get_or cells i no_cell ∷ []
  taken cells i less = (let n : i + 1 ≡ suc i = omega arith in ap (λ m. take m cells) n) ∙ take-suc cells i no_cell less

  pub renamed_more :
      (cells new more : List Cell) (i : ℕ) (c : Cell)
      → i < length cells
      → AreRenamed slots pairs (take i cells) new
      → ((f : Variable → Term) → IsGeneral slots pairs f → c ≡ renamed slots f (get_or cells i no_cell))
      → more ≡ new ++ c ∷ []
      → AreRenamed slots pairs (take (i + 1) cells) more
  renamed_more cells new more i c less h next is f general =
      is
      ∙ ap (λ l. l ++ c ∷ []) (h f general)
      ∙ ap (λ d. map (renamed slots f) (take i cells) ++ d ∷ []) (next f general)
      ∙ sym (ap (map (renamed slots f)) (taken cells i less) ∙ map-append (renamed slots f) (take i cells) (get_or cells i no_cell ∷ []))

  pub renamed_ends : (cells new : List Cell) (i : ℕ) → length cells ≤ i → AreRenamed slots pairs (take i cells) new → AreRenamed slots pairs cells new
  renamed_ends cells new i full h = subst (λ l. AreRenamed slots pairs l new) (take_all i cells full) h

  pub whole_side : (k : ℕ) (cells : List Cell) → HasRightSide slots pairs k (Some cells) → IsWhole cells
  whole_side k cells side = (right_side slots can.general.0 k, (side can.general.0 can.general.1).1)

  -- where no value is a variable, each variable leads itself
  module _ (applied : AreApplied slots pairs) where
    first_itself : (slot : ℕ) → IsFirst slots pairs slot slot
    first_itself slot = record {
      becomes = inl refl;
      own = omega arith;
      others =
          all_weaker (λ pair. head_slot slots pair.1.now ≡ None) (λ pair. head_slot slots pair.1.now ≡ Some slot → slot ≤ pair.0) pairs
          (λ pair none some. let bad : None ≡ Some slot = sym none ∙ some in cc) applied;
    }

    cells_stay : (cells : List Cell) → AreInRange slots cells → AllByRecursion (CellIsUnbound slots pairs) cells → (f : Variable → Term) → IsGeneral slots pairs f → cells ≡ map (renamed slots f) cells
    cells_stay [] range unbound f general = refl
    cells_stay (c ∷ cells) range unbound f general = ap (λ d. d ∷ cells) (by (cell_slot slots c) refl) ∙ ap (λ l. renamed slots f c ∷ l) (cells_stay cells range.1 unbound.1 f general)
      where
        by : (o : Option ℕ) → o ≡ cell_slot slots c → c ≡ renamed slots f c
        by None e = symbol_stays c e f
        by (Some j) e = variable_stays (c ∷ cells) range unbound 0 j j (omega arith) e (first_itself j) refl f general

    pub value_side : (k : ℕ) (v : Bor (List Cell)) → value_at pairs k ≡ Some v → HasRightSide slots pairs k (Some v.now)
    value_side k v bound =
        application_right slots pairs can.bindings can.direct k v v.now bound (places.value_holds (λ pair. head_slot slots pair.1.now ≡ None) pairs k v applied bound)
        (cells_stay v.now (binding_at slots pairs can.bindings k v bound).in_range (direct_at slots pairs can.bindings can.direct k v bound).unbound)

    pub no_side : (k : ℕ) → k < slot_count slots → value_at pairs k ≡ None → HasRightSide slots pairs k None
    no_side k less unbound = leader_right slots pairs can.bindings can.direct k k k less unbound (inl refl) (first_itself k) refl
