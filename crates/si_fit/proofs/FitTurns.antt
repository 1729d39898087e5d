-- The turns of a loop that makes bindings fit.
use Rattle.std.proofs.Common.{◌≡◌, ◌↔◌, ℕ, Bool, true, false, List, [], ◌∷◌, ◌++◌, ◌≤◌, length, sym, ap, subst, arith, append-nil}
use Rattle.std.specs.List.{AllByRecursion}
use Rattle.si_defs.specs.Substitutions.{Substitution, image, Grows}
use Rattle.si_flat.specs.declared.Cell.{Cell}
use Rattle.si_flat.specs.declared.Cell.TheVariants as cell
use Rattle.si_flat.specs.Cells.{Symbol, Variable, same_variable, IsWhole}
use Rattle.si_flat.specs.Rows.{CellPair}
use Rattle.si_flat.proofs.Subterms.{some_cell}
use Rattle.si_unify.specs.declared.slots.Slots.{Slots}
use Rattle.si_unify.specs.Rooms.{AreNoLongerThan}
use Rattle.si_unify.specs.Solving.{Pairs, CellIsInRange, AreInRange, IsSolution, HasSolved, AllowsSolving}
use Rattle.si_unify.proofs.Comparing.{grows_on}
use Rattle.si_fit.specs.Fresh.{StandOnce, IsUntold, AreFresh}
use Rattle.si_fit.proofs.FillTurns.{row_once, still_fresh}
use Rattle.si_fit.specs.Fitting.{StayWithin, AreRowsInRange, AreRowsNoLongerThan, EqualizesRows, HasSolution, HasFitted}

pub no_more : {X : Type 0} (xs : List X) → Grows xs xs
no_more xs = ([], sym (append-nil xs))

pub indicator_range : (slots : Slots) (cells : List Cell) (n : ℕ) → cells ≡ cell.Ind n ∷ [] → CellIsInRange slots (cell.Ind n) → AreInRange slots cells
indicator_range slots cells n e h = subst (AreInRange slots) (sym e) (h, tt)

module _ (slots : Slots) (old : Pairs) (rows : List CellPair) (count : ℕ) where
  -- with the bindings that are left, the solutions are those of the old list with all of them
  pub record FitsSoFar (pairs : Pairs) (left : List CellPair) : Type 0 where
    pub so_far : (s : Substitution Symbol Variable) → (IsSolution slots pairs s × EqualizesRows (image same_variable s) left) ↔ (IsSolution slots old s × EqualizesRows (image same_variable s) rows)
    pub some : HasSolution slots pairs
    pub grows : Grows old pairs
    pub ready : AllowsSolving slots pairs count
    pub range : AreRowsInRange slots left
    pub fresh : AreFresh slots pairs left
    pub within : (n : ℕ) → AreNoLongerThan n old → AreRowsNoLongerThan n rows → AreNoLongerThan n pairs
    pub rows_within : (n : ℕ) → AreRowsNoLongerThan n rows → AreRowsNoLongerThan n left

  pub fits_start : (left : List CellPair) → left ≡ rows → HasSolution slots old → AllowsSolving slots old count → AreRowsInRange slots rows → AreFresh slots old rows → FitsSoFar old left
  fits_start left e some ready range fresh = record {
    so_far = subst (λ l. (s : Substitution Symbol Variable) → (IsSolution slots old s × EqualizesRows (image same_variable s) l) ↔ (IsSolution slots old s × EqualizesRows (image same_variable s) rows)) (sym e) (λ s. (λ h. h, λ h. h));
    some = some;
    grows = no_more old;
    ready = ready;
    range = subst (AreRowsInRange slots) (sym e) range;
    fresh = subst (AreFresh slots old) (sym e) fresh;
    within = λ n values few. values;
    rows_within = subst (λ l. (n : ℕ) → AreRowsNoLongerThan n rows → AreRowsNoLongerThan n l) (sym e) (λ n few. few);
  }

  module _ (pairs : Pairs) (left rest : List CellPair) (row : CellPair) (first : left ≡ row ∷ rest) (h : FitsSoFar pairs left) where
    pub row_range : CellIsInRange slots (cell.Ind row.0) × AreInRange slots row.1
    row_range = (subst (AreRowsInRange slots) first h.range).0

    abbrev fresh : AreFresh slots pairs (row ∷ rest)
    fresh = subst (AreFresh slots pairs) first h.fresh

    pub row_fresh : (s t : List Cell) → s ≡ cell.Ind row.0 ∷ [] → t ≡ row.1 → StandOnce (s ++ t) × AllByRecursion (IsUntold slots pairs) t
    row_fresh s t e f = (
      subst (λ l. StandOnce (l ++ t)) (sym e) (subst (λ l. StandOnce (cell.Ind row.0 ∷ l)) (sym f) (row_once slots pairs row rest fresh)),
      subst (AllByRecursion (IsUntold slots pairs)) (sym f) fresh.untold.0,
    )

    next_within : (n : ℕ) → AreRowsNoLongerThan n rows → AreRowsNoLongerThan n (row ∷ rest)
    next_within n few = subst (AreRowsNoLongerThan n) first (h.rows_within n few)

    -- a left side is one cell
    pub sides_within : (s t : List Cell) → s ≡ cell.Ind row.0 ∷ [] → t ≡ row.1 → IsWhole t → (n : ℕ) → AreRowsNoLongerThan n rows → (length s ≤ n) × (length t ≤ n)
    sides_within s t e f whole n few =
        let right_few = (next_within n few).0 in
        (omega (arith, ap length e, some_cell t whole, ap length f, right_few), omega (arith, ap length f, right_few))

    pub pair_within : (new : Pairs) (s t : List Cell) → s ≡ cell.Ind row.0 ∷ [] → t ≡ row.1 → IsWhole t → StayWithin pairs new s t → (n : ℕ) → AreNoLongerThan n old → AreRowsNoLongerThan n rows → AreNoLongerThan n new
    pair_within new s t e f whole stay n values few = let sides = sides_within s t e f whole n few in stay n (h.within n values few) sides.0 sides.1

    so_far : (s : Substitution Symbol Variable) → (IsSolution slots pairs s × EqualizesRows (image same_variable s) (row ∷ rest)) ↔ (IsSolution slots old s × EqualizesRows (image same_variable s) rows)
    so_far = subst (λ l. (s : Substitution Symbol Variable) → (IsSolution slots pairs s × EqualizesRows (image same_variable s) l) ↔ (IsSolution slots old s × EqualizesRows (image same_variable s) rows)) first h.so_far

    pub fits_more : (new : Pairs) (s t : List Cell) (b : Bool) → s ≡ cell.Ind row.0 ∷ [] → t ≡ row.1 → HasSolved slots pairs new s t b → b ≡ true → Grows pairs new → AllowsSolving slots new count → IsWhole t → StayWithin pairs new s t → FitsSoFar new rest
    fits_more new s t b e f solved is grows ready whole stay = record {
      so_far = λ m. (
        λ g. (so_far m).0 (let c = (both.1 m).0 g.0 in (c.0, (c.1, g.1))),
        λ g. (let c = (so_far m).1 g in ((both.1 m).1 (c.0, c.1.0), c.1.1)),
      );
      some = (both.0.0, (both.1 both.0.0).1 both.0.1);
      grows = grows_on old pairs new h.grows grows;
      ready = ready;
      range = (subst (AreRowsInRange slots) first h.range).1;
      fresh = still_fresh slots pairs row rest fresh new both;
      within = pair_within new s t e f whole stay;
      rows_within = λ n few. (next_within n few).1;
    } where
      both : HasSolved slots pairs new (cell.Ind row.0 ∷ []) row.1 true
      both = subst (λ l. HasSolved slots pairs new l row.1 true) e (subst (λ l. HasSolved slots pairs new s l true) f (subst (HasSolved slots pairs new s t) is solved))

    pub fits_not : (new : Pairs) (s t : List Cell) (b : Bool) → s ≡ cell.Ind row.0 ∷ [] → t ≡ row.1 → HasSolved slots pairs new s t b → b ≡ false → HasFitted slots old new rows false
    fits_not new s t b e f solved is =
        let none : HasSolved slots pairs new (cell.Ind row.0 ∷ []) row.1 false = subst (λ l. HasSolved slots pairs new l row.1 false) e (subst (λ l. HasSolved slots pairs new s l false) f (subst (HasSolved slots pairs new s t) is solved)) in
        λ m g k. let c = (so_far m).1 (g, k) in none (m, (c.0, c.1.0))

  pub fits_end : (pairs : Pairs) (left : List CellPair) → left ≡ [] → FitsSoFar pairs left → HasFitted slots old pairs rows true
  fits_end pairs left e h = (
    h.some,
    λ s. (
      λ g. (h.so_far s).0 (g, subst (EqualizesRows (image same_variable s)) (sym e) tt),
      λ g. ((h.so_far s).1 g).0,
    ),
  )
