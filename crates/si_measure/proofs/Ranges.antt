-- The variables of towers have slots.
use Rattle.std.proofs.Common.{ℕ, zero, suc, ◌+◌, ◌-◌, ◌<◌, List, [], ◌∷◌, ◌++◌, map, sym, subst, arith}
use Rattle.std.specs.List.{AllByRecursion}
use Rattle.si_defs.specs.Terms as terms
use Rattle.si_defs.proofs.ListLaws.{all_append}
use Rattle.si_flat.specs.declared.Cell.{Cell}
use Rattle.si_flat.specs.declared.Owner.{Owner}
use Rattle.si_flat.specs.declared.Owner.TheVariants.{Query, Entry}
use Rattle.si_flat.specs.Cells.{Term, cells_of, cells_of_all}
use Rattle.si_unify.specs.declared.slots.Slots.{Slots}
use Rattle.si_unify.specs.Solving.{CellIsInRange, AreInRange}
use Rattle.si_measure.specs.Systems.{Equation, variable, doubled, tower, two_towers, equations_of, AreEquationSides}
use Rattle.si_measure.specs.Answers.{slots_for, HaveSlots}
use Rattle.si_measure.specs.declared.measurement.Shape.{Shape}
use Rattle.si_measure.specs.declared.measurement.Shape.TheVariants.{One, Both, Shifted}

variable_in_range : (owner : Owner) (n m : ℕ) → n < m → AreInRange (slots_for m) (cells_of (variable owner n))
variable_in_range Query n m less = (less, tt)
variable_in_range Entry n m less = (less, tt)

doubled_in_range : (slots : Slots) (steps : ℕ) (t : Term) → AreInRange slots (cells_of t) → AreInRange slots (cells_of (doubled steps t))
doubled_in_range slots zero t h = h
doubled_in_range slots (suc steps) t h =
    let u = cells_of (doubled steps t) in
    let k : AreInRange slots u = doubled_in_range slots steps t h in
    (tt, all_append (CellIsInRange slots) u (u ++ []) k (all_append (CellIsInRange slots) u [] k tt))

row_in_range : (slots : Slots) (side : Equation → Term) (es : List Equation) → AllByRecursion (λ e. AreInRange slots (cells_of (side e))) es → AreInRange slots (cells_of_all (terms.row (map side es)))
row_in_range slots side [] h = tt
row_in_range slots side (e ∷ es) h = all_append (CellIsInRange slots) (cells_of (side e)) (cells_of_all (terms.row (map side es))) h.0 (row_in_range slots side es h.1)

module _ (m : ℕ) where
  abbrev IsRanged : Equation → Type 0
  IsRanged e = AreInRange (slots_for m) (cells_of e.left) × AreInRange (slots_for m) (cells_of e.right)

  tower_ranged : (owner : Owner) (steps n : ℕ) → n < m → AllByRecursion IsRanged (tower owner steps n)
  tower_ranged owner steps zero less = tt
  tower_ranged owner steps (suc n) less =
      all_append IsRanged (tower owner steps n) _ (tower_ranged owner steps n (omega (arith, less))) (
        (
          variable_in_range owner (suc n) m less,
          doubled_in_range (slots_for m) steps (variable owner n) (variable_in_range owner n m (omega (arith, less))),
        ),
        tt,
      )

  two_ranged : (steps n : ℕ) → n < m → AllByRecursion IsRanged (two_towers steps n)
  two_ranged steps n less =
      all_append IsRanged (tower Query steps n ++ tower Entry steps n) _
      (all_append IsRanged (tower Query steps n) (tower Entry steps n) (tower_ranged Query steps n less) (tower_ranged Entry steps n less)) (
        (
          variable_in_range Query n m less,
          doubled_in_range (slots_for m) (steps - 1) (variable Entry n) (variable_in_range Entry n m less),
        ),
        tt,
      )

  shape_ranged : (shape : Shape) (n : ℕ) → n < m → AllByRecursion IsRanged (equations_of shape n)
  shape_ranged One n less = tower_ranged Query 1 n less
  shape_ranged Both n less = two_ranged 1 n less
  shape_ranged Shifted n less = two_ranged 2 n less

  lefts_ranged : (es : List Equation) → AllByRecursion IsRanged es → AllByRecursion (λ e. AreInRange (slots_for m) (cells_of e.left)) es
  lefts_ranged [] h = tt
  lefts_ranged (e ∷ es) h = (h.0.0, lefts_ranged es h.1)

  rights_ranged : (es : List Equation) → AllByRecursion IsRanged es → AllByRecursion (λ e. AreInRange (slots_for m) (cells_of e.right)) es
  rights_ranged [] h = tt
  rights_ranged (e ∷ es) h = (h.0.1, rights_ranged es h.1)

pub sides_have_slots : (shape : Shape) (n : ℕ) (left right : List Cell) → AreEquationSides (equations_of shape n) left right → HaveSlots (slots_for (n + 1)) left right
sides_have_slots shape n left right sides =
    let es = equations_of shape n in
    let slots = slots_for (n + 1) in
    let ranged : AllByRecursion (IsRanged (n + 1)) es = shape_ranged (n + 1) shape n (omega arith) in
    record {
      left_range = subst (AreInRange slots) (sym sides.lefts) (tt, row_in_range slots (λ e. e.left) es (lefts_ranged (n + 1) es ranged));
      right_range = subst (AreInRange slots) (sym sides.rights) (tt, row_in_range slots (λ e. e.right) es (rights_ranged (n + 1) es ranged));
    }
