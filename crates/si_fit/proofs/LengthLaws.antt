-- Values that stay as short as all that was there.
use Rattle.std.proofs.Common.{◌≡◌, ℕ, ◌≤◌, List, [], ◌∷◌, ◌++◌, length, sym, subst, arith, Some}
use Rattle.std.specs.Borrow.{Bor}
use Rattle.si_defs.proofs.ListLaws.{all_append}
use Rattle.si_flat.specs.declared.Cell.{Cell}
use Rattle.si_trail.specs.Trails.{value_at}
use Rattle.si_unify.specs.Rooms.{AreNoLongerThan}
use Rattle.si_unify.specs.Solving.{Pairs}
use Rattle.si_unify.proofs.Places.{value_holds}
use Rattle.si_fit.specs.Fitting.{StayWithin}

pub stay_there : (pairs : Pairs) (left right : List Cell) → StayWithin pairs pairs left right
stay_there pairs left right n values left_few right_few = values

-- one more value
pub bound_within : (pairs new : Pairs) (slot : ℕ) (v : Bor (List Cell)) → new ≡ pairs ++ (slot, v) ∷ [] → (n : ℕ) → AreNoLongerThan n pairs → length v.now ≤ n → AreNoLongerThan n new
bound_within pairs new slot v e n values few =
    subst (AreNoLongerThan n) (sym e) (all_append (λ pair. length pair.1.now ≤ n) pairs ((slot, v) ∷ []) values (few, tt))

-- of parts of both
pub parts_stay : (old mid new : Pairs) (left right one other : List Cell) → length one ≤ length left → length other ≤ length right → StayWithin old mid left right → StayWithin mid new one other → StayWithin old new left right
parts_stay old mid new left right one other one_few other_few first then n values left_few right_few =
    then n (first n values left_few right_few) (omega (arith, one_few, left_few)) (omega (arith, other_few, right_few))

-- where a value stood in the place of one of both
module _ (old new : Pairs) (slot : ℕ) (v : Bor (List Cell)) (here : value_at old slot ≡ Some v) (left right : List Cell) where
  value_few : (n : ℕ) → AreNoLongerThan n old → length v.now ≤ n
  value_few n values = value_holds (λ pair. length pair.1.now ≤ n) old slot v values here

  pub left_stays : StayWithin old new v.now right → StayWithin old new left right
  left_stays stay n values left_few right_few = stay n values (value_few n values) right_few

  pub right_stays : StayWithin old new left v.now → StayWithin old new left right
  right_stays stay n values left_few right_few = stay n values left_few (value_few n values)
