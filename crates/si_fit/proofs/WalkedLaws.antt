-- What is known of a walk over two terms of which one is a variable.
use Rattle.std.proofs.Common.{◌≡◌, ℕ, List, refl, sym, subst, Some}
use Rattle.std.specs.List.{AllByRecursion}
use Rattle.std.specs.Borrow.{Bor}
use Rattle.si_flat.specs.declared.Cell.{Cell}
use Rattle.si_trail.specs.Trails.{Trail, value_at}
use Rattle.si_unify.specs.declared.slots.Slots.{Slots}
use Rattle.si_unify.specs.Solving.{IsBinding, AllowsSolving}
use Rattle.si_fit.specs.Fitting.{AreWalkable}
use Rattle.si_fit.specs.Meeting.{slot_cells, HasMet, HasWalked}
use Rattle.si_fit.specs.declared.meeting.Met.{Met}
use Rattle.si_fit.proofs.FitTurns.{no_more}
use Rattle.si_fit.proofs.LengthLaws.{stay_there, left_stays, right_stays}
use Rattle.si_fit.proofs.MeetLaws.{IsVariable, met_turned, left_followed, right_followed}

-- nothing is bound
pub no_step : (slots : Slots) (trail : Trail (Bor (List Cell))) (left right : List Cell) (m : Met) → AllowsSolving slots trail.pairs trail.slots → HasMet slots trail.pairs trail.pairs left right m → HasWalked slots trail trail left right m
no_step slots trail left right m ready met = record {
  outcome = met;
  trail = record { grows = no_more trail.pairs; ready = ready; count = refl };
  within = stay_there trail.pairs left right;
}

-- ---- a variable that gets a value
module _ (slots : Slots) (old : Trail (Bor (List Cell))) (slot : ℕ) (left right : List Cell) where
  pub left_walkable : IsVariable slots slot left → AreWalkable slots old left right → AreWalkable slots old (slot_cells slots slot) right
  left_walkable x h = subst (λ l. AreWalkable slots old l right) (sym x.cells_are) h

  pub right_walkable : IsVariable slots slot right → AreWalkable slots old left right → AreWalkable slots old (slot_cells slots slot) left
  right_walkable x h =
      subst (λ l. AreWalkable slots old l left) (sym x.cells_are)
      (record { left = h.right; right = h.left; left_range = h.right_range; right_range = h.left_range; ready = h.ready })

  module _ (new : Trail (Bor (List Cell))) (m : Met) where
    pub left_walked : IsVariable slots slot left → HasWalked slots old new (slot_cells slots slot) right m → HasWalked slots old new left right m
    left_walked x h = subst (λ l. HasWalked slots old new l right m) x.cells_are h

    pub right_walked : IsVariable slots slot right → HasWalked slots old new (slot_cells slots slot) left m → HasWalked slots old new left right m
    right_walked x h =
        let turned = subst (λ l. HasWalked slots old new l left m) x.cells_are h in
        record {
          outcome = met_turned slots old.pairs new.pairs right left m turned.outcome;
          trail = turned.trail;
          within = λ n values left_few right_few. turned.within n values right_few left_few;
        }

    -- ---- a variable that has one
    module _ (v : Bor (List Cell)) (bindings : AllByRecursion (IsBinding slots) old.pairs) (here : value_at old.pairs slot ≡ Some v) where
      pub left_value_walked : IsVariable slots slot left → HasWalked slots old new v.now right m → HasWalked slots old new left right m
      left_value_walked x h = record {
        outcome = left_followed slots old.pairs new.pairs slot left right v m x bindings here h.outcome;
        trail = h.trail;
        within = left_stays old.pairs new.pairs slot v here left right h.within;
      }

      pub right_value_walked : IsVariable slots slot right → HasWalked slots old new left v.now m → HasWalked slots old new left right m
      right_value_walked x h = record {
        outcome = right_followed slots old.pairs new.pairs slot left right v m x bindings here h.outcome;
        trail = h.trail;
        within = right_stays old.pairs new.pairs slot v here left right h.within;
      }
