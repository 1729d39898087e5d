use Rattle.std.proofs.Common.{◌+◌, ◌<◌, [], ◌∷◌, length, reverse, refl, ◌∙◌, ap, arith, length-append}
use Rattle.std.proofs.lemmas.List.{reverse-append}
use Rattle.std.specs.Prelude.{vec_capacity}
use Rattle.si_term.proofs.Results.{on_err}
use Rattle.si_unify.specs.declared.circles.Visit.TheVariants.{Enter}
use Rattle.si_unify.proofs.Chains.{no_cell}
use Rattle.si_unify.proofs.Searching.{none_entered, one_entered}
use Rattle.si_unify.proofs.circles.enter_cells.Goals as goal

pub loop-cell-init : goal.loop-cell-init
loop-cell-init c = record { entered_so_far = refl; few_so_far = omega arith; room_so_far = omega arith }

pub loop-cell-preserved-in_default : goal.loop-cell-preserved-in_default
loop-cell-preserved-in_default c = record {
  entered_so_far = none_entered c.args.slots.now _ _ _ no_cell _ _ c.loop-cell-test.true c.loop-cell.invariant.entered_so_far c.in_default.ensures;
  few_so_far = omega (arith, c.loop-cell.invariant.few_so_far);
  room_so_far = c.loop-cell.invariant.room_so_far;
}

pub loop-cell-preserved : goal.loop-cell-preserved
loop-cell-preserved c = record {
  entered_so_far =
      one_entered c.args.slots.now _ _ _ _ no_cell _ _ _ c.loop-cell-test.true c.loop-cell.invariant.entered_so_far c.in-Some.ensures
      (ap reverse c.in_ok-push.ensures.items ∙ reverse-append c.loop-cell.visits.items (Enter c.in-Some.next ∷ []));
  few_so_far = omega (arith, c.loop-cell.invariant.few_so_far, ap length c.in_ok-push.ensures.items, length-append c.loop-cell.visits.items (Enter c.in-Some.next ∷ []));
  room_so_far = omega (arith, c.loop-cell.invariant.room_so_far, c.in_ok-push.ensures.capacity);
}

pub returns-in_err-push-clause-full : goal.returns-in_err-push-clause-full
returns-in_err-push-clause-full c =
    let full : vec_capacity c.args.visits.now < length c.args.visits.now.items + length c.args.value.now =
    omega (arith, c.in_err-push.ensures.full, c.loop-cell.invariant.few_so_far, c.loop-cell.invariant.room_so_far, c.loop-cell-test.true, c.loop-cell.visits.ok) in
    on_err _ full

pub returns-in_err-push-clause-keeps : goal.returns-in_err-push-clause-keeps
returns-in_err-push-clause-keeps c = omega (arith, c.loop-cell.invariant.room_so_far, c.in_err-push.ensures.capacity)

pub returns-clause-keeps : goal.returns-clause-keeps
returns-clause-keeps c = c.loop-cell.invariant.room_so_far
