use Rattle.std.proofs.Common.{ℕ, sym, ◌∙◌, subst}
use Rattle.si_term.proofs.Results.{on_err}
use Rattle.si_unify.specs.Rooms.{AreNoLongerThan, IsEnoughToSolve}
use Rattle.si_unify.specs.Solving.{AreInRange, AllowsSolving}
use Rattle.si_unify.proofs.Comparing.{grows_on}
use Rattle.si_unify.proofs.RoomLaws.{room_on, enough_on}
use Rattle.si_fit.specs.Fitting.{AreRowsNoLongerThan}
use Rattle.si_fit.proofs.EndLaws.{indicator_whole}
use Rattle.si_fit.proofs.FitTurns.{indicator_range, row_range, row_fresh, sides_within, pair_within, fits_more, fits_not, fits_end}
use Rattle.si_fit.proofs.fitting.fit.Goals as goal

pub fit_pair-requires-clause-terms : goal.fit_pair-requires-clause-terms
fit_pair-requires-clause-terms c =
    let range = row_range c.args.slots.now c.args.trail.now.pairs c.args.bindings.now c.args.trail.now.slots c.loop-pair.trail.pairs c.loop-pair.pair-iterator c.next.new.self c.in-Some.pair c.in-Some.ensures.steps c.loop-pair.invariant.fits_so_far in
    record {
      left = indicator_whole c.left_cells-left.result.now c.in-Some.pair.0 c.left_cells-left.ensures;
      right = c.right-right.ensures.whole;
      left_range = indicator_range c.args.slots.now c.left_cells-left.result.now c.in-Some.pair.0 c.left_cells-left.ensures range.0;
      right_range = subst (AreInRange c.args.slots.now) (sym c.right-right.ensures.cells) range.1;
      ready = subst (AllowsSolving c.args.slots.now c.loop-pair.trail.pairs) (sym c.loop-pair.invariant.same_slots) c.loop-pair.invariant.fits_so_far.ready;
    }

pub returns-then-not-branch-clause-fits : goal.returns-then-not-branch-clause-fits
returns-then-not-branch-clause-fits c =
    fits_not c.args.slots.now c.args.trail.now.pairs c.args.bindings.now c.args.trail.now.slots c.loop-pair.trail.pairs c.loop-pair.pair-iterator c.next.new.self c.in-Some.pair c.in-Some.ensures.steps c.loop-pair.invariant.fits_so_far
    c.fit_pair.new.trail.pairs c.left_cells-left.result.now c.right-right.result.now c.in_ok-fit_pair.field-0 c.left_cells-left.ensures c.right-right.ensures.cells c.in_ok-fit_pair.ensures.solved c.if-not-branch.true

pub loop-pair-preserved : goal.loop-pair-preserved
loop-pair-preserved c = record {
  fits_so_far =
      fits_more c.args.slots.now c.args.trail.now.pairs c.args.bindings.now c.args.trail.now.slots c.loop-pair.trail.pairs c.loop-pair.pair-iterator c.next.new.self c.in-Some.pair c.in-Some.ensures.steps c.loop-pair.invariant.fits_so_far
      c.fit_pair.new.trail.pairs c.left_cells-left.result.now c.right-right.result.now c.in_ok-fit_pair.field-0 c.left_cells-left.ensures c.right-right.ensures.cells c.in_ok-fit_pair.ensures.solved c.if-not-branch.false
      c.fit_pair.ensures.trail.grows
      (subst (AllowsSolving c.args.slots.now c.fit_pair.new.trail.pairs) (c.fit_pair.ensures.trail.count ∙ c.loop-pair.invariant.same_slots) c.fit_pair.ensures.trail.ready)
      c.right-right.ensures.whole c.fit_pair.ensures.within;
  same_slots = c.in_ok-fit_pair.ensures.trail.count ∙ c.loop-pair.invariant.same_slots;
  same_room = room_on c.args.scratch.now c.loop-pair.scratch c.fit_pair.new.scratch c.loop-pair.invariant.same_room c.fit_pair.ensures.keeps;
}

pub returns-clause-fits : goal.returns-clause-fits
returns-clause-fits c =
    fits_end c.args.slots.now c.args.trail.now.pairs c.args.bindings.now c.args.trail.now.slots c.loop-pair.trail.pairs c.loop-pair.pair-iterator c.in-None.ensures.steps.0 c.loop-pair.invariant.fits_so_far

pub fit_pair-requires-clause-once : goal.fit_pair-requires-clause-once
fit_pair-requires-clause-once c =
    (row_fresh c.args.slots.now c.args.trail.now.pairs c.args.bindings.now c.args.trail.now.slots c.loop-pair.trail.pairs c.loop-pair.pair-iterator c.next.new.self c.in-Some.pair c.in-Some.ensures.steps c.loop-pair.invariant.fits_so_far c.left_cells-left.result.now c.right-right.result.now c.left_cells-left.ensures c.right-right.ensures.cells).0

pub fit_pair-requires-clause-untold : goal.fit_pair-requires-clause-untold
fit_pair-requires-clause-untold c =
    (row_fresh c.args.slots.now c.args.trail.now.pairs c.args.bindings.now c.args.trail.now.slots c.loop-pair.trail.pairs c.loop-pair.pair-iterator c.next.new.self c.in-Some.pair c.in-Some.ensures.steps c.loop-pair.invariant.fits_so_far c.left_cells-left.result.now c.right-right.result.now c.left_cells-left.ensures c.right-right.ensures.cells).1

pub returns-in_err-fit_pair-clause-grows : goal.returns-in_err-fit_pair-clause-grows
returns-in_err-fit_pair-clause-grows c =
    grows_on c.args.trail.now.pairs c.loop-pair.trail.pairs c.fit_pair.new.trail.pairs c.loop-pair.invariant.fits_so_far.grows c.fit_pair.ensures.trail.grows

pub returns-then-not-branch-clause-grows : goal.returns-then-not-branch-clause-grows
returns-then-not-branch-clause-grows c =
    grows_on c.args.trail.now.pairs c.loop-pair.trail.pairs c.fit_pair.new.trail.pairs c.loop-pair.invariant.fits_so_far.grows c.fit_pair.ensures.trail.grows

pub returns-in_err-fit_pair-clause-full : goal.returns-in_err-fit_pair-clause-full
returns-in_err-fit_pair-clause-full c =
    let refused : (n : ℕ) → AreNoLongerThan n c.args.trail.now.pairs → AreRowsNoLongerThan n c.args.bindings.now → IsEnoughToSolve c.args.slots.now n c.args.scratch.now → ⊥ =
    λ n values rows enough.
    let sides = sides_within c.args.slots.now c.args.trail.now.pairs c.args.bindings.now c.args.trail.now.slots c.loop-pair.trail.pairs c.loop-pair.pair-iterator c.next.new.self c.in-Some.pair c.in-Some.ensures.steps c.loop-pair.invariant.fits_so_far c.left_cells-left.result.now c.right-right.result.now c.left_cells-left.ensures c.right-right.ensures.cells c.right-right.ensures.whole n rows in
    c.in_err-fit_pair.ensures.full n (c.loop-pair.invariant.fits_so_far.within n values rows) sides.0 sides.1
    (enough_on c.args.slots.now n c.args.scratch.now c.loop-pair.scratch c.loop-pair.invariant.same_room enough) in
    on_err _ refused

pub returns-in_err-fit_pair-clause-keeps : goal.returns-in_err-fit_pair-clause-keeps
returns-in_err-fit_pair-clause-keeps c =
    room_on c.args.scratch.now c.loop-pair.scratch c.fit_pair.new.scratch c.loop-pair.invariant.same_room c.fit_pair.ensures.keeps

pub returns-then-not-branch-clause-keeps : goal.returns-then-not-branch-clause-keeps
returns-then-not-branch-clause-keeps c =
    room_on c.args.scratch.now c.loop-pair.scratch c.fit_pair.new.scratch c.loop-pair.invariant.same_room c.fit_pair.ensures.keeps

pub returns-in_err-fit_pair-clause-within : goal.returns-in_err-fit_pair-clause-within
returns-in_err-fit_pair-clause-within c =
    pair_within c.args.slots.now c.args.trail.now.pairs c.args.bindings.now c.args.trail.now.slots c.loop-pair.trail.pairs c.loop-pair.pair-iterator c.next.new.self c.in-Some.pair c.in-Some.ensures.steps c.loop-pair.invariant.fits_so_far c.fit_pair.new.trail.pairs c.left_cells-left.result.now c.right-right.result.now c.left_cells-left.ensures c.right-right.ensures.cells c.right-right.ensures.whole c.fit_pair.ensures.within

pub returns-then-not-branch-clause-within : goal.returns-then-not-branch-clause-within
returns-then-not-branch-clause-within c =
    pair_within c.args.slots.now c.args.trail.now.pairs c.args.bindings.now c.args.trail.now.slots c.loop-pair.trail.pairs c.loop-pair.pair-iterator c.next.new.self c.in-Some.pair c.in-Some.ensures.steps c.loop-pair.invariant.fits_so_far c.fit_pair.new.trail.pairs c.left_cells-left.result.now c.right-right.result.now c.left_cells-left.ensures c.right-right.ensures.cells c.right-right.ensures.whole c.fit_pair.ensures.within
