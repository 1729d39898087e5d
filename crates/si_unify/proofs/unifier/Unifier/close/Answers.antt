use Rattle.std.proofs.Common.{true, false, subst, arith}
use Rattle.si_defs.proofs.ListLaws.{all_got}
use Rattle.si_unify.specs.Spots.{IsApart}
use Rattle.si_unify.specs.Unifying.{SpotsLackRoom, MakesCompared}
use Rattle.si_unify.proofs.Closing.{closing_starts, closing_goes_on, closing_fails, closing_ends}
use Rattle.si_term.proofs.Results.{on_err}
use Rattle.si_unify.proofs.Underway.{stays, goes_further, underway_still, room_still, spot_still, are_apart_still, compared_by}
use Rattle.si_unify.proofs.unifier.Unifier.close.Goals as goal

pub loop-next-init : goal.loop-next-init
loop-next-init c = record {
  closing_on = closing_starts c.args.self.now.question c.args.self.now.trail.now.pairs c.args.self.now.keys.now.keys c.requires.underway.legal c.requires.underway.keys;
  going_on = stays _;
}

pub cells_at-requires-clause-underway : goal.cells_at-requires-clause-underway
cells_at-requires-clause-underway c =
    underway_still c.args.self.now c.loop-next.self c.loop-next.invariant.going_on c.requires.underway c.loop-next.invariant.closing_on.going

pub cells_at-requires-clause-spot : goal.cells_at-requires-clause-spot
cells_at-requires-clause-spot c =
    let apart = all_got (IsApart c.args.self.now.question c.loop-next.self.trail.now.pairs) c.loop-next.self.keys.now.keys c.loop-next.next c.index-pair.result.now c.loop-next.invariant.closing_on.going.keys c.index-pair.ensures in
    spot_still c.args.self.now c.loop-next.self c.loop-next.invariant.going_on _ (_, apart.left)

pub cells_at-requires-in-loop-next-clause-underway : goal.cells_at-requires-in-loop-next-clause-underway
cells_at-requires-in-loop-next-clause-underway c =
    underway_still c.args.self.now c.loop-next.self c.loop-next.invariant.going_on c.requires.underway c.loop-next.invariant.closing_on.going

pub cells_at-requires-in-loop-next-clause-spot : goal.cells_at-requires-in-loop-next-clause-spot
cells_at-requires-in-loop-next-clause-spot c =
    let apart = all_got (IsApart c.args.self.now.question c.loop-next.self.trail.now.pairs) c.loop-next.self.keys.now.keys c.loop-next.next c.index-pair.result.now c.loop-next.invariant.closing_on.going.keys c.index-pair.ensures in
    spot_still c.args.self.now c.loop-next.self c.loop-next.invariant.going_on _ (_, apart.right)

pub compare-requires-clause-underway : goal.compare-requires-clause-underway
compare-requires-clause-underway c =
    underway_still c.args.self.now c.loop-next.self c.loop-next.invariant.going_on c.requires.underway c.loop-next.invariant.closing_on.going

pub compare-requires-clause-apart : goal.compare-requires-clause-apart
compare-requires-clause-apart c =
    are_apart_still c.args.self.now c.loop-next.self c.loop-next.invariant.going_on _
    (all_got (IsApart c.args.self.now.question c.loop-next.self.trail.now.pairs) c.loop-next.self.keys.now.keys c.loop-next.next c.index-pair.result.now c.loop-next.invariant.closing_on.going.keys c.index-pair.ensures)

pub returns-then-not-branch-clause-closed : goal.returns-then-not-branch-clause-closed
returns-then-not-branch-clause-closed c =
    closing_fails _ _ _ c.compare.new.self.trail.now.pairs _ _ c.compare.new.self.keys.now.keys _ _ c.loop-next.invariant.closing_on c.index-pair.ensures
    (
    compared_by c.args.self.now c.loop-next.self c.loop-next.invariant.going_on c.compare.new.self c.index-pair.result.now false
    (
    subst (MakesCompared c.loop-next.self c.compare.new.self c.index-pair.result.now)
    c.if-not-branch.true
    c.in_ok-compare.ensures.compared
    )
    )

pub returns-then-not-branch-clause-keeps_question : goal.returns-then-not-branch-clause-keeps_question
returns-then-not-branch-clause-keeps_question c =
    goes_further _ _ _ c.loop-next.invariant.going_on c.in_ok-compare.ensures.keeps_question

pub loop-next-preserved : goal.loop-next-preserved
loop-next-preserved c = record {
  closing_on =
      closing_goes_on _ _ _ c.compare.new.self.trail.now.pairs _ _ c.compare.new.self.keys.now.keys _ _ c.loop-next.invariant.closing_on c.index-pair.ensures
      (
      compared_by c.args.self.now c.loop-next.self c.loop-next.invariant.going_on c.compare.new.self c.index-pair.result.now true
      (
      subst (MakesCompared c.loop-next.self c.compare.new.self c.index-pair.result.now)
      c.if-not-branch.false
      c.in_ok-compare.ensures.compared
      )
      );
  going_on = goes_further _ _ _ c.loop-next.invariant.going_on c.in_ok-compare.ensures.keeps_question;
}

pub returns-clause-closed : goal.returns-clause-closed
returns-clause-closed c = closing_ends _ _ _ _ _ _ c.loop-next.invariant.closing_on (omega (arith, c.loop-next-test.false, c.len.ensures.len))

pub returns-in_err-compare-clause-full : goal.returns-in_err-compare-clause-full
returns-in_err-compare-clause-full c =
    let refused : SpotsLackRoom c.args.self.now = λ n room.
    c.in_err-compare.ensures.full n (room_still c.args.self.now c.loop-next.self c.loop-next.invariant.going_on n room c.loop-next.invariant.closing_on.going) in
    on_err _ refused
