use Rattle.std.proofs.Common.{◌+◌, ◌-◌, ◌<◌, true, false, length, sym, ◌∙◌, subst, arith}
use Rattle.si_unify.specs.Spots.{spots_of}
use Rattle.si_unify.specs.Unifying.{SpotsLackRoom, MakesMeet}
use Rattle.si_unify.proofs.Chains.{no_cell, head_inside}
use Rattle.si_unify.proofs.Pieces.{piece_ends}
use Rattle.si_unify.proofs.Binding.{same_whole}
use Rattle.si_unify.proofs.Comparing.{comparing_starts, comparing_ends, comparing_descends, comparing_goes_on, comparing_fails, right_inside, left_part, right_part, left_size, right_size, moved}
use Rattle.si_term.proofs.Results.{on_err}
use Rattle.si_unify.proofs.Underway.{stays, goes_further, underway_still, room_still, subterm_still, met_by}
use Rattle.si_unify.proofs.unifier.Unifier.compare.Goals as goal

pub loop-i-init : goal.loop-i-init
loop-i-init c = record {
  comparing_on =
      comparing_starts _ _ _ (spots_of c.args.left c.args.right) c.args.left.cells.now c.args.right.cells.now c.requires.underway.legal c.requires.underway.keys c.requires.apart
      (same_whole _ _ _ _ c.requires.left c.requires.apart.left) (same_whole _ _ _ _ c.requires.right c.requires.apart.right);
  going_on = stays _;
}

pub bounds-right-j : goal.bounds-right-j
bounds-right-j c = right_inside _ _ _ _ _ _ _ _ _ _ c.loop-i.invariant.comparing_on c.loop-i-test.true

pub loop-i-preserved-then-have_same_symbol : goal.loop-i-preserved-then-have_same_symbol
loop-i-preserved-then-have_same_symbol c = record {
  comparing_on = comparing_descends _ _ _ _ _ _ _ _ _ _ no_cell c.loop-i.invariant.comparing_on c.loop-i-test.true (sym c.have_same_symbol.ensures ∙ c.if-have_same_symbol.true);
  going_on = c.loop-i.invariant.going_on;
}

pub sub-requires-in-loop-i-clause-inside : goal.sub-requires-in-loop-i-clause-inside
sub-requires-in-loop-i-clause-inside c = right_inside _ _ _ _ _ _ _ _ _ _ c.loop-i.invariant.comparing_on c.loop-i-test.true

pub meet-requires-clause-underway : goal.meet-requires-clause-underway
meet-requires-clause-underway c =
    underway_still c.args.self.now c.loop-i.self c.loop-i.invariant.going_on c.requires.underway c.loop-i.invariant.comparing_on.going

pub meet-requires-clause-left : goal.meet-requires-clause-left
meet-requires-clause-left c =
    subterm_still c.args.self.now c.loop-i.self c.loop-i.invariant.going_on _
    (left_part _ _ _ _ _ _ _ _ _ _ c.sub.result c.loop-i.invariant.comparing_on c.loop-i-test.true c.sub.ensures.place c.sub.ensures.whole)

pub meet-requires-clause-right : goal.meet-requires-clause-right
meet-requires-clause-right c =
    subterm_still c.args.self.now c.loop-i.self c.loop-i.invariant.going_on _
    (right_part _ _ _ _ _ _ _ _ _ _ c.sub-in-loop-i.result c.loop-i.invariant.comparing_on c.loop-i-test.true c.sub-in-loop-i.ensures.place c.sub-in-loop-i.ensures.whole)

pub returns-then-not-branch-clause-compared : goal.returns-then-not-branch-clause-compared
returns-then-not-branch-clause-compared c =
    comparing_fails c.args.self.now.question c.args.self.now.trail.now.pairs c.loop-i.self.trail.now.pairs c.meet.new.self.trail.now.pairs c.args.self.now.keys.now.keys c.loop-i.self.keys.now.keys c.meet.new.self.keys.now.keys (spots_of c.args.left c.args.right) c.args.left.cells.now c.args.right.cells.now c.loop-i.i c.loop-i.j
    c.loop-i.invariant.comparing_on c.loop-i-test.true
    (
    met_by c.args.self.now c.loop-i.self c.loop-i.invariant.going_on c.meet.new.self (moved c.args.left.spot c.loop-i.i) (moved c.args.right.spot c.loop-i.j) false
    (
    subst
    (MakesMeet c.loop-i.self c.meet.new.self (moved c.args.left.spot c.loop-i.i) (moved c.args.right.spot c.loop-i.j))
    c.if-not-branch.true
    c.in_ok-meet.ensures.met
    )
    )

pub returns-then-not-branch-clause-keeps_question : goal.returns-then-not-branch-clause-keeps_question
returns-then-not-branch-clause-keeps_question c =
    goes_further _ _ _ c.loop-i.invariant.going_on c.in_ok-meet.ensures.keeps_question

pub loop-i-smaller : goal.loop-i-smaller
loop-i-smaller c =
    let part = left_part _ _ _ _ _ _ _ _ _ _ c.sub.result c.loop-i.invariant.comparing_on c.loop-i-test.true c.sub.ensures.place c.sub.ensures.whole in
    let some = head_inside _ _ _ part in
    let within = piece_ends _ _ _ c.sub.ensures.place c.loop-i-test.true in
    let smaller : length c.args.left.cells.now - (c.loop-i.i + length c.sub.result.now) < length c.args.left.cells.now - c.loop-i.i = omega (arith, some, within) in
    smaller

pub loop-i-preserved : goal.loop-i-preserved
loop-i-preserved c = record {
  comparing_on =
      comparing_goes_on c.args.self.now.question c.args.self.now.trail.now.pairs c.loop-i.self.trail.now.pairs c.meet.new.self.trail.now.pairs c.args.self.now.keys.now.keys c.loop-i.self.keys.now.keys c.meet.new.self.keys.now.keys (spots_of c.args.left c.args.right) c.args.left.cells.now c.args.right.cells.now c.loop-i.i c.loop-i.j
      (length c.sub.result.now) (length c.sub-in-loop-i.result.now)
      c.loop-i.invariant.comparing_on c.loop-i-test.true
      (left_size _ _ _ _ _ _ _ _ _ _ _ c.loop-i.invariant.comparing_on c.loop-i-test.true c.sub.ensures.place c.sub.ensures.whole)
      (right_size _ _ _ _ _ _ _ _ _ _ _ c.loop-i.invariant.comparing_on c.loop-i-test.true c.sub-in-loop-i.ensures.place c.sub-in-loop-i.ensures.whole)
      (
      met_by c.args.self.now c.loop-i.self c.loop-i.invariant.going_on c.meet.new.self (moved c.args.left.spot c.loop-i.i) (moved c.args.right.spot c.loop-i.j) true
      (
      subst
      (MakesMeet c.loop-i.self c.meet.new.self (moved c.args.left.spot c.loop-i.i) (moved c.args.right.spot c.loop-i.j))
      c.if-not-branch.false
      c.in_ok-meet.ensures.met
      )
      );
  going_on = goes_further _ _ _ c.loop-i.invariant.going_on c.in_ok-meet.ensures.keeps_question;
}

pub returns-clause-compared : goal.returns-clause-compared
returns-clause-compared c = comparing_ends _ _ _ _ _ _ _ _ _ _ c.loop-i.invariant.comparing_on c.loop-i-test.false

pub returns-in_err-meet-clause-full : goal.returns-in_err-meet-clause-full
returns-in_err-meet-clause-full c =
    let refused : SpotsLackRoom c.args.self.now = λ n room.
    c.in_err-meet.ensures.full n (room_still c.args.self.now c.loop-i.self c.loop-i.invariant.going_on n room c.loop-i.invariant.comparing_on.going) in
    on_err _ refused
