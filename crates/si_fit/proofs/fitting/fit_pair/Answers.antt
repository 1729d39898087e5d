use Rattle.std.proofs.Common.{take, sym, ap, ◌∙◌, subst, arith}
use Rattle.std.proofs.lemmas.Result.{on_err_weaker}
use Rattle.std.specs.Prelude.{IfOk}
use Rattle.si_defs.specs.Substitutions.{Grows}
use Rattle.si_unify.specs.Rooms.{AreNoLongerThan}
use Rattle.si_unify.specs.Solving.{AreHandedIn, HasSolved}
use Rattle.si_unify.proofs.Answering.{front_of}
use Rattle.si_unify.proofs.Pieces.{all_within}
use Rattle.si_fit.specs.declared.meeting.Met.TheVariants.{Equal, Clash}
use Rattle.si_fit.proofs.MeetLaws.{end_met}
use Rattle.si_fit.proofs.PairLaws.{met_solved, clash_unsolved, still_grows}
use Rattle.si_fit.proofs.FillTurns.{once_back, end_new}
use Rattle.si_fit.proofs.fitting.fit_pair.Goals as goal

pub returns-in-Equal-clause-solved : goal.returns-in-Equal-clause-solved
returns-in-Equal-clause-solved c =
    met_solved c.args.slots.now c.args.trail.now.pairs c.fill_any.new.trail.pairs c.args.left.now c.args.right.now
    c.fill_any.new.trail.slots
    (end_met c.args.slots.now c.args.trail.now.pairs c.fill_any.new.trail.pairs c.args.left.now c.end_of_indicator-end.result.now c.args.right.now Equal c.end_of_indicator-end.ensures.ends c.in-Equal.ensures.outcome)
    c.fill_any.ensures.trail.ready c.mark.ensures.distinct

pub fill_any-requires-clause-terms : goal.fill_any-requires-clause-terms
fill_any-requires-clause-terms c = record {
  left = (c.end_of_indicator-end.ensures.ends.last, c.end_of_indicator-end.ensures.ends.last_stands);
  right = c.requires.terms.right;
  left_range = c.end_of_indicator-end.ensures.range;
  right_range = c.requires.terms.right_range;
  ready = c.requires.terms.ready;
}

pub fill_any-requires-clause-once : goal.fill_any-requires-clause-once
fill_any-requires-clause-once c = once_back c.args.left.now c.args.right.now c.requires.once

pub fill_any-requires-clause-fresh : goal.fill_any-requires-clause-fresh
fill_any-requires-clause-fresh c =
    end_new c.args.slots.now c.args.trail.now.pairs c.args.left.now c.end_of_indicator-end.result.now c.args.right.now c.args.trail.now.slots c.requires.solution c.requires.terms.ready c.requires.once c.requires.untold c.end_of_indicator-end.ensures.ends

pub returns-in-Clash-clause-solved : goal.returns-in-Clash-clause-solved
returns-in-Clash-clause-solved c =
    clash_unsolved c.args.slots.now c.args.trail.now.pairs c.fill_any.new.trail.pairs c.args.left.now c.args.right.now
    (end_met c.args.slots.now c.args.trail.now.pairs c.fill_any.new.trail.pairs c.args.left.now c.end_of_indicator-end.result.now c.args.right.now Clash c.end_of_indicator-end.ensures.ends c.in-Clash.ensures.outcome)

pub returns-in-Unknown-clause-solved : goal.returns-in-Unknown-clause-solved
returns-in-Unknown-clause-solved c =
    subst (λ l. IfOk c.solve_with.result (HasSolved c.args.slots.now l c.solve_with.new.trail.pairs c.args.left.now c.args.right.now))
    (c.undo.ensures.pairs ∙ ap (λ n. take n c.fill_any.new.trail.pairs) c.mark-mark.ensures.number ∙ front_of c.args.trail.now.pairs c.fill_any.new.trail.pairs c.fill_any.ensures.trail.grows)
    c.solve_with.ensures.solved

pub returns-in-Unknown-clause-trail : goal.returns-in-Unknown-clause-trail
returns-in-Unknown-clause-trail c = record {
  grows =
      subst (λ l. Grows l c.solve_with.new.trail.pairs)
      (c.undo.ensures.pairs ∙ ap (λ n. take n c.fill_any.new.trail.pairs) c.mark-mark.ensures.number ∙ front_of c.args.trail.now.pairs c.fill_any.new.trail.pairs c.fill_any.ensures.trail.grows)
      (still_grows c.undo.new.self.pairs c.solve_with.new.trail.pairs c.solve_with.result c.solve_with.ensures.grows c.solve_with.ensures.no c.solve_with.ensures.err);
  ready = record {
    room = omega (arith, c.solve_with.ensures.slots, c.undo.ensures.slots, c.fill_any.ensures.trail.count, c.requires.terms.ready.room);
    bindings = c.solve_with.ensures.bindings;
    triangular = c.solve_with.ensures.triangular;
  };
  count = c.solve_with.ensures.slots ∙ c.undo.ensures.slots ∙ c.fill_any.ensures.trail.count;
}

pub returns-in-Unknown-clause-full : goal.returns-in-Unknown-clause-full
returns-in-Unknown-clause-full c =
    on_err_weaker c.solve_with.result
    (λ lacks n values left right enough. lacks n (subst (AreNoLongerThan n) (sym (c.undo.ensures.pairs ∙ ap (λ n. take n c.fill_any.new.trail.pairs) c.mark-mark.ensures.number ∙ front_of c.args.trail.now.pairs c.fill_any.new.trail.pairs c.fill_any.ensures.trail.grows)) values) left right enough)
    c.solve_with.ensures.full

pub returns-in-Unknown-clause-within : goal.returns-in-Unknown-clause-within
returns-in-Unknown-clause-within c = λ n values left right.
    all_within n c.args.left.now c.args.right.now left right c.args.trail.now.pairs values c.solve_with.new.trail.pairs
    (subst (λ l. AreHandedIn l c.solve_with.new.trail.pairs c.args.left.now c.args.right.now) (c.undo.ensures.pairs ∙ ap (λ n. take n c.fill_any.new.trail.pairs) c.mark-mark.ensures.number ∙ front_of c.args.trail.now.pairs c.fill_any.new.trail.pairs c.fill_any.ensures.trail.grows) c.solve_with.ensures.handed_in)

pub returns-in-Equal-clause-within : goal.returns-in-Equal-clause-within
returns-in-Equal-clause-within c = λ n values left right. c.fill_any.ensures.within n values (c.end_of_indicator-end.ensures.within n values left) right

pub returns-in-Clash-clause-within : goal.returns-in-Clash-clause-within
returns-in-Clash-clause-within c = λ n values left right. c.fill_any.ensures.within n values (c.end_of_indicator-end.ensures.within n values left) right
