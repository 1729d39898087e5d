use Rattle.std.proofs.Common.{[], ◌∷◌, ◌++◌, true, false, ap, sym, ◌∙◌, subst, append_assoc, arith}
use Rattle.si_descend.specs.Pending.{HasStepped}
use Rattle.si_descend.proofs.EnoughLaws.{keeps_on}
use Rattle.si_descend.proofs.Turns.{waiting_over, waiting_more, waiting_grows}
use Rattle.si_descend.proofs.pending.next_open.Goals as goal

pub returns-in_err-step-clause-grows : goal.returns-in_err-step-clause-grows
returns-in_err-step-clause-grows c base first h =
    waiting_grows c.args.search.now base first c.loop-next.trail c.step.new.trail c.loop-next.taken c.step.new.taken c.pop.new.self.items c.in-Some.next c.step.new.pending.items c.loop-next.pending.items c.in-Some.ensures.items (c.loop-next.invariant.still_pending base first h)
    c.in_err-step.ensures.slots c.in_err-step.ensures.taken_slots c.in_err-step.ensures.grows c.in_err-step.ensures.taken_grows

pub returns-then-branch-clause-waiting : goal.returns-then-branch-clause-waiting
returns-then-branch-clause-waiting c base first h =
    let stepped : HasStepped c.args.search.now c.in-Some.next c.step.new.trail c.step.new.taken c.pop.new.self.items c.step.new.pending.items true = subst (HasStepped c.args.search.now c.in-Some.next c.step.new.trail c.step.new.taken c.pop.new.self.items c.step.new.pending.items) c.if-branch.true c.in_ok-step.ensures.steps in
    waiting_more c.args.search.now base first c.loop-next.trail c.step.new.trail c.loop-next.taken c.step.new.taken c.pop.new.self.items c.in-Some.next c.step.new.pending.items c.loop-next.pending.items c.in-Some.ensures.items (c.loop-next.invariant.still_pending base first h)
    c.in_ok-step.ensures.slots c.in_ok-step.ensures.taken_slots c.in_ok-step.ensures.grows c.in_ok-step.ensures.taken_grows stepped.1

pub returns-then-branch-clause-grows : goal.returns-then-branch-clause-grows
returns-then-branch-clause-grows c base first h =
    waiting_grows c.args.search.now base first c.loop-next.trail c.step.new.trail c.loop-next.taken c.step.new.taken c.pop.new.self.items c.in-Some.next c.step.new.pending.items c.loop-next.pending.items c.in-Some.ensures.items (c.loop-next.invariant.still_pending base first h)
    c.in_ok-step.ensures.slots c.in_ok-step.ensures.taken_slots c.in_ok-step.ensures.grows c.in_ok-step.ensures.taken_grows

pub loop-next-preserved : goal.loop-next-preserved
loop-next-preserved c =
    let stepped : HasStepped c.args.search.now c.in-Some.next c.step.new.trail c.step.new.taken c.pop.new.self.items c.step.new.pending.items false = subst (HasStepped c.args.search.now c.in-Some.next c.step.new.trail c.step.new.taken c.pop.new.self.items c.step.new.pending.items) c.if-branch.false c.in_ok-step.ensures.steps in
    let passed = c.loop-next.invariant.all_closed in
    record {
      all_closed = (
        c.in-Some.next ∷ passed.0,
        passed.1 ∙ ap (λ l. l ++ passed.0) c.in-Some.ensures.items ∙ append_assoc c.pop.new.self.items (c.in-Some.next ∷ []) passed.0 ∙ ap (λ l. l ++ c.in-Some.next ∷ passed.0) (sym stepped.1),
        (stepped.0, passed.2),
      );
      still_pending = λ base first h. waiting_over c.args.search.now base first c.loop-next.trail c.step.new.trail c.loop-next.taken c.step.new.taken c.pop.new.self.items c.in-Some.next c.step.new.pending.items c.loop-next.pending.items c.in-Some.ensures.items (c.loop-next.invariant.still_pending base first h)
          c.in_ok-step.ensures.slots c.in_ok-step.ensures.taken_slots c.in_ok-step.ensures.grows c.in_ok-step.ensures.taken_grows stepped.1;
      keeps = keeps_on c.args.search.now c.args.trail.now c.loop-next.trail c.step.new.trail c.args.taken.now c.loop-next.taken c.step.new.taken c.args.scratch.now c.loop-next.scratch c.step.new.scratch c.args.pending.now c.loop-next.pending c.step.new.pending c.loop-next.invariant.keeps
          c.in_ok-step.ensures.slots c.in_ok-step.ensures.taken_slots c.in_ok-step.ensures.within c.in_ok-step.ensures.keeps (omega (arith, c.pop.ensures.capacity, c.in_ok-step.ensures.room));
    }
