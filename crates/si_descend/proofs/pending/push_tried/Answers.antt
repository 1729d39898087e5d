use Rattle.std.proofs.Common.{◌+◌, ◌++◌, ◌≡◌, ◌<◌, length, vec_capacity, ap, sym, append-nil, arith}
use Rattle.std.specs.Prelude.{vec_len}
use Rattle.si_term.proofs.Results.{on_err}
use Rattle.si_tree.specs.Reading.{AtNode, children_of}
use Rattle.si_descend.specs.Pending.{marks_of, with_marks}
use Rattle.si_descend.proofs.AttemptLaws.{none_tried, one_not_tried, one_more_pending, few_pending, leaves_tried}
use Rattle.si_descend.proofs.pending.push_tried.Goals as goal

pub loop-place-init : goal.loop-place-init
loop-place-init c = (
  none_tried c.args.search.now c.requires.there.searching.ready c.args.node c.requires.there.node.0 c.requires.there.node.1 c.args.attempts c.requires.attempts (λ tried. c.args.pending.now.items ≡ c.args.pending.now.items ++ with_marks (marks_of c.at-here.result) tried) (sym (append-nil c.args.pending.now.items)),
  omega arith,
)

pub loop-place-preserved-in_default : goal.loop-place-preserved-in_default
loop-place-preserved-in_default c = (
  one_not_tried c.args.search.now c.requires.there.searching.ready c.args.node c.requires.there.node.0 c.requires.there.node.1 c.args.attempts c.requires.attempts c.loop-place.place (λ tried. c.loop-place.pending.items ≡ c.args.pending.now.items ++ with_marks (marks_of c.at-here.result) tried) c.in_default.ensures.none c.loop-place.invariant.0,
  c.loop-place.invariant.1,
)

pub loop-place-preserved : goal.loop-place-preserved
loop-place-preserved c = (
  one_more_pending c.args.search.now c.requires.there.searching.ready c.args.node c.requires.there.node.0 c.requires.there.node.1 c.args.attempts c.requires.attempts (marks_of c.at-here.result) c.args.pending.now.items c.loop-place.place c.in-Some.child c.loop-place.pending.items c.push.new.self.items (omega (arith, c.loop-place-test.true, c.end-place-end.ensures)) c.in-Some.ensures.some c.loop-place.invariant.0 c.in_ok-push.ensures.items,
  omega (arith, c.loop-place.invariant.1, c.in_ok-push.ensures.capacity),
)

pub returns-in_err-push-clause-full : goal.returns-in_err-push-clause-full
returns-in_err-push-clause-full c =
    let lack : AtNode c.args.search.now.tree.now c.args.node (λ n. vec_capacity c.args.pending.now < vec_len c.args.pending.now + length (children_of n.content)) = λ node has.
    omega (
      arith,
      few_pending c.args.search.now c.requires.there.searching.ready c.args.node node has c.args.attempts c.requires.attempts (marks_of c.at-here.result) c.args.pending.now.items c.loop-place.place c.in-Some.child c.loop-place.pending.items (omega (arith, c.loop-place-test.true, c.end-place-end.ensures)) c.in-Some.ensures.some c.loop-place.invariant.0,
      c.loop-place.invariant.1,
      c.in_err-push.ensures.full,
      c.args.pending.now.ok,
      c.loop-place.pending.ok,
    ) in
    on_err _ lack

pub returns-in_err-push-clause-room : goal.returns-in_err-push-clause-room
returns-in_err-push-clause-room c = omega (arith, c.loop-place.invariant.1, c.in_err-push.ensures.capacity)

pub returns-clause-leaves : goal.returns-clause-leaves
returns-clause-leaves c =
    leaves_tried c.args.search.now c.requires.there.searching.ready c.args.node c.requires.there.node.0 c.requires.there.node.1 c.args.attempts c.requires.attempts (marks_of c.at-here.result) c.args.pending.now.items c.args.trail.now c.args.taken.now (ap marks_of c.at-here.ensures) c.requires.there c.requires.wanted c.loop-place.place c.loop-place.pending.items (omega (arith, c.loop-place-test.false, c.end-place-end.ensures)) c.loop-place.invariant.0
