use Rattle.std.proofs.Common.{◌+◌, ◌++◌, ◌<◌, [], ◌∷◌, length, take, vec_capacity, ap, sym, ◌∙◌, append-nil, arith}
use Rattle.std.specs.Prelude.{vec_len}
use Rattle.std.proofs.lemmas.List.{take_all, take_more}
use Rattle.si_term.proofs.Results.{on_err}
use Rattle.si_tree.specs.Reading.{AtNode, children_of}
use Rattle.si_descend.specs.Pending.{marks_of, with_marks}
use Rattle.si_descend.proofs.PendingLaws.{one_pending_more}
use Rattle.si_descend.proofs.pending.push_all.Goals as goal

pub children-children-requires : goal.children-children-requires
children-children-requires c = c.requires

pub loop-child-init : goal.loop-child-init
loop-child-init c = (c.reserve.ensures.items ∙ sym (append-nil c.args.pending.now.items), c.reserve.ensures.capacity, omega (arith, c.in_ok-reserve.ensures.ok, c.reserve.ensures.len))

pub push_reserved-requires : goal.push_reserved-requires
push_reserved-requires c = omega (arith, c.loop-child.invariant.2, c.loop-child-test.true)

pub loop-child-preserved : goal.loop-child-preserved
loop-child-preserved c = (
  one_pending_more c.args.pending.now.items c.loop-child.pending.items c.push_reserved.new.self.items (marks_of c.args.here) (take c.loop-child.child-index c.children-children.result.now) c.child-item.result c.loop-child.invariant.0 c.push_reserved.ensures.items
      ∙ ap (λ l. c.args.pending.now.items ++ with_marks (marks_of c.args.here) l) (sym (take_more c.children-children.result.now c.loop-child.child-index c.child-item.result c.loop-child-test.true ∙ ap (λ k. take c.loop-child.child-index c.children-children.result.now ++ k ∷ []) (sym c.child-item.is))),
  omega (arith, c.loop-child.invariant.1, c.push_reserved.ensures.capacity),
  omega (arith, c.loop-child.invariant.2, c.push_reserved.ensures.capacity, c.push_reserved.ensures.len, c.loop-child-test.true),
)

pub returns-in_err-reserve-clause-full : goal.returns-in_err-reserve-clause-full
returns-in_err-reserve-clause-full c =
    let lack : AtNode c.args.search.now.tree.now c.args.here.node (λ n. vec_capacity c.args.pending.now < vec_len c.args.pending.now + length (children_of n.content)) = λ node has.
    omega (arith, c.in_err-reserve.ensures.full, ap length (c.children-children.ensures node has)) in
    on_err _ lack

pub returns-clause-pushes : goal.returns-clause-pushes
returns-clause-pushes c node has =
    c.loop-child.invariant.0
    ∙ ap (λ l. c.args.pending.now.items ++ with_marks (marks_of c.args.here) l) (take_all c.loop-child.child-index c.children-children.result.now (omega (arith, c.loop-child-test.false)) ∙ c.children-children.ensures node has)

pub returns-clause-room : goal.returns-clause-room
returns-clause-room c = c.loop-child.invariant.1
