use Rattle.std.proofs.Common.{◌≡◌, ◌+◌, [], ◌∷◌, ◌++◌, refl, ap, ◌∙◌, subst, arith}
use Rattle.si_tree.specs.Reading.{IsNode}
use Rattle.si_descend.specs.declared.pending.Pending.{Pending}
use Rattle.si_descend.specs.Pending.{pending_at, HasTurned, HasTurnedTo}
use Rattle.si_descend.proofs.CountLaws.{more_counted, none_counted}
use Rattle.si_descend.proofs.PendingLaws.{waiting_starts}
use Rattle.si_descend.proofs.Turns.{finding_starts, finding_none, finding_turned, turned_node, finding_few, finding_small, finding_ends}
use Rattle.si_descend.proofs.counting.count_all.Goals as goal

pub loop-open-init : goal.loop-open-init
loop-open-init c =
    let entry : Pending = pending_at c.args.node c.args.trail.now c.args.taken.now in
    let pushed : c.push.new.self.items ≡ entry ∷ [] = c.in_ok-push.ensures.items ∙ ap (λ l. l ++ c.at.result ∷ []) c.requires.empty ∙ ap (λ p. p ∷ []) c.at.ensures in (
      ([], finding_starts c.args.search.now c.requires.above.searching.ready c.args.node [] c.args.trail.now c.args.taken.now c.push.new.self.items c.requires.above.node pushed, none_counted),
      waiting_starts c.args.search.now c.args.node c.args.trail.now c.args.taken.now c.push.new.self.items pushed c.requires.above,
    )

pub next_open-requires-clause-waiting : goal.next_open-requires-clause-waiting
next_open-requires-clause-waiting c = (c.args.trail.now.pairs, c.args.taken.now.pairs, c.loop-open.invariant.1)

pub overflow_add-passed : goal.overflow_add-passed
overflow_add-passed c =
    let turned : HasTurned c.args.search.now c.in-Some.open c.next_open.new.trail c.next_open.new.taken c.loop-open.pending.items c.next_open.new.pending.items = subst (HasTurnedTo c.args.search.now c.next_open.new.trail c.next_open.new.taken c.loop-open.pending.items c.next_open.new.pending.items) c.in-Some.is c.in_ok-open.ensures.turns in
    omega (arith, finding_small c.args.search.now c.requires.above.searching.ready c.args.node [] c.next_open.new.pending.items _ (c.loop-open.passed + 1) (finding_turned c.args.search.now c.requires.above.searching.ready c.args.node [] c.loop-open.trail c.loop-open.taken c.loop-open.pending.items c.loop-open.invariant.1.due c.loop-open.invariant.0.0 c.loop-open.passed c.loop-open.invariant.0.1 c.in-Some.open c.next_open.new.trail c.next_open.new.taken c.next_open.new.pending.items turned _ _ refl refl))

pub postings-requires : goal.postings-requires
postings-requires c =
    let turned : HasTurned c.args.search.now c.in-Some.open c.next_open.new.trail c.next_open.new.taken c.loop-open.pending.items c.next_open.new.pending.items = subst (HasTurnedTo c.args.search.now c.next_open.new.trail c.next_open.new.taken c.loop-open.pending.items c.next_open.new.pending.items) c.in-Some.is c.in_ok-open.ensures.turns in
    turned_node c.args.search.now c.requires.above.searching.ready c.args.node [] c.loop-open.trail c.loop-open.taken c.loop-open.pending.items c.loop-open.invariant.1.due c.loop-open.invariant.0.0 c.loop-open.passed c.loop-open.invariant.0.1 c.in-Some.open c.next_open.new.trail c.next_open.new.taken c.next_open.new.pending.items turned

pub loop-open-smaller : goal.loop-open-smaller
loop-open-smaller c =
    let turned : HasTurned c.args.search.now c.in-Some.open c.next_open.new.trail c.next_open.new.taken c.loop-open.pending.items c.next_open.new.pending.items = subst (HasTurnedTo c.args.search.now c.next_open.new.trail c.next_open.new.taken c.loop-open.pending.items c.next_open.new.pending.items) c.in-Some.is c.in_ok-open.ensures.turns in
    let turn = finding_turned c.args.search.now c.requires.above.searching.ready c.args.node [] c.loop-open.trail c.loop-open.taken c.loop-open.pending.items c.loop-open.invariant.1.due c.loop-open.invariant.0.0 c.loop-open.passed c.loop-open.invariant.0.1 c.in-Some.open c.next_open.new.trail c.next_open.new.taken c.next_open.new.pending.items turned _ _ refl refl in
    omega (arith, finding_few c.args.search.now c.requires.above.searching.ready c.args.node [] c.next_open.new.pending.items _ (c.loop-open.passed + 1) turn)

pub loop-open-preserved : goal.loop-open-preserved
loop-open-preserved c =
    let turned : HasTurned c.args.search.now c.in-Some.open c.next_open.new.trail c.next_open.new.taken c.loop-open.pending.items c.next_open.new.pending.items = subst (HasTurnedTo c.args.search.now c.next_open.new.trail c.next_open.new.taken c.loop-open.pending.items c.next_open.new.pending.items) c.in-Some.is c.in_ok-open.ensures.turns in
    let node : IsNode c.args.search.now.tree.now c.in-Some.open = turned_node c.args.search.now c.requires.above.searching.ready c.args.node [] c.loop-open.trail c.loop-open.taken c.loop-open.pending.items c.loop-open.invariant.1.due c.loop-open.invariant.0.0 c.loop-open.passed c.loop-open.invariant.0.1 c.in-Some.open c.next_open.new.trail c.next_open.new.taken c.next_open.new.pending.items turned in (
      (
        c.loop-open.invariant.0.0 ++ c.postings.result,
        finding_turned c.args.search.now c.requires.above.searching.ready c.args.node [] c.loop-open.trail c.loop-open.taken c.loop-open.pending.items c.loop-open.invariant.1.due c.loop-open.invariant.0.0 c.loop-open.passed c.loop-open.invariant.0.1 c.in-Some.open c.next_open.new.trail c.next_open.new.taken c.next_open.new.pending.items turned c.postings.result (c.loop-open.invariant.0.0 ++ c.postings.result) (c.postings.ensures node.0 node.1) refl,
        more_counted c.loop-open.invariant.0.0 c.postings.result c.loop-open.answers c.saturating_add-answers.result c.len-own.result c.loop-open.invariant.0.2 c.len-own.ensures (omega (arith, c.len-own.type_inv)) (omega (arith, c.saturating_add-answers.ensures)),
      ),
      c.in_ok-open.ensures.waiting c.args.trail.now.pairs c.args.taken.now.pairs c.loop-open.invariant.1,
    )

pub returns : goal.returns
returns c =
    let none = subst (HasTurnedTo c.args.search.now c.next_open.new.trail c.next_open.new.taken c.loop-open.pending.items c.next_open.new.pending.items) c.in_default.is c.in_ok-open.ensures.turns in
    (c.loop-open.invariant.0.0, finding_ends c.args.search.now c.requires.above.searching.ready c.args.node [] [] c.loop-open.invariant.0.0 c.loop-open.passed (finding_none c.args.search.now c.requires.above.searching.ready c.args.node [] c.loop-open.trail c.loop-open.taken c.loop-open.pending.items c.loop-open.invariant.1.due c.loop-open.invariant.0.0 c.loop-open.passed c.loop-open.invariant.0.1 none.0) refl, c.loop-open.invariant.0.2)
