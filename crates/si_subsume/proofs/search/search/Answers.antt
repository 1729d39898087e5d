use Rattle.std.proofs.Common.{length, subst, arith}
use Rattle.si_subsume.specs.Tasks.{Advances}
use Rattle.si_subsume.proofs.Choices.{searching_start, least_found}
use Rattle.si_subsume.proofs.Turns.{turns_fall}
use Rattle.si_subsume.proofs.search.search.Goals as goal

pub loop-scratch-init : goal.loop-scratch-init
loop-scratch-init c = searching_start c.args.task.now.slots c.args.task.now.targets.now c.args.task.now.literals.now c.args.trail.now c.new-choices.result.items c.requires.unbound c.new-choices.ensures.items c.requires.ready

pub returns-clause-finds : goal.returns-clause-finds
returns-clause-finds c =
    least_found c.args.task.now.slots c.args.task.now.targets.now c.args.task.now.literals.now c.loop-scratch.choices.items c.loop-scratch.invariant.underway.0 c.loop-scratch.trail.pairs c.loop-scratch.invariant.underway.1 (omega (arith, c.loop-scratch-test.false, c.len.ensures, c.loop-scratch.choices.ok.0))

pub loop-scratch-smaller : goal.loop-scratch-smaller
loop-scratch-smaller c =
    let choices = c.loop-scratch.choices.items in
    let turned = subst (λ answer. Advances c.args.task.now choices c.loop-scratch.from c.turn.new.choices.items c.turn.new.trail.pairs answer) c.in-Some.is c.in_ok-next.ensures.advances in
    turns_fall (length c.args.task.now.targets.now) c.loop-scratch.from c.in-Some.next (length c.args.task.now.literals.now) choices c.turn.new.choices.items
    (omega (arith, c.loop-scratch-test.true, c.len.ensures, c.loop-scratch.choices.ok.0)) turned.1
