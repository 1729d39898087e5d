use Rattle.std.proofs.Common.{◌≡◌, length, get_or, ap, ◌∙◌, subst, arith}
use Rattle.si_flat.proofs.Subterms.{some_cell}
use Rattle.si_subsume.specs.Heads.{nexts, TakesFrom}
use Rattle.si_subsume.proofs.HeadLaws.{length-nexts}
use Rattle.si_subsume.proofs.Seeking.{seeking_start, seeking_on, sought, sought_all, next_above}
use Rattle.si_subsume.proofs.search.find.Goals as goal

pub first_to_try-number-requires-clause-literal : goal.first_to_try-number-requires-clause-literal
first_to_try-number-requires-clause-literal c = some_cell c.args.literal.now c.requires.literal.whole

pub loop-number-init : goal.loop-number-init
loop-number-init c =
    seeking_start c.args.task.now.slots c.args.task.now.targets.now c.args.trail.now c.args.literal.now c.args.from c.first_to_try-number.result c.requires.literal c.requires.searchable.targets c.first_to_try-number.ensures

pub returns-then-branch-clause-finds : goal.returns-then-branch-clause-finds
returns-then-branch-clause-finds c =
    sought c.args.task.now.slots c.args.task.now.targets.now c.args.trail.now c.loop-number.trail c.args.literal.now c.args.from c.loop-number.number c.requires.literal c.requires.searchable.targets c.loop-number.invariant c.take_from.new.trail c.loop-number-test.true
    (subst (TakesFrom c.args.task.now.slots c.args.task.now.targets.now c.loop-number.trail.pairs c.take_from.new.trail.pairs c.args.literal.now c.args.from c.loop-number.number) c.if-branch.true c.in_ok-take_from.ensures.tries)

pub next-number-requires : goal.next-number-requires
next-number-requires c = omega (arith, c.loop-number-test.true, ap length c.requires.searchable.index.next, length-nexts (length c.args.task.now.targets.now) 0 c.args.task.now.targets.now)

next_is : (c : goal.After-next-number) → c.next-number.result ≡ get_or (nexts (length c.args.task.now.targets.now) 0 c.args.task.now.targets.now) c.loop-number.number 0
next_is c = c.next-number.ensures ∙ ap (λ ns. get_or ns c.loop-number.number 0) c.requires.searchable.index.next

pub loop-number-smaller : goal.loop-number-smaller
loop-number-smaller c = omega (arith, next_is c, next_above c.args.task.now.targets.now c.loop-number.number c.loop-number-test.true, c.loop-number-test.true)

pub loop-number-preserved : goal.loop-number-preserved
loop-number-preserved c =
    seeking_on c.args.task.now.slots c.args.task.now.targets.now c.args.trail.now c.loop-number.trail c.args.literal.now c.args.from c.loop-number.number c.requires.literal c.requires.searchable.targets c.loop-number.invariant c.take_from.new.trail c.next-number.result c.loop-number-test.true
    (subst (TakesFrom c.args.task.now.slots c.args.task.now.targets.now c.loop-number.trail.pairs c.take_from.new.trail.pairs c.args.literal.now c.args.from c.loop-number.number) c.if-branch.false c.in_ok-take_from.ensures.tries)
    c.in_ok-take_from.ensures.slots (c.next-number.ensures ∙ ap (λ ns. get_or ns c.loop-number.number 0) c.requires.searchable.index.next)

pub returns-clause-finds : goal.returns-clause-finds
returns-clause-finds c =
    sought_all c.args.task.now.slots c.args.task.now.targets.now c.args.trail.now c.loop-number.trail c.args.literal.now c.args.from c.loop-number.number c.requires.literal c.requires.searchable.targets c.loop-number.invariant c.loop-number-test.false
