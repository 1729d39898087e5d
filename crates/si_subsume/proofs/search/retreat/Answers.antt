use Rattle.std.proofs.Common.{◌≡◌, [], sym, subst, rules}
use Rattle.si_unify.specs.Solving.{AllowsSolving}
use Rattle.si_subsume.proofs.Choices.{dead_last, dead_start, retreated, ready_again}
use Rattle.si_subsume.proofs.search.retreat.Goals as goal

pub next_number-next-requires : goal.next_number-next-requires
next_number-next-requires c = (dead_last c.args.task.now.slots c.args.task.now.targets.now c.args.task.now.literals.now c.args.trail.now.pairs c.args.choices.now.items c.pop.new.self.items c.in-Some.choice c.requires.dead c.in-Some.ensures.items).inside

pub undo-requires : goal.undo-requires
undo-requires c = (dead_last c.args.task.now.slots c.args.task.now.targets.now c.args.task.now.literals.now c.args.trail.now.pairs c.args.choices.now.items c.pop.new.self.items c.in-Some.choice c.requires.dead c.in-Some.ensures.items).marked

pub returns-in-Some-clause-advances : goal.returns-in-Some-clause-advances
returns-in-Some-clause-advances c from =
    retreated c.args.task.now.slots c.args.task.now.targets.now c.args.task.now.literals.now c.args.trail.now.pairs c.args.choices.now.items c.pop.new.self.items c.in-Some.choice c.mark.result c.next_number-next.result c.undo.new.self.pairs from c.requires.dead c.in-Some.ensures.items c.mark.ensures.number c.next_number-next.ensures c.undo.ensures.pairs

pub returns-in-Some-clause-ready : goal.returns-in-Some-clause-ready
returns-in-Some-clause-ready c =
    subst (AllowsSolving c.args.task.now.slots c.undo.new.self.pairs) (sym c.undo.ensures.slots)
    (ready_again c.args.task.now.slots c.args.task.now.targets.now c.args.task.now.literals.now c.args.trail.now.pairs c.args.choices.now.items c.pop.new.self.items c.in-Some.choice c.undo.new.self.pairs c.args.trail.now.slots c.requires.dead c.in-Some.ensures.items c.undo.ensures.pairs c.requires.ready)

pub returns-in-None-clause-advances : goal.returns-in-None-clause-advances
returns-in-None-clause-advances c =
    let none : c.args.choices.now.items ≡ [] = search rules in
    λ from. dead_start c.args.task.now.slots c.args.task.now.targets.now c.args.task.now.literals.now c.args.trail.now.pairs c.args.choices.now.items c.requires.dead none
