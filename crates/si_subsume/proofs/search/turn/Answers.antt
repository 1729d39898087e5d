use Rattle.std.proofs.Common.{[], ◌∙◌, subst, arith, get_or}
use Rattle.si_subsume.specs.Search.{FindsTarget}
use Rattle.si_subsume.proofs.Unequal.{term_read}
use Rattle.si_subsume.proofs.Choices.{turn_dead, turn_chosen}
use Rattle.si_subsume.proofs.search.turn.Goals as goal

pub find-requires-clause-literal : goal.find-requires-clause-literal
find-requires-clause-literal c =
    term_read c.args.task.now.slots c.args.task.now.literals.now c.len.result (record { ref_ptr = (0, 0); now = [] }) c.requires.searchable.literals (omega (arith, c.requires.more, c.len.ensures, c.args.choices.now.ok.0))

pub retreat-requires-clause-dead : goal.retreat-requires-clause-dead
retreat-requires-clause-dead c =
    turn_dead c.args.task.now.slots c.args.task.now.targets.now c.args.task.now.literals.now c.args.choices.now.items c.args.trail.now.pairs c.find.new.trail.pairs c.args.from c.len.result (record { ref_ptr = (0, 0); now = [] }) c.requires.stands c.requires.more (c.len.ensures ∙ c.args.choices.now.ok.0)
    (subst (FindsTarget c.args.task.now.slots c.args.task.now.targets.now c.args.trail.now.pairs c.find.new.trail.pairs (get_or c.args.task.now.literals.now c.len.result (record { ref_ptr = (0, 0); now = [] })).now c.args.from) c.in-None.is c.in_ok-number.ensures.finds)

pub returns-in_ok-push-in-Some-clause-advances : goal.returns-in_ok-push-in-Some-clause-advances
returns-in_ok-push-in-Some-clause-advances c =
    turn_chosen c.args.task.now.slots c.args.task.now.targets.now c.args.task.now.literals.now c.args.choices.now.items c.args.trail.now.pairs c.find.new.trail.pairs c.args.from c.len.result (record { ref_ptr = (0, 0); now = [] }) c.requires.stands c.requires.more (c.len.ensures ∙ c.args.choices.now.ok.0)
    (record { number = c.in-Some.number; mark = c.mark-mark.result }) c.push.new.self.items
    (subst (FindsTarget c.args.task.now.slots c.args.task.now.targets.now c.args.trail.now.pairs c.find.new.trail.pairs (get_or c.args.task.now.literals.now c.len.result (record { ref_ptr = (0, 0); now = [] })).now c.args.from) c.in-Some.is c.in_ok-number.ensures.finds)
    c.mark-mark.ensures.number c.in_ok-push-in-Some.ensures.items

pub returns-in-None-clause-advances : goal.returns-in-None-clause-advances
returns-in-None-clause-advances c = c.retreat.ensures.advances c.args.from
