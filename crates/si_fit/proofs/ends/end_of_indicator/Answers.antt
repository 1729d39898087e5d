use Rattle.std.proofs.Common.{sym, ◌∙◌, ap}
use Rattle.si_trail.specs.Trails.{value_at}
use Rattle.si_unify.specs.Solving.{IsBinding}
use Rattle.si_unify.proofs.Places.{value_holds}
use Rattle.si_fit.proofs.EndLaws.{indicator_down, indicator_unbound, ends_on}
use Rattle.si_fit.proofs.ends.end_of_indicator.Goals as goal

pub end_of-requires-clause-whole : goal.end_of-requires-clause-whole
end_of-requires-clause-whole c = (value_holds (IsBinding c.args.slots.now) c.args.trail.now.pairs _ c.in-Some.value.now c.requires.solving.bindings (sym c.in-Some.ensures)).whole

pub end_of-requires-clause-range : goal.end_of-requires-clause-range
end_of-requires-clause-range c = (value_holds (IsBinding c.args.slots.now) c.args.trail.now.pairs _ c.in-Some.value.now c.requires.solving.bindings (sym c.in-Some.ensures)).in_range

pub returns-in-Some : goal.returns-in-Some
returns-in-Some c =
    ends_on _ _ _ c.in-Some.value.now.now _ 1
    (indicator_down _ _ _ _ c.args.number c.in-Some.value.now c.requires.indicator c.requires.solving c.requires.range (c.in-Some.ensures ∙ ap (value_at c.args.trail.now.pairs) c.indicator_slot.ensures)) c.end_of.ensures

pub returns-in-None : goal.returns-in-None
returns-in-None c = indicator_unbound _ _ _ _ c.args.number c.requires.indicator c.requires.solving c.requires.range (c.in-None.ensures ∙ ap (value_at c.args.trail.now.pairs) c.indicator_slot.ensures)
