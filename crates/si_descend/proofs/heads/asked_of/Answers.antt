use Rattle.std.proofs.Common.{sym, ◌∙◌, ap}
use Rattle.si_trail.specs.Trails.{value_at}
use Rattle.si_unify.specs.Solving.{IsBinding}
use Rattle.si_unify.proofs.Places.{value_holds}
use Rattle.si_descend.proofs.HeadLaws.{split_wanted}
use Rattle.si_descend.proofs.heads.asked_of.Goals as goal

pub end_of-end-requires-clause-whole : goal.end_of-end-requires-clause-whole
end_of-end-requires-clause-whole c = (value_holds (IsBinding c.args.search.now.slots) c.args.trail.now.pairs _ c.in-Some-get.value.now c.requires.solving.bindings (sym c.in-Some-get.ensures)).whole

pub end_of-end-requires-clause-range : goal.end_of-end-requires-clause-range
end_of-end-requires-clause-range c = (value_holds (IsBinding c.args.search.now.slots) c.args.trail.now.pairs _ c.in-Some-get.value.now c.requires.solving.bindings (sym c.in-Some-get.ensures)).in_range

pub first-requires : goal.first-requires
first-requires c = (c.end_of-end.ensures.ends.last, c.end_of-end.ensures.ends.last_stands)

pub returns : goal.returns
returns c =
    split_wanted c.args.search.now c.args.node c.args.trail.now.pairs c.args.trail.now.slots c.in-Some.split c.in-Some-get.value.now c.end_of-end.result.now c.first.result c.requires.solving
    (λ n has. sym (c.in-Some.ensures n has)) (c.in-Some-get.ensures ∙ ap (value_at c.args.trail.now.pairs) c.indicator_slot.ensures) c.end_of-end.ensures.ends c.first.ensures
