use Rattle.std.proofs.Common.{◌-◌, ap, ◌∙◌, subst, arith}
use Rattle.std.specs.Prelude.{Some}
use Rattle.si_entries.specs.Walks.{GivesAfter}
use Rattle.si_index.proofs.GatherLaws.{number_few, hit_place, walk_given, walk_goes_on}
use Rattle.si_index.proofs.gather.ClauseWalk.go_to.Goals as goal

pub turn_to-requires-clause-there : goal.turn_to-requires-clause-there
turn_to-requires-clause-there c = hit_place c.args.search.now c.args.place c.requires.there.0 c.requires.ready c.requires.there.1

pub unreachable-requires : goal.unreachable-requires
unreachable-requires c =
    let walk = c.turn_to.new.self in
    walk_goes_on c.args.search.now.slots walk c.nth.new.self c.args.place c.requires.there.0 c.requires.ready.slots.rise c.turn_to.ensures.walk c.turn_to.ensures.slot c.requires.there.1 (c.turn_to.ensures.ahead c.turn_to.ensures.slot)
    (subst (GivesAfter (c.args.place.entry - walk.next) walk.entries c.nth.new.self) c.in_default.is c.in_ok-entry.ensures.nth)

pub overflow_add-self : goal.overflow_add-self
overflow_add-self c = omega (arith, number_few c.args.search.now c.args.place c.requires.there.0 c.requires.ready c.requires.there.1)

pub returns-clause-walk : goal.returns-clause-walk
returns-clause-walk c =
    let walk = c.turn_to.new.self in
    let gives = subst (GivesAfter (c.args.place.entry - walk.next) walk.entries c.nth.new.self) c.in-Some.is c.in_ok-entry.ensures.nth in
    record {
      key = c.turn_to.ensures.walk.key;
      there = c.turn_to.ensures.walk.there;
      small = c.in_ok-entry.ensures.small;
      left = (walk_given c.args.search.now.slots walk c.nth.new.self c.args.place _ c.turn_to.ensures.walk (c.turn_to.ensures.ahead c.turn_to.ensures.slot) gives).1;
    }

pub returns-clause-entry : goal.returns-clause-entry
returns-clause-entry c =
    let walk = c.turn_to.new.self in
    let gives = subst (GivesAfter (c.args.place.entry - walk.next) walk.entries c.nth.new.self) c.in-Some.is c.in_ok-entry.ensures.nth in
    record {
      key = c.turn_to.ensures.walk.key;
      clause = walk.clause.now;
      there = c.turn_to.ensures.walk.there ∙ ap (λ slot. Some (slot, (c.turn_to.ensures.walk.key, walk.clause.now))) c.turn_to.ensures.slot;
      numbered = (walk_given c.args.search.now.slots walk c.nth.new.self c.args.place _ c.turn_to.ensures.walk (c.turn_to.ensures.ahead c.turn_to.ensures.slot) gives).0;
    }
