use Rattle.std.proofs.Common.{◌∷◌, ◌++◌, [], sym, ◌∙◌, ap, arith}
use Rattle.si_tree.specs.Slots.{stands}
use Rattle.si_tree.proofs.StandingLaws.{standing_pushed, pushed_length}
use Rattle.si_tree.proofs.postings.PostingList.push.Goals as goal

pub invariant_of-self-2 : goal.invariant_of-self-2
invariant_of-self-2 c =
    let there = sym (ap stands c.in_ok-slot.ensures.is) ∙ c.in_ok-slot.ensures.stands in
    omega (arith, c.in_ok-add.ensures.ok, c.self.invariant, pushed_length c.self.inside.slots.items c.args.posting c.push_reserved.new.self.items (c.push_reserved.ensures.items ∙ (λ i. c.make_room.ensures.same i ++ c.in_ok-slot.ensures.is i ∷ [])) there)

pub returns-clause-ok : goal.returns-clause-ok
returns-clause-ok c =
    let there = sym (ap stands c.in_ok-slot.ensures.is) ∙ c.in_ok-slot.ensures.stands in
    standing_pushed c.self.inside.slots.items c.args.posting c.push_reserved.new.self.items (c.push_reserved.ensures.items ∙ (λ i. c.make_room.ensures.same i ++ c.in_ok-slot.ensures.is i ∷ [])) there
    ∙ ap (λ ps. ps ++ c.args.posting ∷ []) c.self.view_is
