use Rattle.std.proofs.Common.{◌≡◌, [], ◌∷◌, ◌++◌, sym, ◌∙◌, ap}
use Rattle.si_tree.specs.Slots.{stands}
use Rattle.si_tree.proofs.StandingLaws.{two_stand}
use Rattle.si_tree.proofs.postings.PostingList.two.Goals as goal

pub returns : goal.returns
returns c =
    let one : c.push_reserved.new.self.items ≡ c.args.first ∷ [] = c.push_reserved.ensures.items ∙ ap (λ xs. xs ++ c.args.first ∷ []) c.in_ok-slots.ensures.items in
    let there = sym (ap stands c.in_ok-second.ensures.is) ∙ c.in_ok-second.ensures.stands in
    two_stand c.args.first c.args.posting c.push_reserved-2.new.self.items (c.push_reserved-2.ensures.items ∙ (λ i. one i ++ c.in_ok-second.ensures.is i ∷ [])) c.requires there
