use Rattle.std.proofs.Common.{rules, ◌≡◌, length, sym, ◌∙◌, ap}
use Rattle.std.specs.List.{filter}
use Rattle.std.proofs.lemmas.Fn.{filter_same}
use Rattle.si_tree.specs.declared.postings.Slot.{Slot}
use Rattle.si_tree.specs.Slots.{stands, standing}
use Rattle.si_tree.proofs.StandingLaws.{closed}
use Rattle.si_tree.proofs.postings.PostingList.close.Goals as goal

pub invariant_of-self : goal.invariant_of-self
invariant_of-self c =
    let left : c.retain.new.self.items ≡ filter (λ (s : Slot). stands s) c.self.inside.slots.items = filter_same _ _ _ (λ x b f' k. search rules) _ _ c.retain.ensures.filtered in
    c.renew.ensures ∙ c.self.invariant ∙ ap length (sym (ap standing (c.shrink_to_fit.ensures.items ∙ left) ∙ closed c.self.inside.slots.items))

pub returns : goal.returns
returns c =
    let left : c.retain.new.self.items ≡ filter (λ (s : Slot). stands s) c.self.inside.slots.items = filter_same _ _ _ (λ x b f' k. search rules) _ _ c.retain.ensures.filtered in
    ap standing (c.shrink_to_fit.ensures.items ∙ left) ∙ closed c.self.inside.slots.items ∙ c.self.view_is
