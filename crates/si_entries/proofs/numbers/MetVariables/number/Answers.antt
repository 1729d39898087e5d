use Rattle.std.proofs.Common.{◌≡◌, ◌∙◌, false, sym, subst}
use Rattle.std.specs.List.{list_any}
use Rattle.si_entries.specs.Numbers.{same_number, AreAt}
use Rattle.si_entries.proofs.NumberLaws.{at_reached, at_met, index_found, index_behind}
use Rattle.si_entries.proofs.numbers.MetVariables.number.Goals as goal

pub returns-in-Some-clause-number : goal.returns-in-Some-clause-number
returns-in-Some-clause-number c = index_found _ c.args.variable c.in-Some.place c.in-Some.ensures

pub invariant_of-self : goal.invariant_of-self
invariant_of-self c = at_reached _ _ _ c.reach.ensures.grows c.self.invariant

pub invariant_of-self-in_err-push : goal.invariant_of-self-in_err-push
invariant_of-self-in_err-push c = subst (AreAt c.reach.new.places.items 0) (sym c.in_err-push.ensures.items) (at_reached _ _ _ c.reach.ensures.grows c.self.invariant)

pub invariant_of-self-2 : goal.invariant_of-self-2
invariant_of-self-2 c =
    let lacked = subst (λ l. list_any (same_number c.args.variable) l ≡ false) (sym c.self.view_is) c.in_default.ensures in
    at_met c.self.inside.places.items c.reach.new.places.items c.self.inside.met.items c.push.new.self.items c.args.variable c.len-place.result
    c.reach.ensures.grows c.self.invariant lacked c.in_ok-reach.ensures.ok (c.len-place.ensures ∙ c.self.inside.met.ok.0) c.in_ok-push.ensures.items

pub returns-clause-number : goal.returns-clause-number
returns-clause-number c =
    let lacked = subst (λ l. list_any (same_number c.args.variable) l ≡ false) (sym c.self.view_is) c.in_default.ensures in
    index_behind c.self.inside.met.items c.push.new.self.items c.args.variable c.len-place.result lacked c.in_ok-push.ensures.items (c.len-place.ensures ∙ c.self.inside.met.ok.0)
