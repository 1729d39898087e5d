use Rattle.std.proofs.Common.{Some, is_some, true≢false, sym, ◌∙◌, ap, subst, arith}
use Rattle.si_defs.specs.Substitutions.{IsAmong}
use Rattle.si_keyed.specs.KeyedSlots.{HoldsAt}
use Rattle.si_keyed.proofs.SlotLaws.{stands_inside}
use Rattle.si_keyed.proofs.IndexedLaws.{read_there, slot_is}
use Rattle.si_keyed.proofs.PlacedLaws.{holds_place, among_placed}
use Rattle.si_keyed.proofs.Results.{if_none}
use Rattle.si_keyed.proofs.places.Places.get.Goals as goal

pub returns-in_err-slot-clause-none : goal.returns-in_err-slot-clause-none
returns-in_err-slot-clause-none g c =
    if_none c.from_residual.result (λ has.
    let held = holds_place c.self.inside.slots.now c.args.self.now c.args.place c.self.view_is has in
    omega (arith, c.in_err-slot.ensures.lookup.3, stands_inside c.self.inside.slots.now c.args.place held.0 held.1))

pub returns-in_err-kept-clause-none : goal.returns-in_err-kept-clause-none
returns-in_err-kept-clause-none g c =
    if_none c.from_residual-in_err-kept.result (λ has.
    let held = holds_place c.self.inside.slots.now c.args.self.now c.args.place c.self.view_is has in
    let there = read_there c.self.inside.slots.now c.args.place c.in_ok-slot.slot.now held.0 held.1 c.in_ok-slot.ensures.lookup.1 in
    true≢false (sym (c.in_err-kept.ensures.variant ∙ ap is_some there)))

pub returns-clause-some : goal.returns-clause-some
returns-clause-some g c =
    let slots = c.self.inside.slots.now in
    let kept = c.in_ok-kept.kept.now in
    let at : HoldsAt slots c.args.place kept =
    slot_is slots c.args.place c.in_ok-slot.slot.now (Some kept) c.in_ok-slot.ensures.lookup.3.0 c.in_ok-slot.ensures.lookup.1 (sym c.in_ok-kept.ensures.value) in (
      kept.key,
      subst (λ l. IsAmong l (c.args.place, (kept.key, kept.item))) c.self.view_is (among_placed slots c.args.place kept at),
    )
