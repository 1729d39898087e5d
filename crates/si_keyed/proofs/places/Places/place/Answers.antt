use Rattle.std.proofs.Common.{sym, ◌∙◌, ap, subst}
use Rattle.si_defs.specs.Substitutions.{IsAmong}
use Rattle.si_keyed.specs.Keyed.{HasKey}
use Rattle.si_keyed.specs.Placed.{placed_from, placed_items}
use Rattle.si_keyed.proofs.IndexedLaws.{is_known}
use Rattle.si_keyed.proofs.PlacedLaws.{items_placed, among_placed, few_places}
use Rattle.si_keyed.proofs.places.Places.place.Goals as goal

pub index-requires : goal.index-requires
index-requires g c =
    is_known c.self.inside.slots.now _ c.args.key c.self.invariant.0.linked
    (subst (λ l. HasKey l c.args.key) (ap placed_items (sym c.self.view_is) ∙ items_placed 0 c.self.inside.slots.now) c.requires)

pub returns-clause-there : goal.returns-clause-there
returns-clause-there g c =
    let slots = c.self.inside.slots.now in
    let found = c.self.invariant.0.linked.back c.args.key c.index.result.now c.index.ensures in (
      found.0.item,
      subst (λ l. IsAmong l (c.index.result.now, (c.args.key, found.0.item))) c.self.view_is
          (subst (λ key. IsAmong (placed_from 0 slots) (c.index.result.now, (key, found.0.item))) found.2 (among_placed slots c.index.result.now found.0 found.1)),
    )

pub returns-clause-few : goal.returns-clause-few
returns-clause-few g c =
    let found = c.self.invariant.0.linked.back c.args.key c.index.result.now c.index.ensures in
    few_places c.self.inside.slots.now c.args.self.now c.index.result.now found.0 c.self.view_is c.self.invariant.1 found.1
