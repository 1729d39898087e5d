use Rattle.std.proofs.Common.{◌≡◌, sym, ap, subst, arith}
use Rattle.std.proofs.lemmas.Option.{slice_get_within}
use Rattle.si_defs.specs.Substitutions.{IsAmong}
use Rattle.si_insert.proofs.OpenedLaws.{found_in, number_read, number_within, read}
use Rattle.si_insert.proofs.open.Openings.at.Goals as goal

pub index-requires : goal.index-requires
index-requires c =
    let f = found_in c.self.inside.places.items c.self.inside.opened.items _ c.args.indicator c.self.invariant.0 c.self.view_is c.requires in
    omega (arith, slice_get_within c.self.inside.places.items c.args.indicator f.place f.leads, c.self.inside.places.ok)

pub index-requires-2 : goal.index-requires-2
index-requires-2 c =
    let f = found_in c.self.inside.places.items c.self.inside.opened.items _ c.args.indicator c.self.invariant.0 c.self.view_is c.requires in
    omega (arith, number_within c.self.inside.places.items c.self.inside.opened.items c.args.indicator c.index.result.now f c.index.ensures, c.self.inside.opened.ok)

pub returns : goal.returns
returns c =
    let f = found_in c.self.inside.places.items c.self.inside.opened.items _ c.args.indicator c.self.invariant.0 c.self.view_is c.requires in
    let there : c.index.result.now ≡ f.number = number_read c.self.inside.places.items c.self.inside.opened.items c.args.indicator c.index.result.now f c.index.ensures in
    let one : c.index-2.result.now ≡ f.opened = read c.self.inside.opened.items f.number c.index-2.result.now f.opened (rw there at c.index-2.ensures) f.item in (
      f.opened,
      subst (λ l. IsAmong l f.opened) c.self.view_is f.among,
      f.indicator,
      ap (λ o. o.at) (sym one),
    )
