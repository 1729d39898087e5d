use Rattle.std.proofs.Common.{◌≡◌, ◌<◌, length, Some, sym, subst, refl}
use Rattle.std.specs.Prelude.{slice_get}
use Rattle.std.proofs.lemmas.Option.{slice_get_read}
use Rattle.si_trail.proofs.Trail.slot.Goals as goal

pub returns : goal.returns
returns g c =
    let less : c.args.n < length c.self.inside.bound.items = subst (λ t. c.args.n < length t.pairs) (sym c.self.view_is) c.requires in (
      c.index.result.now.1,
      subst (λ t. slice_get t.pairs c.args.n ≡ Some c.index.result.now) c.self.view_is (slice_get_read c.self.inside.bound.items _ c.args.n c.index.result.now refl less c.index.ensures),
    )
