use Rattle.std.proofs.Common.{◌++◌, ap, sym, ◌∙◌}
use Rattle.std.specs.Prelude.{bytes_eq}
use Rattle.std.proofs.lemmas.Slice.Eq.{bytes_eq-Decides}
use Rattle.si_flat.specs.Numbered.{place_in}
use Rattle.si_flat.specs.Flattening.{met_names}
use Rattle.si_flat.proofs.InsertedPlaces.{inserted-place}
use Rattle.si_flat.proofs.met.Met.variable.Goals as goal

pub returns-clause-number : goal.returns-clause-number
returns-clause-number c more =
    ap (λ l. place_in bytes_eq (l ++ more) c.args.name.now) c.in_ok-number.ensures.names
    ∙ inserted-place bytes_eq bytes_eq-Decides (met_names c.args.self.now) c.args.name.now more
    ∙ sym c.in_ok-number.ensures.place
