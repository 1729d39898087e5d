use Rattle.std.proofs.Common.{◌≡◌, map, ap, subst}
use Rattle.std.specs.Prelude.{slice_get, Some}
use Rattle.si_term.specs.Meaning.{place_of}
use Rattle.si_index.specs.Finding.{Finding, position_and_place}
use Rattle.si_index.proofs.FoundLaws.{inside, place_at}
use Rattle.si_index.proofs.found.Found.hit.Goals as goal

pub returns : goal.returns
returns c =
    let ms = c.self.inside.matches.found.items in
    subst (λ (f : Finding). slice_get (map position_and_place f.hits) c.args.n ≡ Some (c.index.result.now.hit.clause, place_of c.index.result.now.hit.place)) c.self.view_is
    (place_at ms c.args.n c.index.result.now (inside ms c.args.n c.args.self.now.hits (ap (λ (f : Finding). f.hits) c.self.view_is) c.requires) c.index.ensures)
