use Rattle.std.proofs.Common.{refl}
use Rattle.std.proofs.lemmas.Option.{slice_get_read}
use Rattle.si_base_tests.proofs.shapes.at.Goals as goal

pub returns : goal.returns
returns c = slice_get_read c.args.children.now _ c.args.place c.index-children-place.result refl c.requires c.index-children-place.is
