use Rattle.std.proofs.Common.{refl, ap}
use Rattle.si_term.specs.Meaning.{clause_of, literal_of}
use Rattle.std.proofs.Common.{map}
use Rattle.si_entries.proofs.FlatLaws.{all_left}
use Rattle.si_entries.proofs.flat.FlatEntries.new.Goals as goal

pub returns : goal.returns
returns c numbers numbered = all_left numbers _ (clause_of c.args.clause.now) c.requires numbered c.new.ensures.cells refl (ap (map literal_of) c.as_slice.ensures)
