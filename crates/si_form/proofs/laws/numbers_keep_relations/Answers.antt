use Rattle.si_form.proofs.NumberingLaws.{relations_are_kept, places_are_free}
use Rattle.si_form.proofs.laws.numbers_keep_relations.Goals as goal

pub returns-clause-relations : goal.returns-clause-relations
returns-clause-relations c = relations_are_kept

pub returns-clause-places : goal.returns-clause-places
returns-clause-places c = places_are_free
