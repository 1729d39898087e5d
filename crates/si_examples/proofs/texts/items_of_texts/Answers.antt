use Rattle.si_examples.proofs.FirstWords.{other_language, own_language, no_foreign_item}
use Rattle.si_examples.proofs.texts.items_of_texts.Goals as goal

pub returns-clause-other_language : goal.returns-clause-other_language
returns-clause-other_language c = other_language

pub returns-clause-own_language : goal.returns-clause-own_language
returns-clause-own_language c = own_language

pub returns-clause-no_foreign_item : goal.returns-clause-no_foreign_item
returns-clause-no_foreign_item c = no_foreign_item
