use Rattle.si_examples.proofs.DeepTexts.{deepest_text, no_deeper_text}
use Rattle.si_examples.proofs.texts.nested_texts.Goals as goal

pub returns-clause-deepest_text : goal.returns-clause-deepest_text
returns-clause-deepest_text c = deepest_text

pub returns-clause-no_deeper_text : goal.returns-clause-no_deeper_text
returns-clause-no_deeper_text c = no_deeper_text
