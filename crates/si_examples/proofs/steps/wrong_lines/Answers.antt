use Rattle.si_examples.proofs.OneStep.{unknown_word, word_in_quotes, joined_word, word_alone, other_language_added, language_alone}
use Rattle.si_examples.proofs.steps.wrong_lines.Goals as goal

pub returns-clause-unknown_word : goal.returns-clause-unknown_word
returns-clause-unknown_word c = unknown_word

pub returns-clause-word_in_quotes : goal.returns-clause-word_in_quotes
returns-clause-word_in_quotes c = word_in_quotes

pub returns-clause-joined_word : goal.returns-clause-joined_word
returns-clause-joined_word c = joined_word

pub returns-clause-word_alone : goal.returns-clause-word_alone
returns-clause-word_alone c = word_alone

pub returns-clause-other_language_added : goal.returns-clause-other_language_added
returns-clause-other_language_added c = other_language_added

pub returns-clause-language_alone : goal.returns-clause-language_alone
returns-clause-language_alone c = language_alone
