use Rattle.si_examples.proofs.OneHarvest.{second_line, first_word}
use Rattle.si_examples.proofs.harvests.faulty_files.Goals as goal

pub returns-clause-second_line : goal.returns-clause-second_line
returns-clause-second_line c = second_line

pub returns-clause-first_word : goal.returns-clause-first_word
returns-clause-first_word c = first_word
