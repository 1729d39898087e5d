use Rattle.si_steps.proofs.WordLaws.{same_word}
use Rattle.si_examples.proofs.lines.words.Goals as goal

pub returns : goal.returns
returns c = same_word
