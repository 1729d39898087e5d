use Rattle.si_exist.proofs.RightSteps.{right_word}
use Rattle.si_exist.proofs.words_have_a_right_step.Goals as goal

pub returns : goal.returns
returns c = right_word
