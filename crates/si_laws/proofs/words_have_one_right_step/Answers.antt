use Rattle.si_laws.proofs.RunLaws.{one_word}
use Rattle.si_laws.proofs.words_have_one_right_step.Goals as goal

pub returns : goal.returns
returns c = one_word
