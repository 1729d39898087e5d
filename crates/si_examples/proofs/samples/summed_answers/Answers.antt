use Rattle.si_examples.proofs.OneSum.{kept_counted}
use Rattle.si_examples.proofs.samples.summed_answers.Goals as goal

pub returns : goal.returns
returns c = kept_counted
