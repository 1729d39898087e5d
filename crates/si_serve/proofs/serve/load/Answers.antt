-- What was written goes by what became of the word.
use Rattle.si_serve.proofs.Progress.{acts_or_stops}
use Rattle.si_serve.proofs.serve.load.Goals as goal

pub returns : goal.returns
returns g c = acts_or_stops c.args.strict _ _ _ c.load-outcome.result _ _ c.load-outcome.ensures.step c.judge.result c.judge.ensures
