-- What was written goes by what became of the line.
use Rattle.si_serve.proofs.Progress.{acts_or_stops, steps_at}
use Rattle.si_serve.proofs.serve.act.Goals as goal

pub returns-clause-acts : goal.returns-clause-acts
returns-clause-acts g c =
    acts_or_stops c.args.strict _ _ _ c.step-outcome.result _ _ (steps_at _ _ _ _ _ _ _ c.bytes.ensures c.step-outcome.ensures.step) c.judge.result c.judge.ensures
