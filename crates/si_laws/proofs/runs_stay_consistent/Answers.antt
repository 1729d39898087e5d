use Rattle.si_state.specs.States.{empty_state}
use Rattle.si_laws.proofs.StateLaws.{consistent_none}
use Rattle.si_laws.proofs.RunLaws.{run_stays}
use Rattle.si_laws.proofs.runs_stay_consistent.Goals as goal

pub returns : goal.returns
returns c = λ setting told strict requests output failures new run. run_stays setting told strict empty_state requests output failures new consistent_none run
