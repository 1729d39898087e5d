-- The sink's count of faults goes by what became of the line.
use Rattle.std.proofs.Common.{refl}
use Rattle.si_serve.specs.declared.status.Status.TheVariants.{Usage}
use Rattle.si_serve.proofs.Endings.{causes_none, causes_sink}
use Rattle.si_serve.proofs.serve.report_usage.Goals as goal

pub returns-in-Ok-clause-causes : goal.returns-in-Ok-clause-causes
returns-in-Ok-clause-causes g c source = causes_none Usage source source _ _ (λ e. cc) refl c.in-Ok.ensures.all.faults (refl, c.in-Ok.ensures.all.faults)

pub returns-in-Err-clause-causes : goal.returns-in-Err-clause-causes
returns-in-Err-clause-causes g c source = causes_sink source source _ _ refl c.in-Err.ensures.part.faults
