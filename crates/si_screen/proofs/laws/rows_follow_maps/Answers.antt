use Rattle.si_screen.proofs.MapLaws.{rows_follow}
use Rattle.si_screen.proofs.laws.rows_follow_maps.Goals as goal

pub returns : goal.returns
returns c = λ number. rows_follow number
