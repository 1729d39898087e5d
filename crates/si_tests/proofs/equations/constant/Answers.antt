use Rattle.std.proofs.Common.{refl}
use Rattle.si_defs.specs.Terms.{app, none}
use Rattle.si_tests.proofs.equations.constant.Goals as goal

pub from_cells-requires : goal.from_cells-requires
from_cells-requires c = (app (record { number = c.args.sym; arity = 0 }) none, record { cells_are = refl; sound = (refl, tt) })
