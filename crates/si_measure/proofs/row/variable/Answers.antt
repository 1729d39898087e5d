use Rattle.std.proofs.Common.{refl}
use Rattle.si_defs.specs.Terms.{var}
use Rattle.si_flat.specs.Cells.{query, entry}
use Rattle.si_measure.proofs.row.variable.Goals as goal

pub from_cells-requires : goal.from_cells-requires
from_cells-requires c = (var (query c.args.number), record { cells_are = refl; sound = tt })

pub from_cells-requires-in-Entry : goal.from_cells-requires-in-Entry
from_cells-requires-in-Entry c = (var (entry c.args.number), record { cells_are = refl; sound = tt })
