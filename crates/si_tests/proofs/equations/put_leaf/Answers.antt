use Rattle.std.proofs.Common.{refl}
use Rattle.si_defs.specs.Terms.{var}
use Rattle.si_flat.specs.Cells.{query, entry, ind}
use Rattle.si_tests.proofs.equations.put_leaf.Goals as goal

pub variable-requires : goal.variable-requires
variable-requires c = (var (entry _), record { cells_are = refl; sound = tt })

pub variable-requires-in-112-to-113 : goal.variable-requires-in-112-to-113
variable-requires-in-112-to-113 c = (var (ind _), record { cells_are = refl; sound = tt })

pub variable-requires-in-120-to-122 : goal.variable-requires-in-120-to-122
variable-requires-in-120-to-122 c = (var (query _), record { cells_are = refl; sound = tt })
