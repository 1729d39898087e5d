use Rattle.std.proofs.Common.{refl}
use Rattle.si_defs.specs.Terms as terms
use Rattle.si_flat.specs.Cells.{query}
use Rattle.si_base_tests.proofs.Vectors as vectors
use Rattle.si_base_tests.proofs.Nodes.{g_of_variable}
use Rattle.si_base_tests.proofs.descents.assert_filled.Goals as goal

pub from_cells-requires : goal.from_cells-requires
from_cells-requires g c = (vectors.g (terms.var (query 0)), record { cells_are = refl; sound = (refl, (tt, tt)) })

pub assert_asked-requires : goal.assert_asked-requires
assert_asked-requires g c = g_of_variable c.in_ok-query.query c.in_ok-query.ensures
