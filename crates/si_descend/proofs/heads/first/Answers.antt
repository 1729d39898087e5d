use Rattle.si_flat.proofs.Subterms.{some_cell}
use Rattle.si_descend.proofs.heads.first.Goals as goal

pub bounds-cells-0 : goal.bounds-cells-0
bounds-cells-0 c = some_cell c.args.cells.now c.requires
