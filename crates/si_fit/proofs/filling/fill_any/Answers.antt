use Rattle.si_defs.proofs.ListLaws.{all_get}
use Rattle.si_flat.proofs.Subterms.{some_cell}
use Rattle.si_fit.specs.Fresh.{IsNew}
use Rattle.si_fit.proofs.EndLaws.{no_cell}
use Rattle.si_fit.proofs.filling.fill_any.Goals as goal

pub bounds-left-0 : goal.bounds-left-0
bounds-left-0 c = some_cell c.args.left.now c.requires.terms.left

pub bounds-right-0 : goal.bounds-right-0
bounds-right-0 c = some_cell c.args.right.now c.requires.terms.right

pub fill_one-requires-clause-fresh : goal.fill_one-requires-clause-fresh
fill_one-requires-clause-fresh c =
    all_get (IsNew c.args.slots.now c.args.trail.now.pairs c.args.left.now) c.args.right.now 0 no_cell c.requires.fresh (some_cell c.args.right.now c.requires.terms.right)
