use Rattle.std.proofs.Common.{take_all, length-drop, arith}
use Rattle.si_flat.proofs.Subterms.{some_cell}
use Rattle.si_fit.proofs.FrozenLaws.{rest_avoids}
use Rattle.si_fit.proofs.occurring.search.Goals as goal

pub slice_bounds-is_free-count : goal.slice_bounds-is_free-count
slice_bounds-is_free-count c = omega (arith, some_cell c.args.cells.now c.requires.whole)

pub slice_bounds-is_free-start : goal.slice_bounds-is_free-start
slice_bounds-is_free-start c = omega (arith, some_cell c.args.cells.now c.requires.whole)

pub returns-then-is_free-clause-found : goal.returns-then-is_free-clause-found
returns-then-is_free-clause-found c =
    rest_avoids c.args.slots.now c.args.trail.now.pairs c.args.slot c.requires.bindings c.requires.slot c.args.cells.now _ c.requires.whole c.requires.range c.requires.first
    (take_all _ _ (omega (arith, length-drop 1 c.args.cells.now))) (c.is_free.ensures.0 c.if-is_free.true)
