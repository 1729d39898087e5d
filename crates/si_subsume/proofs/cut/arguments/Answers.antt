use Rattle.std.proofs.Common.{◌+◌, length, sym, subst, arith}
use Rattle.si_flat.proofs.Subterms.{some_cell}
use Rattle.si_subsume.proofs.Arguments.{IsCutting, IsNextCut, cutting_start, next_cut, all_cut, length_told}
use Rattle.si_subsume.proofs.cut.arguments.Goals as goal

pub bounds-cells-0 : goal.bounds-cells-0
bounds-cells-0 c = some_cell c.args.cells.now c.requires

pub loop-at-init : goal.loop-at-init
loop-at-init c = cutting_start c.args.cells.now c.in_ok-list.list.items c.in_ok-list.ensures.items c.requires

next : (c : goal.In_ok-push) → IsNextCut c.args.cells.now c.loop-at.list.items c.loop-at.at c.sub-argument.result
next c = next_cut c.args.cells.now c.loop-at.list.items c.loop-at.at c.sub-argument.result c.loop-at-test.true c.sub-argument.ensures.place c.sub-argument.ensures.whole c.loop-at.invariant

pub loop-at-smaller : goal.loop-at-smaller
loop-at-smaller c = omega (arith, (next c).some, (next c).inside)

pub loop-at-preserved : goal.loop-at-preserved
loop-at-preserved c = subst (λ bs. IsCutting c.args.cells.now bs (c.loop-at.at + length c.sub-argument.result.now)) (sym c.in_ok-push.ensures.items) (next c).goes_on

pub returns-clause-arguments : goal.returns-clause-arguments
returns-clause-arguments c = all_cut c.args.cells.now c.loop-at.list.items c.loop-at.at c.loop-at.invariant c.loop-at-test.false

pub returns-clause-few : goal.returns-clause-few
returns-clause-few c =
    omega (arith, length_told c.args.cells.now c.loop-at.list.items c.requires (all_cut c.args.cells.now c.loop-at.list.items c.loop-at.at c.loop-at.invariant c.loop-at-test.false), c.argument_count-count.ensures, c.argument_count-count.type_inv)
