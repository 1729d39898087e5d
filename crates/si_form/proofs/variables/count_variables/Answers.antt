use Rattle.std.proofs.Common.{subst, ◌∙◌, sym, arith}
use Rattle.si_form.proofs.VariableCounts.{IsCounting, counting_begins, counting_skips, counting_known, counting_more, counted_all}
use Rattle.si_form.proofs.variables.count_variables.Goals as goal
use Rattle.si_form.proofs.variables.count_variables.Goals.{then-number-count, else-number-count}

pub loop-at-init : goal.loop-at-init
loop-at-init c = counting_begins c.args.owner c.args.cells.now

pub loop-at-preserved-in_default : goal.loop-at-preserved-in_default
loop-at-preserved-in_default c =
    counting_skips c.args.owner c.args.cells.now c.loop-at.at c.loop-at.count (omega (arith, c.loop-at-test.true, c.size-at-end.ensures)) c.loop-at.invariant (sym c.in_default.is ∙ c.variable_number.ensures)

pub loop-at-preserved : goal.loop-at-preserved
loop-at-preserved c =
    elim c.if-number-count.branch [
      | then-number-count w ↦
          subst (IsCounting c.args.owner c.args.cells.now _) (sym w.count-is)
          (counting_more c.args.owner c.args.cells.now c.loop-at.at c.loop-at.count (omega (arith, c.loop-at-test.true, c.size-at-end.ensures)) c.loop-at.invariant c.in-Some.number (sym c.in-Some.is ∙ c.variable_number.ensures) w.if-number-count.true)
      | else-number-count w ↦
          subst (IsCounting c.args.owner c.args.cells.now _) (sym w.count-is)
          (counting_known c.args.owner c.args.cells.now c.loop-at.at c.loop-at.count (omega (arith, c.loop-at-test.true, c.size-at-end.ensures)) c.loop-at.invariant c.in-Some.number (sym c.in-Some.is ∙ c.variable_number.ensures) w.if-number-count.false)
    ]

pub returns : goal.returns
returns c = counted_all c.args.owner c.args.cells.now c.loop-at.at c.loop-at.count (omega (arith, c.loop-at-test.false, c.size-at-end.ensures)) c.requires.numbered c.loop-at.invariant
