use Rattle.std.proofs.Common.{sym, ap, ◌∙◌, arith}
use Rattle.si_descend.specs.Attempts.{head_at}
use Rattle.si_descend.proofs.AttemptLaws.{variable_here}
use Rattle.si_descend.proofs.attempts.head_at.Goals as goal

pub returns-then-place-eq0 : goal.returns-then-place-eq0
returns-then-place-eq0 c = c.head_of.ensures ∙ ap (head_at c.args.first) (sym c.if-place-eq0.true)

pub overflow_sub-result : goal.overflow_sub-result
overflow_sub-result c = omega (arith, c.if-place-eq0.false)

pub overflow_cast-result : goal.overflow_cast-result
overflow_cast-result c = omega (arith, c.requires, c.if-place-eq0.false)

pub returns : goal.returns
returns c = variable_here c.args.first c.args.place c.if-place-eq0.false
