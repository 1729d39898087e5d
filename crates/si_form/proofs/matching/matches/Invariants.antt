use Rattle.si_form.proofs.Agreeing.{IsGoing}
use Rattle.si_form.proofs.matching.matches.Given as goal

abbrev pub invariant-loop-cell : goal.invariant-loop-cell
invariant-loop-cell l = IsGoing l.owner l.pattern l.target l.images.items l.cell-index l.at
