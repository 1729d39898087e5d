use Rattle.std.proofs.Common.{reverse}
use Rattle.si_form.specs.Folding.{IsWriting}
use Rattle.si_form.proofs.folding.Folding.fold.Given as goal

abbrev pub invariant-loop : goal.invariant-loop
invariant-loop l = IsWriting l.slots l.self l.class l.cells.items (reverse l.left.items) l.counter
