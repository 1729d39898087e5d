use Rattle.std.proofs.Common.{◌≡◌, None, take}
use Rattle.std.specs.List.{AllByRecursion}
use Rattle.si_form.specs.Direct.{head_slot}
use Rattle.si_form.proofs.direct.are_applied.Given as goal

abbrev pub invariant-loop-n : goal.invariant-loop-n
invariant-loop-n l = AllByRecursion (λ pair. head_slot l.slots pair.1.now ≡ None) (take l.n l.trail.pairs)
