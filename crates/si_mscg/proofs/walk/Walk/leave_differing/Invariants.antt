use Rattle.std.proofs.Common.{◌≡◌}
use Rattle.std.specs.Iterator.Adapters.{zip_first, zip_second}
use Rattle.si_mscg.specs.Walking.{state_of, with_differing, HaveSides, OfSides}
use Rattle.si_mscg.proofs.walk.Walk.leave_differing.Given as goal

abbrev pub invariant-loop-pair : goal.invariant-loop-pair
invariant-loop-pair l =
    OfSides l.node l.new (λ ss. HaveSides (zip_first l.pair-iterator) (zip_second l.pair-iterator) (λ rest. with_differing (state_of l.self) rest ≡ with_differing (state_of l.fn.self) ss))
