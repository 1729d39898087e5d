use Rattle.std.proofs.Common.{◌≡◌}
use Rattle.slab.specs.Slab.{get, slab_len}
use Rattle.si_keyed.proofs.LinkLaws.{AreTold}
use Rattle.si_keyed.proofs.keyed.renumber.Given as goal

abbrev pub invariant-loop-place : goal.invariant-loop-place
invariant-loop-place g l = AreTold l.slots l.place (λ key. get l.places key) × (slab_len l.places ≡ slab_len l.fn.places)
