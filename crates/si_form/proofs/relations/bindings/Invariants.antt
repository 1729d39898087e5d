use Rattle.std.proofs.Common.{◌≡◌, map, take}
use Rattle.si_form.specs.Matching.{binding_of}
use Rattle.si_form.proofs.relations.bindings.Given as goal

abbrev pub invariant-loop-image : goal.invariant-loop-image
invariant-loop-image l = l.solution ≡ map (binding_of l.owner) (take l.image-index l.images)
