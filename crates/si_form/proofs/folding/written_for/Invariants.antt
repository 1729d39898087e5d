use Rattle.std.proofs.Common.{◌≡◌, ℕ, List, Option, take}
use Rattle.si_form.specs.declared.classes.Node.{Node}
use Rattle.si_form.specs.declared.folding.Written.{Written}
use Rattle.si_form.specs.Folding.{leaders_of, sizes_of, AreSizes}
use Rattle.si_form.proofs.folding.written_for.Given as goal

pub record IsWrittenSoFar (nodes : List Node) (leaders : List (Option ℕ)) (class : ℕ) (written : List Written) : Type 0 where
  pub sizes : AreSizes nodes leaders class (sizes_of written)
  pub led : leaders_of written ≡ take class leaders

abbrev pub invariant-loop-class : goal.invariant-loop-class
invariant-loop-class l = IsWrittenSoFar l.nodes.keys l.leaders l.class l.written.items
