use Rattle.std.proofs.Common.{[], ◌∷◌, codes, refl, ap, arith}
use Rattle.si_defs.specs.Terms as terms
use Rattle.si_examples.specs.Entries.{a, constant}
use Rattle.si_examples.proofs.Differ.{same_arguments}
use Rattle.si_examples.proofs.relations.unifiable_terms.Goals as goal

pub returns-clause-unifiable_pair : goal.returns-clause-unifiable_pair
returns-clause-unifiable_pair c = ((codes "X", constant (codes "b")) ∷ (codes "Y", a) ∷ [], refl)

-- the image of Y would be smaller than itself
pub returns-clause-no_cycle : goal.returns-clause-no_cycle
returns-clause-no_cycle c = λ u. let e = ap terms.size (same_arguments _ _ _ _ _ u.1) in absurd (omega arith)
