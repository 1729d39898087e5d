use Rattle.std.proofs.Common.{[], ◌∷◌, codes, refl, inl, inr}
use Rattle.si_examples.specs.Entries.{variable}
use Rattle.si_examples.specs.Relations.{x, y, z, f_of_y}
use Rattle.si_examples.proofs.Differ.{variables_differ, same_arguments}
use Rattle.si_examples.proofs.relations.instances.Goals as goal

pub returns-clause-instance_of_variable : goal.returns-clause-instance_of_variable
returns-clause-instance_of_variable c = ((codes "X", f_of_y) ∷ [], record { on = (inl refl, tt); takes = refl })

pub returns-clause-renamed_pair : goal.returns-clause-renamed_pair
returns-clause-renamed_pair c = (
  ((codes "X", z) ∷ (codes "Y", variable (codes "V")) ∷ [], record { on = (inl refl, (inr (inl refl), tt)); takes = refl }),
  ((codes "Z", x) ∷ (codes "V", y) ∷ [], record { on = (inl refl, (inr (inl refl), tt)); takes = refl }),
)

pub returns-clause-no_variant_of_square : goal.returns-clause-no_variant_of_square
returns-clause-no_variant_of_square c = (
  ((codes "X", z) ∷ (codes "Y", z) ∷ [], record { on = (inl refl, (inr (inl refl), tt)); takes = refl }),
  λ r. variables_differ x y refl (same_arguments _ _ _ _ _ r.1.1.takes),
)
