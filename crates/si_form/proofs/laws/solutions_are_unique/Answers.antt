use Rattle.si_defs.specs.declared.Relation.{Relation}
use Rattle.si_defs.specs.declared.Relation.TheVariants.{Variants, Instances, Generalizations, Unifiable}
use Rattle.si_form.specs.Answers.{HasOneSolution}
use Rattle.si_form.proofs.CanonicalLaws.{one_match}
use Rattle.si_form.proofs.UnifierLaws.{one_unifier}
use Rattle.si_form.proofs.SignLaws.{relates_of_canonical}
use Rattle.si_form.proofs.Vocabularies.{with_texts}
use Rattle.si_form.proofs.laws.solutions_are_unique.Goals as goal

pub returns-clause-one : goal.returns-clause-one
returns-clause-one c = one where
  one : (relation : Relation) → HasOneSolution relation
  one Variants p e xs ys h k = one_match with_texts.same with_texts.tells with_texts.itself p e xs ys h.1 k.1
  one Instances p e xs ys h k = one_match with_texts.same with_texts.tells with_texts.itself p e xs ys h k
  one Generalizations p e xs ys h k = one_match with_texts.same with_texts.tells with_texts.itself e p xs ys h k
  one Unifiable p e xs ys h k = one_unifier with_texts.same with_texts.tells with_texts.itself p e xs ys h k

pub returns-clause-related : goal.returns-clause-related
returns-clause-related c = λ relation p e list h. relates_of_canonical with_texts relation p e list h
