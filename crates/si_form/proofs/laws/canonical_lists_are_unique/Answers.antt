use Rattle.si_flat.specs.Cells.{same_variable}
use Rattle.si_flat.proofs.VariableLaws.{variable_is, variable_self}
use Rattle.si_form.proofs.CanonicalLaws.{one_match}
use Rattle.si_form.proofs.UnifierLaws.{one_unifier}
use Rattle.si_form.proofs.laws.canonical_lists_are_unique.Goals as goal

pub returns-clause-variants : goal.returns-clause-variants
returns-clause-variants c = λ q e one other h k. one_match same_variable variable_is variable_self q e one other h.1 k.1

pub returns-clause-instances : goal.returns-clause-instances
returns-clause-instances c = λ q e one other h k. one_match same_variable variable_is variable_self q e one other h k

pub returns-clause-generalizations : goal.returns-clause-generalizations
returns-clause-generalizations c = λ q e one other h k. one_match same_variable variable_is variable_self e q one other h k

pub returns-clause-unifiable : goal.returns-clause-unifiable
returns-clause-unifiable c = λ q e one other h k. one_unifier same_variable variable_is variable_self q e one other h k
