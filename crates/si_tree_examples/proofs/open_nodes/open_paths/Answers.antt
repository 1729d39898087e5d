use Rattle.si_tree_examples.proofs.OpenNodesProved.{open_for_instances, constant_variable, only_generalization, open_for_variants, no_two_for_one, closed_by_head}
use Rattle.si_tree_examples.proofs.open_nodes.open_paths.Goals as goal

pub returns-clause-open_for_instances : goal.returns-clause-open_for_instances
returns-clause-open_for_instances c = open_for_instances

pub returns-clause-constant_variable : goal.returns-clause-constant_variable
returns-clause-constant_variable c = constant_variable

pub returns-clause-only_generalization : goal.returns-clause-only_generalization
returns-clause-only_generalization c = only_generalization

pub returns-clause-open_for_variants : goal.returns-clause-open_for_variants
returns-clause-open_for_variants c = open_for_variants

pub returns-clause-no_two_for_one : goal.returns-clause-no_two_for_one
returns-clause-no_two_for_one c = no_two_for_one

pub returns-clause-closed_by_head : goal.returns-clause-closed_by_head
returns-clause-closed_by_head c = closed_by_head
