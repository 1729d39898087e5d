use Rattle.si_tree_examples.proofs.SharedProved.{adds_second, no_other_key_added, removes_second, no_other_key_removed}
use Rattle.si_tree_examples.proofs.kept.changed_clauses.Goals as goal

pub returns-clause-adds_second : goal.returns-clause-adds_second
returns-clause-adds_second c = adds_second

pub returns-clause-no_other_key_added : goal.returns-clause-no_other_key_added
returns-clause-no_other_key_added c = no_other_key_added

pub returns-clause-removes_second : goal.returns-clause-removes_second
returns-clause-removes_second c = removes_second

pub returns-clause-no_other_key_removed : goal.returns-clause-no_other_key_removed
returns-clause-no_other_key_removed c = no_other_key_removed
