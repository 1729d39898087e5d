use Rattle.si_tree_examples.proofs.KeptProved.{one_clause, no_forgotten_subterm, no_swapped_trees, two_clauses, no_forgotten_clause}
use Rattle.si_tree_examples.proofs.kept.kept_clauses.Goals as goal

pub returns-clause-one_clause : goal.returns-clause-one_clause
returns-clause-one_clause c = one_clause

pub returns-clause-no_forgotten_subterm : goal.returns-clause-no_forgotten_subterm
returns-clause-no_forgotten_subterm c = no_forgotten_subterm

pub returns-clause-no_swapped_trees : goal.returns-clause-no_swapped_trees
returns-clause-no_swapped_trees c = no_swapped_trees

pub returns-clause-two_clauses : goal.returns-clause-two_clauses
returns-clause-two_clauses c = two_clauses

pub returns-clause-no_forgotten_clause : goal.returns-clause-no_forgotten_clause
returns-clause-no_forgotten_clause c = no_forgotten_clause
