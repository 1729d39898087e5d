use Rattle.si_examples.proofs.OneLine.{added_line, comment_behind_word, no_kind_of_pattern, tree_line, explained_query, no_tree_of_term, no_relation_to_explain, no_empty_sample, own_language_added}
use Rattle.si_examples.proofs.lines.commands.Goals as goal

pub returns-clause-added_line : goal.returns-clause-added_line
returns-clause-added_line c = added_line

pub returns-clause-comment_behind_word : goal.returns-clause-comment_behind_word
returns-clause-comment_behind_word c = comment_behind_word

pub returns-clause-no_kind_of_pattern : goal.returns-clause-no_kind_of_pattern
returns-clause-no_kind_of_pattern c = no_kind_of_pattern

pub returns-clause-tree_line : goal.returns-clause-tree_line
returns-clause-tree_line c = tree_line

pub returns-clause-explained_query : goal.returns-clause-explained_query
returns-clause-explained_query c = explained_query

pub returns-clause-no_tree_of_term : goal.returns-clause-no_tree_of_term
returns-clause-no_tree_of_term c = no_tree_of_term

pub returns-clause-no_relation_to_explain : goal.returns-clause-no_relation_to_explain
returns-clause-no_relation_to_explain c = no_relation_to_explain

pub returns-clause-own_language_added : goal.returns-clause-own_language_added
returns-clause-own_language_added c = own_language_added

pub returns-clause-no_empty_sample : goal.returns-clause-no_empty_sample
returns-clause-no_empty_sample c = no_empty_sample
