use Rattle.std.proofs.Common.{refl, arith}
use Rattle.std.proofs.lemmas.Fmt.{decimal_digit}
use Rattle.si_examples.proofs.steps.shown_trees.Goals as goal

pub returns-clause-shown_trees : goal.returns-clause-shown_trees
returns-clause-shown_trees c setting state = (
  record { nodes = 5; leaves = 3; unmerged = 1 },
  record { nodes = 1; leaves = 0; unmerged = 0 },
  rw (decimal_digit 5 (omega arith), decimal_digit 3 (omega arith), decimal_digit 1 (omega arith), decimal_digit 0 (omega arith)) refl,
  refl,
)

pub returns-clause-no_tree_alone : goal.returns-clause-no_tree_alone
returns-clause-no_tree_alone c setting state new line (literals, terms, said, stays) = cc
