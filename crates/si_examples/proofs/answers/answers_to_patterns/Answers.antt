use Rattle.std.proofs.Common.{refl, arith, [], ◌∷◌}
use Rattle.std.proofs.lemmas.Fmt.{decimal_digit}
use Rattle.si_examples.specs.Answers.{hit}
use Rattle.si_examples.proofs.OneClause.{one_hit, counts_one, no_answer_unreported, none_left_out, not_twice, no_generalization}
use Rattle.si_examples.proofs.answers.answers_to_patterns.Goals as goal

pub returns-clause-one_hit : goal.returns-clause-one_hit
returns-clause-one_hit c = one_hit

pub returns-clause-answered_pattern : goal.returns-clause-answered_pattern
returns-clause-answered_pattern c setting = (hit ∷ [], one_hit, rw (decimal_digit 1 (omega arith)) refl, refl)

pub returns-clause-explained_pattern : goal.returns-clause-explained_pattern
returns-clause-explained_pattern c setting = (2, 3, 1, counts_one, rw (decimal_digit 2 (omega arith), decimal_digit 3 (omega arith), decimal_digit 1 (omega arith)) refl, refl)

pub returns-clause-no_answer_unreported : goal.returns-clause-no_answer_unreported
returns-clause-no_answer_unreported c = no_answer_unreported

pub returns-clause-no_hit_left_out : goal.returns-clause-no_hit_left_out
returns-clause-no_hit_left_out c = none_left_out

pub returns-clause-no_hit_twice : goal.returns-clause-no_hit_twice
returns-clause-no_hit_twice c = not_twice

pub returns-clause-no_generalization : goal.returns-clause-no_generalization
returns-clause-no_generalization c = no_generalization
