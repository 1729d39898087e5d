use Rattle.std.proofs.Common.{[], inl, inr, refl, arith}
use Rattle.si_screen.proofs.RowLaws.{no_bits, adds_none, added_all}
use Rattle.si_screen.proofs.examples.rows_of_clauses.Goals as goal

pub returns-clause-heads_of_negation : goal.returns-clause-heads_of_negation
returns-clause-heads_of_negation c = refl

pub returns-clause-heads_of_two : goal.returns-clause-heads_of_two
returns-clause-heads_of_two c = refl

pub returns-clause-heads_of_lacked : goal.returns-clause-heads_of_lacked
returns-clause-heads_of_lacked c = refl

pub returns-clause-same_bit : goal.returns-clause-same_bit
returns-clause-same_bit c = refl

pub returns-clause-no_bit : goal.returns-clause-no_bit
returns-clause-no_bit c = added_all [] no_bits (adds_none no_bits)

pub returns-clause-lacking_bit : goal.returns-clause-lacking_bit
returns-clause-lacking_bit c h = (h 2 (omega arith)).1 (inr (inl refl)) refl

pub returns-clause-stray_bit : goal.returns-clause-stray_bit
returns-clause-stray_bit c h = (h 0 (omega arith)).0 (λ e. omega (arith, e))
