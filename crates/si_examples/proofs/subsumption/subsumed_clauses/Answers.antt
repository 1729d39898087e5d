use Rattle.std.proofs.Common.{refl, arith, inl, [], ◌∷◌}
use Rattle.std.proofs.lemmas.Fmt.{decimal_digit}
use Rattle.si_state.specs.Subsumption.{MappedClause}
use Rattle.si_examples.specs.Subsumption.{pair}
use Rattle.si_examples.proofs.Images.{two_to_one, skipped_literal, no_common_image, no_other_sign, no_subsumed_reported}
use Rattle.si_examples.proofs.subsumption.subsumed_clauses.Goals as goal

pub returns-clause-two_to_one : goal.returns-clause-two_to_one
returns-clause-two_to_one c = two_to_one

pub returns-clause-skipped_literal : goal.returns-clause-skipped_literal
returns-clause-skipped_literal c = skipped_literal

pub returns-clause-no_common_image : goal.returns-clause-no_common_image
returns-clause-no_common_image c = no_common_image

pub returns-clause-no_other_sign : goal.returns-clause-no_other_sign
returns-clause-no_other_sign c = no_other_sign

pub returns-clause-reported_subsumer : goal.returns-clause-reported_subsumer
returns-clause-reported_subsumer c setting =
    let mapping : MappedClause = record { clause = pair; numbers = 1 ∷ 1 ∷ [] } in
    (mapping ∷ [], inl (1 ∷ 1 ∷ [], [], two_to_one, refl, refl), rw (decimal_digit 1 (omega arith)) refl, refl)

pub returns-clause-no_subsumed_reported : goal.returns-clause-no_subsumed_reported
returns-clause-no_subsumed_reported c = no_subsumed_reported
