use Rattle.std.proofs.Common.{refl, arith}
use Rattle.std.proofs.lemmas.Fmt.{decimal_digit, decimal_step}
use Rattle.si_examples.proofs.ReadBack.{read_back_name, no_empty_name}
use Rattle.si_examples.proofs.printing.printed_texts.Goals as goal

pub returns-clause-printed_place : goal.returns-clause-printed_place
returns-clause-printed_place c = rw (decimal_digit 1 (omega arith), decimal_digit 2 (omega arith)) refl

pub returns-clause-printed_literal_place : goal.returns-clause-printed_literal_place
returns-clause-printed_literal_place c = rw (decimal_step 12 (omega arith) (omega arith), decimal_digit 1 (omega arith)) refl

pub returns-clause-no_blank_in_map : goal.returns-clause-no_blank_in_map
returns-clause-no_blank_in_map c = λ h. let g = rw (decimal_digit 2 (omega arith), decimal_digit 1 (omega arith)) at h in cc

pub returns-clause-read_back_name : goal.returns-clause-read_back_name
returns-clause-read_back_name c = read_back_name

pub returns-clause-no_empty_name : goal.returns-clause-no_empty_name
returns-clause-no_empty_name c = no_empty_name
