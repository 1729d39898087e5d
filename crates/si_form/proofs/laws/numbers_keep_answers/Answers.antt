use Rattle.si_form.proofs.NumberingLaws.{answers_are_kept}
use Rattle.si_form.proofs.SignLaws.{signs_are_told, sides_are_told}
use Rattle.si_form.proofs.SolutionLaws.{atoms_are_answered}
use Rattle.si_form.proofs.laws.numbers_keep_answers.Goals as goal

pub returns-clause-answers : goal.returns-clause-answers
returns-clause-answers c = answers_are_kept

pub returns-clause-signs : goal.returns-clause-signs
returns-clause-signs c = signs_are_told

pub returns-clause-sides : goal.returns-clause-sides
returns-clause-sides c = sides_are_told

pub returns-clause-atoms : goal.returns-clause-atoms
returns-clause-atoms c = atoms_are_answered
