use Rattle.si_examples.proofs.DeepTexts.{bracketed_formula, deepest_nesting, no_deeper_nesting}
use Rattle.si_examples.proofs.grammar.nestings.Goals as goal

pub returns-clause-bracketed_formula : goal.returns-clause-bracketed_formula
returns-clause-bracketed_formula c = bracketed_formula

pub returns-clause-deepest_nesting : goal.returns-clause-deepest_nesting
returns-clause-deepest_nesting c = deepest_nesting

pub returns-clause-no_deeper_nesting : goal.returns-clause-no_deeper_nesting
returns-clause-no_deeper_nesting c = no_deeper_nesting
