use Rattle.std.proofs.Common.{[], ◌∷◌, codes, refl}
use Rattle.si_state.specs.States.{empty_state}
use Rattle.si_steps.specs.FileWords.{nameless, right_word}
use Rattle.si_steps.specs.Runs.{a_word, a_line}
use Rattle.si_steps.specs.Loads.{nothing}
use Rattle.si_steps.specs.Steps.{silent, right}
use Rattle.si_examples.proofs.OneStep.{one_space}
use Rattle.si_examples.proofs.OneRun.{added_and_found}
use Rattle.si_examples.proofs.runs.whole_runs.Goals as goal

pub returns-clause-added_and_found : goal.returns-clause-added_and_found
returns-clause-added_and_found c = added_and_found

pub returns-clause-no_output : goal.returns-clause-no_output
returns-clause-no_output c = λ setting told strict w. (empty_state, ([], nothing, empty_state, [], nothing, right (silent (w, one_space) refl refl refl), (λ s. refl), (refl, refl, refl), refl, refl))

pub returns-clause-empty_word_ends : goal.returns-clause-empty_word_ends
returns-clause-empty_word_ends c = λ setting told. record {
  done = [];
  last = a_word [];
  others = a_word (codes "a.p") ∷ a_line (codes "stats") ∷ [];
  front = refl;
  before = [];
  less = nothing;
  state = empty_state;
  run = (refl, refl, refl);
  due = nothing;
  new = empty_state;
  acts = right_word (nameless refl refl refl refl);
  whole = refl;
  counted = refl;
}
