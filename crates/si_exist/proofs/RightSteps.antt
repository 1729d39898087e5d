-- Each line and each word has a right step, and so each session a right run.
use Rattle.std.proofs.Common.{◌≡◌, Bool, true, false, List, [], ◌∷◌, length, Option, Some, inl, inr, refl}
use Rattle.std.proofs.lemmas.Bool.{cases_lt}
use Rattle.si_defs.specs.Bytes.{Bytes}
use Rattle.si_state.specs.States.{State}
use Rattle.si_state.specs.Harvest.{Files}
use Rattle.si_steps.specs.Settings.{Setting}
use Rattle.si_steps.specs.Commands.{Command, add, load, remove, query, subsumers, subsumed, stats, tree, explain, sample, Means, IsShort, IsSilent, AddsForeign}
use Rattle.si_steps.specs.Loads.{nothing}
use Rattle.si_steps.specs.Replies.{Reply, long_line, language_line, syntax_line}
use Rattle.si_steps.specs.Steps.{long, silent, foreign, wrong, performed, loaded}
use Rattle.si_steps.specs.FileWords.{names_file, nameless, named}
use Rattle.si_steps.specs.Runs.{Request, a_word, a_line}
use Rattle.si_laws.specs.OneReply.{RightlyActs, RightRun}
use Rattle.si_exist.specs.OneList.{IsNotAbsent}
use Rattle.si_exist.specs.RightReplies.{HasOneWithoutFailure, HasRightStep, HasRightWord}
use Rattle.si_exist.proofs.NotAbsent.{there, and_then, either_way}
use Rattle.si_exist.proofs.Outcomes.{HasOutcome, adds, removes, answers, finds_subsumers, finds_subsumed, counts, shows_trees, explains, samples}
use Rattle.si_exist.proofs.Readings.{owes_nothing, load_of}

-- ---- lines
module _ (setting : Setting) (told : Option Files) (state : State) (line : Bytes) (short : IsShort setting.limits line) where
  by_outcome : (command : Command) → Means command line → HasOutcome setting state command → HasRightStep setting told state line
  by_outcome command means outcome = and_then outcome (λ o. there (o.0, nothing, o.1, performed short command means o.2 refl, owes_nothing))

  of_command : (command : Command) → Means command line → HasRightStep setting told state line
  of_command (add c) means = by_outcome (add c) means (adds setting state c)
  of_command (load file) means = and_then (load_of setting told file state) (λ l. there (l.0, l.1, l.2, loaded short file means l.3, l.4))
  of_command (remove name) means = by_outcome (remove name) means (removes setting state name)
  of_command (query relation pattern) means = by_outcome (query relation pattern) means (answers setting state relation pattern)
  of_command (subsumers formula) means = by_outcome (subsumers formula) means (finds_subsumers setting state formula)
  of_command (subsumed formula) means = by_outcome (subsumed formula) means (finds_subsumed setting state formula)
  of_command stats means = by_outcome stats means (counts setting state)
  of_command tree means = by_outcome tree means (shows_trees setting state)
  of_command (explain relation pattern) means = by_outcome (explain relation pattern) means (explains setting state relation pattern)
  of_command (sample start count) means = by_outcome (sample start count) means (samples setting state start count)

pub right_step : (setting : Setting) (told : Option Files) (state : State) (line : Bytes) → HasRightStep setting told state line
right_step setting told state line =
    elim (cases_lt setting.limits.line (length line)) [
      | inl more ↦ there (long_line ∷ [], nothing, state, long more refl refl refl, owes_nothing)
      | inr short ↦
          either_way ((command : Command) × Means command line)
          (λ here.
          elim here [
            | inl c ↦ of_command setting told state line short c.0 c.1
            | inr gone ↦
                either_way (AddsForeign line)
                (λ language.
                elim language [
                  | inl f ↦ there (language_line ∷ [], nothing, state, foreign short f (λ command means. gone (command, means)) refl refl refl, owes_nothing)
                  | inr home ↦
                      either_way (IsSilent setting.limits line)
                      (λ blank.
                      elim blank [
                        | inl quiet ↦ there ([], nothing, state, silent quiet refl refl refl, owes_nothing)
                        | inr loud ↦
                            there (syntax_line ∷ [], nothing, state, wrong short loud home (λ command means. gone (command, means)) refl refl refl, owes_nothing)
                      ])
                ])
          ])
    ]

-- ---- words
pub right_word : (setting : Setting) (told : Option Files) (state : State) (word : Bytes) → HasRightWord setting told state word
right_word setting told state word = by (names_file word) refl
  where
    by : (b : Bool) → names_file word ≡ b → HasRightWord setting told state word
    by false e = there (syntax_line ∷ [], nothing, state, nameless e refl refl refl, owes_nothing)
    by true e = and_then (load_of setting told word state) (λ l. there (l.0, l.1, l.2, named e l.3, l.4))

-- ---- sessions
acts : (setting : Setting) (files : Files) (state : State) (request : Request) → HasOneWithoutFailure (RightlyActs setting files state request)
acts setting files state (a_word word) = right_word setting (Some files) state word
acts setting files state (a_line line) = right_step setting (Some files) state line

pub right_run : (setting : Setting) (files : Files) (state : State) (requests : List Request) → IsNotAbsent ((replies : List Reply) × (new : State) × RightRun setting files state requests replies new)
right_run setting files state [] = there ([], state, (refl, refl))
right_run setting files state (request ∷ requests) =
    and_then (acts setting files state request)
    (λ a.
    and_then (right_run setting files a.2 requests)
    (λ r. there (a.0 ∷ r.0, r.1, (a.0, a.1, a.2, r.0, a.3, a.4, r.2, refl))))
