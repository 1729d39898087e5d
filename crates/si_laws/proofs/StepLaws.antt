-- A line has at most one right step in a consistent state, where it means one command at most.
use Rattle.std.proofs.Common.{◌≡◌, inl, inr, List, [], ◌∷◌, Option, Some, sym, ◌∙◌, subst, arith}
use Rattle.si_defs.specs.Bytes.{Bytes}
use Rattle.si_defs.specs.Tokens.{Token, lower, AreBlanks, Begins}
use Rattle.si_defs.specs.Grammar.{left_bracket}
use Rattle.si_steps.specs.Words.{command_text}
use Rattle.si_steps.specs.declared.word.Word.TheVariants.{Add}
use Rattle.si_lex.proofs.TokenLaws.{blanks_none}
use Rattle.si_state.specs.States.{State}
use Rattle.si_state.specs.Harvest.{Files}
use Rattle.si_steps.specs.declared.limits.Limits.{Limits}
use Rattle.si_steps.specs.Settings.{Setting}
use Rattle.si_steps.specs.Commands.{Command, load, command_word, Means, IsLong, IsShort, IsSilent, AddsForeign}
use Rattle.si_steps.specs.Replies.{Reply}
use Rattle.si_steps.specs.Loads.{Owed, nothing, PerformsLoad}
use Rattle.si_steps.specs.Steps.{Performs, RightStep, long, silent, foreign, wrong, performed, loaded}
use Rattle.si_laws.specs.OneReply.{IsConsistent, AreAlikeTo, HasOneMeaning, OneRightStep, LoadsNothing, OneStepOfAnyLibrary}
use Rattle.si_laws.proofs.OutcomeLaws.{one_outcome, one_load}

-- ---- blanks are nothing else
begins_some : (line : Bytes) (t : Token) (ts : List Token) (rest : Bytes) → Begins line (t ∷ ts) rest → AreBlanks line → ⊥
begins_some line t ts rest h blanks = blanks_none line blanks t h.0 h.1

not_both : (limits : Limits) (line : Bytes) → IsLong limits line → IsShort limits line → ⊥
not_both limits line more short = absurd (omega (arith, more, short))

silent_no_foreign : (limits : Limits) (line : Bytes) → IsSilent limits line → AddsForeign line → ⊥
silent_no_foreign limits line quiet (language, rest, among, begins) = begins_some line (lower (command_text Add)) (lower language ∷ left_bracket ∷ []) rest begins quiet.1

silent_no_command : (limits : Limits) (line : Bytes) → IsSilent limits line → (command : Command) → Means command line → ⊥
silent_no_command limits line quiet command means =
    begins_some line (lower (command_text (command_word command))) means.spelled.operands means.consists.rest (subst (λ ts. Begins line ts means.consists.rest) means.spelled.whole means.consists.begins) quiet.1

-- ---- two steps
load_is : (file name : Bytes) → load file ≡ load name → file ≡ name
load_is file name e = cc

-- they are the same where two loads are
module _ (setting : Setting) (told tell : Option Files) (state : State) (line : Bytes) (is : IsConsistent state) (one : HasOneMeaning line)
    (reply other : Reply) (owed due : Owed) (new behind : State)
    (loads : (file : Bytes) → Means (load file) line → PerformsLoad setting told file state reply owed new → PerformsLoad setting tell file state other due behind → (reply ≡ other) × (owed ≡ due) × (new ≡ behind)) where
  same : (r : Reply) → reply ≡ r → other ≡ r → owed ≡ nothing → due ≡ nothing → new ≡ state → behind ≡ state → AreAlikeTo line reply other × (owed ≡ due) × (new ≡ behind)
  same r a b d e n m = (inl (a ∙ sym b), d ∙ sym e, n ∙ sym m)

  -- a load is not performed as another command
  no_load : (command : Command) (file : Bytes) (r : Reply) (n : State) → Means command line → Means (load file) line → Performs setting command state r n → ⊥
  no_load command file r n means load_means performs = subst (λ c. Performs setting c state r n) (one command (load file) means load_means) performs

  pub two_steps : RightStep setting told state line reply owed new → RightStep setting tell state line other due behind → AreAlikeTo line reply other × (owed ≡ due) × (new ≡ behind)
  two_steps (long h r d n) (long k s e m) = same _ r s d e n m
  two_steps (long h r d n) (silent k s e m) = absurd (not_both setting.limits line h k.0)
  two_steps (long h r d n) (foreign p k never s e m) = absurd (not_both setting.limits line h p)
  two_steps (long h r d n) (wrong p noisy home never s e m) = absurd (not_both setting.limits line h p)
  two_steps (long h r d n) (performed p again means_too performs_too e) = absurd (not_both setting.limits line h p)
  two_steps (long h r d n) (loaded p name means_too performs_too) = absurd (not_both setting.limits line h p)
  two_steps (silent h r d n) (long k s e m) = absurd (not_both setting.limits line k h.0)
  two_steps (silent h r d n) (silent k s e m) = same _ r s d e n m
  two_steps (silent h r d n) (foreign p k never s e m) = absurd (silent_no_foreign setting.limits line h k)
  two_steps (silent h r d n) (wrong p noisy home never s e m) = absurd (noisy h)
  two_steps (silent h r d n) (performed p again means_too performs_too e) = absurd (silent_no_command setting.limits line h again means_too)
  two_steps (silent h r d n) (loaded p name means_too performs_too) = absurd (silent_no_command setting.limits line h (load name) means_too)
  two_steps (foreign o h none r d n) (long k s e m) = absurd (not_both setting.limits line k o)
  two_steps (foreign o h none r d n) (silent k s e m) = absurd (silent_no_foreign setting.limits line k h)
  two_steps (foreign o h none r d n) (foreign p k never s e m) = same _ r s d e n m
  two_steps (foreign o h none r d n) (wrong p noisy home never s e m) = absurd (home h)
  two_steps (foreign o h none r d n) (performed p again means_too performs_too e) = absurd (none again means_too)
  two_steps (foreign o h none r d n) (loaded p name means_too performs_too) = absurd (none (load name) means_too)
  two_steps (wrong o loud own none r d n) (long k s e m) = absurd (not_both setting.limits line k o)
  two_steps (wrong o loud own none r d n) (silent k s e m) = absurd (loud k)
  two_steps (wrong o loud own none r d n) (foreign p k never s e m) = absurd (own k)
  two_steps (wrong o loud own none r d n) (wrong p noisy home never s e m) = same _ r s d e n m
  two_steps (wrong o loud own none r d n) (performed p again means_too performs_too e) = absurd (none again means_too)
  two_steps (wrong o loud own none r d n) (loaded p name means_too performs_too) = absurd (none (load name) means_too)
  two_steps (performed o command means performs d) (long k s e m) = absurd (not_both setting.limits line k o)
  two_steps (performed o command means performs d) (silent k s e m) = absurd (silent_no_command setting.limits line k command means)
  two_steps (performed o command means performs d) (foreign p k never s e m) = absurd (never command means)
  two_steps (performed o command means performs d) (wrong p noisy home never s e m) = absurd (never command means)
  two_steps (performed o command means performs d) (performed p again means_too performs_too e) =
      let outcome =
      one_outcome setting command state is reply other new behind performs
      (subst (λ c. Performs setting c state other behind) (one again command means_too means) performs_too) in
      (inr (command, means, outcome.0), d ∙ sym e, outcome.1)
  two_steps (performed o command means performs d) (loaded p name means_too performs_too) = absurd (no_load command name reply new means means_too performs)
  two_steps (loaded o file means performs) (long k s e m) = absurd (not_both setting.limits line k o)
  two_steps (loaded o file means performs) (silent k s e m) = absurd (silent_no_command setting.limits line k (load file) means)
  two_steps (loaded o file means performs) (foreign p k never s e m) = absurd (never (load file) means)
  two_steps (loaded o file means performs) (wrong p noisy home never s e m) = absurd (never (load file) means)
  two_steps (loaded o file means performs) (performed p again means_too performs_too e) = absurd (no_load again file other behind means_too means performs_too)
  two_steps (loaded o file means performs) (loaded p name means_too performs_too) =
      let load_one =
      loads file means performs
      (subst (λ f. PerformsLoad setting tell f state other due behind) (load_is name file (one (load name) (load file) means_too means)) performs_too) in
      (inl load_one.0, load_one.1, load_one.2)

pub one_step : (setting : Setting) (files : Files) (state : State) (line : Bytes) → IsConsistent state → HasOneMeaning line → OneRightStep setting files state line
one_step setting files state line is one reply other owed due new behind step step_too a b =
    two_steps setting (Some files) (Some files) state line is one reply other owed due new behind
    (λ file means h k. one_load setting files file state is reply other owed due new behind h k a b) step step_too

pub one_step_without_load : (setting : Setting) (state : State) (line : Bytes) → IsConsistent state → HasOneMeaning line → LoadsNothing line → OneStepOfAnyLibrary setting state line
one_step_without_load setting state line is one none told tell reply other owed due new behind step step_too =
    two_steps setting told tell state line is one reply other owed due new behind (λ file means h k. absurd (none file means)) step step_too
