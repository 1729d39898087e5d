-- Runs stay consistent, and of right replies to some requests there is at most one list.
use Rattle.std.proofs.Common.{◌≡◌, Bool, List, [], ◌∷◌, Option, Some, sym, ◌∙◌, subst}
use Rattle.si_defs.specs.Bytes.{Bytes}
use Rattle.si_state.specs.States.{State, empty_state}
use Rattle.si_state.specs.Harvest.{Files}
use Rattle.si_steps.specs.Settings.{Setting}
use Rattle.si_steps.specs.Loads.{Owed}
use Rattle.si_steps.specs.Replies.{Reply}
use Rattle.si_steps.specs.Steps.{Step, right, memory_at_once, memory_behind}
use Rattle.si_steps.specs.FileWords.{RightWord, nameless, named, WordStep, right_word, no_memory}
use Rattle.si_steps.specs.Runs.{Request, a_word, a_line, Acts, Run}
use Rattle.si_laws.specs.OneReply.{IsConsistent, OneRightWord, ReportsNoFailure, RightlyActs, RightRun, AreAlikeAt, AreAllAlike, OneRightRun}
use Rattle.si_laws.proofs.CommandLaws.{one_meaning}
use Rattle.si_laws.proofs.OutcomeLaws.{step_stays, load_stays, one_load}
use Rattle.si_laws.proofs.StateLaws.{consistent_none}
use Rattle.si_laws.proofs.StepLaws.{one_step}

-- ---- words
right_word_stays : (setting : Setting) (told : Option Files) (state : State) (word : Bytes) (reply : Reply) (owed : Owed) (new : State) → IsConsistent state → RightWord setting told state word reply owed new → IsConsistent new
right_word_stays setting told state word reply owed new is (nameless none said owes stays) = subst IsConsistent (sym stays) is
right_word_stays setting told state word reply owed new is (named names performs) = load_stays setting told word state reply owed new is performs

word_stays : (setting : Setting) (told : Option Files) (state : State) (word : Bytes) (reply : Reply) (owed : Owed) (new : State) → IsConsistent state → WordStep setting told state word reply owed new → IsConsistent new
word_stays setting told state word reply owed new is (right_word step) = right_word_stays setting told state word reply owed new is step
word_stays setting told state word reply owed new is (no_memory names said owes stays) = subst IsConsistent (sym stays) is

pub one_word : (setting : Setting) (files : Files) (state : State) (word : Bytes) → IsConsistent state → OneRightWord setting files state word
one_word setting files state word is reply other owed due new behind (nameless none said owes stays) (nameless none_too said_too owes_too stays_too) a b =
    (said ∙ sym said_too, owes ∙ sym owes_too, stays ∙ sym stays_too)
one_word setting files state word is reply other owed due new behind (nameless none said owes stays) (named names performs) a b = cc
one_word setting files state word is reply other owed due new behind (named names performs) (nameless none said owes stays) a b = cc
one_word setting files state word is reply other owed due new behind (named names performs) (named names_too performs_too) a b =
    one_load setting files word state is reply other owed due new behind performs performs_too a b

-- ---- lines
any_step_stays : (setting : Setting) (told : Option Files) (state : State) (line : Bytes) (reply : Reply) (owed : Owed) (new : State) → IsConsistent state → Step setting told state line reply owed new → IsConsistent new
any_step_stays setting told state line reply owed new is (right step) = step_stays setting told state line reply owed new is step
any_step_stays setting told state line reply owed new is (memory_at_once noisy short said owes stays) = subst IsConsistent (sym stays) is
any_step_stays setting told state line reply owed new is (memory_behind whole due next step short written left parts some said owes stays) = subst IsConsistent (sym stays) is

-- ---- runs
act_stays : (setting : Setting) (told : Option Files) (state : State) (request : Request) (reply : Reply) (owed : Owed) (new : State) → IsConsistent state → Acts setting told state request reply owed new → IsConsistent new
act_stays setting told state (a_word word) reply owed new is acts = word_stays setting told state word reply owed new is acts
act_stays setting told state (a_line line) reply owed new is acts = any_step_stays setting told state line reply owed new is acts

pub run_stays : (setting : Setting) (told : Option Files) (strict : Bool) (state : State) (requests : List Request) (output : Bytes) (owed : Owed) (new : State) → IsConsistent state → Run setting told strict state requests output owed new → IsConsistent new
run_stays setting told strict state [] output owed new is run = subst IsConsistent (sym run.2) is
run_stays setting told strict state (request ∷ requests) output owed new is (reply, due, next, others, further, acts, goes, run, whole, count) =
    run_stays setting told strict next requests others further new (act_stays setting told state request reply due next is acts) run

right_act_stays : (setting : Setting) (files : Files) (state : State) (request : Request) (reply : Reply) (owed : Owed) (new : State) → IsConsistent state → RightlyActs setting files state request reply owed new → IsConsistent new
right_act_stays setting files state (a_word word) reply owed new is acts = right_word_stays setting (Some files) state word reply owed new is acts
right_act_stays setting files state (a_line line) reply owed new is acts = step_stays setting (Some files) state line reply owed new is acts

one_act : (setting : Setting) (files : Files) (state : State) (request : Request) (reply other : Reply) (owed due : Owed) (new behind : State) → IsConsistent state
    → RightlyActs setting files state request reply owed new → RightlyActs setting files state request other due behind
    → ReportsNoFailure owed → ReportsNoFailure due → AreAlikeAt request reply other × (new ≡ behind)
one_act setting files state (a_word word) reply other owed due new behind is h k a b = let same = one_word setting files state word is reply other owed due new behind h k a b in (same.0, same.2)
one_act setting files state (a_line line) reply other owed due new behind is h k a b = let same = one_step setting files state line is (one_meaning line) reply other owed due new behind h k a b in (same.0, same.2)

-- both lists of replies begin with theirs
replies_begin : (request : Request) (requests : List Request) (replies others rest more : List Reply) (reply other : Reply) → replies ≡ reply ∷ rest → others ≡ other ∷ more
    → AreAlikeAt request reply other → AreAllAlike requests rest more → AreAllAlike (request ∷ requests) replies others
replies_begin request requests replies others rest more reply other e f same left =
    subst (λ l. AreAllAlike (request ∷ requests) l others) (sym e) (subst (AreAllAlike (request ∷ requests) (reply ∷ rest)) (sym f) (same, left))

one_run : (setting : Setting) (files : Files) (state : State) (requests : List Request) (replies others : List Reply) (new behind : State) → IsConsistent state
    → RightRun setting files state requests replies new → RightRun setting files state requests others behind → AreAllAlike requests replies others × (new ≡ behind)
one_run setting files state [] replies others new behind is run again =
    (subst (λ l. AreAllAlike [] l others) (sym run.0) (subst (AreAllAlike [] []) (sym again.0) tt), run.1 ∙ sym again.1)
one_run setting files state (request ∷ requests) replies others new behind is (reply, owed, next, rest, acts, well, run, whole) (told, due, then, more, acts_too, well_too, again, whole_too) =
    let same = one_act setting files state request reply told owed due next then is acts acts_too well well_too in
    let left =
    one_run setting files next requests rest more new behind (right_act_stays setting files state request reply owed next is acts) run
    (subst (λ s. RightRun setting files s requests more behind) (sym same.1) again) in
    (replies_begin request requests replies others rest more reply told whole whole_too same.0 left.0, left.1)

pub one_session : (setting : Setting) (files : Files) (requests : List Request) → OneRightRun setting files requests
one_session setting files requests replies others new behind run again = one_run setting files empty_state requests replies others new behind consistent_none run again
