-- A run that is called with one empty word and has no input writes no more than nine bytes.
use Rattle.std.proofs.Common.{◌≡◌, ℕ, ◌≤◌, inl, inr, Bool, List, [], ◌∷◌, ◌++◌, Option, None, Some, length, refl, ap, ◌∙◌, subst, arith, length-append}
use Rattle.si_defs.specs.Bytes.{Bytes}
use Rattle.si_io.specs.Content.{Takes}
use Rattle.si_state.specs.States.{State, empty_state}
use Rattle.si_state.specs.Harvest.{Files}
use Rattle.si_steps.specs.FileWords.{WordStep, nameless, named, right_word, no_memory}
use Rattle.si_steps.specs.Loads.{Owed}
use Rattle.si_steps.specs.Replies.{Reply, syntax_line}
use Rattle.si_steps.specs.Runs.{Request, Run, Acts, IsOutputTo, SplitsLines, a_word, ended, requests, lines_at_end}
use Rattle.si_steps.specs.Settings.{Setting, setting_of}
use Rattle.si_steps.specs.declared.limits.Limits.{Limits}
use Rattle.si_serve.specs.Serve.{MayWrite, HasRoomForOutputs}
use Rattle.si_serve.specs.Words.{IsReadAsSaid, asked_by}
use Rattle.si_serve.proofs.PlainWords.{plain_read}

abbrev empty_word : List Bytes
empty_word = [] ∷ []

-- nothing is taken where nothing is left
took_nothing : (taken : Bytes) (now : Option Bytes) → Takes (Some []) taken now → taken ≡ []
took_nothing [] now h = refl
took_nothing (b ∷ bs) None h = absurd cc
took_nothing (b ∷ bs) (Some rest) h = absurd cc

no_lines : (lines : List Bytes) (rest : Bytes) → [] ≡ ended lines ++ rest → (lines ≡ []) × (rest ≡ [])
no_lines [] [] e = (refl, refl)
no_lines [] (c ∷ cs) e = absurd cc
no_lines ([] ∷ lines) rest e = absurd cc
no_lines ((b ∷ bs) ∷ lines) rest e = absurd cc

refused : (setting : Setting) (told : Option Files) (state : State) (reply : Reply) (due : Owed) (new : State) → WordStep setting told state [] reply due new → reply ≡ syntax_line ∷ []
refused setting told state reply due new (right_word (nameless fails is owes stays)) = is
refused setting told state reply due new (right_word (named holds performs)) = absurd cc
refused setting told state reply due new (no_memory holds is owes stays) = absurd cc

-- the word is the last request of the run, and its reply is all that is written
all_written :
    (setting : Setting) (told : Option Files) (strict : Bool) (done : List Request) (last : Request) (others : List Request)
    (before output : Bytes) (less due : Owed) (state new : State) (reply : Reply)
    → done ++ last ∷ others ≡ a_word [] ∷ []
    → Run setting told strict empty_state done before less state
    → Acts setting told state last reply due new
    → output ≡ before ++ ended reply
    → length output ≡ 9
all_written setting told strict [] last others before output less due state new reply e run acts whole =
    let same : last ≡ a_word [] = cc in
    let is = refused setting told state reply due new (subst (λ l. Acts setting told state l reply due new) same acts) in
    ap length (whole ∙ ap (λ b. b ++ ended reply) run.0 ∙ ap ended is)
all_written setting told strict (d ∷ done) last others before output less due state new reply e run acts whole =
    absurd (omega (arith, ap length e, length-append done (last ∷ others)))

nine_bytes : (setting : Setting) (told : Option Files) (strict : Bool) (reply : Reply) (output : Bytes) (owed : Owed) → IsOutputTo setting told strict (requests empty_word []) reply output owed → length output ≡ 9
nine_bytes setting told strict reply output owed p =
    all_written setting told strict p.done p.last p.others p.before output p.less p.due p.state p.new reply p.front p.run p.acts p.whole

may_write :
    (setting : Setting) (told : Option Files) (strict : Bool) (files lines : List Bytes) (taken rest : Bytes) (now : Option Bytes) (reply : Reply) (output : Bytes) (owed : Owed)
    → files ≡ empty_word
    → (lines ≡ []) × (rest ≡ [])
    → MayWrite setting told strict files taken lines rest now reply output owed
    → length output ≡ 9
may_write setting told strict files lines taken rest now reply output owed words ends (inl output_to) =
    nine_bytes setting told strict reply output owed
    (subst (λ ls. IsOutputTo setting told strict (requests empty_word ls) reply output owed) ends.0
    (subst (λ ws. IsOutputTo setting told strict (requests ws lines) reply output owed) words output_to))
may_write setting told strict files lines taken rest now reply output owed words ends (inr met) =
    nine_bytes setting told strict reply output owed
    (subst (λ ls. IsOutputTo setting told strict (requests empty_word (lines_at_end ls [])) reply output owed) ends.0
    (subst (λ r. IsOutputTo setting told strict (requests empty_word (lines_at_end lines r)) reply output owed) ends.1
    (subst (λ ws. IsOutputTo setting told strict (requests ws (lines_at_end lines rest)) reply output owed) words met.1)))

pub room_for_nine : (limits : Limits) (told : Option Files) (may_fail : Bool) (room : ℕ) → 9 ≤ room → HasRoomForOutputs limits told empty_word may_fail (Some []) room
room_for_nine limits told may_fail room enough =
    let read : IsReadAsSaid empty_word = plain_read empty_word (omega arith) (inl refl) in
    record {
      usage = λ declined. absurd (let taken = read.0 in cc);
      outputs = λ taken now lines rest reply output owed takes within splits may owes.
          let ends = no_lines lines rest (subst (λ t. t ≡ ended lines ++ rest) (took_nothing taken now takes) splits.whole) in
          omega (arith, enough, may_write (setting_of limits) told (asked_by empty_word).strict (asked_by empty_word).files lines taken rest now reply output owed (ap (λ a. a.files) read.1) ends may);
    }
