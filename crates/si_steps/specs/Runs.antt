-- A run over the words of the program's call and the lines of its input, and the replies one after
-- the other (this project's profile).
use Rattle.std.specs.Prelude.{◌≡◌, ◌==◌, Bool, Option, List, [], ◌∷◌, ◌++◌, map, IsTrue, IsFalse}
use Rattle.std.specs.List.{list_any, AllByRecursion}
use Rattle.si_defs.specs.Bytes.{Bytes}
use Rattle.si_state.specs.States.{State, empty_state}
use Rattle.si_steps.specs.Settings.{Setting}
use Rattle.si_steps.specs.Replies.{Reply, is_refusal}
use Rattle.si_state.specs.Harvest.{Files}
use Rattle.si_steps.specs.Loads.{Owed, nothing, together}
use Rattle.si_steps.specs.Steps.{Step}
use Rattle.si_steps.specs.FileWords.{WordStep}

-- lines, each with its line feed
abbrev pub ended : List Bytes → Bytes
ended [] = []
ended (line ∷ lines) = line ++ 10 ∷ ended lines

-- no line feed stands in it
abbrev pub IsOneLine : Bytes → Type 0
IsOneLine line = IsFalse (list_any (λ c. c == 10) line)

-- the bytes are these lines, each with its line feed, and then a rest without one
pub record SplitsLines (bytes : Bytes) (lines : List Bytes) (rest : Bytes) : Type 0 where
  pub whole : bytes ≡ ended lines ++ rest
  pub each : AllByRecursion IsOneLine lines
  pub last : IsOneLine rest

-- the lines of an input that was read to its end: a last part without a line feed is one if it is
-- not empty
abbrev pub lines_at_end : List Bytes → Bytes → List Bytes
lines_at_end lines [] = lines
lines_at_end lines (c ∷ cs) = lines ++ (c ∷ cs) ∷ []

-- what a session acts on: a word that names a file, or a line
pub data Request : Type 0 where
  a_word a_line : Bytes → Request

-- first the words, and then the lines
abbrev pub requests : (words lines : List Bytes) → List Request
requests words lines = map a_word words ++ map a_line lines

-- what is done at a request
abbrev pub Acts : Setting → Option Files → State → Request → Reply → Owed → State → Type 0
Acts setting told state (a_word word) reply owed new =
    WordStep setting told state word reply owed new
Acts setting told state (a_line line) reply owed new = Step setting told state line reply owed new

-- a strict run doesn't go on after a refusal
abbrev pub GoesOn : (strict : Bool) → Reply → Type 0
GoesOn strict reply = IsTrue strict → IsFalse (is_refusal reply)

-- From this state on the requests have this output, which owes so much to the library, and the new
-- state stands after them. The run goes on after each.
abbrev pub Run : Setting → Option Files → (strict : Bool) → State → List Request → Bytes → Owed
    → State → Type 0
Run setting told strict state [] output owed new =
    (output ≡ []) × (owed ≡ nothing) × (new ≡ state)
Run setting told strict state (request ∷ requests) output owed new =
    (reply : Reply) × (due : Owed) × (next : State) × (others : Bytes) × (further : Owed)
    × Acts setting told state request reply due next × GoesOn strict reply
    × Run setting told strict next requests others further new
    × (output ≡ ended reply ++ others) × (owed ≡ together due further)

-- the output of a session over all these requests, which begins with the empty state, and what it
-- owes to the library
abbrev pub IsOutput : Setting → Option Files → (strict : Bool) → List Request → Bytes → Owed
    → Type 0
IsOutput setting told strict requests output owed =
    (new : State) × Run setting told strict empty_state requests output owed new

-- The output of such a session over the first of these requests. It ends with this reply, after
-- which the run need not go on.
pub record IsOutputTo (setting : Setting) (told : Option Files) (strict : Bool)
    (requests : List Request) (reply : Reply) (output : Bytes) (owed : Owed) : Type 0 where
  pub done : List Request
  pub last : Request
  pub others : List Request
  pub front : done ++ last ∷ others ≡ requests
  pub before : Bytes
  pub less : Owed
  pub state : State
  pub run : Run setting told strict empty_state done before less state
  pub due : Owed
  pub new : State
  pub acts : Acts setting told state last reply due new
  pub whole : output ≡ before ++ ended reply
  pub counted : owed ≡ together less due
