-- A word of the program's call that names a file: its reply and the state after it (this project's
-- profile).
use Rattle.std.specs.Prelude.{◌≡◌, ◌&&◌, ◌==◌, [], ◌∷◌, Bool, not, length, Option, IsTrue, IsFalse}
use Rattle.std.specs.List.{list_all}
use Rattle.si_defs.specs.Bytes.{Bytes, is_printable}
use Rattle.si_state.specs.States.{State}
use Rattle.si_state.specs.Harvest.{Files}
use Rattle.si_steps.specs.Settings.{Setting}
use Rattle.si_steps.specs.Replies.{Reply, syntax_line, memory_line}
use Rattle.si_steps.specs.Loads.{Owed, nothing, OwesFetches, PerformsLoad}

-- it isn't empty, and each byte is one that may stand between quotes
abbrev pub names_file : Bytes → Bool
names_file word = not (length word == 0) && list_all is_printable word

-- The right reply to a word, what the reply owes to the library, and the right state after it. A
-- word that can't name a file is refused; any other is loaded.
pub data RightWord (setting : Setting) (told : Option Files) (state : State) (word : Bytes)
    (reply : Reply) (owed : Owed) (new : State) : Type 0 where
  nameless : IsFalse (names_file word) → reply ≡ syntax_line ∷ [] → owed ≡ nothing → new ≡ state
      → RightWord setting told state word reply owed new
  named : IsTrue (names_file word) → PerformsLoad setting told word state reply owed new
      → RightWord setting told state word reply owed new

-- The step is right, or memory runs out at a load, and the state stays.
pub data WordStep (setting : Setting) (told : Option Files) (state : State) (word : Bytes)
    (reply : Reply) (owed : Owed) (new : State) : Type 0 where
  right_word : RightWord setting told state word reply owed new
      → WordStep setting told state word reply owed new
  no_memory : IsTrue (names_file word) → reply ≡ memory_line ∷ []
      → OwesFetches setting told word state owed → new ≡ state
      → WordStep setting told state word reply owed new
