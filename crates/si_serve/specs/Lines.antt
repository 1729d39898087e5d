-- What the line buffer shows of itself.
use Rattle.std.specs.Prelude.{◌≡◌, ℕ, ◌+◌, ◌<◌, ◌∷◌, ◌++◌, length, take, drop}
use Rattle.si_defs.specs.Bytes.{Bytes}
use Rattle.si_steps.specs.Runs.{IsOneLine}
use Rattle.si_serve.specs.declared.lines.Pending.{Pending}

-- what is held of the line that was begun
abbrev pub held_of : Pending → Bytes
held_of pending = pending.buffer.items

-- bytes that a line may have
abbrev pub limit_of : Pending → ℕ
limit_of pending = pending.limit

-- The first line feed stands at this place.
pub record IsLineEnd (bytes : Bytes) (at : ℕ) : Type 0 where
  pub within : at < length bytes
  pub line : IsOneLine (take at bytes)
  pub parts : bytes ≡ take at bytes ++ 10 ∷ drop (at + 1) bytes
