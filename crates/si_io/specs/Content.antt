-- The bytes that a source has left and those that a sink was given. A device that doesn't tell them
-- has None.
use Rattle.std.specs.Prelude.{◌≡◌, ℕ, ◌-◌, ◌<◌, ◌≤◌, List, ◌++◌, length, take, Option, None, Some, Result, IsOkAnd}

-- What a sink tells of itself: the bytes that it was given, and how many more it is sure to take.
-- While the bytes of a write fit this room, it doesn't fail; a sink that may fail at any call has
-- no room.
pub record Told : Type 0 where
  pub bytes : Option (List ℕ)
  pub room : ℕ

-- what a sink tells that tells nothing
abbrev pub untold : Told
untold = record { bytes = None; room = 0 }

-- the bytes that it was given, and then bs
abbrev pub bytes_then : Option (List ℕ) → List ℕ → Option (List ℕ)
bytes_then None bs = None
bytes_then (Some ws) bs = Some (ws ++ bs)

-- what is told once bs was given too: the room falls by as many bytes
abbrev pub append_told : Told → List ℕ → Told
append_told old bs = record { bytes = bytes_then old.bytes bs; room = old.room - length bs }

-- bs, and then the told bytes
abbrev pub prepend_told : List ℕ → Option (List ℕ) → Option (List ℕ)
prepend_told bs None = None
prepend_told bs (Some rest) = Some (bs ++ rest)

-- A sink was given bs: it tells what it told before, and then bs.
abbrev pub Receives : Told → List ℕ → Told → Type 0
Receives old bs new = new ≡ append_told old bs

-- A sink failed on the way through bs: it was given the first bytes of bs, and no others, and had
-- no room for all of bs.
pub record ReceivesPrefix (old : Told) (bs : List ℕ) (new : Told) : Type 0 where
  pub count : ℕ
  pub within : count ≤ length bs
  pub given : Receives old (take count bs) new
  pub past_room : old.room < length bs

-- A write takes some of the bytes, if there are any and the room has place for them all.
abbrev pub TakesFitting : {E : Type 0} → ℕ → List ℕ → Result ℕ E → Type 0
TakesFitting room bs result = 0 < length bs → length bs ≤ room → IsOkAnd result (λ n. 0 < n)

-- A source gave bs: what it told before begins with bs, and what it tells now is the rest.
abbrev pub Takes : Option (List ℕ) → List ℕ → Option (List ℕ) → Type 0
Takes old bs new = old ≡ prepend_told bs new
