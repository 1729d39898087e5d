-- What a sink tells that holds bytes, and what the sink below was given since a start.
use Rattle.std.specs.Prelude.{◌≡◌, ℕ, ◌-◌, ◌<◌, ◌^◌, ◌==◌, List, Option, None, Some, OnErr, Result, length, drop, filter, replicate, take}
use Rattle.si_io.specs.Content.{Told, bytes_then, append_told}
use Rattle.si_io.specs.Counts.{raised_by}
use Rattle.si_io.specs.Faults.{HasCause}
use Rattle.si_io.specs.Shown.{SinkShown}

-- the bytes from one place up to another
abbrev pub held : List ℕ → ℕ → ℕ → List ℕ
held bytes start end = drop start (take end bytes)

-- the last byte, where it is a line feed
abbrev pub last_line_feed : List ℕ → List ℕ
last_line_feed bytes = filter (λ byte. byte == 10) (drop (length bytes - 1) bytes)

-- what is told of them, after what the sink below was given
abbrev pub told_with : Told → List ℕ → ℕ → ℕ → Told
told_with below bytes start end = append_told below (held bytes start end)

-- Bytes that were held may have been given to the sink below: what is told and counted of both
-- together is as before. A failure is one of the sink below, which had no room for all of them.
pub record HandsOn {T E : Type 0} (result : Result T E)
    (old : SinkShown) (old_held : List ℕ) (new : SinkShown) (new_held : List ℕ) : Type 0 where
  pub same : append_told new.told new_held ≡ append_told old.told old_held
  pub count : raised_by (length new_held) new.counts.bytes
      ≡ raised_by (length old_held) old.counts.bytes
  pub full : OnErr result (old.told.room < length old_held)
  pub cause : HasCause old.counts.faults new.counts.faults result

-- The count of a sink's own writes, where none are counted: at its end, since one more leaves it
-- there.
abbrev pub uncounted : ℕ
uncounted = 2 ^ 64 - 1

-- What is shown of a sink that holds these bytes: those that are held count as taken.
abbrev pub gathered : SinkShown → List ℕ → (start end : ℕ) → SinkShown
gathered below bytes start end = record {
  told = told_with below.told bytes start end;
  counts = record {
    calls = uncounted;
    bytes = raised_by (length (held bytes start end)) below.counts.bytes;
    faults = below.counts.faults;
  };
}

-- what is shown at the start, over a sink that shows this
abbrev pub begun : SinkShown → SinkShown
begun below = record below { counts = record below.counts { calls = uncounted } }

-- the bytes that were given between these two times, or as many zeros as the room fell by where
-- they aren't told
abbrev pub given_since : Option (List ℕ) → Option (List ℕ) → ℕ → List ℕ
given_since (Some before) (Some now) fallen = drop (length before) now
given_since (Some before) None fallen = replicate fallen 0
given_since None now fallen = replicate fallen 0

-- the same, of what is told at these times
abbrev pub since : Told → Told → List ℕ
since start now = given_since start.bytes now.bytes (start.room - now.room)

-- The bytes now are those of the start, and then some.
abbrev pub HasBytesSince : Told → Told → Type 0
HasBytesSince start now = now.bytes ≡ bytes_then start.bytes (since start now)

-- The room fell by as many.
abbrev pub HasRoomSince : Told → Told → Type 0
HasRoomSince start now = now.room ≡ start.room - length (since start now)
