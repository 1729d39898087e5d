-- What a text that is written makes of what a sink shows.
use Rattle.std.specs.Prelude.{◌≡◌, ℕ, ◌+◌, ◌-◌, ◌^◌, ◌<◌, ◌≤◌, List, length, Result, OnOk, OnErr}
use Rattle.si_io.specs.declared.counts.SinkCounts.{SinkCounts}
use Rattle.si_io.specs.Content.{Receives, ReceivesPrefix}
use Rattle.si_io.specs.Counts.{raised, raised_by}
use Rattle.si_io.specs.Shown.{SinkShown}

-- The writes in between are no more than the bytes that they took and their faults, unless one of
-- these counts stands at the largest `u64`.
pub record WritesFew (before after : SinkCounts) : Type 0 where
  pub bytes : before.bytes ≤ after.bytes
  pub faults : before.faults ≤ after.faults
  pub calls : after.bytes < 2 ^ 64 - 1 → after.faults < 2 ^ 64 - 1
      → after.calls + before.bytes + before.faults ≤ before.calls + after.bytes + after.faults

-- The sink took all of the bytes, and no write failed.
pub record SendsAll (before : SinkShown) (bs : List ℕ) (after : SinkShown) : Type 0 where
  pub told : Receives before.told bs after.told
  pub bytes : after.counts.bytes ≡ raised_by (length bs) before.counts.bytes
  pub faults : after.counts.faults ≡ before.counts.faults
  pub few : WritesFew before.counts after.counts

-- The sink took the first of the bytes, for all of which it had no room, and one write failed. None
-- came after it, since that could have failed too, and would be counted.
pub record SendsPart (before : SinkShown) (bs : List ℕ) (after : SinkShown) : Type 0 where
  pub told : ReceivesPrefix before.told bs after.told
  pub bytes : after.counts.bytes ≤ raised_by (length bs) before.counts.bytes
  pub faults : after.counts.faults ≡ raised before.counts.faults
  pub few : WritesFew before.counts after.counts

-- all of the bytes, or some of them at an error
pub record Sends {T E : Type 0} (result : Result T E) (bs : List ℕ)
    (before after : SinkShown) : Type 0 where
  pub all : OnOk result (SendsAll before bs after)
  pub part : OnErr result (SendsPart before bs after)
