-- What the reads of some bytes make of what a source shows.
use Rattle.std.specs.Prelude.{◌≡◌, ℕ, ◌+◌, ◌-◌, ◌^◌, ◌<◌, ◌≤◌, List, length}
use Rattle.si_io.specs.declared.counts.SourceCounts.{SourceCounts}
use Rattle.si_io.specs.Content.{Takes}
use Rattle.si_io.specs.Counts.{raised_by}
use Rattle.si_io.specs.Shown.{SourceShown}

-- The reads in between are no more than the bytes that they gave, the ends that they told and their
-- faults, unless one of these counts stands at the largest `u64`.
pub record ReadsFew (before after : SourceCounts) : Type 0 where
  pub bytes : before.bytes ≤ after.bytes
  pub ends : before.ends ≤ after.ends
  pub faults : before.faults ≤ after.faults
  pub calls : after.bytes < 2 ^ 64 - 1 → after.ends < 2 ^ 64 - 1 → after.faults < 2 ^ 64 - 1
      → after.calls + before.bytes + before.ends + before.faults
      ≤ before.calls + after.bytes + after.ends + after.faults

-- The source gave these bytes, in few reads. It counted none of them as one into an empty slice.
pub record Gives (before : SourceShown) (bs : List ℕ) (after : SourceShown) : Type 0 where
  pub left : Takes before.left bs after.left
  pub bytes : after.counts.bytes ≡ raised_by (length bs) before.counts.bytes
  pub empty : after.counts.empty ≡ before.counts.empty
  pub few : ReadsFew before.counts after.counts
