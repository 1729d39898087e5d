-- How often a device has failed: a count that never falls and stands still at the largest `u64`.
use Rattle.std.specs.Prelude.{◌≡◌, ℕ, ◌+◌, ◌-◌, ◌^◌, ◌≤◌, min, Result, OnOk, OnErr}
use Rattle.si_io.specs.Counts.{raised}

-- The device failed in between: the count is greater than before, or stands at the largest `u64`.
abbrev pub Rose : ℕ → ℕ → Type 0
Rose before now = min (before + 1) (2 ^ 64 - 1) ≤ now

-- The count is as before where a call succeeds, and one more where it answers an error.
pub record HasCause {T E : Type 0} (before now : ℕ) (result : Result T E) : Type 0 where
  pub later : before ≤ now
  pub kept : OnOk result (now ≡ before)
  pub failed : OnErr result (now ≡ raised before)
