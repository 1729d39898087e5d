-- What a source, a sink and a library show of themselves.
use Rattle.std.specs.Prelude.{◌≡◌, ℕ, Bool, List, Option}
use Rattle.si_io.specs.declared.counts.SourceCounts.{SourceCounts}
use Rattle.si_io.specs.declared.counts.SinkCounts.{SinkCounts}
use Rattle.si_io.specs.declared.counts.LibraryCounts.{LibraryCounts}
use Rattle.si_io.specs.Content.{Told}
use Rattle.si_io.specs.Library.{Files}

-- the bytes still to come, where it tells them; whether it may fail at all; and what it counted
pub record SourceShown : Type 0 where
  pub left : Option (List ℕ)
  pub may_fail : Bool
  pub counts : SourceCounts

-- what it tells of its bytes and its room, and what it counted
pub record SinkShown : Type 0 where
  pub told : Told
  pub counts : SinkCounts

-- the files, where it tells them; whether it may fail at all; and what it counted
pub record LibraryShown : Type 0 where
  pub files : Option Files
  pub may_fail : Bool
  pub counts : LibraryCounts

-- The library tells the same files as before, and may fail where it might before.
pub record KeepsFiles (before after : LibraryShown) : Type 0 where
  pub told : after.files ≡ before.files
  pub same : after.may_fail ≡ before.may_fail
