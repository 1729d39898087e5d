-- What devices count: numbers that never fall, and stand still at the largest `u64`.
use Rattle.std.specs.Prelude.{ℕ, zero, suc, ◌+◌, ◌-◌, ◌^◌, min, max, Bool, ◌&&◌, nat_eq, nat_lt, Result, Ok, Err, if◌then◌else◌}
use Rattle.si_io.specs.declared.counts.SourceCounts.{SourceCounts}
use Rattle.si_io.specs.declared.counts.SinkCounts.{SinkCounts}
use Rattle.si_io.specs.declared.counts.LibraryCounts.{LibraryCounts}
use Rattle.si_io.specs.declared.library.Fetched.{Fetched}
use Rattle.si_io.specs.declared.library.Fetched.TheVariants.{File, Missing, TooBig, Failed, Memory}

-- the count after n more
abbrev pub raised_by : (n count : ℕ) → ℕ
raised_by n count = max count (min (count + n) (2 ^ 64 - 1))

-- the count after one more
abbrev pub raised : ℕ → ℕ
raised count = raised_by 1 count

-- what a device counted that wasn't called yet: a source, a sink, a library
abbrev pub nothing_read : SourceCounts
nothing_read = record { calls = 0; bytes = 0; ends = 0; empty = 0; faults = 0 }

abbrev pub nothing_written : SinkCounts
nothing_written = record { calls = 0; bytes = 0; faults = 0 }

abbrev pub nothing_fetched : LibraryCounts
nothing_fetched = record { calls = 0; faults = 0; misses = 0; bigs = 0 }

-- None of some bytes: so a source tells its end, and so a sink fails that answers a number.
abbrev pub none_of_some : (count size : ℕ) → Bool
none_of_some count size = nat_eq count 0 && nat_lt 0 size

-- how many empty slices a read into so much room has: one, or none
abbrev pub empty_slices : (room : ℕ) → ℕ
empty_slices zero = 1
empty_slices (suc room) = 0

-- what a source counted after one more read into so much room
abbrev pub read_counted : {E : Type 0} → (room : ℕ) → Result ℕ E → SourceCounts → SourceCounts
read_counted room (Ok n) counts = record {
  calls = raised counts.calls;
  bytes = raised_by n counts.bytes;
  ends = if none_of_some n room then raised counts.ends else counts.ends;
  empty = raised_by (empty_slices room) counts.empty;
  faults = counts.faults;
}
read_counted room (Err e) counts = record counts {
  calls = raised counts.calls;
  empty = raised_by (empty_slices room) counts.empty;
  faults = raised counts.faults;
}

-- what a sink counted after one more write of so many bytes
abbrev pub write_counted : {E : Type 0} → (size : ℕ) → Result ℕ E → SinkCounts → SinkCounts
write_counted size (Ok n) counts = record {
  calls = raised counts.calls;
  bytes = raised_by n counts.bytes;
  faults = if none_of_some n size then raised counts.faults else counts.faults;
}
write_counted size (Err e) counts =
    record counts { calls = raised counts.calls; faults = raised counts.faults }

-- what a library counted after one more call with this answer
abbrev pub fetch_counted : Fetched → LibraryCounts → LibraryCounts
fetch_counted File counts = record counts { calls = raised counts.calls }
fetch_counted Missing counts =
    record counts { calls = raised counts.calls; misses = raised counts.misses }
fetch_counted TooBig counts =
    record counts { calls = raised counts.calls; bigs = raised counts.bigs }
fetch_counted Failed counts =
    record counts { calls = raised counts.calls; faults = raised counts.faults }
fetch_counted Memory counts = record counts { calls = raised counts.calls }
