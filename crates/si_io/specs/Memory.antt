-- What a source, a sink and a library in memory show of themselves.
use Rattle.std.specs.Prelude.{◌≡◌, ◌≢◌, ℕ, ◌-◌, Bool, List, None, Some, length, drop, if◌then◌else◌}
use Rattle.std.specs.Option.{option_map}
use Rattle.std.specs.Str.{bytes_eq}
use Rattle.indexmap.specs.IndexMap.{get_by}
use Rattle.si_io.specs.declared.memory.source.MemorySource.{MemorySource}
use Rattle.si_io.specs.declared.memory.sink.MemorySink.{MemorySink}
use Rattle.si_io.specs.declared.memory.library.MemoryLibrary.{MemoryLibrary}
use Rattle.si_io.specs.declared.counts.SourceCounts.{SourceCounts}
use Rattle.si_io.specs.declared.counts.SinkCounts.{SinkCounts}
use Rattle.si_io.specs.declared.counts.LibraryCounts.{LibraryCounts}
use Rattle.si_io.specs.Content.{Told}
use Rattle.si_io.specs.Shown.{SourceShown, SinkShown, LibraryShown}
use Rattle.si_io.specs.Library.{Files}
use Rattle.si_io.specs.Plan.{lists_any}

-- the bytes still to come
abbrev pub source_left : MemorySource → List ℕ
source_left source = drop source.at source.bytes.items

-- how many bytes a call gives at most
abbrev pub source_chunk : MemorySource → ℕ
source_chunk source = source.chunk

-- the numbers of the calls that fail
abbrev pub source_failing : MemorySource → List ℕ
source_failing source = source.failing.items

-- what it has counted so far
abbrev pub source_counts : MemorySource → SourceCounts
source_counts source = source.counts

-- whether any of its calls is to fail
abbrev pub source_may_fail : MemorySource → Bool
source_may_fail source = lists_any (source_failing source)

-- what it shows of itself
abbrev pub source_shown : MemorySource → SourceShown
source_shown source = record {
  left = Some (source_left source);
  may_fail = source_may_fail source;
  counts = source_counts source;
}

-- no call changes how the source was made
pub record SameSource (old new : MemorySource) : Type 0 where
  pub chunk : source_chunk new ≡ source_chunk old
  pub failing : source_failing new ≡ source_failing old

-- the bytes that were written
abbrev pub sink_bytes : MemorySink → List ℕ
sink_bytes sink = sink.buffer.items

-- how many bytes it has room for
abbrev pub sink_room : MemorySink → ℕ
sink_room sink = sink.room

-- how many bytes a call takes at most
abbrev pub sink_chunk : MemorySink → ℕ
sink_chunk sink = sink.chunk

-- the numbers of the calls that fail
abbrev pub sink_failing : MemorySink → List ℕ
sink_failing sink = sink.failing.items

-- what it has counted so far
abbrev pub sink_counts : MemorySink → SinkCounts
sink_counts sink = sink.counts

-- how many more bytes it is sure to take: those that there is room for, if no call is to fail
abbrev pub sink_sure : MemorySink → ℕ
sink_sure sink =
    if lists_any (sink_failing sink) then 0 else sink_room sink - length (sink_bytes sink)

-- what it tells of its bytes and its room
abbrev pub sink_told : MemorySink → Told
sink_told sink = record { bytes = Some (sink_bytes sink); room = sink_sure sink }

-- what it shows of itself
abbrev pub sink_shown : MemorySink → SinkShown
sink_shown sink = record { told = sink_told sink; counts = sink_counts sink }

-- no call changes how the sink was made
pub record SameSink (old new : MemorySink) : Type 0 where
  pub room : sink_room new ≡ sink_room old
  pub chunk : sink_chunk new ≡ sink_chunk old
  pub failing : sink_failing new ≡ sink_failing old

-- the files by name
abbrev pub library_files : MemoryLibrary → Files
library_files library name =
    option_map (λ bytes. bytes.items) (get_by (λ key. bytes_eq name key.items) library.files)

-- the numbers of the fetches that fail
abbrev pub library_failing : MemoryLibrary → List ℕ
library_failing library = library.failing.items

-- whether any of its fetches is to fail
abbrev pub library_may_fail : MemoryLibrary → Bool
library_may_fail library = lists_any (library_failing library)

-- what it has counted so far
abbrev pub library_counts : MemoryLibrary → LibraryCounts
library_counts library = library.counts

-- what it shows of itself
abbrev pub library_shown : MemoryLibrary → LibraryShown
library_shown library = record {
  files = Some (library_files library);
  may_fail = library_may_fail library;
  counts = library_counts library;
}

-- no name has a file
abbrev pub has_no_file : Files
has_no_file name = None

-- The file of this name has these bytes, and all others are as before.
pub record PutsFile (name bytes : List ℕ) (old new : Files) : Type 0 where
  pub put : new name ≡ Some bytes
  pub others : (other : List ℕ) → other ≢ name → new other ≡ old other

-- a put changes nothing but the files
pub record SameLibrary (old new : MemoryLibrary) : Type 0 where
  pub failing : library_failing new ≡ library_failing old
  pub counts : library_counts new ≡ library_counts old
