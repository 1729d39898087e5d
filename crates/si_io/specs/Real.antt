-- What a real source, a real sink and a real library show of themselves, and what their calls make
-- of what std answered.
use Rattle.std.specs.Prelude.{◌≡◌, ◌⊎◌, ℕ, true, List, [], ◌∷◌, None, Result, Ok, Err, IsErr, nat_eq, length, ⊤, IsTrue, IsFalse}
use Rattle.std.specs.List.{ends_with}
use Rattle.std.specs.declared.io.Error.{Error}
use Rattle.si_io.specs.declared.failed.Failed.{Failed}
use Rattle.si_io.specs.declared.real.source.RealSource.{RealSource}
use Rattle.si_io.specs.declared.real.sink.RealSink.{RealSink}
use Rattle.si_io.specs.declared.real.library.RealLibrary.{RealLibrary}
use Rattle.si_io.specs.declared.counts.SourceCounts.{SourceCounts}
use Rattle.si_io.specs.declared.counts.SinkCounts.{SinkCounts}
use Rattle.si_io.specs.declared.counts.LibraryCounts.{LibraryCounts}
use Rattle.si_io.specs.Content.{untold}
use Rattle.si_io.specs.Counts.{none_of_some}
use Rattle.si_io.specs.Shown.{SourceShown, SinkShown, LibraryShown}
use Rattle.si_io.specs.Tries.{Tries}

-- the reader of a source, what it counted, and what it shows
abbrev pub reader_of : {R : Type 0} → RealSource R → R
reader_of source = source.reader

abbrev pub reads_of : {R : Type 0} → RealSource R → SourceCounts
reads_of source = source.counts

abbrev pub source_shown : {R : Type 0} → RealSource R → SourceShown
source_shown source = record { left = None; may_fail = true; counts = source.counts }

-- the writer of a sink, what it counted, and what it shows
abbrev pub writer_of : {W : Type 0} → RealSink W → W
writer_of sink = sink.writer

abbrev pub writes_of : {W : Type 0} → RealSink W → SinkCounts
writes_of sink = sink.counts

abbrev pub sink_shown : {W : Type 0} → RealSink W → SinkShown
sink_shown sink = record { told = untold; counts = sink.counts }

-- the disk of a library, what it counted, and what it shows
abbrev pub disk_of : {D : Type 0} → RealLibrary D → D
disk_of library = library.disk

abbrev pub fetches_of : {D : Type 0} → RealLibrary D → LibraryCounts
fetches_of library = library.counts

abbrev pub library_shown : {D : Type 0} → RealLibrary D → LibraryShown
library_shown library = record { files = None; may_fail = true; counts = library.counts }

-- A call answers what std answered: the same number, or that it failed.
abbrev pub Hears : {T : Type 0} → Result T Error → Result T Failed → Type 0
Hears (Ok value) result = result ≡ Ok value
Hears (Err error) result = IsErr result

-- The last of the bytes is a line feed.
abbrev pub EndsLine : List ℕ → Type 0
EndsLine bytes = IsTrue (ends_with nat_eq bytes (10 ∷ []))

-- All of the bytes were taken, and they end a line.
abbrev pub Completes : (count : ℕ) → (bytes : List ℕ) → Type 0
Completes count bytes = (count ≡ length bytes) × EndsLine bytes

-- What a sink makes of the answer to its flush after so many bytes were written.
abbrev pub HearsFlush : (count : ℕ) → Result ⊤ Error → Result ℕ Failed → Type 0
HearsFlush count (Ok done) result = result ≡ Ok count
HearsFlush count (Err error) result = IsErr result

-- What a sink makes of the answer to its write. Where a line is complete, one flush follows, and
-- the write succeeds only if the flush does. Nothing taken of some bytes is a failure.
abbrev pub FlushesLine : {W : Type 0} → (Flush : W → Result ⊤ Error → W → Type 0)
    → (bytes : List ℕ) → Result ℕ Error → (middle after : W) → Result ℕ Failed → Type 0
FlushesLine Flush bytes (Err error) middle after result = (after ≡ middle) × IsErr result
FlushesLine Flush bytes (Ok n) middle after result =
    (Completes n bytes × ((flushed : Result ⊤ Error) × Tries Flush middle flushed after
    × HearsFlush n flushed result))
    ⊎ (¬ Completes n bytes × (after ≡ middle)
    × (IsTrue (none_of_some n (length bytes)) → IsErr result)
    × (IsFalse (none_of_some n (length bytes)) → result ≡ Ok n))
