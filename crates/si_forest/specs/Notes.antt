-- How the locations of the postings of all clauses are kept: in one list, of which each clause has
-- a span, by its key. The locations in it are the clause's notes.
use Rattle.std.specs.Prelude.{◌≡◌, ◌≢◌, ◌<◌, ◌≤◌, ◌+◌, ◌^◌, ℕ, List, drop, get_or, length, take, Vec, vec_capacity}
use Rattle.si_forest.specs.Locations.{Location}
use Rattle.si_forest.specs.declared.notes.Notes.{Notes}
use Rattle.si_forest.specs.declared.notes.Span.{Span}

abbrev pub notes_in : List Location → Span → List Location
notes_in locations span = take span.len (drop span.start locations)

abbrev pub no_span : Span
no_span = record { start = 0; len = 0 }

-- the span of a key; a key beyond all has none
abbrev pub keyed_span : List Span → ℕ → Span
keyed_span spans key = get_or spans key no_span

abbrev pub notes_of : Notes → ℕ → List Location
notes_of notes key = notes_in notes.locations.items (keyed_span notes.spans.items key)

-- the span is a part of a list of so many
abbrev pub IsSpanWithin : ℕ → Span → Type 0
IsSpanWithin n span = span.start + span.len ≤ n

abbrev pub AreSpansWithin : ℕ → List Span → Type 0
AreSpansWithin n spans = (key : ℕ) → IsSpanWithin n (keyed_span spans key)

abbrev pub AreSpans : Notes → Type 0
AreSpans notes = AreSpansWithin (length notes.locations.items) notes.spans.items

-- the notes of all keys are as they were
abbrev pub KeepNotes : Notes → Notes → Type 0
KeepNotes old new = (key : ℕ) → notes_of new key ≡ notes_of old key

-- the notes of this key are other ones, and all others are as they were
pub record HasNotes (old new : Notes) (key : ℕ) (notes : List Location) : Type 0 where
  pub here : notes_of new key ≡ notes
  pub others : (other : ℕ) → other ≢ key → notes_of new other ≡ notes_of old other

-- so many more fit into the list, and 32 bits count them, and those before them
pub record HasRoomForLocations {A : Type 0} (locations : Vec Location A) (more : ℕ) : Type 0 where
  pub room : length locations.items + more ≤ vec_capacity locations
  pub start : length locations.items < 2 ^ 32
  pub len : more < 2 ^ 32

-- the key may be given so many notes
pub record HasPlaceForNotes (notes : Notes) (key count : ℕ) : Type 0 where
  pub place : key < length notes.spans.items
  pub room : HasRoomForLocations notes.locations count
