-- Each step keeps the places within their files, and leaves less to read.
use Rattle.std.proofs.Common.{◌≡◌, ℕ, ◌+◌, ◌-◌, ◌*◌, ◌≤◌, ◌<◌, List, [], ◌∷◌, ◌++◌, drop, length, length-drop, sym, ap, subst, arith, Option}
use Rattle.si_defs.specs.Bytes.{Bytes}
use Rattle.si_defs.specs.Grammar.{Item}
use Rattle.si_defs.specs.Texts.{BeginsWithItem}
use Rattle.si_defs.specs.declared.TheConstants.{MOST_OCCURRENCES}
use Rattle.si_state.specs.Harvest.{Files, Bounds}
use Rattle.si_harvest.specs.declared.files.OpenFile.{OpenFile}
use Rattle.si_harvest.specs.declared.names.NameSet.{NameSet}
use Rattle.si_harvest.specs.declared.reading.Reading.{Reading}
use Rattle.si_harvest.specs.Opened.{OpensInside}
use Rattle.si_harvest.specs.Underway.{IsFileWithin, AreFilesWithin, left_to_read, steps_left}
use Rattle.si_harvest.proofs.Stands.{moved}
use Rattle.si_harvest.proofs.Shorter.{item_shorter}

-- ---- places
pub within_others : (items : List OpenFile) (f : OpenFile) → AreFilesWithin (items ++ f ∷ []) → AreFilesWithin items
within_others [] f h = tt
within_others (x ∷ xs) f h = (h.0, within_others xs f h.1)

pub within_last : (items : List OpenFile) (f : OpenFile) → AreFilesWithin (items ++ f ∷ []) → IsFileWithin f
within_last [] f h = h.0
within_last (x ∷ xs) f h = within_last xs f h.1

pub within_more : (items : List OpenFile) (f : OpenFile) → AreFilesWithin items → IsFileWithin f → AreFilesWithin (items ++ f ∷ [])
within_more [] f h w = (w, tt)
within_more (x ∷ xs) f h w = (h.0, within_more xs f h.1 w)

-- the file is read on
pub within_moved : (items : List OpenFile) (f : OpenFile) (end : ℕ) → AreFilesWithin (items ++ f ∷ []) → end ≤ length f.bytes.items → AreFilesWithin (moved items f end)
within_moved items f end h e =
    within_more items (record f { at = end }) (within_others items f h) (record { place = e; size = (within_last items f h).size })

-- another file is open inside
pub within_entered : (told : Option Files) (bounds : Bounds) (name : Bytes) (AreListed : Option NameSet → Type 0) (outer : List OpenFile) (made : ℕ) (new : Reading) → bounds.file ≤ MOST_OCCURRENCES
    → OpensInside told bounds name AreListed outer made new → AreFilesWithin outer → AreFilesWithin new.files.items
within_entered told bounds name AreListed outer made new b h w =
    subst AreFilesWithin (sym h.inside)
    (within_more outer h.file w (record { place = omega (arith, h.given.front); size = omega (arith, h.given.small, b) }))

-- ---- steps
left-append : (items : List OpenFile) (f : OpenFile) → left_to_read (items ++ f ∷ []) ≡ left_to_read items + ((length f.bytes.items - f.at) + 1)
left-append [] f = omega arith
left-append (x ∷ xs) f = omega (arith, left-append xs f)

pub falls_end : (bounds : Bounds) (old new : Reading) (items : List OpenFile) (f : OpenFile) → old.files.items ≡ items ++ f ∷ [] → new.files.items ≡ items → new.fetches ≡ old.fetches
    → steps_left bounds new < steps_left bounds old
falls_end bounds old new items f e n m =
    omega (
      arith,
      ap left_to_read e,
      ap left_to_read n,
      left-append items f,
      ap (λ k. (bounds.fetches - k) * (bounds.file + 2)) m,
    )

later : (f : OpenFile) (item : Item) (end : ℕ) → BeginsWithItem (drop f.at f.bytes.items) item (drop end f.bytes.items) → length f.bytes.items - end < length f.bytes.items - f.at
later f item end b = omega (arith, item_shorter (drop f.at f.bytes.items) item (drop end f.bytes.items) b, length-drop f.at f.bytes.items, length-drop end f.bytes.items)

pub falls_item : (bounds : Bounds) (old new : Reading) (items : List OpenFile) (f : OpenFile) (item : Item) (end : ℕ) → old.files.items ≡ items ++ f ∷ []
    → BeginsWithItem (drop f.at f.bytes.items) item (drop end f.bytes.items) → new.files.items ≡ moved items f end → new.fetches ≡ old.fetches
    → steps_left bounds new < steps_left bounds old
falls_item bounds old new items f item end e b n m =
    omega (
      arith,
      ap left_to_read e,
      ap left_to_read n,
      left-append items f,
      left-append items (record f { at = end }),
      later f item end b,
      ap (λ k. (bounds.fetches - k) * (bounds.file + 2)) m,
    )

one_fetch : (most made width : ℕ) → made < most → (most - made) * width ≡ (most - (made + 1)) * width + width
one_fetch most made width h = let split : most - made ≡ (most - (made + 1)) + 1 = omega (arith, h) in omega (arith, ap (λ k. k * width) split)

pub falls_entered : (told : Option Files) (bounds : Bounds) (name : Bytes) (AreListed : Option NameSet → Type 0) (old new : Reading) (items : List OpenFile) (f : OpenFile) (item : Item) (end : ℕ)
    → old.files.items ≡ items ++ f ∷ [] → BeginsWithItem (drop f.at f.bytes.items) item (drop end f.bytes.items)
    → OpensInside told bounds name AreListed (moved items f end) old.fetches new → steps_left bounds new < steps_left bounds old
falls_entered told bounds name AreListed old new items f item end e b h =
    omega (
      arith,
      ap left_to_read e,
      ap left_to_read h.inside,
      left-append items f,
      left-append items (record f { at = end }),
      left-append (moved items f end) h.file,
      later f item end b,
      h.given.small,
      h.given.front,
      ap (λ k. (bounds.fetches - k) * (bounds.file + 2)) h.counted,
      one_fetch bounds.fetches old.fetches (bounds.file + 2) h.may.few,
    )
