-- What a disk answered to an open, and what a fetch makes of it.
use Rattle.std.specs.Prelude.{◌≡◌, ◌⊎◌, ℕ, Bool, true, false, List, Option, Result, Ok, Err, if◌then◌else◌}
use Rattle.std.specs.IoError.{error_kind}
use Rattle.std.specs.Str.{IsUtf8}
use Rattle.std.specs.declared.io.Error.{Error}
use Rattle.std.specs.declared.io.ErrorKind.{ErrorKind}
use Rattle.std.specs.declared.io.ErrorKind.TheVariants.{NotFound}
use Rattle.si_io.specs.declared.library.Fetched.{Fetched}
use Rattle.si_io.specs.declared.library.Fetched.TheVariants.{File, Missing, Failed}
use Rattle.si_io.specs.Library.{IsFileRead}
use Rattle.si_io.specs.Tries.{TriesWith}

-- Where the name is text, the disk was asked to open it, once but for signals, and Then says what
-- comes of its answer. Any other name is refused without a call, and Else says what comes of that.
abbrev pub AsksFor : {D F : Type 0} → (opens : D → List ℕ → Result F Error → D → Type 0)
    → (before : D) → (name : List ℕ) → (after : D) → (Then : Result F Error → Type 0)
    → (Else : Type 0) → Type 0
AsksFor opens before name after Then Else =
    (IsUtf8 name × ((answer : _)
    × TriesWith opens before name answer after × Then answer))
    ⊎ (¬ IsUtf8 name × (after ≡ before) × Else)

-- the one kind of error that says that there is no such file
abbrev pub is_not_found : ErrorKind → Bool
is_not_found NotFound = true
is_not_found _ = false

-- whether the file's bytes are there
abbrev pub is_file : Fetched → Bool
is_file File = true
is_file answer = false

-- what a fetch answers where the file wasn't opened
abbrev pub unfetched : Error → Fetched
unfetched error = if is_not_found (error_kind error) then Missing else Failed

-- What a fetch makes of the answer: of an open file what is read of it, whose bytes may be known,
-- and else why there is none.
abbrev pub FetchesAnswer : {F : Type 0} → (remaining : F → Option (List ℕ)) → (limit : ℕ)
    → Result F Error → Fetched → (into : List ℕ) → Type 0
FetchesAnswer remaining limit (Ok file) result into = IsFileRead (remaining file) limit result into
FetchesAnswer remaining limit (Err error) result into = result ≡ unfetched error
