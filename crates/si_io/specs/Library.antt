-- What a library tells of its files and counts, and what a fetch makes of them.
use Rattle.std.specs.Prelude.{◌≡◌, ◌<◌, ◌≤◌, ℕ, List, [], Option, None, Some, IsSomeAnd, IfSome, length, ⊤}
use Rattle.si_io.specs.Counts.{raised}
use Rattle.si_io.specs.declared.counts.LibraryCounts.{LibraryCounts}
use Rattle.si_io.specs.declared.library.Fetched.{Fetched}
use Rattle.si_io.specs.declared.library.Fetched.TheVariants.{File, Missing, TooBig, Failed, Memory}

-- Files by name: the bytes of each, and None where no file has the name.
abbrev pub Files : Type 0
Files = List ℕ → Option (List ℕ)

-- Of these files a fetch tells the right thing: the bytes that it found, that there is no such
-- file, or that the file has more bytes than the limit.
abbrev pub Fetches : Files → (name : List ℕ) → (limit : ℕ) → Fetched → (into : List ℕ) → Type 0
Fetches files name limit File into = files name ≡ Some into
Fetches files name limit Missing into = files name ≡ None
Fetches files name limit TooBig into = IsSomeAnd (files name) (λ bytes. limit < length bytes)
Fetches files name limit Failed into = ⊤
Fetches files name limit Memory into = ⊤

-- What was found has at most as many bytes as the limit, and after any other answer there are no
-- bytes.
abbrev pub Holds : Fetched → (limit : ℕ) → (into : List ℕ) → Type 0
Holds File limit into = length into ≤ limit
Holds Missing limit into = into ≡ []
Holds TooBig limit into = into ≡ []
Holds Failed limit into = into ≡ []
Holds Memory limit into = into ≡ []

-- What a read of a whole file makes of it, whose bytes may be known. At File these are all its
-- bytes, no more than the limit; and at TooBig it has more.
abbrev pub IsFileRead : Option (List ℕ) → (limit : ℕ) → Fetched → (into : List ℕ) → Type 0
IsFileRead known limit File into = (length into ≤ limit) × IfSome known (λ bytes. into ≡ bytes)
IsFileRead known limit Missing into = ⊥
IsFileRead known limit TooBig into = IfSome known (λ bytes. limit < length bytes)
IsFileRead known limit Failed into = ⊤
IsFileRead known limit Memory into = ⊤

-- How often a library has failed, how often it had no such file, and how often a file was too big.
pub record Counts : Type 0 where
  pub faults : ℕ
  pub misses : ℕ
  pub bigs : ℕ

-- what a library counted, but for the number of its calls
abbrev pub faults_in : LibraryCounts → Counts
faults_in counts =
    record { faults = counts.faults; misses = counts.misses; bigs = counts.bigs }

-- Each answer but File and Memory has a count of its own, which is one more. No other count moved.
abbrev pub HasFetchCause : Counts → Counts → Fetched → Type 0
HasFetchCause before now File = now ≡ before
HasFetchCause before now Missing = now ≡ record before { misses = raised before.misses }
HasFetchCause before now TooBig = now ≡ record before { bigs = raised before.bigs }
HasFetchCause before now Failed = now ≡ record before { faults = raised before.faults }
HasFetchCause before now Memory = now ≡ before
