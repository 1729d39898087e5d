-- What is the same for each answer of a fetch; and that the files stay.
use Rattle.std.proofs.Common.{◌≡◌, ℕ, List, [], refl, subst, sym, ◌∙◌, arith}
use Rattle.si_io.specs.declared.library.Fetched.{Fetched}
use Rattle.si_io.specs.declared.library.Fetched.TheVariants.{File, Missing, TooBig, Failed, Memory}
use Rattle.si_io.specs.declared.counts.LibraryCounts.{LibraryCounts}
use Rattle.si_io.specs.Counts.{fetch_counted}
use Rattle.si_io.specs.Library.{faults_in, Holds, HasFetchCause}
use Rattle.si_io.specs.Shown.{LibraryShown, KeepsFiles}

-- no bytes are right after any answer
Holds_empty : (answer : Fetched) (limit : ℕ) → Holds answer limit []
Holds_empty File limit = omega arith
Holds_empty Missing limit = refl
Holds_empty TooBig limit = refl
Holds_empty Failed limit = refl
Holds_empty Memory limit = refl

pub Holds_none : (answer : Fetched) (limit : ℕ) (into : List ℕ) → [] ≡ into → Holds answer limit into
Holds_none answer limit into none = let P : List ℕ → Type 0 = λ l. Holds answer limit l in subst P none (Holds_empty answer limit)

-- what was counted has its cause
counted_once : (answer : Fetched) (before : LibraryCounts) → HasFetchCause (faults_in before) (faults_in (fetch_counted answer before)) answer
counted_once File before = refl
counted_once Missing before = refl
counted_once TooBig before = refl
counted_once Failed before = refl
counted_once Memory before = refl

pub HasFetchCause_once : (answer : Fetched) (before now : LibraryCounts) → now ≡ fetch_counted answer before → HasFetchCause (faults_in before) (faults_in now) answer
HasFetchCause_once answer before now once = let P : LibraryCounts → Type 0 = λ c. HasFetchCause (faults_in before) (faults_in c) answer in subst P (sym once) (counted_once answer before)

-- ---- the files
pub same_files : (library : LibraryShown) → KeepsFiles library library
same_files library = record { told = refl; same = refl }

pub files_then : (x y z : LibraryShown) → KeepsFiles x y → KeepsFiles y z → KeepsFiles x z
files_then x y z h k = record { told = k.told ∙ h.told; same = k.same ∙ h.same }
