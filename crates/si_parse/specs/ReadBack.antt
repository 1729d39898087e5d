-- Printed names, file names and terms that are read back. Each has some text by the grammar, so no
-- name or symbol in it is one that can't be written, and it nests no deeper than may be read.
use Rattle.std.specs.Prelude.{◌≡◌, [], Option, Some, None}
use Rattle.si_defs.specs.Bytes.{Bytes}
use Rattle.si_defs.specs.Terms as terms
use Rattle.si_defs.specs.Clauses.{Term, Name, Pattern, term_pattern}
use Rattle.si_defs.specs.Variables.{variable_text, pattern_term, entry_term}
use Rattle.si_defs.specs.Texts.{IsNameText, IsFileText, IsPatternText}
use Rattle.si_defs.specs.Printing.{name_text, file_text, term_text}

-- the one value that has this; or none, where none has it
abbrev pub IsOnly : {A : Type 0} → (A → Type 0) → Option A → Type 0
IsOnly {A} P None = (a : A) → P a → ⊥
IsOnly {A} P (Some a) = P a × ((b : A) → P b → b ≡ a)

-- where the bytes are a printed name, it was read
abbrev pub ReadsBackName : Bytes → Option Name → Type 0
ReadsBackName bytes read = (n : Name) (other : Bytes) → IsNameText n other → bytes ≡ name_text n
    → read ≡ Some n

-- the same of a file name
abbrev pub ReadsBackFile : Bytes → Option Bytes → Type 0
ReadsBackFile bytes read = (file other : Bytes) → IsFileText file other → bytes ≡ file_text file
    → read ≡ Some file

-- the same of a pattern's term without variables
abbrev pub ReadsBackTerm : Bytes → Option Pattern → Type 0
ReadsBackTerm bytes read = (t : Term) (other : Bytes) → terms.variables t ≡ []
    → IsPatternText (term_pattern t) other
    → bytes ≡ term_text variable_text (pattern_term t) → read ≡ Some (term_pattern t)

-- the same of an entry's term, with its variables
abbrev pub ReadsBackEntry : Bytes → Option Pattern → Type 0
ReadsBackEntry bytes read = (t : Term) (other : Bytes) → IsPatternText (term_pattern t) other
    → bytes ≡ term_text variable_text (entry_term t) → read ≡ Some (term_pattern t)
