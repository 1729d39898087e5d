-- A pattern and an entry side by side: their variables are tagged, so that the two never meet
-- (Robinson 1965, who standardizes apart).
use Rattle.std.specs.Prelude.{Bool, false, List, ◌++◌, bytes_eq, codes}
use Rattle.si_defs.specs.Bytes.{Bytes}
use Rattle.si_defs.specs.Terms as terms
use Rattle.si_defs.specs.Symbols.{Symbol}
use Rattle.si_defs.specs.Clauses.{Term}

-- a variable of the pattern or of the entry
pub data Variable : Type 0 where
  of_pattern of_entry : Bytes → Variable

abbrev pub same_variable : Variable → Variable → Bool
same_variable (of_pattern x) (of_pattern y) = bytes_eq x y
same_variable (of_entry x) (of_entry y) = bytes_eq x y
same_variable (of_pattern x) (of_entry y) = false
same_variable (of_entry x) (of_pattern y) = false

abbrev pub variable_text : Variable → Bytes
variable_text (of_pattern x) = codes "?" ++ x
variable_text (of_entry x) = x

-- the terms that are compared, their variables apart
abbrev pub Apart : Type 0
Apart = terms.Term Symbol Variable

abbrev pub pattern_term : Term → Apart
pattern_term t = terms.rename of_pattern t

abbrev pub entry_term : Term → Apart
entry_term t = terms.rename of_entry t

abbrev pub Solution : Type 0
Solution = List (Variable × Apart)
