-- The texts that numbers in a solution list stand for.
use Rattle.std.specs.Prelude.{◌≡◌, ℕ, List, [], ◌∷◌}
use Rattle.si_defs.specs.Bytes.{Bytes}
use Rattle.si_defs.specs.Terms as terms
use Rattle.si_defs.specs.Symbols.{Symbol, Numbering}
use Rattle.si_defs.specs.Substitutions.{IsAmong}
use Rattle.si_defs.specs.Variables.{Variable, of_pattern, of_entry, Apart, Solution}
use Rattle.si_term.specs.declared.term.Sym.{Sym}
use Rattle.si_flat.specs.declared.Cell.{Cell}
use Rattle.si_flat.specs.declared.Owner.{Owner}
use Rattle.si_flat.specs.Cells as cells
use Rattle.si_flat.specs.Cells.{StandsFor, IsSound, AreSound, cells_of_all}
use Rattle.si_flat.specs.Numbered.{number_in, numbered, all_numbered}
use Rattle.si_flat.specs.Flattened.{query_numbers}
use Rattle.si_flat.specs.Flattening.{owners_variable}
use Rattle.si_form.specs.declared.solution.Binding.{Binding}
use Rattle.si_form.specs.Numberings.{variable_by}

-- the symbols by their numbers, and the names of the pattern's and of the entry's variables
pub record Naming : Type 0 where
  pub numbers : Numbering
  pub query_names : List Bytes
  pub entry_names : List Bytes

-- the numbers of a table, and after them those of the extra symbols
abbrev pub naming : Numbering → List Sym → List Bytes → List Bytes → Naming
naming pairs extra query_names entry_names =
    record {
      numbers = query_numbers pairs extra;
      query_names = query_names;
      entry_names = entry_names;
    }

abbrev pub symbol_number : Naming → Symbol → ℕ
symbol_number n s = number_in n.numbers s

abbrev pub numbered_variable : Naming → Variable → cells.Variable
numbered_variable n x = variable_by n.query_names n.entry_names x

-- it has a number
abbrev pub HasNumber : Naming → Symbol → Type 0
HasNumber n s = (k : ℕ) × IsAmong n.numbers (s, k)

-- its name is one of its side
abbrev pub IsNamed : Naming → Variable → Type 0
IsNamed n (of_pattern x) = IsAmong n.query_names x
IsNamed n (of_entry x) = IsAmong n.entry_names x

-- all its symbols and variables are known
abbrev mutual
  pub IsKnown : Naming → Apart → Type 0
  IsKnown n (terms.var x) = IsNamed n x
  IsKnown n (terms.app s ts) = HasNumber n s × AreNamedByThese n ts

  pub AreNamedByThese : Naming → terms.Terms Symbol Variable → Type 0
  AreNamedByThese n terms.none = Unit {0}
  AreNamedByThese n (terms.more t ts) = IsKnown n t × AreNamedByThese n ts

-- the cells stand for this term with its numbers
pub record ShowsTerm (n : Naming) (cs : List Cell) (t : Apart) : Type 0 where
  pub stands : StandsFor cs (numbered (symbol_number n) (numbered_variable n) t)
  pub known : IsKnown n t

-- the same of terms one after the other
pub record ShowAll (n : Naming) (cs : List Cell) (ts : terms.Terms Symbol Variable) : Type 0 where
  pub cells_are : cs ≡ cells_of_all (all_numbered (symbol_number n) (numbered_variable n) ts)
  pub sound : AreSound (all_numbered (symbol_number n) (numbered_variable n) ts)
  pub known : AreNamedByThese n ts

-- the number is this variable's
pub record ShowsVariable (n : Naming) (owner : Owner) (slot : ℕ) (x : Variable) : Type 0 where
  pub number : numbered_variable n x ≡ owners_variable owner slot
  pub named : IsNamed n x

-- the number is this symbol's
pub record ShowsSymbol (n : Naming) (number : ℕ) (s : Symbol) : Type 0 where
  pub number_is : symbol_number n s ≡ number
  pub known : HasNumber n s

pub record ShowsBinding (n : Naming) (b : Binding) (pair : Variable × Apart) : Type 0 where
  pub left : ShowsVariable n b.owner b.slot pair.0
  pub right : ShowsTerm n b.value pair.1

-- the bindings stand for this solution list with its numbers
abbrev pub ShowsList : Naming → List Binding → Solution → Type 0
ShowsList n [] [] = Unit {0}
ShowsList n [] (pair ∷ pairs) = ⊥
ShowsList n (b ∷ bs) [] = ⊥
ShowsList n (b ∷ bs) (pair ∷ pairs) = ShowsBinding n b pair × ShowsList n bs pairs
