-- The variables of a pattern and of an entry are told apart.
use Rattle.std.proofs.Common.{◌≡◌, true, ap}
use Rattle.si_defs.specs.Variables.{Variable, of_pattern, of_entry, same_variable}
use Rattle.si_defs.proofs.SymbolLaws.{text_is, text_self}

pub variable_is : (x y : Variable) → same_variable x y ≡ true → x ≡ y
variable_is (of_pattern x) (of_pattern y) h = ap of_pattern (text_is x y h)
variable_is (of_entry x) (of_entry y) h = ap of_entry (text_is x y h)
variable_is (of_pattern x) (of_entry y) h = cc
variable_is (of_entry x) (of_pattern y) h = cc

pub variable_self : (x : Variable) → same_variable x x ≡ true
variable_self (of_pattern x) = text_self x
variable_self (of_entry x) = text_self x
