-- Variables of one owner and of the other.
use Rattle.std.proofs.Common.{◌≡◌, ℕ, refl, Some}
use Rattle.si_flat.specs.Cells.{variable_cell}
use Rattle.si_flat.specs.declared.Owner.{Owner}
use Rattle.si_flat.specs.declared.Owner.TheVariants.{Query, Entry}
use Rattle.si_flat.specs.Flattening.{owners_variable}
use Rattle.si_form.specs.Matching.{variable_number}

pub number_of : (owner : Owner) (n : ℕ) → variable_number owner (variable_cell (owners_variable owner n)) ≡ Some n
number_of Query n = refl
number_of Entry n = refl

pub variable_injective : (owner : Owner) (m n : ℕ) → owners_variable owner m ≡ owners_variable owner n → m ≡ n
variable_injective Query m n e = cc
variable_injective Entry m n e = cc
