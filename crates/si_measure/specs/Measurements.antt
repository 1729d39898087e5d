-- The words that name a measurement.
use Rattle.std.specs.Prelude.{◌≡◌, ℕ, ◌<◌, ◌≤◌, ◌^◌, List, codes}
use Rattle.std.specs.Str.Parse.{IsNumeral, digits_value, without_leading_plus}
use Rattle.si_measure.specs.declared.measurement.Kind.{Kind}
use Rattle.si_measure.specs.declared.measurement.Kind.TheVariants.{Towers, Pair}
use Rattle.si_measure.specs.declared.measurement.Shape.TheVariants.{One, Both, Shifted}
use Rattle.si_measure.specs.declared.measurement.Measurement.{Measurement}

abbrev pub kind_text : Kind → List ℕ
kind_text (Towers One) = codes "one"
kind_text (Towers Both) = codes "both"
kind_text (Towers Shifted) = codes "shifted"
kind_text Pair = codes "pair"

-- the word has digits, maybe after a plus sign, and this is their number
pub record IsNumber (word : List ℕ) (n : ℕ) : Type 0 where
  pub digits : IsNumeral 10 (without_leading_plus word)
  pub number : n ≡ digits_value 10 (without_leading_plus word)
  pub small : n < 2 ^ 32

pub record IsNamedBy (kind size times : List ℕ) (measurement : Measurement) : Type 0 where
  pub kind_is : kind ≡ kind_text measurement.kind
  pub size_is : IsNumber size measurement.size
  pub times_is : IsNumber times measurement.times
  pub within : measurement.size ≤ 1000000
