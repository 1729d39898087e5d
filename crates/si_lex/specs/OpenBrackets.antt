-- Open brackets as a number.
use Rattle.std.specs.Prelude.{ℕ, zero, suc, ◌/◌, ◌%◌, List, [], ◌∷◌}
use Rattle.si_defs.specs.Grammar.{Bracket, round, square}

-- the bracket with this binary digit
abbrev pub bracket_of_digit : ℕ → Bracket
bracket_of_digit zero = round
bracket_of_digit (suc n) = square

-- the brackets of all binary digits but the first one, the last one first, up to so many
abbrev pub brackets_from : ℕ → ℕ → List Bracket
brackets_from zero n = []
brackets_from (suc k) zero = []
brackets_from (suc k) (suc zero) = []
brackets_from (suc k) (suc (suc n)) = bracket_of_digit (n % 2) ∷ brackets_from k (suc (n / 2))

-- those of a number of 64 digits
abbrev pub brackets_in : ℕ → List Bracket
brackets_in n = brackets_from 64 n
