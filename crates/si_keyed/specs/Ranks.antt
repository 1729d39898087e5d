-- Counts with the sums of neighbours above them, over and over.
use Rattle.std.specs.Prelude.{◌≡◌, ℕ, ◌≤◌, List, length}
use Rattle.si_keyed.specs.Halves.{halves}
use Rattle.si_keyed.specs.declared.ranks.Above.{Above}
use Rattle.si_keyed.specs.declared.ranks.Above.TheVariants.{Nothing, Sums}

-- above two counts or more stand the sums of neighbours
abbrev pub IsSummed : List ℕ → Above → Type 0
IsSummed counts Nothing = length counts ≤ 1
IsSummed counts (Sums above) = (2 ≤ length counts) × (above.value ≡ halves counts)

-- the sums of neighbours would stand above without more memory
abbrev pub HasRoom : List ℕ → Above → Type 0
HasRoom counts Nothing = length counts ≤ 1
HasRoom counts (Sums above) = length (halves counts) ≤ length above.value
