-- What stands above some counts.
use Rattle.std.proofs.Common.{◌≡◌, ◌≤◌, ℕ, List, length, ap, subst, arith}
use Rattle.si_keyed.specs.Halves.{halves}
use Rattle.si_keyed.specs.Ranks.{IsSummed, HasRoom}
use Rattle.si_keyed.proofs.HalfLaws.{halves_shorter}
use Rattle.si_keyed.specs.declared.ranks.Above.{Above}
use Rattle.si_keyed.specs.declared.ranks.Above.TheVariants.{Nothing, Sums}

pub where_summed : (counts : List ℕ) {above : Above} → IsSummed counts above → (sums : _) → above ≡ Sums sums → (2 ≤ length counts) × (sums.value ≡ halves counts)
where_summed counts h sums is = subst (IsSummed counts) is h

pub where_single : (counts : List ℕ) {above : Above} → IsSummed counts above → above ≡ Nothing → length counts ≤ 1
where_single counts h is = subst (IsSummed counts) is h

-- what was summed up leaves room for fewer counts
pub leaves_room : (old new : List ℕ) (above : Above) → IsSummed old above → length new ≤ length old → HasRoom new above
leaves_room old new Nothing h p = omega (arith, h, p)
leaves_room old new (Sums above) h p = omega (arith, ap length h.1, halves_shorter new old p)
