-- What isn't absent, one step after the other.
use Rattle.std.proofs.Common.{◌⊎◌, inl, inr}
use Rattle.si_exist.specs.OneList.{IsNotAbsent}

pub there : {P : Type 0} → P → IsNotAbsent P
there p none_is = none_is p

pub and_then : {P Q : Type 0} → IsNotAbsent P → (P → IsNotAbsent Q) → IsNotAbsent Q
and_then found go none_is = found (λ p. go p none_is)

-- whether something holds or not
pub either_way : {Q : Type 0} (P : Type 0) → (P ⊎ (P → ⊥) → IsNotAbsent Q) → IsNotAbsent Q
either_way P go none_is = go (inr (λ p. go (inl p) none_is)) none_is
