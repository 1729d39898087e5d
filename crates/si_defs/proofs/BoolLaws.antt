-- Tests of which one tells the other.
use Rattle.std.proofs.Common.{◌≡◌, Bool, true, false, not, ◌&&◌, ◌||◌, refl, sym}

-- each is true where the other is
pub agreed : (a b : Bool) → (a ≡ true → b ≡ true) → (b ≡ true → a ≡ true) → a ≡ b
agreed true b f g = sym (f refl)
agreed false true f g = g refl
agreed false false f g = refl

-- a test that the second tells already
pub not_told : (a b : Bool) → (a ≡ true → b ≡ true) → (not a && not b) ≡ not b
not_told true true f = refl
not_told true false f = f refl
not_told false b f = refl

-- a test beside others, the last of a list
pub neither : (a b : Bool) → not (b || (a || false)) ≡ (not a && not b)
neither true true = refl
neither true false = refl
neither false true = refl
neither false false = refl
