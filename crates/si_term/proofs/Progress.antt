-- A walk along a list that counts down to the item that it seeks.
use Rattle.std.proofs.Common.{◌≡◌, ℕ, zero, suc, ◌+◌, ◌-◌, List, [], ◌∷◌, ◌++◌, Some, length, slice_get, map, refl, ap, ◌∙◌, arith, length-append}
use Rattle.si_defs.proofs.ListLaws.{get_front}

module _ {A : Type 0} where
  pub get-right : (xs ys : List A) (m : ℕ) → slice_get (xs ++ ys) (length xs + m) ≡ slice_get ys m
  get-right [] ys m = let e : 0 + m ≡ m = omega arith in ap (slice_get ys) e
  get-right (x ∷ xs) ys m =
      let e : length (x ∷ xs) + m ≡ suc (length xs + m) = omega arith in
      ap (slice_get (x ∷ xs ++ ys)) e ∙ get-right xs ys m

  -- The item with this number of all is the one with the number left of the rest.
  pub record Progress (all rest : List A) (number left : ℕ) : Type 0 where
    pub same : slice_get all number ≡ slice_get rest left
    pub passed : length all + left ≡ number + length rest

  pub begins : (all : List A) (number : ℕ) → Progress all all number number
  begins all number = record { same = refl; passed = omega arith }

  -- some items at the front of the rest are passed
  pub passes : (all whole xs rest : List A) (number left m : ℕ) → whole ≡ xs ++ rest → Progress all whole number left → left ≡ length xs + m → Progress all rest number m
  passes all whole xs rest number left m split p e = record {
    same = p.same ∙ ap (λ l. slice_get l left) split ∙ ap (slice_get (xs ++ rest)) e ∙ get-right xs rest m;
    passed = omega (arith, p.passed, ap length split, length-append xs rest);
  }

  -- or the one that is sought is among them
  pub finds : (all whole xs rest : List A) (number left : ℕ) (x : A) → whole ≡ xs ++ rest → Progress all whole number left → slice_get xs left ≡ Some x → slice_get all number ≡ Some x
  finds all whole xs rest number left x split p h = p.same ∙ ap (λ l. slice_get l left) split ∙ get_front xs rest left x h

  -- nothing is left
  pub ends : (all whole : List A) (number left : ℕ) → whole ≡ [] → Progress all whole number left → number ≡ length all + left
  ends all whole number left none p = omega (arith, p.passed, ap length none)

  -- after the first item
  pub get-next : (y : A) (xs : List A) (n : ℕ) (x : A) → (n ≡ 0 → ⊥) → slice_get xs (n - 1) ≡ Some x → slice_get (y ∷ xs) n ≡ Some x
  get-next y xs zero x some h = absurd (some refl)
  get-next y xs (suc n) x some h = let e : n ≡ suc n - 1 = omega arith in ap (slice_get xs) e ∙ h

pub get-map : {A B : Type 0} (f : A → B) (xs : List A) (n : ℕ) (x : A) → slice_get xs n ≡ Some x → slice_get (map f xs) n ≡ Some (f x)
get-map f [] n x h = cc
get-map f (y ∷ xs) zero x h = let e : y ≡ x = cc in ap (λ z. Some (f z)) e
get-map f (y ∷ xs) (suc n) x h = get-map f xs n x h
