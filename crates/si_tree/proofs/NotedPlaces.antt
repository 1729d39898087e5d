-- The numbers that are noted are the places among what a path opens.
use Rattle.std.proofs.Common.{◌≡◌, ℕ, suc, ◌+◌, cond, inl, inr, List, [], ◌∷◌, ◌++◌, length, set, refl, sym, ◌∙◌, ap, subst, arith, length-set}
use Rattle.std.proofs.lemmas.Bool.Decides.{eqb_tells}
use Rattle.std.proofs.lemmas.List.{get_or-set_same, get_or-set_other}
use Rattle.si_defs.specs.Substitutions.{IsAmong, AreDistinct}
use Rattle.si_defs.proofs.ListLaws.{among_parts}
use Rattle.si_flat.proofs.RowLaws.{distinct_parts}
use Rattle.si_changes.specs.Places.{number_among}
use Rattle.si_changes.proofs.PlacedLaws.{number_front}
use Rattle.si_tree.specs.Numbers.{AreBelow, noted, noted_number}

pub noted_other : (numbers : List ℕ) (next : ℕ) (ns : List ℕ) (n : ℕ) → (IsAmong ns n → ⊥) → noted_number (noted numbers next ns) n ≡ noted_number numbers n
noted_other numbers next [] n other = refl
noted_other numbers next (m ∷ ns) n other =
    noted_other (set numbers m next) (suc next) ns n (λ a. other (inr a))
    ∙ get_or-set_other numbers m n next 0 (λ e. other (inl (sym e)))

below_set : (numbers : List ℕ) (m next : ℕ) (ns : List ℕ) → AreBelow (length numbers) ns → AreBelow (length (set numbers m next)) ns
below_set numbers m next ns below = subst (λ k. AreBelow k ns) (sym (length-set numbers m next)) below

pub noted_is : (numbers : List ℕ) (next : ℕ) (ns : List ℕ) (n : ℕ) → AreDistinct ns → AreBelow (length numbers) ns → IsAmong ns n → noted_number (noted numbers next ns) n ≡ next + number_among ns n
noted_is numbers next [] n distinct below a = absurd a
noted_is numbers next (m ∷ ns) n distinct below a =
    elim (eqb_tells m n) as (λ _. noted_number (noted numbers next (m ∷ ns)) n ≡ next + number_among (m ∷ ns) n) [
      | inl h ↦
          (let none : number_among (m ∷ ns) n ≡ 0 = ap (λ b. cond b 0 (1 + number_among ns n)) h.0 in
          let here = noted_other (set numbers m next) (suc next) ns n (λ b. distinct.0 (subst (IsAmong ns) (sym h.1) b)) in
          let is = ap (noted_number (set numbers m next)) (sym h.1) ∙ get_or-set_same numbers m next 0 below.0 in
          omega (arith, none, here ∙ is))
      | inr h ↦
          (let one : number_among (m ∷ ns) n ≡ 1 + number_among ns n = ap (λ b. cond b 0 (1 + number_among ns n)) h.0 in
          let rest = noted_is (set numbers m next) (suc next) ns n distinct.1 (below_set numbers m next ns below.1) (later a h.1) in
          omega (arith, one, rest))
    ] where
      later : IsAmong (m ∷ ns) n → (m ≡ n → ⊥) → IsAmong ns n
      later (inl e) differ = absurd (differ e)
      later (inr b) differ = b

pub number_rest : (xs ys : List ℕ) (n : ℕ) → (IsAmong xs n → ⊥) → number_among (xs ++ ys) n ≡ length xs + number_among ys n
number_rest [] ys n other = omega arith
number_rest (x ∷ xs) ys n other = elim (eqb_tells x n) as (λ _. number_among (x ∷ xs ++ ys) n ≡ length (x ∷ xs) + number_among ys n) [
  | inl h ↦ absurd (other (inl h.1))
  | inr h ↦
      (let one : number_among (x ∷ xs ++ ys) n ≡ 1 + number_among (xs ++ ys) n = ap (λ b. cond b 0 (1 + number_among (xs ++ ys) n)) h.0 in
      let rest = number_rest xs ys n (λ a. other (inr a)) in
      omega (arith, one, rest))
]

-- What is noted for some stays, and further ones get the next numbers: so each has its place.
pub noted_places : (numbers xs ys : List ℕ) → AreDistinct (xs ++ ys) → AreBelow (length numbers) ys → ((n : ℕ) → IsAmong xs n → noted_number numbers n ≡ number_among xs n) → (n : ℕ) → IsAmong (xs ++ ys) n → noted_number (noted numbers (length xs) ys) n ≡ number_among (xs ++ ys) n
noted_places numbers xs ys distinct below known n a =
    let parts = distinct_parts xs ys distinct in
    elim (among_parts xs ys n a) as (λ _. noted_number (noted numbers (length xs) ys) n ≡ number_among (xs ++ ys) n) [
      | inl b ↦ noted_other numbers (length xs) ys n (λ c. parts.2 n b c) ∙ known n b ∙ sym (number_front xs ys n b)
      | inr b ↦ noted_is numbers (length xs) ys n parts.1 below b ∙ sym (number_rest xs ys n (λ c. parts.2 n c b))
    ]
