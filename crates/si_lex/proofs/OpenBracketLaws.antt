-- Open brackets as a number.
use Rattle.std.proofs.Common.{◌≡◌, ℕ, zero, suc, ◌+◌, ◌*◌, ◌/◌, ◌%◌, ◌<◌, ◌≤◌, [], ◌∷◌, length, refl, ap, sym, ◌∙◌, arith}
use Rattle.si_lex.specs.OpenBrackets.{bracket_of_digit, brackets_from, brackets_in}

abbrev two_to : ℕ → ℕ
two_to zero = 1
two_to (suc k) = two_to k * 2

-- a number of so many digits has no more brackets
same_from : (k n : ℕ) → n < two_to k → brackets_from (suc k) n ≡ brackets_from k n
same_from zero zero h = refl
same_from zero (suc n) h = absurd (omega (arith, h))
same_from (suc k) zero h = refl
same_from (suc k) (suc zero) h = refl
same_from (suc k) (suc (suc n)) h = ap (λ bs. bracket_of_digit (n % 2) ∷ bs) (same_from k (suc (n / 2)) (omega (arith, h)))

few_from : (k n : ℕ) → length (brackets_from k n) ≤ k
few_from zero n = omega arith
few_from (suc k) zero = omega arith
few_from (suc k) (suc zero) = omega arith
few_from (suc k) (suc (suc n)) = omega (arith, few_from k (suc (n / 2)))

pub few : (n : ℕ) → length (brackets_in n) ≤ 64
few n = few_from 64 n

-- the last digit is the last bracket
pub last_digit : (n : ℕ) → n < 18446744073709551616 → 2 ≤ n → brackets_in n ≡ bracket_of_digit (n % 2) ∷ brackets_in (n / 2)
last_digit zero s h = absurd (omega (arith, h))
last_digit (suc zero) s h = absurd (omega (arith, h))
last_digit (suc (suc n)) s h =
    let digit : n % 2 ≡ suc (suc n) % 2 = omega arith in
    let others : suc (n / 2) ≡ suc (suc n) / 2 = omega arith in
    let small : suc (suc n) / 2 < two_to 63 = omega (arith, s) in
    ap (λ d. bracket_of_digit d ∷ brackets_from 63 (suc (n / 2))) digit
    ∙ ap (λ k. bracket_of_digit (suc (suc n) % 2) ∷ brackets_from 63 k) others
    ∙ ap (λ bs. bracket_of_digit (suc (suc n) % 2) ∷ bs) (sym (same_from 63 (suc (suc n) / 2) small))

pub one_digit_more : (n digit : ℕ) → 1 ≤ n → digit < 2 → n * 2 + digit < 18446744073709551616 → brackets_in (n * 2 + digit) ≡ bracket_of_digit digit ∷ brackets_in n
one_digit_more n digit some d s =
    let last : (n * 2 + digit) % 2 ≡ digit = omega (arith, d) in
    let others : (n * 2 + digit) / 2 ≡ n = omega (arith, d) in
    last_digit (n * 2 + digit) s (omega (arith, some)) ∙ ap (λ k. bracket_of_digit k ∷ brackets_in ((n * 2 + digit) / 2)) last
    ∙ ap (λ k. bracket_of_digit digit ∷ brackets_in k) others

pub none_of_one : (n : ℕ) → n < 18446744073709551616 → 1 ≤ n → brackets_in n ≡ [] → n ≡ 1
none_of_one zero s h e = absurd (omega (arith, h))
none_of_one (suc zero) s h e = refl
none_of_one (suc (suc n)) s h e = cc
