-- A list in another order has the same members, each as often.
use Rattle.std.proofs.Common.{◌⊎◌, inl, inr, ℕ, ◌≤◌, ◌==◌, Bool, cond, List, [], ◌∷◌, sum_by, IsPermutation, refl, ap, sym, subst, arith}
use Rattle.std.proofs.lemmas.Bool.{eq-eqb, cases_lt}
use Rattle.std.proofs.lemmas.Bool.Decides.{eqb_tells}
use Rattle.std.proofs.lemmas.List.Elements.{All-from_recursion, recursion_from_All}
use Rattle.std.proofs.lemmas.List.Sorted.{All-permutation, IsPermutation-sym, sum_by-IsPermutation}
use Rattle.std.proofs.lemmas.List.Sums.{sum_by-cons}
use Rattle.si_defs.specs.Substitutions.{IsAmong, AreDistinct}
use Rattle.si_defs.proofs.ListLaws.{all_at, all_from}

pub among_or_not : (xs : List ℕ) (x : ℕ) → IsAmong xs x ⊎ (IsAmong xs x → ⊥)
among_or_not [] x = inr (λ a. a)
among_or_not (y ∷ xs) x =
    elim (eqb_tells y x) [
      | inl h ↦ inl (inl h.1)
      | inr h ↦ elim (among_or_not xs x) [ inl a ↦ inl (inr a) | inr a ↦ inr (λ b. elim b [ inl e ↦ h.1 e | inr c ↦ a c ]) ]
    ]

pub permuted_among : (xs ys : List ℕ) (x : ℕ) → IsPermutation xs ys → IsAmong xs x → IsAmong ys x
permuted_among xs ys x moved a =
    let own = All-from_recursion (IsAmong ys) ys (all_from (IsAmong ys) ys (λ y b. b)) in
    all_at (IsAmong ys) xs x (recursion_from_All (IsAmong ys) xs (All-permutation (IsAmong ys) ys xs (IsPermutation-sym xs ys moved) own)) a

-- ---- how often a number occurs
abbrev as_one : Bool → ℕ
as_one b = cond b 1 0

abbrev one_if : ℕ → ℕ → ℕ
one_if n m = as_one (m == n)

abbrev times : ℕ → List ℕ → ℕ
times n xs = sum_by (one_if n) xs

some_times : (xs : List ℕ) (n : ℕ) → IsAmong xs n → 1 ≤ times n xs
some_times [] n a = absurd a
some_times (x ∷ xs) n (inl e) = omega (arith, sum_by-cons (one_if n) x xs, ap as_one (eq-eqb x n e))
some_times (x ∷ xs) n (inr a) = omega (arith, sum_by-cons (one_if n) x xs, some_times xs n a)

some_among : (xs : List ℕ) (n : ℕ) → 1 ≤ times n xs → IsAmong xs n
some_among [] n some = absurd (omega (arith, some))
some_among (x ∷ xs) n some =
    elim (eqb_tells x n) [
      | inl h ↦ inl h.1
      | inr h ↦ inr (some_among xs n (omega (arith, some, sum_by-cons (one_if n) x xs, ap as_one h.0)))
    ]

once : (xs : List ℕ) → AreDistinct xs → (n : ℕ) → times n xs ≤ 1
once [] h n = omega arith
once (x ∷ xs) h n =
    elim (eqb_tells x n) as (λ _. times n (x ∷ xs) ≤ 1) [
      | inl e ↦ elim (cases_lt (times n xs) 1) as (λ _. times n (x ∷ xs) ≤ 1) [
        | inl less ↦ omega (arith, less, sum_by-cons (one_if n) x xs, ap as_one e.0)
        | inr some ↦ absurd (h.0 (subst (IsAmong xs) (sym e.1) (some_among xs n some)))
      ]
      | inr e ↦ omega (arith, once xs h.1 n, sum_by-cons (one_if n) x xs, ap as_one e.0)
    ]

distinct_once : (xs : List ℕ) → ((n : ℕ) → times n xs ≤ 1) → AreDistinct xs
distinct_once [] h = tt
distinct_once (x ∷ xs) h = (
  (λ a. omega (arith, h x, some_times xs x a, sum_by-cons (one_if x) x xs, ap as_one (eq-eqb x x refl))),
  distinct_once xs (λ n. omega (arith, h n, sum_by-cons (one_if n) x xs)),
)

pub permuted_distinct : (xs ys : List ℕ) → IsPermutation xs ys → AreDistinct xs → AreDistinct ys
permuted_distinct xs ys moved h = distinct_once ys (λ n. omega (arith, sum_by-IsPermutation (one_if n) xs ys moved, once xs h n))
