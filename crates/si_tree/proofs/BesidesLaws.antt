-- The other one of two children.
use Rattle.std.proofs.Common.{◌≡◌, ◌⊎◌, ℕ, List, [], ◌∷◌, length, get_or, inl, inr, refl, sym, ◌∙◌, arith}
use Rattle.std.specs.Prelude.{IsPermutation}
use Rattle.std.proofs.lemmas.List.Sorted.{IsPermutation-sym}
use Rattle.si_defs.specs.Substitutions.{IsAmong}
use Rattle.si_changes.proofs.Permuted.{permuted_among}

one_of : (x a b : ℕ) → IsAmong (a ∷ b ∷ []) x → (a ≡ x) ⊎ (b ≡ x)
one_of x a b (inl e) = inl e
one_of x a b (inr (inl e)) = inr e
one_of x a b (inr (inr e)) = absurd e

-- of two children, this one stands first
pub second_is : (cs : List ℕ) (child other d e : ℕ) → length cs ≡ 2 → get_or cs 0 d ≡ child → IsPermutation (child ∷ other ∷ []) cs → get_or cs 1 e ≡ other
second_is [] child other d e two first perm = absurd (omega (arith, two))
second_is (a ∷ []) child other d e two first perm = absurd (omega (arith, two))
second_is (a ∷ b ∷ []) child other d e two first perm =
    elim (one_of other a b (permuted_among (child ∷ other ∷ []) (a ∷ b ∷ []) other perm (inr (inl refl)))) as (λ _. b ≡ other) [
      | inr same ↦ same
      | inl same ↦ elim (one_of b child other (permuted_among (a ∷ b ∷ []) (child ∷ other ∷ []) b (IsPermutation-sym (child ∷ other ∷ []) (a ∷ b ∷ []) perm) (inr (inl refl)))) as (λ _. b ≡ other) [
        | inr e ↦ sym e
        | inl e ↦ sym e ∙ sym first ∙ same
      ]
    ]
second_is (a ∷ b ∷ c ∷ cs) child other d e two first perm = absurd (omega (arith, two))

-- and here it doesn't
pub first_is : (cs : List ℕ) (child other d e : ℕ) → length cs ≡ 2 → (get_or cs 0 d ≡ child → ⊥) → IsPermutation (child ∷ other ∷ []) cs → get_or cs 0 e ≡ other
first_is [] child other d e two apart perm = absurd (omega (arith, two))
first_is (a ∷ cs) child other d e two apart perm =
    elim (one_of a child other (permuted_among (a ∷ cs) (child ∷ other ∷ []) a (IsPermutation-sym (child ∷ other ∷ []) (a ∷ cs) perm) (inl refl))) as (λ _. a ≡ other) [
      | inl same ↦ absurd (apart (sym same))
      | inr same ↦ sym same
    ]
