-- Numbers above those of the variables among heads.
use Rattle.std.proofs.Common.{◌≡◌, ℕ, ◌<◌, ◌≤◌, List, [], ◌∷◌, ◌++◌, inl, inr, length, get_or, arith}
use Rattle.std.specs.List.{swap_remove}
use Rattle.std.proofs.lemmas.List.Elements.{All-from_recursion, recursion_from_All}
use Rattle.std.proofs.lemmas.List.Sorted.{All-permutation, IsPermutation-swap_remove}
use Rattle.si_defs.specs.Substitutions.{IsAmong}
use Rattle.si_defs.proofs.ListLaws.{all_at, all_from, among_either}
use Rattle.si_tree.specs.declared.node.Head.{Head}
use Rattle.si_tree.specs.declared.node.Head.TheVariants.{Var}
use Rattle.si_tree.specs.HashedHeads.{AreVariablesBelow}

-- with one head more
pub below_more : (m n bound : ℕ) (heads : List Head) (head : Head) → m ≤ bound → n ≤ bound → AreVariablesBelow m heads → AreVariablesBelow n (head ∷ []) → AreVariablesBelow bound (heads ++ head ∷ [])
below_more m n bound heads head some more old new number a = elim (among_either heads head (Var number) a) as (λ _. number < bound) [
  | inl before ↦ omega (arith, some, old number before)
  | inr same ↦ omega (arith, more, new number (inl same))
]

-- with one head less
pub below_less : (bound place : ℕ) (heads : List Head) (head : Head) → place < length heads → head ≡ get_or heads place head → AreVariablesBelow bound heads → AreVariablesBelow bound (swap_remove heads place head)
below_less bound place heads head less is below number a =
    let all = All-from_recursion (IsAmong heads) heads (all_from (IsAmong heads) heads (λ h b. b)) in
    below number
    (all_at (IsAmong heads) (head ∷ swap_remove heads place head) (Var number)
    (recursion_from_All (IsAmong heads) (head ∷ swap_remove heads place head) (All-permutation (IsAmong heads) heads (head ∷ swap_remove heads place head) (IsPermutation-swap_remove heads place head less is) all))
    (inr a))
