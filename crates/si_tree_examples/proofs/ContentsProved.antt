-- Trees whose bindings, leaves or bounds break a rule.
use Rattle.std.proofs.Common.{◌≡◌, inl, inr, ℕ, zero, suc, ◌+◌, [], ◌∷◌, refl, ap, subst, arith}
use Rattle.si_defs.specs.Terms as terms
use Rattle.si_defs.specs.Substitutions.{IsAmong, AreDistinct}
use Rattle.si_flat.specs.Cells.{entry, Term}
use Rattle.si_legal.specs.Bindings.{Binding, indicator}
use Rattle.si_legal.specs.Trees.{Tree, HasNode, opened}
use Rattle.si_legal.specs.Legal.{ChildBinds}
use Rattle.si_legal.proofs.PathLaws.{one_node}
use Rattle.si_tree_examples.specs.SomeTerms.{f, a, b, x, y}
use Rattle.si_tree_examples.specs.SomeTrees.{posting, root, fork, leaf_of, leaf_holding, nested, NoBoundTwice, NoZeroAgain, NoQueryVariable, NoSplitBoundLater, NoEqualVariables, NoTurnedVariables, NoUnsoundTerm, NoLargeTerm, NoPostingTwiceInLeaf, NoNextZero, NoManyVariables}
use Rattle.si_tree_examples.proofs.TreesProved.{tree_in, known_path, one_binding, heads_differ, leaf_term, number, numbered_first}

-- ---- bindings
pub no_bound_twice : NoBoundTwice
no_bound_twice l = (l.nodes 1 (leaf_of 0 ((0, a) ∷ (0, b) ∷ []) 0) refl).binds.distinct.0 (inl refl)

pub no_zero_again : NoZeroAgain
no_zero_again l =
    let one = fork 0 ((0, f (indicator 0 ∷ [])) ∷ []) 0 (2 ∷ 3 ∷ []) in
    let n = l.nodes 1 one refl in
    let opens = subst (λ p. AreDistinct (opened ((1, one) ∷ p))) (known_path _ 1 one n ((0, root (1 ∷ [])) ∷ []) (refl, refl, refl)) n.opens in
    opens.0 (inl refl)

pub no_query_variable : NoQueryVariable
no_query_variable l = (l.nodes 1 (leaf_of 0 ((0, f (y ∷ [])) ∷ []) 0) refl).binds.within.0.0

pub no_split_bound_later : NoSplitBoundLater
no_split_bound_later l =
    let upper = fork 0 ((0, f (indicator 1 ∷ indicator 2 ∷ [])) ∷ []) 1 (2 ∷ 3 ∷ []) in
    let first = (l.nodes 1 upper refl).content.2.0 in
    omega (arith, (one_binding (tree_in l) 2 2 1 a first.0 (fork 1 ((2, a) ∷ []) 1 (4 ∷ 5 ∷ [])) refl refl first.1).0)

-- what the leaf of f(X,X) binds
binds_first : (tree : Tree Term) (u : Term) → HasNode tree 2 (leaf_of 1 ((1, x 0) ∷ (2, x 0) ∷ []) 0) → ChildBinds tree 2 1 u → x 0 ≡ u
binds_first tree u has binds =
    by (subst (λ l. IsAmong l (1, u)) (ap (λ k. k.bindings) (one_node tree 2 binds.0 _ binds.1 has)) binds.2) where
      by : IsAmong {V = Binding} ((1, x 0) ∷ (2, x 0) ∷ []) (1, u) → x 0 ≡ u
      by (inl e) = ap (λ p. p.1) e
      by (inr (inl e)) = absurd (omega (arith, ap (λ p. p.0) e))
      by (inr (inr h)) = absurd h

pub no_equal_variables : NoEqualVariables
no_equal_variables l =
    let upper = fork 0 ((0, f (indicator 1 ∷ indicator 2 ∷ [])) ∷ []) 1 (2 ∷ 3 ∷ []) in
    let two = leaf_of 1 ((1, x 0) ∷ (2, x 1) ∷ []) 1 in
    heads_differ (tree_in l) 1 2 3 (x 0) (x 0) (λ u binds. binds_first (tree_in l) u refl binds) (two, refl, inl refl) refl (l.nodes 1 upper refl).content.2

-- ---- leaves
pub no_turned_variables : NoTurnedVariables
no_turned_variables l =
    let numbered = (leaf_term (f (x 1 ∷ x 0 ∷ [])) 1 2 l).numbered in
    omega (arith, ap number (numbered_first (entry 1) (entry 0 ∷ []) numbered.0 numbered.1))

pub no_unsound_term : NoUnsoundTerm
no_unsound_term l = omega (arith, (leaf_term (terms.app (record { number = 2; arity = 1 }) terms.none) 1 0 l).sound.0)

nested_size : (n : ℕ) → terms.size (nested n) ≡ 1 + n
nested_size zero = refl
nested_size (suc n) = omega (arith, nested_size n)

pub no_large_term : NoLargeTerm
no_large_term n large l = omega (arith, large, nested_size n, (leaf_term (nested n) 1 0 l).size)

pub no_posting_twice_in_leaf : NoPostingTwiceInLeaf
no_posting_twice_in_leaf l = (l.nodes 1 (leaf_holding 0 ((0, a) ∷ []) (posting 0 ∷ posting 0 ∷ [])) refl).content.2.0 (inl refl)

-- ---- bounds
pub no_next_zero : NoNextZero
no_next_zero l = omega (arith, l.zero_known)

pub no_many_variables : NoManyVariables
no_many_variables l = omega (arith, l.few_variables)
