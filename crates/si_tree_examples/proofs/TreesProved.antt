-- Trees that break a rule.
use Rattle.std.proofs.Common.{◌≡◌, inl, inr, ℕ, zero, suc, true, false, List, [], ◌∷◌, refl, ap, sym, ◌∙◌, subst, arith}
use Rattle.si_defs.specs.Substitutions.{IsAmong, AreDistinct}
use Rattle.si_defs.proofs.ListLaws.{same_first}
use Rattle.si_flat.specs.Cells.{Variable, entry, ind, Term}
use Rattle.si_flat.specs.Flattened.{counted_from}
use Rattle.si_flat.proofs.RowLaws.{distinct_parts}
use Rattle.si_legal.specs.Bindings.{Binding, indicators, indicator}
use Rattle.si_legal.specs.Generalizations as general
use Rattle.si_legal.specs.Trees.{Node, Tree, HasNode, Path, IsPath, path_term, opened}
use Rattle.si_legal.specs.Legal.{IsLegal, IsLegalNode, IsLeafTerm, ChildBinds, ChildrenDiffer}
use Rattle.si_legal.proofs.PathLaws.{one_node, one_path}
use Rattle.si_tree_examples.specs.SomeTerms.{f, g, a, b, x}
use Rattle.si_tree_examples.specs.SomeTrees.{root, fork, leaf_of, tree_of, NoSingleChild, NoBareIndicator, NoIndicatorTwice, NoIndicatorAgain, NoForeignBinding, NoBoundSplit, NoSplitUnbound, NoEqualHeads, NoTermTwice, NoOpenLeaf, NoLaterVariable, NoLargeIndicator, NoLargeVariable, NoPostingTwice, NoForgottenChild, posting}

-- the tree that this says to be legal
abbrev pub tree_in : {tree : Tree Term} → IsLegal tree → Tree Term
tree_in {tree} l = tree

-- the path of a node is the one that is known
pub known_path : (tree : Tree Term) (key : ℕ) (node : Node Term) (n : IsLegalNode tree key node) (above : Path) → IsPath tree node.parent above → n.above ≡ above
known_path tree key node n above leads = one_path tree node.parent n.above above n.reached leads

pub no_single_child : NoSingleChild
no_single_child l = omega (arith, (l.nodes 1 (fork 0 ((0, f (indicator 1 ∷ [])) ∷ []) 1 (2 ∷ [])) refl).content.3 (λ e. omega (arith, e)))

pub no_bare_indicator : NoBareIndicator
no_bare_indicator l = (l.nodes 1 (fork 0 ((0, indicator 1) ∷ []) 1 (2 ∷ 3 ∷ [])) refl).binds.rights.0 tt

pub no_indicator_twice : NoIndicatorTwice
no_indicator_twice l =
    let n = l.nodes 1 (fork 0 ((0, f (indicator 1 ∷ indicator 1 ∷ [])) ∷ []) 1 (2 ∷ 3 ∷ [])) refl in
    (distinct_parts (opened n.above) (1 ∷ 1 ∷ []) n.opens).1.0 (inl refl)

pub no_indicator_again : NoIndicatorAgain
no_indicator_again l =
    let upper = fork 0 ((0, f (indicator 1 ∷ [])) ∷ []) 1 (2 ∷ 3 ∷ []) in
    let lower = fork 1 ((1, g (indicator 1)) ∷ []) 1 (4 ∷ 5 ∷ []) in
    let n = l.nodes 2 lower refl in
    let opens = subst (λ p. AreDistinct (opened ((2, lower) ∷ p))) (known_path _ 2 lower n ((1, upper) ∷ (0, root (1 ∷ [])) ∷ []) (refl, refl, (refl, refl, refl))) n.opens in
    opens.1.0 (inl refl)

pub no_foreign_binding : NoForeignBinding
no_foreign_binding l =
    let one = leaf_of 0 ((0, a) ∷ (1, b) ∷ []) 0 in
    let n = l.nodes 1 one refl in
    let foreign = subst (λ p. IsAmong (indicators (path_term p)) 1) (known_path _ 1 one n ((0, root (1 ∷ [])) ∷ []) (refl, refl, refl)) n.binds.lefts.1.0 in
    by foreign where
      by : IsAmong {V = ℕ} (0 ∷ []) 1 → ⊥
      by (inl e) = omega (arith, e)
      by (inr h) = h

pub no_bound_split : NoBoundSplit
no_bound_split l =
    let one = fork 0 ((0, f (indicator 1 ∷ [])) ∷ []) 0 (2 ∷ 3 ∷ []) in
    let n = l.nodes 1 one refl in
    let bound = subst (λ p. IsAmong (indicators (path_term ((1, one) ∷ p))) 0) (known_path _ 1 one n ((0, root (1 ∷ [])) ∷ []) (refl, refl, refl)) n.content.0 in
    by bound where
      by : IsAmong {V = ℕ} (1 ∷ []) 0 → ⊥
      by (inl e) = omega (arith, e)
      by (inr h) = h

-- what a child with one binding binds
pub one_binding : (tree : Tree Term) (child m n : ℕ) (t u : Term) (node : Node Term) → HasNode tree child node → node.bindings ≡ (m, t) ∷ [] → ChildBinds tree child n u → (m ≡ n) × (t ≡ u)
one_binding tree child m n t u node has is binds =
    by (subst (λ l. IsAmong l (n, u)) (ap (λ k. k.bindings) (one_node tree child binds.0 node binds.1 has) ∙ is) binds.2) where
      by : IsAmong {V = Binding} ((m, t) ∷ []) (n, u) → (m ≡ n) × (t ≡ u)
      by (inl e) = (ap (λ p. p.0) e, ap (λ p. p.1) e)
      by (inr h) = absurd h

pub no_split_unbound : NoSplitUnbound
no_split_unbound l =
    let n = l.nodes 1 (fork 0 ((0, f (indicator 1 ∷ indicator 2 ∷ [])) ∷ []) 1 (2 ∷ 3 ∷ [])) refl in
    let first = n.content.2.0 in
    omega (arith, (one_binding (tree_in l) 2 2 1 a first.0 (leaf_of 1 ((2, a) ∷ []) 0) refl refl first.1).0)

-- no two children bind the split to terms of one head
pub heads_differ : (tree : Tree Term) (split child other : ℕ) (t u : Term) → ((v : Term) → ChildBinds tree child split v → t ≡ v) → ChildBinds tree other split u → general.same_head t u ≡ true → ChildrenDiffer tree split (child ∷ other ∷ []) → ⊥
heads_differ tree split child other t u only binds same differ =
    by (sym same ∙ subst (λ v. general.same_head v u ≡ false) (sym (only differ.0.0 differ.0.1)) (differ.0.2.0 u binds)) where
      by : true ≡ false → ⊥
      by e = cc

pub no_equal_heads : NoEqualHeads
no_equal_heads l =
    let one = leaf_of 0 ((0, f (a ∷ [])) ∷ []) 0 in
    let two = leaf_of 0 ((0, f (b ∷ [])) ∷ []) 1 in
    heads_differ (tree_in l) 0 1 2 (f (a ∷ [])) (f (b ∷ [])) (λ v binds. (one_binding (tree_in l) 1 0 0 (f (a ∷ [])) v one refl refl binds).1) (two, refl, inl refl) refl (l.nodes 0 (root (1 ∷ 2 ∷ [])) refl).content.2

pub no_term_twice : NoTermTwice
no_term_twice l =
    let base = root (1 ∷ 2 ∷ []) in
    let one = leaf_of 0 ((0, a) ∷ []) 0 in
    let two = leaf_of 0 ((0, a) ∷ []) 1 in
    omega (
      arith,
      l.terms_differ 1 2 a (posting 0 ∷ []) (posting 1 ∷ [])
          (record { node = one; above = (0, base) ∷ []; reached = (refl, refl, (refl, refl, refl)); content = refl; term = refl })
          (record { node = two; above = (0, base) ∷ []; reached = (refl, refl, (refl, refl, refl)); content = refl; term = refl }),
    )

-- no variable but the entry's first comes first
pub numbered_first : (y : Variable) (ys : List Variable) (n : ℕ) → y ∷ ys ≡ counted_from entry 0 n → y ≡ entry 0
numbered_first y ys zero e = absurd cc
numbered_first y ys (suc n) e = same_first e

-- the one leaf's term is as a leaf's has to be
pub leaf_term : (t : Term) (next vars : ℕ) → IsLegal (tree_of (root (1 ∷ []) ∷ leaf_of 0 ((0, t) ∷ []) 0 ∷ []) next vars) → IsLeafTerm t
leaf_term t next vars l =
    let one = leaf_of 0 ((0, t) ∷ []) 0 in
    let n = l.nodes 1 one refl in
    subst (λ p. IsLeafTerm (path_term ((1, one) ∷ p))) (known_path (tree_in l) 1 one n ((0, root (1 ∷ [])) ∷ []) (refl, refl, refl)) n.content.1

pub no_open_leaf : NoOpenLeaf
no_open_leaf l =
    let numbered = (leaf_term (f (indicator 1 ∷ [])) 2 0 l).numbered in
    by (numbered_first (ind 1) [] numbered.0 numbered.1) where
      by : ind 1 ≡ entry 0 → ⊥
      by e = cc

abbrev pub number : Variable → ℕ
number (entry n) = n
number _ = 0

pub no_later_variable : NoLaterVariable
no_later_variable l =
    let numbered = (leaf_term (f (x 1 ∷ [])) 1 2 l).numbered in
    omega (arith, ap number (numbered_first (entry 1) [] numbered.0 numbered.1))

pub no_large_indicator : NoLargeIndicator
no_large_indicator l = omega (arith, (l.nodes 1 (fork 0 ((0, f (indicator 1 ∷ [])) ∷ []) 1 (2 ∷ 3 ∷ [])) refl).binds.within.0.0)

pub no_large_variable : NoLargeVariable
no_large_variable l = omega (arith, (l.nodes 1 (leaf_of 0 ((0, f (x 0 ∷ [])) ∷ []) 0) refl).binds.within.0.0)

pub no_forgotten_child : NoForgottenChild
no_forgotten_child l = ((l.nodes 0 (root []) refl).content.1 1).1 (leaf_of 0 ((0, a) ∷ []) 0, refl, refl)

pub no_posting_twice : NoPostingTwice
no_posting_twice l =
    let base = root (1 ∷ 2 ∷ []) in
    let one = leaf_of 0 ((0, a) ∷ []) 0 in
    let two = leaf_of 0 ((0, b) ∷ []) 0 in
    omega (
      arith,
      l.postings_differ 1 2 a b (posting 0)
          (posting 0 ∷ [], record { node = one; above = (0, base) ∷ []; reached = (refl, refl, (refl, refl, refl)); content = refl; term = refl }, inl refl)
          (posting 0 ∷ [], record { node = two; above = (0, base) ∷ []; reached = (refl, refl, (refl, refl, refl)); content = refl; term = refl }, inl refl),
    )
