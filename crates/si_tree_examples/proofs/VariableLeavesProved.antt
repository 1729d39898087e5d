-- The tree of f(X,Y) and f(X,X) is legal.
use Rattle.std.proofs.Common.{◌≡◌, inl, inr, ℕ, zero, suc, false, cond, ◌==◌, List, [], ◌∷◌, Some, refl, sym, ◌∙◌, subst, arith}
use Rattle.si_defs.specs.Terms as terms
use Rattle.si_defs.specs.Substitutions.{IsAmong}
use Rattle.si_flat.specs.Cells.{entry, Term}
use Rattle.si_legal.specs.declared.Posting.{Posting}
use Rattle.si_legal.specs.Bindings.{indicator}
use Rattle.si_legal.specs.Generalizations.{same_head}
use Rattle.si_legal.specs.Trees.{Node, HasNode, Path, IsLeaf}
use Rattle.si_legal.specs.Legal.{IsLegal, IsLegalNode, AreChildren, ChildBinds}
use Rattle.si_tree_examples.specs.SomeTerms.{f, x}
use Rattle.si_tree_examples.specs.SomeTrees.{root, fork, leaf_of, variable_leaves, VariableLeaves}
use Rattle.si_tree_examples.proofs.TreesProved.{one_binding}
use Rattle.si_tree_examples.proofs.FiveNodesProved.{EachNode, each_node, Known, Tells, tells_leaf, leaf_known, no_leaf, not_none, other, not_among, one_zero}

abbrev base : Node Term
base = root (1 ∷ [])

abbrev middle : Node Term
middle = fork 0 ((0, f (x 0 ∷ indicator 1 ∷ [])) ∷ []) 1 (2 ∷ 3 ∷ [])

-- the leaves of f(X,Y) and of f(X,X)
abbrev two_variables : Node Term
two_variables = leaf_of 1 ((1, x 1) ∷ []) 0

abbrev one_variable : Node Term
one_variable = leaf_of 1 ((1, x 0) ∷ []) 1

abbrev above_leaf : Path
above_leaf = (1, middle) ∷ (0, base) ∷ []

-- ---- children
abbrev Child : ℕ → ℕ → Type 0
Child key child = (node : Node Term) × HasNode variable_leaves child node × (node.parent ≡ Some key)

children_of_root : AreChildren variable_leaves 0 (1 ∷ [])
children_of_root child = (by, (λ h. each_node (λ k n. n.parent ≡ Some 0 → IsAmong (1 ∷ []) k) variable_leaves.nodes ((λ e. absurd (not_none 0 e)), ((λ e. inl refl), ((λ e. absurd (other 1 0 one_zero e)), ((λ e. absurd (other 1 0 one_zero e)), tt)))) child h.0 h.1 h.2)) where
  by : IsAmong (1 ∷ []) child → Child 0 child
  by (inl e) = subst (Child 0) e (middle, refl, refl)
  by (inr h) = absurd h

children_of_middle : AreChildren variable_leaves 1 (2 ∷ 3 ∷ [])
children_of_middle child = (by, (λ h. each_node (λ k n. n.parent ≡ Some 1 → IsAmong (2 ∷ 3 ∷ []) k) variable_leaves.nodes ((λ e. absurd (not_none 1 e)), ((λ e. absurd (other 0 1 (λ d. omega (arith, d)) e)), ((λ e. inl refl), ((λ e. inr (inl refl)), tt)))) child h.0 h.1 h.2)) where
  by : IsAmong (2 ∷ 3 ∷ []) child → Child 1 child
  by (inl e) = subst (Child 1) e (two_variables, refl, refl)
  by (inr (inl e)) = subst (Child 1) e (one_variable, refl, refl)
  by (inr (inr h)) = absurd h

no_child_of_leaf : (key : ℕ) → (0 ≡ key → ⊥) → (1 ≡ key → ⊥) → AreChildren variable_leaves key []
no_child_of_leaf key root_differs middle_differs child = (absurd, (λ h. each_node (λ k n. n.parent ≡ Some key → ⊥) variable_leaves.nodes (not_none key, (other 0 key root_differs, (other 1 key middle_differs, (other 1 key middle_differs, tt)))) child h.0 h.1 h.2))

-- the head of a variable is the variable
heads : (u : Term) → ChildBinds variable_leaves 3 1 u → same_head (x 1) u ≡ false
heads u binds = subst (λ t. same_head (x 1) t ≡ false) (one_binding variable_leaves 3 1 1 (x 0) u one_variable refl refl binds).1 refl

-- ---- nodes
legal_base : IsLegalNode variable_leaves 0 base
legal_base = record {
  above = [];
  reached = refl;
  only_root = λ e. refl;
  binds = record { lefts = tt; distinct = tt; rights = tt; within = tt };
  opens = ((λ h. h), tt);
  content = (inl refl, children_of_root, ((f (x 0 ∷ indicator 1 ∷ []), (middle, refl, inl refl), tt), tt), (λ h. absurd (h refl)));
}

legal_middle : IsLegalNode variable_leaves 1 middle
legal_middle = record {
  above = (0, base) ∷ [];
  reached = (refl, refl, refl);
  only_root = λ e. absurd (not_none 0 (sym e));
  binds = record { lefts = (inl refl, tt); distinct = ((λ h. h), tt); rights = ((λ h. h), tt); within = ((omega arith, (omega arith, tt)), tt) };
  opens = ((λ h. not_among 1 0 one_zero h), ((λ h. h), tt));
  content = (inl refl, children_of_middle, ((x 1, (two_variables, refl, inl refl), (heads, tt)), ((x 0, (one_variable, refl, inl refl), tt), tt)), (λ h. omega arith));
}

legal_two : IsLegalNode variable_leaves 2 two_variables
legal_two = record {
  above = above_leaf;
  reached = (refl, refl, (refl, refl, refl));
  only_root = λ e. absurd (not_none 1 (sym e));
  binds = record { lefts = (inl refl, tt); distinct = ((λ h. h), tt); rights = ((λ h. h), tt); within = ((omega arith, tt), tt) };
  opens = ((λ h. not_among 1 0 one_zero h), ((λ h. h), tt));
  content = (no_child_of_leaf 2 (λ e. omega (arith, e)) (λ e. omega (arith, e)), record { sound = (refl, (tt, (tt, tt))); numbered = (2, refl); size = omega arith }, ((λ h. h), tt));
}

legal_one : IsLegalNode variable_leaves 3 one_variable
legal_one = record {
  above = above_leaf;
  reached = (refl, refl, (refl, refl, refl));
  only_root = λ e. absurd (not_none 1 (sym e));
  binds = record { lefts = (inl refl, tt); distinct = ((λ h. h), tt); rights = ((λ h. h), tt); within = ((omega arith, tt), tt) };
  opens = ((λ h. not_among 1 0 one_zero h), ((λ h. h), tt));
  content = (no_child_of_leaf 3 (λ e. omega (arith, e)) (λ e. omega (arith, e)), record { sound = (refl, (tt, (tt, tt))); numbered = (1, refl); size = omega arith }, ((λ h. h), tt));
}

-- ---- leaves
-- the key of the leaf with this term: what counts is the second argument
abbrev key_of : Term → ℕ
key_of (terms.app s (terms.more t (terms.more (terms.var (entry n)) ts))) = cond (n == 1) 2 3
key_of _ = 0

abbrev holder_of : ℕ → ℕ
holder_of zero = 2
holder_of (suc n) = 3

tells : EachNode (Tells variable_leaves key_of holder_of) variable_leaves.nodes
tells = (
  (λ above path postings e. absurd (no_leaf 0 (1 ∷ []) postings e)),
  (
    (λ above path postings e. absurd (no_leaf 1 (2 ∷ 3 ∷ []) postings e)),
    (
      tells_leaf variable_leaves key_of holder_of 2 0 two_variables above_leaf (refl, refl, (refl, refl, refl)) refl refl refl,
      (tells_leaf variable_leaves key_of holder_of 3 1 one_variable above_leaf (refl, refl, (refl, refl, refl)) refl refl refl, tt),
    ),
  ),
)

known : (key : ℕ) (t : Term) (postings : List Posting) → IsLeaf variable_leaves key t postings → Known variable_leaves key_of holder_of key t postings
known = leaf_known variable_leaves key_of holder_of tells

legal : IsLegal variable_leaves
legal = record {
  root = (base, refl, record { parent = refl; bindings = refl; splits = (1 ∷ [], refl) });
  nodes = each_node (IsLegalNode variable_leaves) variable_leaves.nodes (legal_base, (legal_middle, (legal_two, (legal_one, tt))));
  terms_differ = λ j k t ps qs p q. (known j t ps p).by_term ∙ sym (known k t qs q).by_term;
  postings_differ = λ j k t u p in_j in_k. (known j t in_j.0 in_j.1).by_posting p in_j.2 ∙ sym ((known k u in_k.0 in_k.1).by_posting p in_k.2);
  zero_known = omega arith;
  few_variables = omega arith;
}

pub variable_leaves_legal : VariableLeaves
variable_leaves_legal = (
  legal,
  inl (2, record { node = two_variables; above = above_leaf; reached = (refl, refl, (refl, refl, (refl, refl, refl))); content = refl; term = refl }),
  inl (3, record { node = one_variable; above = above_leaf; reached = (refl, refl, (refl, refl, (refl, refl, refl))); content = refl; term = refl }),
)
