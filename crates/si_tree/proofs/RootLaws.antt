-- The root alone is legal.
use Rattle.std.proofs.Common.{◌≡◌, ℕ, List, [], None, Some, inl, inr, refl, sym, ◌∙◌, ap, subst, arith}
use Rattle.std.proofs.lemmas.Bool.{cases_eq}
use Rattle.si_flat.specs.Cells.{Term}
use Rattle.si_legal.specs.Trees.{inner, leaf, Node, Tree, HasNode, IsLeaf}
use Rattle.si_legal.specs.declared.Posting.{Posting}
use Rattle.si_legal.specs.Legal.{IsLegal, IsLegalNode}
use Rattle.si_legal.proofs.PathLaws.{one_node}
use Rattle.si_changes.specs.Nodes.{IsVacant}
use Rattle.si_tree.specs.NewTrees.{bare_root, IsRootAlone}

not_both : (tree : Tree Term) (key : ℕ) (node : Node Term) → IsVacant tree key → HasNode tree key node → ⊥
not_both tree key node none some = differ (sym none ∙ some) where
  differ : None ≡ Some node → ⊥
  differ e = cc

-- each node is the root
pub only_root : (tree : Tree Term) (key : ℕ) (node : Node Term) → IsRootAlone tree → HasNode tree key node → key ≡ tree.root
only_root tree key node alone has = elim (cases_eq key tree.root) [
  | inl same ↦ same
  | inr apart ↦ absurd (not_both tree key node (alone.others key apart) has)
]

-- and has no child
pub only_bare : (tree : Tree Term) (key : ℕ) (node : Node Term) → IsRootAlone tree → HasNode tree key node → node ≡ bare_root
only_bare tree key node alone has =
    let same : key ≡ tree.root = only_root tree key node alone has in
    one_node tree tree.root node bare_root (subst (λ k. HasNode tree k node) same has) alone.root

pub no_leaf : (tree : Tree Term) (j : ℕ) (t : Term) (ps : List Posting) → IsRootAlone tree → IsLeaf tree j t ps → ⊥
no_leaf tree j t ps alone l =
    let bare : l.node ≡ bare_root = only_bare tree j l.node alone l.reached.1 in
    differ (sym (ap (λ n. n.content) bare) ∙ l.content) where
      differ : inner 0 [] ≡ leaf ps → ⊥
      differ e = cc

no_child : (tree : Tree Term) (child key : ℕ) (node : Node Term) → IsRootAlone tree → HasNode tree child node → node.parent ≡ Some key → ⊥
no_child tree child key node alone has parent = differ (sym (ap (λ n. n.parent) (only_bare tree child node alone has)) ∙ parent) where
  differ : None ≡ Some key → ⊥
  differ e = cc

bare_legal : (tree : Tree Term) → IsRootAlone tree → IsLegalNode tree tree.root bare_root
bare_legal tree alone = record {
  above = [];
  reached = refl;
  only_root = λ e. refl;
  binds = record { lefts = tt; distinct = tt; rights = tt; within = tt };
  opens = (λ a. a, tt);
  content = (inl refl, (λ child. (λ a. absurd a, λ c. no_child tree child tree.root c.0 alone c.1 c.2)), tt, λ apart. absurd (apart refl));
}

pub root_legal : (tree : Tree Term) → IsRootAlone tree → IsLegal tree
root_legal tree alone = record {
  root = (bare_root, alone.root, record { parent = refl; bindings = refl; splits = ([], refl) });
  nodes = λ key node has.
      subst (λ n. IsLegalNode tree key n) (sym (only_bare tree key node alone has))
      (subst (λ k. IsLegalNode tree k bare_root) (sym (only_root tree key node alone has)) (bare_legal tree alone));
  terms_differ = λ j k t ps qs l m. absurd (no_leaf tree j t ps alone l);
  postings_differ = λ j k t u p s r. absurd (no_leaf tree j t s.0 alone s.1);
  zero_known = omega (arith, alone.next);
  few_variables = omega (arith, alone.vars);
}
