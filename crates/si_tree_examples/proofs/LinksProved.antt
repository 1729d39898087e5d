-- Trees whose roots, parents or children break a rule.
use Rattle.std.proofs.Common.{◌≡◌, inl, inr, ℕ, [], ◌∷◌, Option, None, Some, refl, ap, sym, ◌∙◌, subst, arith}
use Rattle.std.specs.Prelude.{slice_index_or}
use Rattle.std.proofs.lemmas.Option.{same_Some}
use Rattle.si_flat.specs.Cells.{Term}
use Rattle.si_legal.specs.Bindings.{indicator}
use Rattle.si_legal.specs.Trees.{leaf, Node, Tree, HasNode, Path, IsPath}
use Rattle.si_legal.proofs.PathLaws.{one_node}
use Rattle.si_tree_examples.specs.SomeTerms.{f, a, c}
use Rattle.si_tree_examples.specs.SomeTrees.{root, fork, leaf_of, NoTreeWithoutRoot, NoRootWithParent, NoLeafAsRoot, NoSecondRoot, NoMissingParent, NoCircle, NoMissingChild, NoForeignChild, NoChildTwice, NoChildBelowLeaf}
use Rattle.si_tree_examples.proofs.TreesProved.{tree_in, one_binding, heads_differ}
use Rattle.si_tree_examples.proofs.FiveNodesProved.{not_none, other, no_leaf}

-- ---- roots
no_node : (node : Node Term) → ◌≡◌ {A = Option (Node Term)} None (Some node) → ⊥
no_node node e = cc

pub no_tree_without_root : NoTreeWithoutRoot
no_tree_without_root l = no_node l.root.0 l.root.1

pub no_root_with_parent : NoRootWithParent
no_root_with_parent l =
    let below = fork 1 [] 0 [] in
    not_none 1 (sym l.root.2.parent ∙ ap (λ n. n.parent) (one_node (tree_in l) 0 l.root.0 below l.root.1 refl))

pub no_leaf_as_root : NoLeafAsRoot
no_leaf_as_root l =
    let bare : Node Term = record { parent = None; bindings = []; content = leaf [] } in
    let same = one_node (tree_in l) 0 l.root.0 bare l.root.1 refl in
    no_leaf 0 l.root.2.splits.0 [] (sym l.root.2.splits.1 ∙ ap (λ n. n.content) same)

pub no_second_root : NoSecondRoot
no_second_root l = omega (arith, (l.nodes 1 (root (2 ∷ 3 ∷ [])) refl).only_root refl)

-- ---- parents
-- a path begins at a node
begins : (tree : Tree Term) (key : ℕ) → slice_index_or tree.nodes key None ≡ None → (path : Path) → IsPath tree (Some key) path → ⊥
begins tree key vacant [] leads = not_none key (sym leads)
begins tree key vacant (step ∷ above) leads = no_node step.1 (sym vacant ∙ subst (λ k. HasNode tree k step.1) (sym (same_Some key step.0 leads.0)) leads.1)

pub no_missing_parent : NoMissingParent
no_missing_parent l =
    let n = l.nodes 1 (leaf_of 2 ((0, a) ∷ []) 0) refl in
    begins (tree_in l) 2 refl n.above n.reached

-- from a node on a path to its parent
goes_on : (tree : Tree Term) (key parent : ℕ) (node : Node Term) (step : ℕ × Node Term) (above : Path) → HasNode tree key node → node.parent ≡ Some parent → IsPath tree (Some key) (step ∷ above) → IsPath tree (Some parent) above
goes_on tree key parent node step above has is leads =
    let here = subst (λ k. HasNode tree k node) (same_Some key step.0 leads.0) has in
    subst (λ p. IsPath tree p above) (ap (λ n. n.parent) (one_node tree step.0 step.1 node leads.1 here) ∙ is) leads.2

-- no path leads from either of two nodes that are each other's parents
no_end : (tree : Tree Term) (j k : ℕ) (one two : Node Term) → HasNode tree j one → HasNode tree k two → one.parent ≡ Some k → two.parent ≡ Some j → (path : Path) → IsPath tree (Some j) path → ⊥
no_end tree j k one two has_one has_two below_two below_one [] leads = not_none j (sym leads)
no_end tree j k one two has_one has_two below_two below_one (step ∷ above) leads = no_end tree k j two one has_two has_one below_one below_two above (goes_on tree j k one step above has_one below_two leads)

pub no_circle : NoCircle
no_circle l =
    let one = fork 2 ((0, f (indicator 0 ∷ [])) ∷ []) 0 (2 ∷ 3 ∷ []) in
    let two = fork 1 ((0, f (indicator 0 ∷ [])) ∷ []) 0 (1 ∷ 4 ∷ []) in
    let n = l.nodes 1 one refl in
    no_end (tree_in l) 2 1 two one refl refl refl refl n.above n.reached

-- ---- children
pub no_missing_child : NoMissingChild
no_missing_child l =
    let child = ((l.nodes 0 (root (1 ∷ [])) refl).content.1 1).0 (inl refl) in
    no_node child.0 child.1

pub no_foreign_child : NoForeignChild
no_foreign_child l =
    let upper = fork 0 ((0, f (indicator 1 ∷ [])) ∷ []) 1 (2 ∷ 3 ∷ 6 ∷ []) in
    let child = ((l.nodes 1 upper refl).content.1 6).0 (inr (inr (inl refl))) in
    other 4 1 (λ e. omega (arith, e)) (ap (λ n. n.parent) (one_node (tree_in l) 6 (leaf_of 4 ((1, c) ∷ []) 3) child.0 refl child.1) ∙ child.2)

pub no_child_twice : NoChildTwice
no_child_twice l =
    let one = leaf_of 0 ((0, a) ∷ []) 0 in
    heads_differ (tree_in l) 0 1 1 a a (λ u binds. (one_binding (tree_in l) 1 0 0 a u one refl refl binds).1) (one, refl, inl refl) refl (l.nodes 0 (root (1 ∷ 1 ∷ [])) refl).content.2

pub no_child_below_leaf : NoChildBelowLeaf
no_child_below_leaf l = ((l.nodes 1 (leaf_of 0 ((0, a) ∷ []) 0) refl).content.0 2).1 (leaf_of 1 [] 1, refl, refl)
