-- What the search of a subtree answers, proved.
use Rattle.std.proofs.Common.{◌≡◌, inl, inr, ℕ, List, [], ◌∷◌, Some, refl, ap, sym, subst, arith}
use Rattle.si_defs.specs.Substitutions.{IsAmong}
use Rattle.si_defs.specs.Relations.{IsInstance}
use Rattle.si_flat.specs.Cells.{query, same_variable, Term}
use Rattle.si_legal.specs.declared.Posting.{Posting}
use Rattle.si_legal.specs.Trees.{leaf, Node, Path, IsPath, PassesBy, path_term}
use Rattle.si_legal.proofs.PathLaws.{one_path}
use Rattle.si_tree_examples.specs.SomeTerms.{f, b, y}
use Rattle.si_tree_examples.specs.SomeTrees.{posting, five_nodes}
use Rattle.si_tree_examples.specs.SomeDescents.{AnswersInstance, NoLeafElsewhere}
use Rattle.si_tree_examples.proofs.FiveNodesProved.{each_node, leaf_a, leaf_b, leaf_c, above_leaf, above_middle, no_leaf, postings_in, symbol_in}

abbrev asked : Term
asked = f (y ∷ [])

-- a leaf with one posting holds no other
pub holds_no_other : (m n : ℕ) (postings : List Posting) → (m ≡ n → ⊥) → leaf (posting m ∷ []) ≡ leaf postings → IsAmong postings (posting n) → ⊥
holds_no_other m n postings differ e among = by (subst (λ l. IsAmong l (posting n)) (sym (ap postings_in e)) among) where
  by : IsAmong (posting m ∷ []) (posting n) → ⊥
  by (inl d) = differ (ap (λ p. p.clause) d)
  by (inr h) = h

c_is_no_instance : IsInstance same_variable asked (path_term ((4, leaf_c) ∷ above_middle)) → ⊥
c_is_no_instance h = omega (arith, ap symbol_in h.1.takes)

abbrev NoAnswer : ℕ → Node Term → Type 0
NoAnswer key node =
    (above : Path) → IsPath five_nodes node.parent above → (postings : List Posting)
    → node.content ≡ leaf postings → IsAmong postings (posting 2)
    → IsInstance same_variable asked (path_term ((key, node) ∷ above)) → ⊥

pub answers_instance : AnswersInstance
answers_instance = (
  record {
    key = 3;
    term = f (b ∷ []);
    postings = posting 1 ∷ [];
    leaf = record { node = leaf_b; above = above_leaf; reached = (refl, refl, (refl, refl, (refl, refl, refl))); content = refl; term = refl };
    below = inr (inl refl);
    relates = ((query 0, b) ∷ [], record { on = (inl refl, tt); takes = refl });
    among = inl refl;
  },
  (λ h. each_node NoAnswer five_nodes.nodes (
    (λ above path postings e m i. no_leaf 0 (2 ∷ 4 ∷ []) postings e),
    (
      (λ above path postings e m i. holds_no_other 0 2 postings (λ d. omega (arith, d)) e m),
      (
        (λ above path postings e m i. no_leaf 1 (1 ∷ 3 ∷ []) postings e),
        (
          (λ above path postings e m i. holds_no_other 1 2 postings (λ d. omega (arith, d)) e m),
          (
            (λ above path postings e m i. c_is_no_instance (subst (λ q. IsInstance same_variable asked (path_term ((4, leaf_c) ∷ q))) (one_path five_nodes (Some 0) above above_middle path (refl, refl, refl)) i)),
            tt,
          ),
        ),
      ),
    ),
  ) h.key h.leaf.node h.leaf.reached.1 h.leaf.above h.leaf.reached.2 h.postings h.leaf.content h.among (subst (IsInstance same_variable asked) h.leaf.term h.relates)),
)

-- ---- another subtree
abbrev NotBelow : ℕ → Node Term → Type 0
NotBelow key node =
    (above : Path) → IsPath five_nodes node.parent above → (postings : List Posting)
    → node.content ≡ leaf postings → IsAmong postings (posting 0)
    → PassesBy ((key, node) ∷ above) 3 → ⊥

not_below_a : PassesBy ((1, leaf_a) ∷ above_leaf) 3 → ⊥
not_below_a (inl e) = omega (arith, e)
not_below_a (inr (inl e)) = omega (arith, e)
not_below_a (inr (inr (inl e))) = omega (arith, e)
not_below_a (inr (inr (inr h))) = h

pub no_leaf_elsewhere : NoLeafElsewhere
no_leaf_elsewhere h =
    each_node NotBelow five_nodes.nodes (
      (λ above path postings e m i. no_leaf 0 (2 ∷ 4 ∷ []) postings e),
      (
        (λ above path postings e m i. not_below_a (subst (λ q. PassesBy ((1, leaf_a) ∷ q) 3) (one_path five_nodes (Some 2) above above_leaf path (refl, refl, (refl, refl, refl))) i)),
        (
          (λ above path postings e m i. no_leaf 1 (1 ∷ 3 ∷ []) postings e),
          (
            (λ above path postings e m i. holds_no_other 1 0 postings (λ d. omega (arith, d)) e m),
            ((λ above path postings e m i. holds_no_other 2 0 postings (λ d. omega (arith, d)) e m), tt),
          ),
        ),
      ),
    ) h.key h.leaf.node h.leaf.reached.1 h.leaf.above h.leaf.reached.2 h.postings h.leaf.content h.among h.below
