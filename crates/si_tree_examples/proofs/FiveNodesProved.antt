-- The tree of f(a), f(b) and c is legal.
use Rattle.std.proofs.Common.{◌≡◌, inl, inr, ℕ, zero, suc, false, cond, ◌==◌, List, [], ◌∷◌, Option, None, Some, refl, ap, sym, ◌∙◌, subst, arith}
use Rattle.std.specs.Prelude.{slice_index_or}
use Rattle.std.proofs.lemmas.Option.{same_Some}
use Rattle.si_defs.specs.Terms as terms
use Rattle.si_defs.specs.Substitutions.{IsAmong}
use Rattle.si_flat.specs.Cells.{Term}
use Rattle.si_legal.specs.declared.Posting.{Posting}
use Rattle.si_legal.specs.Bindings.{indicator}
use Rattle.si_legal.specs.Generalizations.{same_head}
use Rattle.si_legal.specs.Trees.{Content, inner, leaf, Node, Tree, HasNode, Path, IsPath, path_term, IsLeaf, StandsIn}
use Rattle.si_legal.specs.Legal.{IsLegal, IsLegalNode, AreChildren, ChildBinds}
use Rattle.si_legal.proofs.PathLaws.{one_path}
use Rattle.si_tree_examples.specs.SomeTerms.{f, g, a, b, c}
use Rattle.si_tree_examples.specs.SomeTrees.{posting, root, fork, leaf_of, five_nodes, FiveNodes, StoredPostings}
use Rattle.si_tree_examples.proofs.TreesProved.{one_binding}

-- ---- all nodes
abbrev pub EachNode : (ℕ → Node Term → Type 0) → List (Option (Node Term)) → Type 0
EachNode P [] = Unit {0}
EachNode P (None ∷ nodes) = EachNode (λ k. P (suc k)) nodes
EachNode P (Some node ∷ nodes) = P 0 node × EachNode (λ k. P (suc k)) nodes

pub each_node : (P : ℕ → Node Term → Type 0) (nodes : List (Option (Node Term))) → EachNode P nodes → (k : ℕ) (node : Node Term) → slice_index_or nodes k None ≡ Some node → P k node
each_node P [] h zero node e = absurd cc
each_node P [] h (suc k) node e = absurd cc
each_node P (None ∷ nodes) h zero node e = absurd cc
each_node P (None ∷ nodes) h (suc k) node e = each_node (λ k. P (suc k)) nodes h k node e
each_node P (Some n ∷ nodes) h zero node e = subst (P 0) (same_Some n node e) h.0
each_node P (Some n ∷ nodes) h (suc k) node e = each_node (λ k. P (suc k)) nodes h.1 k node e

-- ---- leaves that their terms and their postings tell
pub no_leaf : (split : ℕ) (children : List ℕ) (postings : List Posting) → inner split children ≡ leaf postings → ⊥
no_leaf split children postings e = cc

abbrev pub postings_in : Content → List Posting
postings_in (inner split children) = []
postings_in (leaf postings) = postings

module _ (tree : Tree Term) (key_of : Term → ℕ) (holder_of : ℕ → ℕ) where
  -- the key of a leaf, by its term and by the clauses of its postings
  pub record Known (key : ℕ) (t : Term) (postings : List Posting) : Type 0 where
    pub by_term : key ≡ key_of t
    pub by_posting : (p : Posting) → IsAmong postings p → key ≡ holder_of p.clause

  abbrev pub Tells : ℕ → Node Term → Type 0
  Tells key node =
      (above : Path) → IsPath tree node.parent above → (postings : List Posting)
      → node.content ≡ leaf postings → Known key (path_term ((key, node) ∷ above)) postings

  one_posting : (key clause : ℕ) (postings : List Posting) → key ≡ holder_of clause → leaf (posting clause ∷ []) ≡ leaf postings → (p : Posting) → IsAmong postings p → key ≡ holder_of p.clause
  one_posting key clause postings is e p m = by (subst (λ l. IsAmong l p) (sym (ap postings_in e)) m) where
    by : IsAmong (posting clause ∷ []) p → key ≡ holder_of p.clause
    by (inl k) = is ∙ ap (λ q. holder_of q.clause) k
    by (inr h) = absurd h

  pub tells_leaf : (key clause : ℕ) (node : Node Term) (known : Path) → IsPath tree node.parent known → node.content ≡ leaf (posting clause ∷ []) → key ≡ key_of (path_term ((key, node) ∷ known)) → key ≡ holder_of clause → Tells key node
  tells_leaf key clause node known leads content by_term by_clause above path postings e = record {
    by_term = by_term ∙ ap (λ q. key_of (path_term ((key, node) ∷ q))) (one_path tree node.parent known above leads path);
    by_posting = one_posting key clause postings by_clause (sym content ∙ e);
  }

  pub leaf_known : EachNode Tells tree.nodes → (key : ℕ) (t : Term) (postings : List Posting) → IsLeaf tree key t postings → Known key t postings
  leaf_known tells key t postings h = subst (λ u. Known key u postings) (sym h.term) (each_node Tells tree.nodes tells key h.node h.reached.1 h.above h.reached.2 postings h.content)

-- ---- the tree's nodes
abbrev pub base : Node Term
base = root (2 ∷ 4 ∷ [])

abbrev pub leaf_a : Node Term
leaf_a = leaf_of 2 ((1, a) ∷ []) 0

abbrev pub middle : Node Term
middle = fork 0 ((0, f (indicator 1 ∷ [])) ∷ []) 1 (1 ∷ 3 ∷ [])

abbrev pub leaf_b : Node Term
leaf_b = leaf_of 2 ((1, b) ∷ []) 1

abbrev pub leaf_c : Node Term
leaf_c = leaf_of 0 ((0, c) ∷ []) 2

-- f(a) below the root
abbrev pub only_a : Node Term
only_a = leaf_of 0 ((0, f (a ∷ [])) ∷ []) 0

abbrev pub above_middle : Path
above_middle = (0, base) ∷ []

abbrev pub above_leaf : Path
above_leaf = (2, middle) ∷ (0, base) ∷ []

pub not_none : (n : ℕ) → ◌≡◌ {A = Option ℕ} None (Some n) → ⊥
not_none n e = cc

pub other : (m n : ℕ) → (m ≡ n → ⊥) → ◌≡◌ {A = Option ℕ} (Some m) (Some n) → ⊥
other m n differ e = differ (same_Some m n e)

pub not_among : (m n : ℕ) → (m ≡ n → ⊥) → IsAmong (m ∷ []) n → ⊥
not_among m n differ (inl e) = differ e
not_among m n differ (inr h) = h

-- ---- children
abbrev Child : ℕ → ℕ → Type 0
Child key child = (node : Node Term) × HasNode five_nodes child node × (node.parent ≡ Some key)

children_of_root : AreChildren five_nodes 0 (2 ∷ 4 ∷ [])
children_of_root child = (by, (λ h. each_node (λ k n. n.parent ≡ Some 0 → IsAmong (2 ∷ 4 ∷ []) k) five_nodes.nodes ((λ e. absurd (not_none 0 e)), ((λ e. absurd (other 2 0 (λ d. omega (arith, d)) e)), ((λ e. inl refl), ((λ e. absurd (other 2 0 (λ d. omega (arith, d)) e)), ((λ e. inr (inl refl)), tt))))) child h.0 h.1 h.2)) where
  by : IsAmong (2 ∷ 4 ∷ []) child → Child 0 child
  by (inl e) = subst (Child 0) e (middle, refl, refl)
  by (inr (inl e)) = subst (Child 0) e (leaf_c, refl, refl)
  by (inr (inr h)) = absurd h

children_of_middle : AreChildren five_nodes 2 (1 ∷ 3 ∷ [])
children_of_middle child = (by, (λ h. each_node (λ k n. n.parent ≡ Some 2 → IsAmong (1 ∷ 3 ∷ []) k) five_nodes.nodes ((λ e. absurd (not_none 2 e)), ((λ e. inl refl), ((λ e. absurd (other 0 2 (λ d. omega (arith, d)) e)), ((λ e. inr (inl refl)), ((λ e. absurd (other 0 2 (λ d. omega (arith, d)) e)), tt))))) child h.0 h.1 h.2)) where
  by : IsAmong (1 ∷ 3 ∷ []) child → Child 2 child
  by (inl e) = subst (Child 2) e (leaf_a, refl, refl)
  by (inr (inl e)) = subst (Child 2) e (leaf_b, refl, refl)
  by (inr (inr h)) = absurd h

no_child_of_leaf : (key : ℕ) → (0 ≡ key → ⊥) → (2 ≡ key → ⊥) → AreChildren five_nodes key []
no_child_of_leaf key root_differs middle_differs child = (absurd, (λ h. each_node (λ k n. n.parent ≡ Some key → ⊥) five_nodes.nodes (not_none key, (other 2 key middle_differs, (other 0 key root_differs, (other 2 key middle_differs, (other 0 key root_differs, tt))))) child h.0 h.1 h.2))

c_differs : (u : Term) → ChildBinds five_nodes 4 0 u → same_head (f (indicator 1 ∷ [])) u ≡ false
c_differs u binds = subst (λ t. same_head (f (indicator 1 ∷ [])) t ≡ false) (one_binding five_nodes 4 0 0 c u leaf_c refl refl binds).1 refl

b_differs : (u : Term) → ChildBinds five_nodes 3 1 u → same_head a u ≡ false
b_differs u binds = subst (λ t. same_head a t ≡ false) (one_binding five_nodes 3 1 1 b u leaf_b refl refl binds).1 refl

-- ---- nodes
nothing_left : ◌≡◌ {A = ℕ} 0 1 → ⊥
nothing_left e = omega (arith, e)

pub one_zero : ◌≡◌ {A = ℕ} 1 0 → ⊥
one_zero e = omega (arith, e)

legal_base : IsLegalNode five_nodes 0 base
legal_base = record {
  above = [];
  reached = refl;
  only_root = λ e. refl;
  binds = record { lefts = tt; distinct = tt; rights = tt; within = tt };
  opens = ((λ h. h), tt);
  content = (inl refl, children_of_root, ((f (indicator 1 ∷ []), (middle, refl, inl refl), (c_differs, tt)), ((c, (leaf_c, refl, inl refl), tt), tt)), (λ h. omega arith));
}

legal_middle : IsLegalNode five_nodes 2 middle
legal_middle = record {
  above = above_middle;
  reached = (refl, refl, refl);
  only_root = λ e. absurd (not_none 0 (sym e));
  binds = record { lefts = (inl refl, tt); distinct = ((λ h. h), tt); rights = ((λ h. h), tt); within = ((omega arith, tt), tt) };
  opens = ((λ h. not_among 1 0 one_zero h), ((λ h. h), tt));
  content = (inl refl, children_of_middle, ((a, (leaf_a, refl, inl refl), (b_differs, tt)), ((b, (leaf_b, refl, inl refl), tt), tt)), (λ h. omega arith));
}

legal_a : IsLegalNode five_nodes 1 leaf_a
legal_a = record {
  above = above_leaf;
  reached = (refl, refl, (refl, refl, refl));
  only_root = λ e. absurd (not_none 2 (sym e));
  binds = record { lefts = (inl refl, tt); distinct = ((λ h. h), tt); rights = ((λ h. h), tt); within = (tt, tt) };
  opens = ((λ h. not_among 1 0 one_zero h), ((λ h. h), tt));
  content = (no_child_of_leaf 1 (λ e. omega (arith, e)) (λ e. omega (arith, e)), record { sound = (refl, ((refl, tt), tt)); numbered = (0, refl); size = omega arith }, ((λ h. h), tt));
}

legal_b : IsLegalNode five_nodes 3 leaf_b
legal_b = record {
  above = above_leaf;
  reached = (refl, refl, (refl, refl, refl));
  only_root = λ e. absurd (not_none 2 (sym e));
  binds = record { lefts = (inl refl, tt); distinct = ((λ h. h), tt); rights = ((λ h. h), tt); within = (tt, tt) };
  opens = ((λ h. not_among 1 0 one_zero h), ((λ h. h), tt));
  content = (no_child_of_leaf 3 (λ e. omega (arith, e)) (λ e. omega (arith, e)), record { sound = (refl, ((refl, tt), tt)); numbered = (0, refl); size = omega arith }, ((λ h. h), tt));
}

legal_c : IsLegalNode five_nodes 4 leaf_c
legal_c = record {
  above = above_middle;
  reached = (refl, refl, refl);
  only_root = λ e. absurd (not_none 0 (sym e));
  binds = record { lefts = (inl refl, tt); distinct = ((λ h. h), tt); rights = ((λ h. h), tt); within = (tt, tt) };
  opens = ((λ h. h), tt);
  content = (no_child_of_leaf 4 (λ e. omega (arith, e)) (λ e. omega (arith, e)), record { sound = (refl, tt); numbered = (0, refl); size = omega arith }, ((λ h. h), tt));
}

-- ---- leaves
-- the key of the leaf with this term, and of the one with the posting of this clause
abbrev pub key_of : Term → ℕ
key_of (terms.var y) = 0
key_of (terms.app s terms.none) = 4
key_of (terms.app s (terms.more (terms.var y) ts)) = 0
key_of (terms.app s (terms.more (terms.app r us) ts)) = cond (r.number == 6) 1 3

abbrev holder_of : ℕ → ℕ
holder_of zero = 1
holder_of (suc zero) = 3
holder_of (suc (suc n)) = 4

tells : EachNode (Tells five_nodes key_of holder_of) five_nodes.nodes
tells = (
  (λ above path postings e. absurd (no_leaf 0 (2 ∷ 4 ∷ []) postings e)),
  (
    tells_leaf five_nodes key_of holder_of 1 0 leaf_a above_leaf (refl, refl, (refl, refl, refl)) refl refl refl,
    (
      (λ above path postings e. absurd (no_leaf 1 (1 ∷ 3 ∷ []) postings e)),
      (
        tells_leaf five_nodes key_of holder_of 3 1 leaf_b above_leaf (refl, refl, (refl, refl, refl)) refl refl refl,
        (tells_leaf five_nodes key_of holder_of 4 2 leaf_c above_middle (refl, refl, refl) refl refl refl, tt),
      ),
    ),
  ),
)

known : (key : ℕ) (t : Term) (postings : List Posting) → IsLeaf five_nodes key t postings → Known five_nodes key_of holder_of key t postings
known = leaf_known five_nodes key_of holder_of tells

pub holds : (key : ℕ) (t : Term) (p : Posting) → StandsIn five_nodes key t p → key ≡ holder_of p.clause
holds key t p h = (known key t h.0 h.1).by_posting p h.2

pub five_legal : IsLegal five_nodes
five_legal = record {
  root = (base, refl, record { parent = refl; bindings = refl; splits = (2 ∷ 4 ∷ [], refl) });
  nodes = each_node (IsLegalNode five_nodes) five_nodes.nodes (legal_base, (legal_a, (legal_middle, (legal_b, (legal_c, tt)))));
  terms_differ = λ j k t ps qs p q. (known j t ps p).by_term ∙ sym (known k t qs q).by_term;
  postings_differ = λ j k t u p in_j in_k. holds j t p in_j ∙ sym (holds k u p in_k);
  zero_known = omega arith;
  few_variables = omega arith;
}

pub five_nodes_legal : FiveNodes
five_nodes_legal = (five_legal, refl, refl, refl)

-- ---- what it stores
abbrev pub symbol_in : Term → ℕ
symbol_in (terms.var y) = 0
symbol_in (terms.app s ts) = s.number

-- no leaf has a term with the symbol g at its head
no_such : (key : ℕ) (others : List Posting) → IsLeaf five_nodes key (g a) others → ⊥
no_such key others h =
    each_node (λ k n. (above : Path) → IsPath five_nodes n.parent above → (ps : List Posting) → n.content ≡ leaf ps → symbol_in (path_term ((k, n) ∷ above)) ≡ 4 → ⊥) five_nodes.nodes (
      (λ above path ps e d. no_leaf 0 (2 ∷ 4 ∷ []) ps e),
      (
        (λ above path ps e d. omega (arith, ap (λ q. symbol_in (path_term ((1, leaf_a) ∷ q))) (one_path five_nodes (Some 2) above above_leaf path (refl, refl, (refl, refl, refl))), d)),
        (
          (λ above path ps e d. no_leaf 1 (1 ∷ 3 ∷ []) ps e),
          (
            (λ above path ps e d. omega (arith, ap (λ q. symbol_in (path_term ((3, leaf_b) ∷ q))) (one_path five_nodes (Some 2) above above_leaf path (refl, refl, (refl, refl, refl))), d)),
            (
              (λ above path ps e d. omega (arith, ap (λ q. symbol_in (path_term ((4, leaf_c) ∷ q))) (one_path five_nodes (Some 0) above above_middle path (refl, refl, refl)), d)),
              tt,
            ),
          ),
        ),
      ),
    ) key h.node h.reached.1 h.above h.reached.2 others h.content (sym (ap symbol_in h.term))

pub stored_postings : StoredPostings
stored_postings = (
  inl (3, record { node = leaf_b; above = above_leaf; reached = (refl, refl, (refl, refl, (refl, refl, refl))); content = refl; term = refl }),
  inr (no_such, refl),
)
