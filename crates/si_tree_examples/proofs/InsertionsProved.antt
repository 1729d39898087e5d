-- Three terms come into an empty tree, proved.
use Rattle.std.proofs.Common.{◌≡◌, inl, inr, ℕ, zero, suc, true, false, List, [], ◌∷◌, Some, refl, ap, sym, ◌∙◌, subst, arith}
use Rattle.std.proofs.lemmas.List.Sorted.{IsPermutation-refl, IsPermutation-middle}
use Rattle.si_defs.specs.Substitutions.{IsAmong}
use Rattle.si_flat.specs.Cells.{Term}
use Rattle.si_legal.specs.declared.Posting.{Posting}
use Rattle.si_legal.specs.Bindings.{Binding, indicator, BindsExactly}
use Rattle.si_legal.specs.Generalizations.{same_head, MaySplit}
use Rattle.si_legal.specs.Trees.{inner, leaf, Node, Tree, Path, IsPath, path_term}
use Rattle.si_legal.specs.Legal.{IsOpenBelow, ChildBinds}
use Rattle.si_legal.specs.StoredSets.{IsUnder}
use Rattle.si_legal.proofs.PathLaws.{one_node, one_path}
use Rattle.si_legal.proofs.SplitLaws.{split_is}
use Rattle.si_changes.specs.Nodes.{OtherNodesStay, RoomFor}
use Rattle.si_changes.specs.Leaves.{IsTermAt, MayAddLeaf, AddsLeaf}
use Rattle.si_changes.specs.Splits.{MaySplitNode, SplitsNode}
use Rattle.si_changes.proofs.Relinked.{same_inner}
use Rattle.si_tree_examples.specs.SomeTerms.{f, a, b, c}
use Rattle.si_tree_examples.specs.SomeTrees.{posting, root, new_tree, five_nodes}
use Rattle.si_tree_examples.specs.SomeInsertions.{one_term, four_with, parts, FirstInsertion, SecondInsertion, ThirdInsertion, NoOldNext, NoEqualHead}
use Rattle.si_tree_examples.proofs.FiveNodesProved.{EachNode, each_node, middle, leaf_b, leaf_c, above_middle, no_leaf, only_a}
use Rattle.si_tree_examples.proofs.DescentsProved.{holds_no_other}
use Rattle.si_tree_examples.proofs.TreesProved.{one_binding}

-- ---- what all three share
-- the bound on variables stays
rises : (old new : Tree Term) (key : ℕ) (known : Path) → IsPath new (Some key) known → RoomFor old new (path_term known) → (t : Term) → IsTermAt new key t → RoomFor old new t
rises old new key known leads room t at = subst (RoomFor old new) (sym (at.2 ∙ ap path_term (one_path new (Some key) at.0 known at.1 leads))) room

-- below the root 0 is open, and nothing else
binds_zero : (children : List ℕ) (t : Term) → BindsExactly (IsOpenBelow ((0, root children) ∷ [])) ((0, t) ∷ [])
binds_zero children t = (((λ h. h), tt), (λ n. ((λ h. h), (λ h. h))))

-- no leaf holds the posting
abbrev HoldsNo : Posting → ℕ → Node Term → Type 0
HoldsNo p key node = (postings : List Posting) → node.content ≡ leaf postings → IsAmong postings p → ⊥

not_stored : (tree : Tree Term) (p : Posting) → EachNode (HoldsNo p) tree.nodes → (u : Term) → IsUnder tree u p → ⊥
not_stored tree p each u h =
    let l = h.1.1 in
    each_node (HoldsNo p) tree.nodes each h.0 l.node l.reached.1 h.1.0 l.content h.1.2

-- ---- the first
may_add_a : MayAddLeaf new_tree 0 ((0, f (a ∷ [])) ∷ []) (posting 0)
may_add_a = record {
  node = root [];
  above = [];
  split = 0;
  children = [];
  reached = (refl, refl, refl);
  inner_node = refl;
  binds = binds_zero [] (f (a ∷ []));
  opens_none = refl;
  new_head = λ t u child m n. absurd n;
  may_come = record {
    leaf_term = record { sound = (refl, ((refl, tt), tt)); numbered = (0, refl); size = omega arith };
    not_stored = not_stored new_tree (posting 0) ((λ ps e m. no_leaf 0 [] ps e), tt);
  };
}

others_a : OtherNodesStay new_tree one_term (1 ∷ 0 ∷ [])
others_a zero other = absurd (other (inr (inl refl)))
others_a (suc zero) other = absurd (other (inl refl))
others_a (suc (suc n)) other = refl

adds_a : AddsLeaf new_tree one_term 0 ((0, f (a ∷ [])) ∷ []) (posting 0) 1
adds_a = record {
  vacant = refl;
  new_leaf = refl;
  linked = record {
    node = root [];
    split = 0;
    stay = [];
    before = [];
    after = 1 ∷ [];
    had = refl;
    content = refl;
    before_are = IsPermutation-refl {X = ℕ} [];
    has = refl;
    after_are = IsPermutation-refl (1 ∷ []);
  };
  others = others_a;
  root = refl;
  next = refl;
  room = rises new_tree one_term 1 ((1, only_a) ∷ (0, root (1 ∷ [])) ∷ []) (refl, refl, (refl, refl, refl)) (omega arith, omega arith, inl refl);
}

pub first_insertion : FirstInsertion
first_insertion = (may_add_a, adds_a, refl)

-- ---- the second
may_split : MaySplit 1 ((0, f (a ∷ [])) ∷ []) ((0, f (b ∷ [])) ∷ [])
may_split = record {
  same_lefts = refl;
  distinct = ((λ h. h), tt);
  low = (omega arith, tt);
  ground = refl;
  opens_once = tt;
  opens_low = tt;
  opens_others = tt;
  no_bare = ((λ h. h), tt);
  room = omega arith;
}

rest_differs : parts.rest_node ≡ [] → ⊥
rest_differs e = cc

may_split_a : MaySplitNode one_term 1 parts [] (posting 1)
may_split_a = record {
  node = only_a;
  parent = 0;
  parent_node = root (1 ∷ []);
  above = [];
  split = 0;
  children = 1 ∷ [];
  new = (0, f (b ∷ [])) ∷ [];
  reached = (refl, refl, (refl, refl, refl));
  inner_node = refl;
  may_split = may_split;
  splits = split_is 1 ((0, f (a ∷ [])) ∷ []) ((0, f (b ∷ [])) ∷ []) may_split ((refl, ((refl, tt), tt)), tt) ((refl, ((refl, tt), tt)), tt);
  binds_split = inl refl;
  differs = rest_differs;
  binds = (tt, (λ n. (absurd, (λ h. h.1 h.0))));
  opens_none = refl;
  may_come = record {
    leaf_term = record { sound = (refl, ((refl, tt), tt)); numbered = (0, refl); size = omega arith };
    not_stored = not_stored one_term (posting 1) (
      (λ ps e m. no_leaf 0 (1 ∷ []) ps e),
      ((λ ps. holds_no_other 0 1 ps (λ d. omega (arith, d))), tt),
    );
  };
}

others_b : OtherNodesStay one_term (four_with 2) (1 ∷ 0 ∷ 2 ∷ 3 ∷ [])
others_b zero other = absurd (other (inr (inl refl)))
others_b (suc zero) other = absurd (other (inl refl))
others_b (suc (suc zero)) other = absurd (other (inr (inr (inl refl))))
others_b (suc (suc (suc zero))) other = absurd (other (inr (inr (inr (inl refl)))))
others_b (suc (suc (suc (suc n)))) other = refl

splits_a : SplitsNode one_term (four_with 2) 1 parts [] (posting 1) 2 3
splits_a = record {
  node = only_a;
  parent = 0;
  first = 1;
  right = a;
  more = [];
  two = 1 ∷ 3 ∷ [];
  had = refl;
  below = refl;
  inner_vacant = refl;
  leaf_vacant = refl;
  apart = λ e. omega (arith, e);
  linked = record {
    node = root (1 ∷ []);
    split = 0;
    stay = [];
    before = 1 ∷ [];
    after = 2 ∷ [];
    had = refl;
    content = refl;
    before_are = IsPermutation-refl (1 ∷ []);
    has = refl;
    after_are = IsPermutation-refl (2 ∷ []);
  };
  first_left = refl;
  two_are = IsPermutation-refl (1 ∷ 3 ∷ []);
  inner_node = refl;
  rest = refl;
  new_leaf = refl;
  others_stay = others_b;
  root = refl;
  next = refl;
  room = rises one_term (four_with 2) 3 ((3, leaf_b) ∷ (2, middle) ∷ (0, root (2 ∷ [])) ∷ []) (refl, refl, (refl, refl, (refl, refl, refl))) (omega arith, omega arith, inl refl);
}

pub second_insertion : SecondInsertion
second_insertion = (may_split_a, splits_a)

pub no_old_next : NoOldNext
no_old_next h = omega (arith, h.next)

-- ---- the third
c_alone : (t : Term) → IsAmong {V = Binding} ((0, c) ∷ []) (0, t) → c ≡ t
c_alone t (inl e) = ap (λ p. p.1) e
c_alone t (inr n) = absurd n

two_alone : (child : ℕ) → IsAmong (2 ∷ []) child → 2 ≡ child
two_alone child (inl e) = e
two_alone child (inr n) = absurd n

c_new : (t u : Term) (child : ℕ) → IsAmong {V = Binding} ((0, c) ∷ []) (0, t) → IsAmong (2 ∷ []) child → ChildBinds (four_with 2) child 0 u → same_head t u ≡ false
c_new t u child m n binds =
    let here : ChildBinds (four_with 2) 2 0 u = subst (λ k. ChildBinds (four_with 2) k 0 u) (sym (two_alone child n)) binds in
    subst (λ v. same_head v u ≡ false) (c_alone t m)
    (subst (λ v. same_head c v ≡ false) (one_binding (four_with 2) 2 0 0 (f (indicator 1 ∷ [])) u middle refl refl here).1 refl)

may_add_c : MayAddLeaf (four_with 2) 0 ((0, c) ∷ []) (posting 2)
may_add_c = record {
  node = root (2 ∷ []);
  above = [];
  split = 0;
  children = 2 ∷ [];
  reached = (refl, refl, refl);
  inner_node = refl;
  binds = binds_zero (2 ∷ []) c;
  opens_none = refl;
  new_head = c_new;
  may_come = record {
    leaf_term = record { sound = (refl, tt); numbered = (0, refl); size = omega arith };
    not_stored = not_stored (four_with 2) (posting 2) (
      (λ ps e m. no_leaf 0 (2 ∷ []) ps e),
      (
        (λ ps. holds_no_other 0 2 ps (λ d. omega (arith, d))),
        ((λ ps e m. no_leaf 1 (1 ∷ 3 ∷ []) ps e), ((λ ps. holds_no_other 1 2 ps (λ d. omega (arith, d))), tt)),
      ),
    );
  };
}

others_c : OtherNodesStay (four_with 2) five_nodes (4 ∷ 0 ∷ [])
others_c zero other = absurd (other (inr (inl refl)))
others_c (suc zero) other = refl
others_c (suc (suc zero)) other = refl
others_c (suc (suc (suc zero))) other = refl
others_c (suc (suc (suc (suc zero)))) other = absurd (other (inl refl))
others_c (suc (suc (suc (suc (suc n))))) other = refl

adds_c : AddsLeaf (four_with 2) five_nodes 0 ((0, c) ∷ []) (posting 2) 4
adds_c = record {
  vacant = refl;
  new_leaf = refl;
  linked = record {
    node = root (2 ∷ []);
    split = 0;
    stay = 2 ∷ [];
    before = 2 ∷ [];
    after = 2 ∷ 4 ∷ [];
    had = refl;
    content = refl;
    before_are = IsPermutation-refl (2 ∷ []);
    has = refl;
    after_are = IsPermutation-middle (4 ∷ []) 2 [];
  };
  others = others_c;
  root = refl;
  next = refl;
  room = rises (four_with 2) five_nodes 4 ((4, leaf_c) ∷ above_middle) (refl, refl, (refl, refl, refl)) (omega arith, omega arith, inl refl);
}

pub third_insertion : ThirdInsertion
third_insertion = (may_add_c, adds_c, refl)

-- ---- where f(b) may not come
pub no_equal_head : NoEqualHead
no_equal_head h =
    let content : inner 0 (1 ∷ []) ≡ inner h.split h.children = ap (λ n. n.content) (one_node one_term 0 (root (1 ∷ [])) h.node refl h.reached.1) ∙ h.inner_node in
    let same = same_inner 0 h.split (1 ∷ []) h.children content in
    differ (h.new_head (f (b ∷ [])) (f (a ∷ [])) 1
    (subst (λ n. IsAmong {V = Binding} ((0, f (b ∷ [])) ∷ []) (n, f (b ∷ []))) same.0 (inl refl))
    (subst (λ ks. IsAmong ks 1) same.1 (inl refl))
    (only_a, refl, subst (λ n. IsAmong {V = Binding} ((0, f (a ∷ [])) ∷ []) (n, f (a ∷ []))) same.0 (inl refl))) where
      differ : true ≡ false → ⊥
      differ e = cc
