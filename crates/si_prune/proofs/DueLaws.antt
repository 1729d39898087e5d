-- A leaf without a posting goes alone, or by a join whose bindings may be composed.
use Rattle.std.proofs.Common.{◌≡◌, ◌≢◌, ◌⊎◌, inl, inr, ℕ, ◌≤◌, List, [], ◌∷◌, length, get_or, None, Some, refl, sym, ◌∙◌, ap, subst, arith}
use Rattle.std.specs.Prelude.{IsPermutation}
use Rattle.std.proofs.lemmas.List.Sorted.{length_permutation, IsPermutation-sym, IsPermutation-middle}
use Rattle.si_defs.specs.Substitutions.{IsAmong}
use Rattle.si_defs.proofs.ListLaws.{all_at, among_back}
use Rattle.si_flat.specs.Cells.{Term}
use Rattle.si_flat.specs.Rows.{CellPair, left_sides}
use Rattle.si_flat.proofs.RowLaws.{distinct_append, distinct_parts}
use Rattle.si_legal.specs.Bindings.{Binding, right_indicators, StandForBindings}
use Rattle.si_legal.specs.Trees.{Content, inner, leaf, Node, Tree, HasNode, Path, IsPath, path_term, opened}
use Rattle.si_legal.specs.Legal.{IsOpenBelow, IsLegalContent, IsLegalNode, IsLegal}
use Rattle.si_legal.proofs.PathLaws.{one_node, one_path}
use Rattle.si_changes.specs.Nodes.{IsBelowInner}
use Rattle.si_changes.specs.Joins.{MayJoin}
use Rattle.si_changes.specs.Leaves.{MayDropLeaf}
use Rattle.si_changes.proofs.FewOpened.{small_term}
use Rattle.si_changes.proofs.Frames.{legal_nodes}
use Rattle.si_changes.proofs.OpenLaws.{bound_on, open_exactly, path_node}
use Rattle.si_changes.proofs.Permuted.{permuted_among}
use Rattle.si_tree.specs.Dropping.{MayJoinBy}
use Rattle.si_tree.specs.Reading.{AtNode, IsNode, children_of}
use Rattle.si_tree.proofs.ChildLaws.{inner_no_leaf}
use Rattle.si_tree.proofs.DropSteps.{parent_content}
use Rattle.si_prune.specs.Pruning.{AreComposable, MayCompose, Composes, AreToJoin, IsEmptyLeaf, IsJoinDue}
use Rattle.si_prune.proofs.SizeLaws.{rights_small}

-- ---- bindings that may be composed
module _ (tree : Tree Term) (key other : ℕ) (other_node : Node Term) (legal : IsLegal tree) (may : MayJoin tree key other) (has_other : HasNode tree other other_node) where
  abbrev parent : ℕ
  parent = may.stands.parent

  abbrev first : List Binding
  first = may.stands.parent_node.bindings

  abbrev second : List Binding
  second = other_node.bindings

  h : IsLegalNode tree parent may.stands.parent_node
  h = legal.nodes parent may.stands.parent_node may.stands.is_parent

  k : IsLegalNode tree other other_node
  k = legal.nodes other other_node has_other

  abbrev upper : Path
  upper = (parent, may.stands.parent_node) ∷ h.above

  upper_reached : IsPath tree (Some parent) upper
  upper_reached = (refl, may.stands.is_parent, h.reached)

  below : other_node.parent ≡ Some parent
  below =
      let found = ((subst (IsLegalContent tree parent upper) may.stands.inner_node h.content).1 other).0 (permuted_among (key ∷ other ∷ []) may.stands.children other may.two (inr (inl refl))) in
      ap (λ n. n.parent) (sym (one_node tree other found.0 other_node found.1 has_other)) ∙ found.2

  above_is : k.above ≡ upper
  above_is = one_path tree other_node.parent k.above upper k.reached (subst (λ p. IsPath tree p upper) (sym below) upper_reached)

  open_there : (n : ℕ) → IsAmong (left_sides second) n → IsOpenBelow upper n
  open_there n a = subst (λ p. IsOpenBelow p n) above_is (all_at (IsOpenBelow k.above) (left_sides second) n k.binds.lefts a)

  pub composable : AreComposable first second
  composable = record {
    lefts = distinct_append (left_sides first) (left_sides second) h.binds.distinct k.binds.distinct
        (λ n a b. ((open_exactly tree (legal_nodes tree legal) (Some parent) upper upper_reached n).0 (open_there n b)).1 (among_back (bound_on h.above) (left_sides first) n a));
    once = (distinct_parts (opened h.above) (right_indicators first) h.opens).1;
    room =
        let one = rights_small first (path_term h.above) h.binds.distinct (λ n. all_at (IsOpenBelow h.above) (left_sides first) n h.binds.lefts) in
        let two = rights_small second (path_term k.above) k.binds.distinct (λ n. all_at (IsOpenBelow k.above) (left_sides second) n k.binds.lefts) in
        omega (arith, one, two, small_term tree legal parent upper upper_reached, small_term tree legal other ((other, other_node) ∷ k.above) (refl, has_other, k.reached));
  }

-- ---- the leaf's parent
record HasParent (tree : Tree Term) (key parent : ℕ) : Type 0 where
  pub node : Node Term
  pub split : ℕ
  pub children : List ℕ
  pub has : HasNode tree parent node
  pub content : node.content ≡ inner split children
  pub among : IsAmong children key

has_parent : (tree : Tree Term) (key parent : ℕ) (node : Node Term) → IsLegal tree → HasNode tree key node → node.parent ≡ Some parent → HasParent tree key parent
has_parent tree key parent node legal has below = by there.0.content refl where
  there : (n : Node Term) × HasNode tree parent n
  there = let h = legal.nodes key node has in path_node tree parent h.above (subst (λ p. IsPath tree p h.above) below h.reached)

  by : (c : Content) → there.0.content ≡ c → HasParent tree key parent
  by (inner split children) is = record {
    node = there.0;
    split = split;
    children = children;
    has = there.1;
    content = is;
    among = parent_content tree key parent node there.0 split children legal has below there.1 is;
  }
  by (leaf ps) is =
      let h = legal.nodes parent there.0 there.1 in
      absurd (((subst (IsLegalContent tree parent ((parent, there.0) ∷ h.above)) is h.content).0 key).1 (node, has, below))

-- the root is no leaf
pub has_some : (tree : Tree Term) (key : ℕ) → IsLegal tree → (empty : IsEmptyLeaf tree key) → empty.0.parent ≡ None → ⊥
has_some tree key legal (node, has, content) none =
    let root = legal.root in
    let same : root.0 ≡ node = one_node tree key root.0 node (subst (λ k. HasNode tree k root.0) (sym ((legal.nodes key node has).only_root none)) root.1) has in
    inner_no_leaf 0 root.2.splits.0 [] (sym root.2.splits.1 ∙ ap (λ n. n.content) same ∙ content)

module _ (tree : Tree Term) (key parent : ℕ) (legal : IsLegal tree) (empty : IsEmptyLeaf tree key) (below : empty.0.parent ≡ Some parent) where
  up : HasParent tree key parent
  up = has_parent tree key parent empty.0 legal empty.1 below

  abbrev stands : IsBelowInner tree key
  stands = record {
    node = empty.0;
    parent = parent;
    parent_node = up.node;
    split = up.split;
    children = up.children;
    has = empty.1;
    below = below;
    is_parent = up.has;
    inner_node = up.content;
  }

  dropped : (parent ≡ tree.root) ⊎ (3 ≤ length up.children) → MayDropLeaf tree key
  dropped enough = record { stands = stands; empty = empty.2; enough = enough }

  pub parent_there : IsNode tree parent
  parent_there = (up.node, up.has)

  pub at_root : parent ≡ tree.root → MayDropLeaf tree key
  at_root e = dropped (inl e)

  content : IsLegalContent tree parent ((parent, up.node) ∷ (legal.nodes parent up.node up.has).above) (inner up.split up.children)
  content = subst (IsLegalContent tree parent ((parent, up.node) ∷ (legal.nodes parent up.node up.has).above)) up.content (legal.nodes parent up.node up.has).content

  module _ (children : List ℕ) (are : AtNode tree parent (λ n. children ≡ children_of n.content)) where
    children_are : children ≡ up.children
    children_are = are up.node up.has ∙ ap children_of up.content

    pub leaf_among : IsAmong children key
    leaf_among = subst (λ cs. IsAmong cs key) (sym children_are) up.among

    pub with_more : parent ≢ tree.root → length children ≢ 2 → MayDropLeaf tree key
    with_more no_root not_two = dropped (inr (three (length up.children) (content.3 no_root) (λ e. not_two (ap length children_are ∙ e)))) where
      three : (n : ℕ) → 2 ≤ n → n ≢ 2 → 3 ≤ n
      three n more differs = omega (arith, more, differs)

    abbrev two_joined : (other : ℕ) → parent ≢ tree.root → IsPermutation (key ∷ other ∷ []) children → MayJoin tree key other
    two_joined other no_root two = record {
      stands = stands;
      empty = empty.2;
      no_root = no_root;
      two = subst (IsPermutation (key ∷ other ∷ [])) children_are two;
    }

    pub with_two : (other : ℕ) → parent ≢ tree.root → IsPermutation (key ∷ other ∷ []) children → AreToJoin tree key parent other
    with_two other no_root two =
        let may = two_joined other no_root two in
        let there = (content.1 other).0 (permuted_among (key ∷ other ∷ []) up.children other may.two (inr (inl refl))) in
        record {
          may = may;
          parent_is = refl;
          other_node = there.0;
          has_other = there.1;
          composable = composable tree key other there.0 legal may there.1;
        }

-- ---- a join
module _ (tree : Tree Term) (key parent other : ℕ) (j : AreToJoin tree key parent other) where
  has_upper : HasNode tree parent j.may.stands.parent_node
  has_upper = subst (λ k. HasNode tree k j.may.stands.parent_node) j.parent_is j.may.stands.is_parent

  pub upper_there : IsNode tree parent
  upper_there = (j.may.stands.parent_node, has_upper)

  pub other_there : IsNode tree other
  other_there = (j.other_node, j.has_other)

  pub may_compose : (node child : List CellPair) → AtNode tree parent (λ n. StandForBindings node n.bindings) → AtNode tree other (λ n. StandForBindings child n.bindings) → MayCompose node child
  may_compose node child stand stand' = (j.may.stands.parent_node.bindings, j.other_node.bindings, stand j.may.stands.parent_node has_upper, stand' j.other_node j.has_other, j.composable)

  pub may_join : (node child both : List CellPair) → AtNode tree parent (λ n. StandForBindings node n.bindings) → AtNode tree other (λ n. StandForBindings child n.bindings) → Composes node child both → MayJoinBy tree key both
  may_join node child both stand stand' composes = record {
    other = other;
    other_node = j.other_node;
    may = j.may;
    has_other = j.has_other;
    composes = composes j.may.stands.parent_node.bindings j.other_node.bindings (stand j.may.stands.parent_node has_upper) (stand' j.other_node j.has_other);
  }

  pub is_due : IsJoinDue tree key
  is_due = record {
    stands = j.may.stands;
    no_root = j.may.no_root;
    two = length_permutation (key ∷ other ∷ []) j.may.stands.children j.may.two;
  }

-- ---- two children
two_among : (child one two : ℕ) → IsAmong (one ∷ two ∷ []) child → (one ≡ child → ⊥) → two ≡ child
two_among child one two (inl e) apart = absurd (apart e)
two_among child one two (inr (inl e)) apart = e
two_among child one two (inr (inr e)) apart = absurd e

-- the first one is the other
pub first_is : (children : List ℕ) (child one : ℕ) → length children ≡ 2 → one ≡ get_or children 0 one → IsAmong children child → (one ≡ child → ⊥) → IsPermutation (child ∷ one ∷ []) children
first_is [] child one two first among apart = absurd (omega (arith, two))
first_is (a ∷ []) child one two first among apart = absurd (omega (arith, two))
first_is (a ∷ b ∷ []) child one two first among apart =
    subst (λ x. IsPermutation (child ∷ x ∷ []) (a ∷ b ∷ [])) (sym first)
    (subst (λ x. IsPermutation (x ∷ a ∷ []) (a ∷ b ∷ [])) (two_among child a b among (λ e. apart (first ∙ e)))
    (IsPermutation-sym (a ∷ b ∷ []) (b ∷ a ∷ []) (IsPermutation-middle (a ∷ []) b [])))
first_is (a ∷ b ∷ c ∷ children) child one two first among apart = absurd (omega (arith, two))
