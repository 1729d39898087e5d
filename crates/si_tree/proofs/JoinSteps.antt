-- A leaf goes from a kept tree, and its parent is joined with the other child.
use Rattle.std.proofs.Common.{◌≡◌, ◌≢◌, ℕ, ◌+◌, ◌≤◌, List, [], ◌∷◌, ◌++◌, Option, None, Some, map, get_or, inl, inr, refl, sym, ◌∙◌, ap, subst, arith}
use Rattle.std.specs.Prelude.{IsPermutation}
use Rattle.std.proofs.lemmas.Bool.{cases_eq}
use Rattle.std.proofs.lemmas.Option.{same_Some}
use Rattle.std.proofs.lemmas.List.Sorted.{IsPermutation-sym, IsPermutation-middle}
use Rattle.slab.specs.Slab.{Slab, get}
use Rattle.si_defs.specs.Substitutions.{image, IsAmong}
use Rattle.si_defs.specs.Terms as terms
use Rattle.si_defs.proofs.ListLaws.{among_front}
use Rattle.si_flat.specs.Cells.{query, entry, ind, same_variable, Term}
use Rattle.si_flat.specs.Rows.{CellPair, AreWhole}
use Rattle.si_legal.specs.Bindings.{Binding, IsIndicator, substitution_of, applied, composed}
use Rattle.si_legal.specs.Trees.{inner, leaf, Node, Tree, HasNode, Path, IsPath, PassesBy}
use Rattle.si_legal.specs.Trees as trees
use Rattle.si_legal.specs.Legal.{IsLegal, IsLegalContent}
use Rattle.si_legal.specs.Counts.{counted, leaves_of, unmerged_of}
use Rattle.si_legal.specs.StoredSets.{StaysStored, KeepsLeaves}
use Rattle.si_legal.proofs.PathLaws.{one_node}
use Rattle.si_changes.specs.Nodes.{with_content}
use Rattle.si_changes.specs.Joins.{Joins}
use Rattle.si_changes.proofs.Permuted.{permuted_among, permuted_distinct}
use Rattle.si_changes.proofs.HeadLaws.{same_head_self, same_head_back, head_stays, image_keeps}
use Rattle.si_changes.proofs.ComposeLaws.{carried, carried_among}
use Rattle.si_changes.proofs.OpenLaws.{path_node, passes_start, no_return}
use Rattle.si_changes.proofs.JoinTreeLaws.{joins_nodes}
use Rattle.si_tree.specs.declared.node.Head.{Head}
use Rattle.si_tree.specs.declared.node.Head.TheVariants.{Sym, Var}
use Rattle.si_tree.specs.Nodes.{TreeNode}
use Rattle.si_tree.specs.declared.tree.Tree.TheInside.{Inside}
use Rattle.si_tree.specs.Decoding.{bindings_of}
use Rattle.si_tree.specs.Dropping.{Drops, MayJoinBy, MayTakeBoth, AreTakenOut}
use Rattle.si_tree.specs.Heads.{HasHead, HeadsAt, AreHeadsOf}
use Rattle.si_tree.specs.KeptNodes.{node_of, node_in_slot, tree_of, content_of, heads_of, moved_below, KnowsHeads, IsKept}
use Rattle.si_tree.proofs.SlotLaws.{slot_read, node_read, vacant_read, Stood, stood}
use Rattle.si_tree.proofs.CountLaws.{weight, counted_least}
use Rattle.si_tree.proofs.DecodingLaws.{bindings_read, stand_whole}
use Rattle.si_tree.proofs.KeptLaws.{leaf_known}
use Rattle.si_tree.proofs.BelowLaws.{is_below}
use Rattle.si_tree.proofs.RoomLaws.{known_told, known_from}
use Rattle.si_tree.proofs.SplitSteps.{head_carries}
use Rattle.si_tree.proofs.DropSteps.{heads_each, without_leaf, parent_content, only_parent, children_distinct, apart_from_leaf}

-- ---- heads
heads_turned : (old new : Tree Term) (split x y : ℕ) (heads : List Head) (front back : List ℕ) → ((c : ℕ) (h : Head) → IsAmong (front ++ back) c → HeadsAt old split c h → HeadsAt new split c h) → ((h : Head) → HeadsAt old split x h → HeadsAt new split y h) → AreHeadsOf old split heads (front ++ x ∷ back) → AreHeadsOf new split heads (front ++ y ∷ back)
heads_turned old new split x y [] [] back keeps turn are = absurd are
heads_turned old new split x y [] (c ∷ front) back keeps turn are = absurd are
heads_turned old new split x y (h ∷ hs) [] back keeps turn are = (turn h are.0, heads_each old new split hs back keeps are.1)
heads_turned old new split x y (h ∷ hs) (c ∷ front) back keeps turn are = (keeps c h (inl refl) are.0, heads_turned old new split x y hs front back (λ d k a. keeps d k (inr a)) turn are.1)

-- what has a head is no indicator
no_indicator : (t : Term) (h : Head) → HasHead t h → IsIndicator t → ⊥
no_indicator (terms.app s ts) h has is = is
no_indicator (terms.var (query n)) h has is = is
no_indicator (terms.var (entry n)) h has is = is
no_indicator (terms.var (ind n)) h has is = by h has where
  by : (h : Head) → HasHead (terms.var (ind n)) h → ⊥
  by (Sym s arity) has = has
  by (Var m) has = has

-- ---- the node above
pub record HasUpper (tree : Tree Term) (key : ℕ) (node : Node Term) : Type 0 where
  pub upper : ℕ
  pub upper_node : Node Term
  pub path : Path
  pub split : ℕ
  pub children : List ℕ
  pub below : node.parent ≡ Some upper
  pub has : HasNode tree upper upper_node
  pub reached : IsPath tree (Some upper) path
  pub content : upper_node.content ≡ inner split children
  pub among : IsAmong children key

has_upper : (tree : Tree Term) (key : ℕ) (node : Node Term) → IsLegal tree → HasNode tree key node → key ≢ tree.root → HasUpper tree key node
has_upper tree key node legal has no_root = by node.parent refl where
  by : (parent : Option ℕ) → node.parent ≡ parent → HasUpper tree key node
  by None e = absurd (no_root ((legal.nodes key node has).only_root e))
  by (Some upper) e = inside there.0.content refl where
    reached : IsPath tree (Some upper) (legal.nodes key node has).above
    reached = subst (λ k. IsPath tree k (legal.nodes key node has).above) e (legal.nodes key node has).reached

    there : (n : Node Term) × HasNode tree upper n
    there = path_node tree upper (legal.nodes key node has).above reached

    inside : (c : trees.Content) → there.0.content ≡ c → HasUpper tree key node
    inside (inner split children) f = record {
      upper = upper;
      upper_node = there.0;
      path = (legal.nodes key node has).above;
      split = split;
      children = children;
      below = e;
      has = there.1;
      reached = reached;
      content = f;
      among = parent_content tree key upper node there.0 split children legal has e there.1 f;
    }
    inside (leaf ps) f =
        let h = legal.nodes upper there.0 there.1 in
        absurd (((subst (IsLegalContent tree upper ((upper, there.0) ∷ h.above)) f h.content).0 key).1 (node, has, e))

module _ (old : Inside) (key : ℕ) (cells : List CellPair) (kept : IsKept old) (may : MayJoinBy (tree_of old) key cells) where
  abbrev tree : Tree Term
  tree = tree_of old

  abbrev parent : ℕ
  parent = may.may.stands.parent

  pub here : Stood old.nodes.slots key may.may.stands.node
  here = stood old.nodes.slots key may.may.stands.node may.may.stands.has

  pub parent_stood : Stood old.nodes.slots parent may.may.stands.parent_node
  parent_stood = stood old.nodes.slots parent may.may.stands.parent_node may.may.stands.is_parent

  pub other_stood : Stood old.nodes.slots may.other may.other_node
  other_stood = stood old.nodes.slots may.other may.other_node may.has_other

  pub up : HasUpper tree parent may.may.stands.parent_node
  up = has_upper tree parent may.may.stands.parent_node kept.legal may.may.stands.is_parent may.may.no_root

  pub upper_stood : Stood old.nodes.slots up.upper up.upper_node
  upper_stood = stood old.nodes.slots up.upper up.upper_node up.has

  other_among : IsAmong may.may.stands.children may.other
  other_among = permuted_among (key ∷ may.other ∷ []) may.may.stands.children may.other may.may.two (inr (inl refl))

  other_below : may.other_node.parent ≡ Some parent
  other_below =
      let h = kept.legal.nodes parent may.may.stands.parent_node may.may.stands.is_parent in
      let found = ((subst (IsLegalContent tree parent ((parent, may.may.stands.parent_node) ∷ h.above)) may.may.stands.inner_node h.content).1 may.other).0 other_among in
      ap (λ n. n.parent) (sym (one_node tree may.other found.0 may.other_node found.1 may.has_other)) ∙ found.2

  parent_reached : IsPath tree (Some parent) ((parent, may.may.stands.parent_node) ∷ up.path)
  parent_reached = (refl, may.may.stands.is_parent, subst (λ k. IsPath tree k up.path) (sym up.below) up.reached)

  other_reached : IsPath tree (Some may.other) ((may.other, may.other_node) ∷ (parent, may.may.stands.parent_node) ∷ up.path)
  other_reached = (refl, may.has_other, subst (λ k. IsPath tree k ((parent, may.may.stands.parent_node) ∷ up.path)) (sym other_below) parent_reached)

  passes_upper : PassesBy up.path up.upper
  passes_upper = passes_start tree up.upper up.path up.reached

  pub parent_apart : parent ≢ key
  parent_apart = apart_from_leaf tree parent key may.may.stands.parent_node may.may.stands.node may.may.stands.split may.may.stands.children may.may.stands.is_parent may.may.stands.inner_node may.may.stands.has may.may.empty

  pub upper_apart : up.upper ≢ key
  upper_apart = apart_from_leaf tree up.upper key up.upper_node may.may.stands.node up.split up.children up.has up.content may.may.stands.has may.may.empty

  pub other_apart : may.other ≢ key
  other_apart e = (permuted_distinct may.may.stands.children (key ∷ may.other ∷ []) (IsPermutation-sym (key ∷ may.other ∷ []) may.may.stands.children may.may.two) (children_distinct tree parent may.may.stands.parent_node may.may.stands.split may.may.stands.children kept.legal may.may.stands.is_parent may.may.stands.inner_node)).0 (inl e)

  pub other_no_parent : may.other ≢ parent
  other_no_parent e = no_return tree may.other may.other_node ((parent, may.may.stands.parent_node) ∷ up.path) other_reached (inl (sym e))

  pub upper_no_parent : up.upper ≢ parent
  upper_no_parent e = no_return tree parent may.may.stands.parent_node up.path parent_reached (subst (PassesBy up.path) e passes_upper)

  pub upper_no_other : up.upper ≢ may.other
  upper_no_other e = no_return tree may.other may.other_node ((parent, may.may.stands.parent_node) ∷ up.path) other_reached (inr (subst (PassesBy up.path) e passes_upper))

  -- ---- what the code asks for
  abbrev pub may_take_both : MayTakeBoth old.nodes key
  may_take_both = record {
    parent = parent;
    other = may.other;
    upper = up.upper;
    node = here.kept;
    parent_node = parent_stood.kept;
    other_node = other_stood.kept;
    upper_node = upper_stood.kept;
    has = here.got;
    has_parent = parent_stood.got;
    has_other = other_stood.got;
    has_upper = upper_stood.got;
    below = ap (λ n. n.parent) here.read ∙ may.may.stands.below;
    below_upper = ap (λ n. n.parent) parent_stood.read ∙ up.below;
    besides = (may.may.stands.split, may.may.stands.children, ap (λ n. n.content) parent_stood.read ∙ may.may.stands.inner_node, may.may.two);
    child = is_below old kept up.upper upper_stood.kept up.split up.children upper_stood.got (ap (λ n. n.content) upper_stood.read ∙ up.content) parent parent_stood.kept parent_stood.got up.among;
    apart = (
      (λ a. elim a as (λ _. ⊥) [ inl e ↦ parent_apart e | inr (inl e) ↦ other_apart e | inr (inr (inl e)) ↦ upper_apart e | inr (inr (inr h)) ↦ absurd h ]),
      (
        (λ a. elim a as (λ _. ⊥) [ inl e ↦ other_no_parent e | inr (inl e) ↦ upper_no_parent e | inr (inr h) ↦ absurd h ]),
        ((λ a. elim a as (λ _. ⊥) [ inl e ↦ upper_no_other e | inr h ↦ absurd h ]), ((λ a. absurd a), tt)),
      ),
    );
  }

  module _ (nodes : Slab TreeNode) (taken : AreTakenOut old.nodes nodes key cells may_take_both) where
    abbrev new : Inside
    new = without_leaf old nodes

    abbrev first : List Binding
    first = may.may.stands.parent_node.bindings

    abbrev second : List Binding
    second = may.other_node.bindings

    abbrev joined_of : Node Term
    joined_of = record { parent = Some up.upper; bindings = composed first second; content = may.other_node.content }

    joined_is : node_of (moved_below other_stood.kept up.upper cells) ≡ joined_of
    joined_is = λ i. record {
      parent = Some up.upper;
      bindings = bindings_read cells (composed first second) may.composes i;
      content = ap (λ n. n.content) other_stood.read i;
    }

    has_joined : HasNode (tree_of new) may.other joined_of
    has_joined = node_read nodes.slots may.other _ taken.other_at ∙ ap Some joined_is

    upper_had : HasNode tree up.upper (node_of upper_stood.kept)
    upper_had = node_read old.nodes.slots up.upper upper_stood.kept upper_stood.got

    linked_is : node_of taken.linked ≡ with_content (node_of upper_stood.kept) (inner taken.relinks.split taken.relinks.after)
    linked_is = λ i. record { parent = taken.relinks.parent i; bindings = bindings_of (taken.relinks.bindings i); content = taken.relinks.is i }

    has_linked : HasNode (tree_of new) up.upper (node_of taken.linked)
    has_linked = node_read nodes.slots up.upper taken.linked taken.upper_at

    other_slot : (k : ℕ) → k ≢ key → k ≢ parent → k ≢ may.other → k ≢ up.upper → get_or (map node_in_slot nodes.slots) k None ≡ get_or (map node_in_slot old.nodes.slots) k None
    other_slot k a b c d = slot_read nodes.slots k ∙ ap node_in_slot (taken.others k a b c d) ∙ sym (slot_read old.nodes.slots k)

    abbrev stay : List ℕ
    stay = taken.relinks.replaced.front ++ taken.relinks.replaced.back

    before_are : IsPermutation (parent ∷ stay) taken.relinks.children
    before_are = subst (IsPermutation (parent ∷ stay)) (sym taken.relinks.replaced.old_is) (IsPermutation-sym _ _ (IsPermutation-middle taken.relinks.replaced.front parent taken.relinks.replaced.back))

    joins : Joins tree (tree_of new) key may.other
    joins = record {
      parent = parent;
      parent_node = may.may.stands.parent_node;
      other_node = may.other_node;
      above = up.upper;
      was_parent = may.may.stands.is_parent;
      below_parent = up.below;
      was_below = may.has_other;
      child_of = other_below;
      gone = vacant_read nodes.slots key taken.gone;
      parent_gone = vacant_read nodes.slots parent taken.parent_gone;
      joined = has_joined;
      linked = record {
        node = node_of upper_stood.kept;
        split = taken.relinks.split;
        stay = stay;
        before = taken.relinks.children;
        after = taken.relinks.after;
        had = upper_had;
        content = taken.relinks.was;
        before_are = before_are;
        has = has_linked ∙ ap Some linked_is;
        after_are = subst (IsPermutation (may.other ∷ stay)) (sym taken.relinks.replaced.new_is) (IsPermutation-sym _ _ (IsPermutation-middle taken.relinks.replaced.front may.other taken.relinks.replaced.back));
      };
      others = λ k none. other_slot k (λ e. none (inl (sym e))) (λ e. none (inr (inl (sym e)))) (λ e. none (inr (inr (inl (sym e))))) (λ e. none (inr (inr (inr (inl (sym e))))));
      root = refl;
      next = refl;
      vars = refl;
    }

    joined : IsLegal (tree_of new) × StaysStored tree (tree_of new) × KeepsLeaves tree (tree_of new)
    joined = joins_nodes tree (tree_of new) key may.other kept.legal may.may joins

    -- ---- heads
    keeps_heads : (n c : ℕ) (h : Head) → c ≢ key → c ≢ parent → c ≢ may.other → HeadsAt tree n c h → HeadsAt (tree_of new) n c h
    keeps_heads n c h a b d (t, (node, has, binds), head) = elim (cases_eq c up.upper) as (λ _. HeadsAt (tree_of new) n c h) [
      | inl e ↦
          (let is : node_of upper_stood.kept ≡ node = one_node tree c (node_of upper_stood.kept) node (subst (λ j. HasNode tree j (node_of upper_stood.kept)) (sym e) upper_had) has in
          let same : bindings_of taken.linked.bindings ≡ node.bindings = ap bindings_of taken.relinks.bindings ∙ ap (λ x. x.bindings) is in
          (t, (node_of taken.linked, subst (λ j. HasNode (tree_of new) j (node_of taken.linked)) (sym e) has_linked, subst (λ bs. IsAmong bs (n, t)) (sym same) binds), head))
      | inr f ↦ (t, (node, other_slot c a b d f ∙ has, binds), head)
    ]

    -- the other child gives the split a term of the head that the parent gave it
    turns : (n : ℕ) (h : Head) → HeadsAt tree n parent h → HeadsAt (tree_of new) n may.other h
    turns n h (t, (node, has, binds), head) =
        let among : IsAmong first (n, t) = subst (λ x. IsAmong x.bindings (n, t)) (one_node tree parent node may.may.stands.parent_node has may.may.stands.is_parent) binds in
        let same = head_stays (image same_variable (substitution_of second)) t t (image_keeps second) (no_indicator t h head) (same_head_self t) in (
          applied second t,
          (joined_of, has_joined, among_front (carried first second) _ (n, applied second t) (carried_among first second n t among)),
          head_carries t (applied second t) h (same_head_back (applied second t) t same) head,
        )

    -- the leaf and the other child are the parent's alone, and the parent is the upper node's
    not_these : (k : ℕ) (n : Node Term) (m : ℕ) (cs : List ℕ) → k ≢ parent → HasNode tree k n → n.content ≡ inner m cs → (c : ℕ) → IsAmong cs c → (c ≢ key) × (c ≢ may.other)
    not_these k n m cs apart has content c a = (
      (λ e. apart (only_parent tree key parent k may.may.stands.node n m cs kept.legal may.may.stands.has may.may.stands.below has content (subst (IsAmong cs) e a))),
      (λ e. apart (only_parent tree may.other parent k may.other_node n m cs kept.legal may.has_other other_below has content (subst (IsAmong cs) e a))),
    )

    upper_heads : KnowsHeads (tree_of new) taken.linked.content
    upper_heads =
        let distinct = permuted_distinct taken.relinks.children (parent ∷ stay) (IsPermutation-sym (parent ∷ stay) taken.relinks.children before_are) (children_distinct tree up.upper (node_of upper_stood.kept) taken.relinks.split taken.relinks.children kept.legal upper_had taken.relinks.was) in
        let inside : (c : ℕ) → IsAmong stay c → IsAmong taken.relinks.children c = λ c a. permuted_among (parent ∷ stay) taken.relinks.children c before_are (inr a) in
        let these : (c : ℕ) → IsAmong stay c → (c ≢ key) × (c ≢ may.other) = λ c a. not_these up.upper (node_of upper_stood.kept) taken.relinks.split taken.relinks.children upper_no_parent upper_had taken.relinks.was c (inside c a) in
        known_from (tree_of new) taken.linked.content taken.relinks.split taken.relinks.after taken.relinks.is
        (subst (λ hs. AreHeadsOf (tree_of new) taken.relinks.split hs taken.relinks.after) (sym taken.relinks.heads)
        (subst (AreHeadsOf (tree_of new) taken.relinks.split (heads_of upper_stood.kept.content)) (sym taken.relinks.replaced.new_is)
        (heads_turned tree (tree_of new) taken.relinks.split parent may.other (heads_of upper_stood.kept.content) taken.relinks.replaced.front taken.relinks.replaced.back
        (λ c h a. keeps_heads taken.relinks.split c h (these c a).0 (λ e. distinct.0 (subst (IsAmong stay) e a)) (these c a).1)
        (turns taken.relinks.split)
        (subst (AreHeadsOf tree taken.relinks.split (heads_of upper_stood.kept.content)) taken.relinks.replaced.old_is
        (known_told tree upper_stood.kept.content taken.relinks.split taken.relinks.children taken.relinks.was (kept.heads up.upper upper_stood.kept upper_stood.got))))))

    other_heads : (k : ℕ) (x : TreeNode) → k ≢ parent → k ≢ up.upper → get old.nodes k ≡ Some x → KnowsHeads (tree_of new) x.content
    other_heads k x no_parent no_upper got = by (content_of x.content) refl where
      by : (c : trees.Content) → content_of x.content ≡ c → KnowsHeads (tree_of new) x.content
      by (leaf ps) e = leaf_known (tree_of new) x.content ps e
      by (inner m cs) e =
          let has = node_read old.nodes.slots k x got in
          known_from (tree_of new) x.content m cs e
          (heads_each tree (tree_of new) m (heads_of x.content) cs
          (λ c h a. keeps_heads m c h (not_these k (node_of x) m cs no_parent has e c a).0
          (λ f. no_upper (only_parent tree parent up.upper k may.may.stands.parent_node (node_of x) m cs kept.legal may.may.stands.is_parent up.below has e (subst (IsAmong cs) f a)))
          (not_these k (node_of x) m cs no_parent has e c a).1)
          (known_told tree x.content m cs e (kept.heads k x got)))

    -- ---- which node it is
    data Which (k : ℕ) (x : TreeNode) : Type 0 where
      is_joined : moved_below other_stood.kept up.upper cells ≡ x → Which k x
      is_upper : taken.linked ≡ x → Which k x
      is_rest : k ≢ parent → k ≢ up.upper → get old.nodes k ≡ Some x → Which k x

    not_vacant : (k at : ℕ) (x : TreeNode) → get nodes at ≡ None → get nodes k ≡ Some x → k ≢ at
    not_vacant k at x none got e = differ (sym none ∙ ap (get nodes) (sym e) ∙ got) where
      differ : None ≡ Some x → ⊥
      differ f = cc

    which : (k : ℕ) (x : TreeNode) → get nodes k ≡ Some x → Which k x
    which k x got = elim (cases_eq k may.other) as (λ _. Which k x) [
      | inl e ↦ is_joined (same_Some (moved_below other_stood.kept up.upper cells) x (sym taken.other_at ∙ ap (get nodes) (sym e) ∙ got))
      | inr c ↦ elim (cases_eq k up.upper) as (λ _. Which k x) [
        | inl e ↦ is_upper (same_Some taken.linked x (sym taken.upper_at ∙ ap (get nodes) (sym e) ∙ got))
        | inr d ↦ is_rest (not_vacant k parent x taken.parent_gone got) d (sym (taken.others k (not_vacant k key x taken.gone got) (not_vacant k parent x taken.parent_gone got) c d) ∙ got)
      ]
    ]

    whole_at : (k : ℕ) (x : TreeNode) → Which k x → AreWhole x.bindings
    whole_at k x (is_joined e) = subst (λ n. AreWhole n.bindings) e (stand_whole cells (composed first second) may.composes)
    whole_at k x (is_upper e) = subst (λ n. AreWhole n.bindings) e (subst AreWhole (sym taken.relinks.bindings) (kept.whole up.upper upper_stood.kept upper_stood.got))
    whole_at k x (is_rest a b got) = kept.whole k x got

    heads_at : (k : ℕ) (x : TreeNode) → Which k x → KnowsHeads (tree_of new) x.content
    heads_at k x (is_joined e) = subst (λ n. KnowsHeads (tree_of new) n.content) e (other_heads may.other other_stood.kept other_no_parent (λ f. upper_no_other (sym f)) other_stood.got)
    heads_at k x (is_upper e) = subst (λ n. KnowsHeads (tree_of new) n.content) e upper_heads
    heads_at k x (is_rest a b got) = other_heads k x a b got

    -- ---- the whole
    leaf_content : content_of here.kept.content ≡ leaf []
    leaf_content = ap (λ n. n.content) here.read ∙ may.may.empty

    parent_inner : content_of parent_stood.kept.content ≡ inner may.may.stands.split may.may.stands.children
    parent_inner = ap (λ n. n.content) parent_stood.read ∙ may.may.stands.inner_node

    leaves_fewer : counted leaves_of (tree_of new).nodes + 1 ≡ counted leaves_of tree.nodes
    leaves_fewer = omega (arith, taken.counts leaves_of, ap leaves_of leaf_content, ap leaves_of parent_inner, ap leaves_of taken.relinks.was, ap leaves_of taken.relinks.is)

    unmerged_fewer : counted unmerged_of (tree_of new).nodes + 1 ≡ counted unmerged_of tree.nodes
    unmerged_fewer = omega (arith, taken.counts unmerged_of, ap unmerged_of leaf_content, ap unmerged_of parent_inner, ap unmerged_of taken.relinks.was, ap unmerged_of taken.relinks.is)

    pub join_kept : IsKept (without_leaf old nodes)
    join_kept = record {
      legal = joined.0;
      whole = λ k x got. whole_at k x (which k x got);
      heads = λ k x got. heads_at k x (which k x got);
      leaves = omega (arith, kept.leaves, leaves_fewer);
      unmerged = omega (arith, kept.unmerged, unmerged_fewer);
    }

    pub join_done : Drops tree (tree_of (without_leaf old nodes)) key (Some cells)
    join_done = record {
      goes = (may.other, joins);
      stays = joined.1;
      keeps = joined.2;
      nodes = omega (arith, taken.counts (λ content. 1));
      leaves = leaves_fewer;
      unmerged = unmerged_fewer;
    }

  -- a leaf without a posting is counted
  pub some_counted : (1 ≤ old.leaves) × (1 ≤ old.unmerged)
  some_counted =
      let has = node_read old.nodes.slots key here.kept here.got in
      let content : content_of here.kept.content ≡ leaf [] = ap (λ n. n.content) here.read ∙ may.may.empty in
      let leaves = counted_least leaves_of tree.nodes key in
      let unmerged = counted_least unmerged_of tree.nodes key in
      let a : weight leaves_of (get_or tree.nodes key None) ≡ 1 = ap (weight leaves_of) has ∙ ap leaves_of content in
      let b : weight unmerged_of (get_or tree.nodes key None) ≡ 1 = ap (weight unmerged_of) has ∙ ap unmerged_of content in
      (omega (arith, kept.leaves, leaves, a), omega (arith, kept.unmerged, unmerged, b))
