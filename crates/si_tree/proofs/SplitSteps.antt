-- A node of a kept tree is split.
use Rattle.std.proofs.Common.{◌≡◌, ◌≢◌, ℕ, ◌+◌, ◌<◌, max, List, [], ◌∷◌, ◌++◌, length, Option, None, Some, map, get_or, inl, inr, refl, sym, ◌∙◌, ap, subst, arith, ◌⊎◌, true, false}
use Rattle.std.specs.Prelude.{IsPermutation}
use Rattle.std.proofs.lemmas.Bool.{cases_eq, cases_lt}
use Rattle.std.proofs.lemmas.Option.{same_Some}
use Rattle.std.proofs.lemmas.List.Sorted.{IsPermutation-refl, IsPermutation-sym, IsPermutation-middle}
use Rattle.std.specs.List.{AllByRecursion}
use Rattle.slab.specs.Slab.{get}
use Rattle.si_defs.specs.Terms as terms
use Rattle.si_defs.specs.Substitutions.{IsAmong, AreDistinct}
use Rattle.si_defs.proofs.ListLaws.{all_at, among_front, among_back}
use Rattle.si_flat.specs.Cells.{entry, ind, same_variable, Term}
use Rattle.si_flat.specs.Rows.{CellPair, left_sides, AreWhole}
use Rattle.si_flat.proofs.VariableLaws.{variable_is}
use Rattle.si_legal.proofs.Splitting.{symbol_is}
use Rattle.si_flat.specs.declared.bindings.Split.{Split}
use Rattle.si_legal.specs.declared.Posting.{Posting}
use Rattle.si_legal.specs.Bindings.{Binding, applied}
use Rattle.si_legal.specs.Generalizations.{same_head, fresh_among}
use Rattle.si_legal.specs.Trees.{inner, leaf, Node, Tree, HasNode, Path, IsPath, PassesBy, path_term}
use Rattle.si_legal.specs.Trees as trees
use Rattle.si_legal.specs.Legal.{IsLegalContent, IsLeafTerm, IsWithin}
use Rattle.si_legal.specs.Counts.{leaves_of, unmerged_of}
use Rattle.si_legal.specs.StoredSets.{Gains}
use Rattle.si_legal.proofs.PathLaws.{one_node, one_path}
use Rattle.si_changes.specs.Nodes.{IsVacant, leaf_below, with_content, RoomFor, IsGreater}
use Rattle.si_changes.specs.Splits.{MaySplitNode, SplitsNode}
use Rattle.si_changes.specs.Leaves.{IsTermAt}
use Rattle.si_changes.proofs.Borrowed.{bound_left}
use Rattle.si_changes.proofs.Frames.{legal_nodes, one_right, differ_told}
use Rattle.si_changes.proofs.OpenLaws.{vacant_apart, no_return}
use Rattle.si_changes.proofs.ComposeLaws.{applied_from}
use Rattle.si_changes.proofs.DivideLaws.{Divides, divides}
use Rattle.si_changes.proofs.SplitTreeLaws.{leaf_open, splits_node}
use Rattle.si_tree.specs.declared.node.Head.{Head}
use Rattle.si_tree.specs.declared.node.Head.TheVariants.{Sym, Var}
use Rattle.si_tree.specs.Nodes.{TreeNode}
use Rattle.si_tree.specs.declared.tree.Tree.TheInside.{Inside}
use Rattle.si_tree.specs.Changes.{parts_of, AreWholeParts, HasSplitLeaf}
use Rattle.si_tree.specs.Decoding.{term_of, bindings_of}
use Rattle.si_tree.specs.Heads.{HasHead, HeadsAt, AreHeadsOf}
use Rattle.si_tree.specs.KeptNodes.{node_of, node_in_slot, tree_of, content_of, heads_of, moved_below, KnowsHeads, IsKept, IsPutBetween, IsFork, IsLeafWith}
use Rattle.si_tree.specs.Rights.{beyond_rights}
use Rattle.si_tree.proofs.SlotLaws.{slot_read, node_read, vacant_read}
use Rattle.si_tree.proofs.ChildLaws.{same_split, same_children}
use Rattle.si_tree.proofs.KeptLaws.{leaf_known}
use Rattle.si_tree.proofs.RoomLaws.{known_told, known_from}
use Rattle.si_tree.proofs.RightLaws.{lefts_read}
use Rattle.si_tree.proofs.VariableLaws.{IsRoomy, room_of, path_within}
use Rattle.si_tree.proofs.LeafSteps.{IsSamePath}

-- ---- paths that don't pass by a node
path_past : (old new : Tree Term) (key : ℕ) (from : Option ℕ) (p : Path) → ((k : ℕ) (node : Node Term) → k ≢ key → HasNode old k node → (other : Node Term) × HasNode new k other × (other.parent ≡ node.parent) × (other.bindings ≡ node.bindings)) → IsPath old from p → (PassesBy p key → ⊥) → IsSamePath new from p
path_past old new key from [] keeps reached past = record { path = []; reached = reached; term = refl }
path_past old new key from (step ∷ above) keeps reached past =
    let found = keeps step.0 step.1 (λ e. past (inl e)) reached.1 in
    let rest = path_past old new key step.1.parent above keeps reached.2 (λ h. past (inr h)) in
    record {
      path = (step.0, found.0) ∷ rest.path;
      reached = (reached.0, found.1, subst (λ k. IsPath new k rest.path) (sym found.2) rest.reached);
      term = (λ i. applied (found.3 i) (rest.term i));
    }

-- ---- bindings in two lists
bindings_append : (bs cs : List CellPair) → bindings_of (bs ++ cs) ≡ bindings_of bs ++ bindings_of cs
bindings_append [] cs = refl
bindings_append (b ∷ bs) cs = ap (λ ds. (b.0, term_of b.1) ∷ ds) (bindings_append bs cs)

whole_append : (bs cs : List CellPair) → AreWhole bs → AreWhole cs → AreWhole (bs ++ cs)
whole_append [] cs p q = q
whole_append (b ∷ bs) cs p q = (p.0, whole_append bs cs p.1 q)

-- ---- heads
pub head_carries : (t c : Term) (h : Head) → same_head t c ≡ true → HasHead t h → HasHead c h
head_carries (terms.app s ts) (terms.app r us) (Sym n a) same has =
    let is : s ≡ r = symbol_is s r same in
    (sym (ap (λ q. q.number) is) ∙ has.0, sym (ap (λ q. q.arity) is) ∙ has.1)
head_carries (terms.app s ts) (terms.app r us) (Var n) same has = absurd has
head_carries (terms.app s ts) (terms.var x) h same has = absurd (by same) where
  by : false ≡ true → ⊥
  by e = cc
head_carries (terms.var x) (terms.var y) h same has = subst (λ z. HasHead (terms.var z) h) (variable_is x y same) has
head_carries (terms.var x) (terms.app r us) h same has = absurd (by same) where
  by : false ≡ true → ⊥
  by e = cc

heads_past : (old new : Tree Term) (split key : ℕ) (heads : List Head) (children : List ℕ) → ((c : ℕ) (h : Head) → c ≢ key → HeadsAt old split c h → HeadsAt new split c h) → (IsAmong children key → ⊥) → AreHeadsOf old split heads children → AreHeadsOf new split heads children
heads_past old new split key [] [] keeps past are = tt
heads_past old new split key [] (c ∷ cs) keeps past are = absurd are
heads_past old new split key (h ∷ hs) [] keeps past are = absurd are
heads_past old new split key (h ∷ hs) (c ∷ cs) keeps past are = (keeps c h (λ e. past (inl e)) are.0, heads_past old new split key hs cs keeps (λ a. past (inr a)) are.1)

heads_replaced : (old new : Tree Term) (split key f : ℕ) (heads : List Head) (front back : List ℕ) → ((c : ℕ) (h : Head) → c ≢ key → HeadsAt old split c h → HeadsAt new split c h) → ((h : Head) → HeadsAt old split key h → HeadsAt new split f h) → AreDistinct (front ++ key ∷ back) → AreHeadsOf old split heads (front ++ key ∷ back) → AreHeadsOf new split heads (front ++ f ∷ back)
heads_replaced old new split key f [] [] back keeps turn distinct are = absurd are
heads_replaced old new split key f [] (c ∷ front) back keeps turn distinct are = absurd are
heads_replaced old new split key f (h ∷ hs) [] back keeps turn distinct are = (turn h are.0, heads_past old new split key hs back keeps distinct.0 are.1)
heads_replaced old new split key f (h ∷ hs) (c ∷ front) back keeps turn distinct are = (
  keeps c h (λ e. distinct.0 (among_back front (key ∷ back) c (inl (sym e)))) are.0,
  heads_replaced old new split key f hs front back keeps turn distinct.1 are.1,
)

-- ---- the step
pub record IsSplit (old new : Inside) (key parent first : ℕ) (split : Split) (others : List CellPair) (p : Posting) (f lk : ℕ) : Type 0 where
  pub fork : TreeNode
  pub leaf_node : TreeNode
  pub head : Head
  pub new_head : Head
  pub right : Term
  pub more : List Binding
  pub kept : IsKept old
  pub whole : AreWholeParts split others
  pub may : MaySplitNode (tree_of old) key (parts_of split) (bindings_of others) p
  pub put : IsPutBetween old.nodes new.nodes key parent fork split.rest_node leaf_node new_head f lk
  pub is_fork : IsFork parent split.common first head key fork
  pub is_leaf : IsLeafWith (split.rest_new ++ others) p leaf_node
  pub with_parent : may.parent ≡ parent
  pub first_left : bindings_of split.rest_node ≡ (first, right) ∷ more
  pub root : new.root ≡ old.root
  pub next : new.next ≡ old.next + length (fresh_among old.next (left_sides split.rest_node))
  pub vars : new.vars ≡ max old.vars (beyond_rights leaf_node.bindings)

module _ (old new : Inside) (key parent first : ℕ) (split : Split) (others : List CellPair) (p : Posting) (f lk : ℕ) (s : IsSplit old new key parent first split others p f lk) where
  cells : List CellPair
  cells = split.rest_new ++ others

  abbrev top : Path
  top = (s.may.parent, s.may.parent_node) ∷ s.may.above

  abbrev upper : Term
  upper = applied (bindings_of split.common) (path_term top)

  abbrev leaf_term : Term
  leaf_term = applied (bindings_of split.rest_new ++ bindings_of others) upper

  node_is : node_of s.put.node ≡ s.may.node
  node_is = one_node (tree_of old) key (node_of s.put.node) s.may.node (node_read old.nodes.slots key s.put.node s.put.had) s.may.reached.1

  above_has : HasNode (tree_of old) parent (node_of s.put.above)
  above_has = node_read old.nodes.slots parent s.put.above s.put.had_above

  above_is : node_of s.put.above ≡ s.may.parent_node
  above_is = one_node (tree_of old) parent (node_of s.put.above) s.may.parent_node above_has (subst (λ k. HasNode (tree_of old) k s.may.parent_node) s.with_parent s.may.reached.2.1)

  below : (node_of s.put.node).parent ≡ Some parent
  below = ap (λ n. n.parent) node_is ∙ s.may.reached.2.0 ∙ ap Some s.with_parent

  other_slot : (k : ℕ) → k ≢ key → k ≢ parent → k ≢ f → k ≢ lk → get_or (map node_in_slot new.nodes.slots) k None ≡ get_or (map node_in_slot old.nodes.slots) k None
  other_slot k a b c d = slot_read new.nodes.slots k ∙ ap node_in_slot (s.put.others k a b c d) ∙ sym (slot_read old.nodes.slots k)

  fork_vacant : IsVacant (tree_of old) f
  fork_vacant = vacant_read old.nodes.slots f s.put.fork_vacant

  leaf_vacant : IsVacant (tree_of old) lk
  leaf_vacant = vacant_read old.nodes.slots lk s.put.leaf_vacant

  -- ---- the new nodes
  fork_contents : inner s.put.gains.split s.put.gains.children ≡ inner first (key ∷ [])
  fork_contents = sym s.put.gains.was ∙ s.is_fork.children

  forked_content : content_of s.put.forked.content ≡ inner first (key ∷ lk ∷ [])
  forked_content =
      s.put.gains.is ∙ (λ i. inner (same_split _ _ _ _ fork_contents i) (same_children _ _ _ _ fork_contents i ++ lk ∷ []))

  abbrev forked_node : Node Term
  forked_node = record { parent = Some parent; bindings = bindings_of split.common; content = inner first (key ∷ lk ∷ []) }

  forked_is : node_of s.put.forked ≡ forked_node
  forked_is = λ i. record {
    parent = (s.put.gains.parent ∙ s.is_fork.below) i;
    bindings = bindings_of ((s.put.gains.bindings ∙ s.is_fork.binds) i);
    content = forked_content i;
  }

  leaf_is : node_of (moved_below s.leaf_node f s.leaf_node.bindings) ≡ leaf_below f (bindings_of split.rest_new ++ bindings_of others) (p ∷ [])
  leaf_is = λ i. record {
    parent = Some f;
    bindings = (ap bindings_of s.is_leaf.binds ∙ bindings_append split.rest_new others) i;
    content = s.is_leaf.content i;
  }

  linked_is : node_of s.put.linked ≡ with_content (node_of s.put.above) (inner s.put.relinks.split s.put.relinks.after)
  linked_is = λ i. record { parent = s.put.relinks.parent i; bindings = bindings_of (s.put.relinks.bindings i); content = s.put.relinks.is i }

  key_parent : key ≢ parent
  key_parent e = no_return (tree_of old) key s.may.node top s.may.reached (inl (s.with_parent ∙ sym e))

  -- ---- the tree, with any bound on variables that has room for the leaf's term
  abbrev with_vars : ℕ → Tree Term
  with_vars v = record { nodes = map node_in_slot new.nodes.slots; root = new.root; next = new.next; vars = v }

  keeps_others : (v k : ℕ) (node : Node Term) → k ≢ key → HasNode (tree_of old) k node → (other : Node Term) × HasNode (with_vars v) k other × (other.parent ≡ node.parent) × (other.bindings ≡ node.bindings)
  keeps_others v k node apart has = elim (cases_eq k parent) as (λ _. (other : Node Term) × HasNode (with_vars v) k other × (other.parent ≡ node.parent) × (other.bindings ≡ node.bindings)) [
    | inl e ↦
        (let is : node_of s.put.above ≡ node = one_node (tree_of old) k (node_of s.put.above) node (subst (λ j. HasNode (tree_of old) j (node_of s.put.above)) (sym e) above_has) has in (
          node_of s.put.linked,
          subst (λ j. HasNode (with_vars v) j (node_of s.put.linked)) (sym e) (node_read new.nodes.slots parent s.put.linked s.put.above_at),
          s.put.relinks.parent ∙ ap (λ x. x.parent) is,
          ap bindings_of s.put.relinks.bindings ∙ ap (λ x. x.bindings) is,
        ))
    | inr other ↦
        (node, other_slot k apart other (vacant_apart (tree_of old) f k node fork_vacant has) (vacant_apart (tree_of old) lk k node leaf_vacant has) ∙ has, refl, refl)
  ]

  term_at : (v : ℕ) (t : Term) → IsTermAt (with_vars v) lk t → t ≡ leaf_term
  term_at v t at =
      let past = path_past (tree_of old) (with_vars v) key (Some parent) top (keeps_others v) (ap Some (sym s.with_parent), s.may.reached.2.1, s.may.reached.2.2) (no_return (tree_of old) key s.may.node top s.may.reached) in
      let has_leaf : HasNode (with_vars v) lk (leaf_below f (bindings_of split.rest_new ++ bindings_of others) (p ∷ [])) = node_read new.nodes.slots lk _ s.put.leaf_at ∙ ap Some leaf_is in
      let has_fork = node_read new.nodes.slots f s.put.forked s.put.fork_at ∙ ap Some forked_is in
      let path : IsPath (with_vars v) (Some lk) ((lk, leaf_below f (bindings_of split.rest_new ++ bindings_of others) (p ∷ [])) ∷ (f, forked_node) ∷ past.path) = (refl, has_leaf, (refl, has_fork, past.reached)) in
      at.2 ∙ ap path_term (one_path (with_vars v) (Some lk) at.0 ((lk, leaf_below f (bindings_of split.rest_new ++ bindings_of others) (p ∷ [])) ∷ (f, forked_node) ∷ past.path) at.1 path)
      ∙ ap (λ u. applied (bindings_of split.rest_new ++ bindings_of others) (applied (bindings_of split.common) u)) past.term

  splits_with : (v : ℕ) → ((t : Term) → t ≡ leaf_term → RoomFor (tree_of old) (with_vars v) t) → SplitsNode (tree_of old) (with_vars v) key (parts_of split) (bindings_of others) p f lk
  splits_with v room = record {
    node = node_of s.put.node;
    parent = parent;
    first = first;
    right = s.right;
    more = s.more;
    two = key ∷ lk ∷ [];
    had = node_read old.nodes.slots key s.put.node s.put.had;
    below = below;
    inner_vacant = fork_vacant;
    leaf_vacant = leaf_vacant;
    apart = s.put.apart;
    linked = record {
      node = node_of s.put.above;
      split = s.put.relinks.split;
      stay = s.put.relinks.replaced.front ++ s.put.relinks.replaced.back;
      before = s.put.relinks.children;
      after = s.put.relinks.after;
      had = above_has;
      content = s.put.relinks.was;
      before_are = subst (IsPermutation (key ∷ (s.put.relinks.replaced.front ++ s.put.relinks.replaced.back))) (sym s.put.relinks.replaced.old_is) (IsPermutation-sym _ _ (IsPermutation-middle s.put.relinks.replaced.front key s.put.relinks.replaced.back));
      has = node_read new.nodes.slots parent s.put.linked s.put.above_at ∙ ap Some linked_is;
      after_are = subst (IsPermutation (f ∷ (s.put.relinks.replaced.front ++ s.put.relinks.replaced.back))) (sym s.put.relinks.replaced.new_is) (IsPermutation-sym _ _ (IsPermutation-middle s.put.relinks.replaced.front f s.put.relinks.replaced.back));
    };
    first_left = s.first_left;
    two_are = IsPermutation-refl (key ∷ lk ∷ []);
    inner_node = node_read new.nodes.slots f s.put.forked s.put.fork_at ∙ ap Some forked_is;
    rest = node_read new.nodes.slots key (moved_below s.put.node f split.rest_node) s.put.node_at;
    new_leaf = node_read new.nodes.slots lk (moved_below s.leaf_node f s.leaf_node.bindings) s.put.leaf_at ∙ ap Some leaf_is;
    others_stay = λ k none. other_slot k (λ e. none (inl (sym e))) (λ e. none (inr (inl (sym e)))) (λ e. none (inr (inr (inl (sym e))))) (λ e. none (inr (inr (inr (inl (sym e))))));
    root = s.root;
    next = s.next ∙ ap (λ ns. old.next + length (fresh_among old.next ns)) (sym (lefts_read split.rest_node));
    room = λ t at. room t (term_at v t at);
  }

  -- ---- room for its variables
  given : Divides old.next s.may.node.bindings (bindings_of split.common) (bindings_of split.rest_node) (bindings_of split.rest_new)
  given = divides old.next s.may.node.bindings s.may.new (bindings_of split.common) (bindings_of split.rest_node) (bindings_of split.rest_new) s.may.may_split s.may.splits

  abbrev count_of : ℕ
  count_of = length (terms.firsts same_variable (terms.variables leaf_term))

  first_room : (t : Term) → t ≡ leaf_term → RoomFor (tree_of old) (with_vars (max old.vars count_of)) t
  first_room t e = subst (λ u. RoomFor (tree_of old) (with_vars (max old.vars count_of)) u) (sym e) (greater old.vars count_of) where
    greater : (m n : ℕ) → IsGreater m n (max m n)
    greater m n = (omega arith, omega arith, elim (cases_lt m n) as (λ _. (max m n ≡ m) ⊎ (max m n ≡ n)) [ inl lt ↦ inr (omega (arith, lt)) | inr le ↦ inl (omega (arith, le)) ])

  no_indicator : (m n : ℕ) → entry m ≡ ind n → ⊥
  no_indicator m n e = cc

  upper_low : (n : ℕ) → IsAmong (terms.variables upper) (entry n) → n < old.vars
  upper_low n a = elim (applied_from (bindings_of split.common) (path_term top) (entry n) given.common_distinct a) as (λ _. n < old.vars) [
    | inl b ↦ path_within (tree_of old) (Some s.may.parent) top (entry n) s.kept.legal (refl, s.may.reached.2.1, s.may.reached.2.2) b
    | inr h ↦ elim (given.common_variables h.0 (entry n) h.1 h.2) as (λ _. n < old.vars) [
      | inl v ↦ all_at (IsWithin (tree_of old)) (terms.variables v.0.1) (entry n) (all_at (λ b. AllByRecursion (IsWithin (tree_of old)) (terms.variables b.1)) s.may.node.bindings v.0 (s.kept.legal.nodes key s.may.node s.may.reached.1).binds.within v.1) v.2
      | inr v ↦ absurd (no_indicator n v.0 v.2)
    ]
  ]

  roomy : IsRoomy (tree_of old) upper s.leaf_node.bindings
  roomy =
      let open_there = leaf_open (tree_of old) (with_vars (max old.vars count_of)) key (parts_of split) (bindings_of others) p f lk s.kept.legal s.may (splits_with (max old.vars count_of) first_room) in
      let is : bindings_of s.leaf_node.bindings ≡ bindings_of split.rest_new ++ bindings_of others = ap bindings_of s.is_leaf.binds ∙ bindings_append split.rest_new others in
      record {
        whole = subst AreWhole (sym s.is_leaf.binds) (whole_append split.rest_new others s.whole.rest_new s.whole.others);
        distinct = subst (λ bs. AreDistinct (left_sides bs)) (sym is) open_there.0;
        lefts = λ n a. open_there.1 n (subst (λ bs. IsAmong (left_sides bs) n) is a);
        low = upper_low;
      }

  leaf_room : (t : Term) → t ≡ leaf_term → RoomFor (tree_of old) (tree_of new) t
  leaf_room t e =
      let is : bindings_of s.leaf_node.bindings ≡ bindings_of split.rest_new ++ bindings_of others = ap bindings_of s.is_leaf.binds ∙ bindings_append split.rest_new others in
      room_of (tree_of old) (tree_of new) upper s.leaf_node.bindings t roomy (subst IsLeafTerm (sym e) s.may.may_come.leaf_term) (e ∙ ap (λ bs. applied bs upper) (sym is)) s.vars

  splits : SplitsNode (tree_of old) (tree_of new) key (parts_of split) (bindings_of others) p f lk
  splits = splits_with new.vars leaf_room

  pub has_split_leaf : HasSplitLeaf (tree_of old) (tree_of new) key (parts_of split) (bindings_of others) p lk
  has_split_leaf = record {
    inner_key = f;
    splits = splits;
    gains = λ t at. subst (λ u. Gains (tree_of old) (tree_of new) u p) (sym (term_at new.vars t at)) (splits_node (tree_of old) (tree_of new) key (parts_of split) (bindings_of others) p f lk s.kept.legal s.may splits).1;
    keeps = (splits_node (tree_of old) (tree_of new) key (parts_of split) (bindings_of others) p f lk s.kept.legal s.may splits).2;
  }

  -- ---- heads
  keeps_heads : (n c : ℕ) (h : Head) → c ≢ key → HeadsAt (tree_of old) n c h → HeadsAt (tree_of new) n c h
  keeps_heads n c h apart (t, (node, has, binds), head) =
      let found = keeps_others new.vars c node apart has in
      (t, (found.0, found.1, subst (λ bs. IsAmong bs (n, t)) (sym found.3) binds), head)

  -- the inner node gives the parent's split a term of the head that the node gave it
  turns : (h : Head) → HeadsAt (tree_of old) s.may.split key h → HeadsAt (tree_of new) s.may.split f h
  turns h (t, (node, has, binds), head) =
      let same : node ≡ s.may.node = one_node (tree_of old) key node s.may.node has s.may.reached.1 in
      let bound = bound_left (bindings_of split.common) s.may.split s.may.binds_split in
      let common = given.common_heads (s.may.split, bound.0) bound.1 in
      let right : common.0 ≡ t = one_right s.may.node.bindings s.may.split common.0 t (s.kept.legal.nodes key s.may.node s.may.reached.1).binds.distinct common.1 (subst (λ n. IsAmong n.bindings (s.may.split, t)) same binds) in (
        bound.0,
        (forked_node, node_read new.nodes.slots f s.put.forked s.put.fork_at ∙ ap Some forked_is, bound.1),
        head_carries common.0 bound.0 h common.2 (subst (λ u. HasHead u h) (sym right) head),
      )

  relinked : inner s.put.relinks.split s.put.relinks.children ≡ inner s.may.split s.may.children
  relinked = sym s.put.relinks.was ∙ ap (λ n. n.content) above_is ∙ s.may.inner_node

  -- a node's children don't have this key, but for its parent's
  not_child : (k : ℕ) (n : Node Term) (m : ℕ) (cs : List ℕ) → k ≢ parent → HasNode (tree_of old) k n → n.content ≡ inner m cs → IsAmong cs key → ⊥
  not_child k n m cs apart has content a =
      let h = s.kept.legal.nodes k n has in
      let found = ((subst (IsLegalContent (tree_of old) k ((k, n) ∷ h.above)) content h.content).1 key).0 a in
      let same : found.0 ≡ s.may.node = one_node (tree_of old) key found.0 s.may.node found.1 s.may.reached.1 in
      apart (same_Some k parent (sym found.2 ∙ ap (λ x. x.parent) same ∙ s.may.reached.2.0 ∙ ap Some s.with_parent))

  distinct_children : AreDistinct s.put.relinks.children
  distinct_children =
      let h = s.kept.legal.nodes parent (node_of s.put.above) above_has in
      (differ_told (tree_of old) s.put.relinks.split s.put.relinks.children (legal_nodes (tree_of old) s.kept.legal)
      (subst (IsLegalContent (tree_of old) parent ((parent, node_of s.put.above) ∷ h.above)) s.put.relinks.was h.content).2).distinct

  parent_heads : KnowsHeads (tree_of new) s.put.linked.content
  parent_heads =
      let splits_same : s.put.relinks.split ≡ s.may.split = same_split _ _ _ _ relinked in
      let known : AreHeadsOf (tree_of old) s.put.relinks.split (heads_of s.put.above.content) s.put.relinks.children = known_told (tree_of old) s.put.above.content s.put.relinks.split s.put.relinks.children s.put.relinks.was (s.kept.heads parent s.put.above s.put.had_above) in
      known_from (tree_of new) s.put.linked.content s.put.relinks.split s.put.relinks.after s.put.relinks.is
      (subst (λ hs. AreHeadsOf (tree_of new) s.put.relinks.split hs s.put.relinks.after) (sym s.put.relinks.heads)
      (subst (AreHeadsOf (tree_of new) s.put.relinks.split (heads_of s.put.above.content)) (sym s.put.relinks.replaced.new_is)
      (heads_replaced (tree_of old) (tree_of new) s.put.relinks.split key f (heads_of s.put.above.content) s.put.relinks.replaced.front s.put.relinks.replaced.back
      (keeps_heads s.put.relinks.split)
      (λ h at. subst (λ n. HeadsAt (tree_of new) n f h) (sym splits_same) (turns h (subst (λ n. HeadsAt (tree_of old) n key h) splits_same at)))
      (subst AreDistinct s.put.relinks.replaced.old_is distinct_children)
      (subst (AreHeadsOf (tree_of old) s.put.relinks.split (heads_of s.put.above.content)) s.put.relinks.replaced.old_is known))))

  other_heads : (k : ℕ) (x : TreeNode) → k ≢ parent → get old.nodes k ≡ Some x → KnowsHeads (tree_of new) x.content
  other_heads k x apart got = by (content_of x.content) refl where
    by : (c : trees.Content) → content_of x.content ≡ c → KnowsHeads (tree_of new) x.content
    by (leaf ps) e = leaf_known (tree_of new) x.content ps e
    by (inner m cs) e =
        known_from (tree_of new) x.content m cs e
        (heads_past (tree_of old) (tree_of new) m key (heads_of x.content) cs (keeps_heads m)
        (not_child k (node_of x) m cs apart (node_read old.nodes.slots k x got) e)
        (known_told (tree_of old) x.content m cs e (s.kept.heads k x got)))

  pub fork_knows_heads : HeadsAt (tree_of new) first key s.head → HeadsAt (tree_of new) first lk s.new_head → KnowsHeads (tree_of new) s.put.forked.content
  fork_knows_heads one two =
      known_from (tree_of new) s.put.forked.content first (key ∷ lk ∷ []) forked_content
      (subst (λ hs. AreHeadsOf (tree_of new) first hs (key ∷ lk ∷ [])) (sym (s.put.gains.heads ∙ ap (λ hs. hs ++ s.new_head ∷ []) s.is_fork.heads)) (one, (two, tt)))

  pub at_key : (t : Term) → IsAmong (bindings_of split.rest_node) (first, t) → HasHead t s.head → HeadsAt (tree_of new) first key s.head
  at_key t a has = (t, (node_of (moved_below s.put.node f split.rest_node), node_read new.nodes.slots key (moved_below s.put.node f split.rest_node) s.put.node_at, a), has)

  pub at_leaf : (t : Term) → IsAmong (bindings_of split.rest_new) (first, t) → HasHead t s.new_head → HeadsAt (tree_of new) first lk s.new_head
  at_leaf t a has = (t, (leaf_below f (bindings_of split.rest_new ++ bindings_of others) (p ∷ []), node_read new.nodes.slots lk (moved_below s.leaf_node f s.leaf_node.bindings) s.put.leaf_at ∙ ap Some leaf_is, among_front (bindings_of split.rest_new) (bindings_of others) (first, t) a), has)

  -- ---- which node it is
  data Which (k : ℕ) : Type 0 where
    is_key : k ≡ key → Which k
    is_parent : k ≡ parent → Which k
    is_fork : k ≡ f → Which k
    is_leaf : k ≡ lk → Which k
    is_other : k ≢ parent → get new.nodes k ≡ get old.nodes k → Which k

  which : (k : ℕ) → Which k
  which k = elim (cases_eq k key) as (λ _. Which k) [
    | inl e ↦ is_key e
    | inr a ↦ elim (cases_eq k parent) as (λ _. Which k) [
      | inl e ↦ is_parent e
      | inr b ↦ elim (cases_eq k f) as (λ _. Which k) [
        | inl e ↦ is_fork e
        | inr c ↦ elim (cases_eq k lk) as (λ _. Which k) [
          | inl e ↦ is_leaf e
          | inr d ↦ is_other b (s.put.others k a b c d)
        ]
      ]
    ]
  ]

  -- what stands at a key that is known
  there : (P : TreeNode → Type 0) (k at : ℕ) (x n : TreeNode) → k ≡ at → get new.nodes at ≡ Some n → get new.nodes k ≡ Some x → P n → P x
  there P k at x n e has got holds = subst P (same_Some n x (sym has ∙ ap (get new.nodes) (sym e) ∙ got)) holds

  wholes : (k : ℕ) (x : TreeNode) → get new.nodes k ≡ Some x → Which k → AreWhole x.bindings
  wholes k x got (is_key e) = there (λ n. AreWhole n.bindings) k key x _ e s.put.node_at got s.whole.rest_node
  wholes k x got (is_parent e) = there (λ n. AreWhole n.bindings) k parent x _ e s.put.above_at got (subst AreWhole (sym s.put.relinks.bindings) (s.kept.whole parent s.put.above s.put.had_above))
  wholes k x got (is_fork e) = there (λ n. AreWhole n.bindings) k f x _ e s.put.fork_at got (subst AreWhole (sym (s.put.gains.bindings ∙ s.is_fork.binds)) s.whole.common)
  wholes k x got (is_leaf e) = there (λ n. AreWhole n.bindings) k lk x _ e s.put.leaf_at got (subst AreWhole (sym s.is_leaf.binds) (whole_append split.rest_new others s.whole.rest_new s.whole.others))
  wholes k x got (is_other apart same) = s.kept.whole k x (sym same ∙ got)

  all_heads : (k : ℕ) (x : TreeNode) → KnowsHeads (tree_of new) s.put.forked.content → get new.nodes k ≡ Some x → Which k → KnowsHeads (tree_of new) x.content
  all_heads k x forked got (is_key e) = there (λ n. KnowsHeads (tree_of new) n.content) k key x _ e s.put.node_at got (other_heads key s.put.node key_parent s.put.had)
  all_heads k x forked got (is_parent e) = there (λ n. KnowsHeads (tree_of new) n.content) k parent x _ e s.put.above_at got parent_heads
  all_heads k x forked got (is_fork e) = there (λ n. KnowsHeads (tree_of new) n.content) k f x _ e s.put.fork_at got forked
  all_heads k x forked got (is_leaf e) = there (λ n. KnowsHeads (tree_of new) n.content) k lk x _ e s.put.leaf_at got (leaf_known (tree_of new) s.leaf_node.content (p ∷ []) s.is_leaf.content)
  all_heads k x forked got (is_other apart same) = other_heads k x apart (sym same ∙ got)

  -- ---- the whole
  pub split_kept : HeadsAt (tree_of new) first key s.head → HeadsAt (tree_of new) first lk s.new_head → new.leaves ≡ old.leaves + 1 → new.unmerged ≡ old.unmerged → IsKept new
  split_kept one two leaves unmerged = record {
    legal = (splits_node (tree_of old) (tree_of new) key (parts_of split) (bindings_of others) p f lk s.kept.legal s.may splits).0;
    whole = λ k x got. wholes k x got (which k);
    heads = λ k x got. all_heads k x (fork_knows_heads one two) got (which k);
    leaves = omega (arith, leaves, s.kept.leaves, s.put.counts leaves_of, ap leaves_of s.put.relinks.was, ap leaves_of s.put.relinks.is, ap leaves_of s.is_leaf.content, ap leaves_of forked_content);
    unmerged = omega (arith, unmerged, s.kept.unmerged, s.put.counts unmerged_of, ap unmerged_of s.put.relinks.was, ap unmerged_of s.put.relinks.is, ap unmerged_of s.is_leaf.content, ap unmerged_of forked_content);
  }
