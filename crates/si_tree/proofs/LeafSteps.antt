-- A kept tree gets a leaf.
use Rattle.std.proofs.Common.{◌≡◌, ◌≢◌, ℕ, ◌+◌, ◌<◌, ◌≤◌, max, List, [], ◌∷◌, ◌++◌, Option, None, Some, map, get_or, inl, inr, refl, sym, ◌∙◌, ap, subst, arith, ◌⊎◌, true, false}
use Rattle.std.specs.Prelude.{is_some}
use Rattle.std.proofs.lemmas.Bool.{cases_eq}
use Rattle.std.proofs.lemmas.Option.{same_Some}
use Rattle.std.proofs.lemmas.List.Sorted.{IsPermutation-refl, IsPermutation-append_comm}
use Rattle.slab.specs.Slab.{Slab, get, Updates, with_value, slab_len}
use Rattle.slab.proofs.SlabLemmas.{Updates-with_value}
use Rattle.si_defs.specs.Substitutions.{IsAmong}
use Rattle.si_defs.specs.Terms as terms
use Rattle.si_flat.specs.Cells.{Variable, entry, Term}
use Rattle.si_flat.specs.Rows.{CellPair, left_sides, AreWhole}
use Rattle.si_legal.specs.declared.Posting.{Posting}
use Rattle.si_legal.specs.Bindings.{Binding, applied}
use Rattle.si_legal.specs.Trees.{inner, leaf, Node, Tree, HasNode, Path, IsPath, path_term}
use Rattle.si_legal.specs.Trees as trees
use Rattle.si_legal.specs.Legal.{IsLegal, IsLegalContent, IsLeafTerm, IsOpenBelow}
use Rattle.si_legal.specs.Counts.{leaves_of, unmerged_of, counted}
use Rattle.si_legal.proofs.PathLaws.{one_node, one_path}
use Rattle.si_changes.specs.Nodes.{IsVacant, leaf_below, with_content}
use Rattle.si_changes.specs.Leaves.{MayAddLeaf, AddsLeaf, IsTermAt}
use Rattle.si_changes.proofs.OpenLaws.{vacant_apart}
use Rattle.si_changes.proofs.ComposeLaws.{right_applied}
use Rattle.si_changes.proofs.LeafLaws.{adds_leaf}
use Rattle.si_tree.specs.declared.node.Head.{Head}
use Rattle.si_tree.specs.declared.node.Head.TheVariants.{Sym, Var}
use Rattle.si_tree.specs.Nodes.{TreeNode}
use Rattle.si_tree.specs.declared.tree.Tree.TheInside.{Inside}
use Rattle.si_tree.specs.Changes.{HasNewLeaf}
use Rattle.si_tree.specs.Decoding.{bindings_of}
use Rattle.si_tree.specs.Heads.{HasHead, HeadsAt, AreHeadsOf}
use Rattle.si_tree.specs.KeptNodes.{node_of, node_in_slot, tree_of, content_of, heads_of, KnowsHeads, IsKept, GainsChild}
use Rattle.si_tree.specs.Rights.{beyond_rights, head_in}
use Rattle.si_tree.proofs.SlotLaws.{slot_read, node_read, vacant_read, stood}
use Rattle.si_tree.proofs.CountLaws.{weight, counted_changed, counted_below, nodes_counted}
use Rattle.si_tree.proofs.ChildLaws.{same_split}
use Rattle.si_tree.proofs.KeptLaws.{KeepsBindings, heads_over, known_over, leaf_known}
use Rattle.si_tree.proofs.RoomLaws.{known_told, known_from, with_nodes}
use Rattle.si_tree.proofs.VariableLaws.{leaf_variable, room_for}
use Rattle.si_tree.proofs.RightLaws.{IsHeaded, head_told}
use Rattle.si_tree.proofs.HeadLaws.{heads_same, child_with_head}
use Rattle.si_tree.specs.Reading.{AtNode, split_of}

-- ---- paths
-- each node stays with its parent and its bindings
pub record KeepsPlaces (old new : Tree Term) : Type 0 where
  pub each : (key : ℕ) (node : Node Term) → HasNode old key node
      → (other : Node Term) × HasNode new key other × (other.parent ≡ node.parent) × (other.bindings ≡ node.bindings)

pub record IsSamePath (new : Tree Term) (from : Option ℕ) (p : Path) : Type 0 where
  pub path : Path
  pub reached : IsPath new from path
  pub term : path_term path ≡ path_term p

pub path_over : (old new : Tree Term) (from : Option ℕ) (p : Path) → KeepsPlaces old new → IsPath old from p → IsSamePath new from p
path_over old new from [] keeps reached = record { path = []; reached = reached; term = refl }
path_over old new from (step ∷ above) keeps reached =
    let found = keeps.each step.0 step.1 reached.1 in
    let rest = path_over old new step.1.parent above keeps reached.2 in
    record {
      path = (step.0, found.0) ∷ rest.path;
      reached = (reached.0, found.1, subst (λ k. IsPath new k rest.path) (sym found.2) rest.reached);
      term = (λ i. applied (found.3 i) (rest.term i));
    }

-- ---- heads
heads_append : (tree : Tree Term) (split : ℕ) (heads : List Head) (children : List ℕ) (h : Head) (child : ℕ) → AreHeadsOf tree split heads children → HeadsAt tree split child h → AreHeadsOf tree split (heads ++ h ∷ []) (children ++ child ∷ [])
heads_append tree split [] [] h child are here = (here, tt)
heads_append tree split [] (c ∷ cs) h child are here = absurd are
heads_append tree split (k ∷ hs) [] h child are here = absurd are
heads_append tree split (k ∷ hs) (c ∷ cs) h child are here = (are.0, heads_append tree split hs cs h child are.1 here)

-- ---- one slot of a slab
pub slab_counts : (count : trees.Content → ℕ) (old new : Slab TreeNode) (key : ℕ) (slot : Option TreeNode) → Updates old new key slot → counted count (map node_in_slot new.slots) + weight count (node_in_slot (get old key)) ≡ counted count (map node_in_slot old.slots) + weight count (node_in_slot slot)
slab_counts count old new key slot updates =
    ap (λ x. counted count (map node_in_slot new.slots) + weight count x) (sym (slot_read old.slots key))
    ∙ counted_changed count (map node_in_slot old.slots) (map node_in_slot new.slots) key (λ k apart. slot_read new.slots k ∙ ap node_in_slot (updates.others k apart) ∙ sym (slot_read old.slots k))
    ∙ ap (λ x. counted count (map node_in_slot old.slots) + weight count x) (slot_read new.slots key ∙ ap node_in_slot updates.changed)

-- ---- the step
pub record LinksLeaf (old new : Inside) (parent key : ℕ) (l n m : TreeNode) (head : Head) (p : Posting) : Type 0 where
  pub between : Slab TreeNode
  pub vacant : get old.nodes key ≡ None
  pub put : Updates old.nodes between key (Some l)
  pub got : get between parent ≡ Some n
  pub linked : Updates between new.nodes parent (Some m)
  pub gains : GainsChild n m head key
  pub below : l.parent ≡ Some parent
  pub content : content_of l.content ≡ leaf (p ∷ [])
  pub root : new.root ≡ old.root
  pub next : new.next ≡ old.next
  pub vars : new.vars ≡ max old.vars (beyond_rights l.bindings)

module _ (old new : Inside) (parent key : ℕ) (l n m : TreeNode) (head : Head) (p : Posting) (links : LinksLeaf old new parent key l n m head p) (kept : IsKept old) (whole_new : AreWhole l.bindings) (may : MayAddLeaf (tree_of old) parent (bindings_of l.bindings) p) where
  vacant : IsVacant (tree_of old) key
  vacant = vacant_read old.nodes.slots key links.vacant

  parent_apart : parent ≢ key
  parent_apart = vacant_apart (tree_of old) key parent may.node vacant may.reached.1

  key_apart : key ≢ parent
  key_apart e = parent_apart (sym e)

  had : get old.nodes parent ≡ Some n
  had = sym (links.put.others parent parent_apart) ∙ links.got

  leaf_slot : get new.nodes key ≡ Some l
  leaf_slot = links.linked.others key key_apart ∙ links.put.changed

  other_slot : (k : ℕ) → k ≢ key → k ≢ parent → get new.nodes k ≡ get old.nodes k
  other_slot k apart apart' = links.linked.others k apart' ∙ links.put.others k apart

  parent_node : node_of n ≡ may.node
  parent_node = one_node (tree_of old) parent (node_of n) may.node (node_read old.nodes.slots parent n had) may.reached.1

  contents : inner links.gains.split links.gains.children ≡ inner may.split may.children
  contents = sym links.gains.was ∙ ap (λ x. x.content) parent_node ∙ may.inner_node

  pub splits : links.gains.split ≡ may.split
  splits = same_split _ _ _ _ contents

  new_parent : node_of m ≡ with_content (node_of n) (inner links.gains.split (links.gains.children ++ key ∷ []))
  new_parent = λ i. record { parent = links.gains.parent i; bindings = bindings_of (links.gains.bindings i); content = links.gains.is i }

  new_leaf_node : node_of l ≡ leaf_below parent (bindings_of l.bindings) (p ∷ [])
  new_leaf_node = λ i. record { parent = links.below i; bindings = bindings_of l.bindings; content = links.content i }

  places : KeepsPlaces (tree_of old) (tree_of new)
  places = record { each = each } where
    each : (k : ℕ) (node : Node Term) → HasNode (tree_of old) k node → (other : Node Term) × HasNode (tree_of new) k other × (other.parent ≡ node.parent) × (other.bindings ≡ node.bindings)
    each k node has = elim (cases_eq k parent) as (λ _. (other : Node Term) × HasNode (tree_of new) k other × (other.parent ≡ node.parent) × (other.bindings ≡ node.bindings)) [
      | inl e ↦
          (let is : node_of n ≡ node = one_node (tree_of old) k (node_of n) node (subst (λ j. HasNode (tree_of old) j (node_of n)) (sym e) (node_read old.nodes.slots parent n had)) has in (
            node_of m,
            subst (λ j. HasNode (tree_of new) j (node_of m)) (sym e) (node_read new.nodes.slots parent m links.linked.changed),
            links.gains.parent ∙ ap (λ x. x.parent) is,
            ap bindings_of links.gains.bindings ∙ ap (λ x. x.bindings) is,
          ))
      | inr apart ↦
          (node, slot_read new.nodes.slots k ∙ ap node_in_slot (other_slot k (vacant_apart (tree_of old) key k node vacant has) apart) ∙ sym (slot_read old.nodes.slots k) ∙ has, refl, refl)
    ]

  binds_kept : KeepsBindings (tree_of old) (tree_of new)
  binds_kept k node has = (let found = places.each k node has in (found.0, found.1, found.3))

  new_term : (t : Term) → IsTermAt (tree_of new) key t → t ≡ applied (bindings_of l.bindings) (path_term ((parent, may.node) ∷ may.above))
  new_term t at =
      let above = path_over (tree_of old) (tree_of new) (Some parent) ((parent, may.node) ∷ may.above) places may.reached in
      let has : HasNode (tree_of new) key (node_of l) = node_read new.nodes.slots key l leaf_slot in
      let path : IsPath (tree_of new) (Some key) ((key, node_of l) ∷ above.path) = (refl, has, subst (λ k. IsPath (tree_of new) k above.path) (sym links.below) above.reached) in
      at.2 ∙ ap path_term (one_path (tree_of new) (Some key) at.0 ((key, node_of l) ∷ above.path) at.1 path)
      ∙ ap (applied (bindings_of l.bindings)) above.term

  pub adds : AddsLeaf (tree_of old) (tree_of new) parent (bindings_of l.bindings) p key
  adds = record {
    vacant = vacant;
    new_leaf = node_read new.nodes.slots key l leaf_slot ∙ ap Some new_leaf_node;
    linked = record {
      node = node_of n;
      split = links.gains.split;
      stay = links.gains.children;
      before = links.gains.children;
      after = links.gains.children ++ key ∷ [];
      had = node_read old.nodes.slots parent n had;
      content = links.gains.was;
      before_are = IsPermutation-refl links.gains.children;
      has = node_read new.nodes.slots parent m links.linked.changed ∙ ap Some new_parent;
      after_are = IsPermutation-append_comm (key ∷ []) links.gains.children;
    };
    others = λ k none. slot_read new.nodes.slots k ∙ ap node_in_slot (other_slot k (λ e. none (inl (sym e))) (λ e. none (inr (inl (sym e))))) ∙ sym (slot_read old.nodes.slots k);
    root = links.root;
    next = links.next;
    room = λ t at.
        let is = new_term t at in
        room_for (tree_of old) (tree_of new) (Some parent) ((parent, may.node) ∷ may.above) l.bindings t kept.legal may.reached whole_new may.binds (subst IsLeafTerm (sym is) may.may_come.leaf_term) is links.vars;
  }

  term : Term
  term = applied (bindings_of l.bindings) (path_term ((parent, may.node) ∷ may.above))

  pub has_new_leaf : HasNewLeaf (tree_of old) (tree_of new) parent (bindings_of l.bindings) p key
  has_new_leaf = record {
    adds = adds;
    gains = λ t at. (adds_leaf (tree_of old) (tree_of new) parent key (bindings_of l.bindings) p kept.legal may adds t (new_term t at)).1;
    keeps = (adds_leaf (tree_of old) (tree_of new) parent key (bindings_of l.bindings) p kept.legal may adds _ refl).2;
  }

  counts : (count : trees.Content → ℕ) → counted count (tree_of new).nodes + count (content_of n.content) ≡ counted count (tree_of old).nodes + count (content_of l.content) + count (content_of m.content)
  counts count =
      let first = slab_counts count old.nodes links.between key (Some l) links.put in
      let second = slab_counts count links.between new.nodes parent (Some m) links.linked in
      let none : weight count (node_in_slot (get old.nodes key)) ≡ 0 = ap (λ x. weight count (node_in_slot x)) links.vacant in
      let some : weight count (node_in_slot (get links.between parent)) ≡ count (content_of n.content) = ap (λ x. weight count (node_in_slot x)) links.got in
      omega (arith, first, second, none, some)

  pub leaf_added : HeadsAt (tree_of new) links.gains.split key head → new.leaves ≡ old.leaves + 1 → new.unmerged ≡ old.unmerged → IsKept new
  leaf_added here leaves unmerged = record {
    legal = (adds_leaf (tree_of old) (tree_of new) parent key (bindings_of l.bindings) p kept.legal may adds _ refl).0;
    whole = whole;
    heads = heads;
    leaves = omega (arith, leaves, kept.leaves, counts leaves_of, ap leaves_of links.content, ap leaves_of links.gains.was, ap leaves_of links.gains.is);
    unmerged = omega (arith, unmerged, kept.unmerged, counts unmerged_of, ap unmerged_of links.content, ap unmerged_of links.gains.was, ap unmerged_of links.gains.is);
  } where
    was : (k : ℕ) (x : TreeNode) → get new.nodes k ≡ Some x → (l ≡ x) ⊎ ((m ≡ x) ⊎ (get old.nodes k ≡ Some x))
    was k x got = elim (cases_eq k key) as (λ _. (l ≡ x) ⊎ ((m ≡ x) ⊎ (get old.nodes k ≡ Some x))) [
      | inl e ↦ inl (same_Some l x (sym leaf_slot ∙ ap (get new.nodes) (sym e) ∙ got))
      | inr apart ↦ elim (cases_eq k parent) as (λ _. (l ≡ x) ⊎ ((m ≡ x) ⊎ (get old.nodes k ≡ Some x))) [
        | inl e ↦ inr (inl (same_Some m x (sym links.linked.changed ∙ ap (get new.nodes) (sym e) ∙ got)))
        | inr apart' ↦ inr (inr (sym (other_slot k apart apart') ∙ got))
      ]
    ]

    whole : (k : ℕ) (x : TreeNode) → get new.nodes k ≡ Some x → AreWhole x.bindings
    whole k x got = elim (was k x got) as (λ _. AreWhole x.bindings) [
      | inl e ↦ subst (λ y. AreWhole y.bindings) e whole_new
      | inr (inl e) ↦ subst (λ y. AreWhole y.bindings) e (subst AreWhole (sym links.gains.bindings) (kept.whole parent n had))
      | inr (inr before) ↦ kept.whole k x before
    ]

    parent_heads : KnowsHeads (tree_of new) m.content
    parent_heads =
        known_from (tree_of new) m.content links.gains.split (links.gains.children ++ key ∷ []) links.gains.is
        (subst (λ hs. AreHeadsOf (tree_of new) links.gains.split hs (links.gains.children ++ key ∷ [])) (sym links.gains.heads)
        (heads_append (tree_of new) links.gains.split (heads_of n.content) links.gains.children head key
        (heads_over (tree_of old) (tree_of new) links.gains.split (heads_of n.content) links.gains.children binds_kept
        (known_told (tree_of old) n.content links.gains.split links.gains.children links.gains.was (kept.heads parent n had))) here))

    heads : (k : ℕ) (x : TreeNode) → get new.nodes k ≡ Some x → KnowsHeads (tree_of new) x.content
    heads k x got = elim (was k x got) as (λ _. KnowsHeads (tree_of new) x.content) [
      | inl e ↦ subst (λ y. KnowsHeads (tree_of new) y.content) e (leaf_known (tree_of new) l.content (p ∷ []) links.content)
      | inr (inl e) ↦ subst (λ y. KnowsHeads (tree_of new) y.content) e parent_heads
      | inr (inr before) ↦ known_over (tree_of old) (tree_of new) x.content binds_kept (kept.heads k x before)
    ]

  -- what the leaf gives the split, and its head
  pub leaf_head : (t : Term) → IsAmong (bindings_of l.bindings) (links.gains.split, t) → HasHead t head → HeadsAt (tree_of new) links.gains.split key head
  leaf_head t among has = (t, (node_of l, node_read new.nodes.slots key l leaf_slot, among), has)

-- ---- what its conditions give
pub split_known : (tree : Tree Term) (parent : ℕ) (bs : List Binding) (p : Posting) (may : MayAddLeaf tree parent bs p) (r : Option ℕ) → AtNode tree parent (λ n. r ≡ split_of n.content) → r ≡ Some may.split
split_known tree parent bs p may r told = told may.node may.reached.1 ∙ ap split_of may.inner_node

pub split_open : (tree : Tree Term) (parent : ℕ) (bs : List Binding) (p : Posting) → IsLegal tree → (may : MayAddLeaf tree parent bs p) → IsOpenBelow ((parent, may.node) ∷ may.above) may.split
split_open tree parent bs p legal may =
    let h = legal.nodes parent may.node may.reached.1 in
    let same : (parent, may.node) ∷ h.above ≡ (parent, may.node) ∷ may.above = one_path tree (Some parent) ((parent, may.node) ∷ h.above) ((parent, may.node) ∷ may.above) (refl, may.reached.1, h.reached) may.reached in
    subst (λ q. IsOpenBelow q may.split) same (subst (IsLegalContent tree parent ((parent, may.node) ∷ h.above)) may.inner_node h.content).0

pub headed : (tree : Tree Term) (parent : ℕ) (bs : List Binding) (p : Posting) → IsLegal tree → (may : MayAddLeaf tree parent bs p) → (t : Term) → IsAmong bs (may.split, t) → IsHeaded t
headed tree parent bs p legal may (terms.app s ts) among = (Sym s.number s.arity, (refl, refl))
headed tree parent bs p legal may (terms.var x) among = by x (leaf_variable (applied bs (path_term ((parent, may.node) ∷ may.above))) may.may_come.leaf_term x inside) where
  inside : IsAmong (terms.variables (applied bs (path_term ((parent, may.node) ∷ may.above)))) x
  inside = right_applied bs (path_term ((parent, may.node) ∷ may.above)) (may.split, terms.var x) x may.binds.0 among (split_open tree parent bs p legal may) (inl refl)

  by : (x : Variable) → (m : ℕ) × (x ≡ entry m) × (m < may.may_come.leaf_term.numbered.0) → IsHeaded (terms.var x)
  by x (m, is, low) = subst (λ y. IsHeaded (terms.var y)) (sym is) (Var m, refl)

pub split_bound : (tree : Tree Term) (parent : ℕ) (bs : List Binding) (p : Posting) → IsLegal tree → (may : MayAddLeaf tree parent bs p) → IsAmong (left_sides bs) may.split
split_bound tree parent bs p legal may = (may.binds.1 may.split).1 (split_open tree parent bs p legal may)

-- no child has the head that the bindings give the split
pub fresh_head : (t : Inside) (parent : ℕ) (n : TreeNode) (cells : List CellPair) (p : Posting) (head : Head) → IsKept t → (may : MayAddLeaf (tree_of t) parent (bindings_of cells) p) → get t.nodes parent ≡ Some n → AreWhole cells → head_in cells may.split ≡ Some head → IsAmong (heads_of n.content) head → ⊥
fresh_head t parent n cells p head kept may got whole is among =
    let content = ap (λ x. x.content) (one_node (tree_of t) parent (node_of n) may.node (node_read t.nodes.slots parent n got) may.reached.1) ∙ may.inner_node in
    let other = child_with_head (tree_of t) may.split (heads_of n.content) may.children head (known_told (tree_of t) n.content may.split may.children content (kept.heads parent n got)) among in
    let told = head_told cells may.split head whole is in
    differ (sym (heads_same told.0 other.2.0 head told.2 other.2.2) ∙ may.new_head told.0 other.2.0 other.0 told.1 other.1 other.2.1) where
      differ : true ≡ false → ⊥
      differ e = cc

-- ---- what is written
abbrev pub written_leaf : Inside → Slab TreeNode → ℕ → TreeNode → ℕ → ℕ → Inside
written_leaf old between at m vars leaves = record {
  alloc = old.alloc;
  nodes = with_value between at m;
  root = old.root;
  next = old.next;
  vars = vars;
  leaves = leaves;
  unmerged = old.unmerged;
  renumbered_next = old.renumbered_next;
}

pub links_written : (old : Inside) (made between : Slab TreeNode) (parent at key : ℕ) (l n m : TreeNode) (head : Head) (p : Posting) (vars leaves : ℕ) → at ≡ parent → get made key ≡ None → Updates made between key (Some l) → get between at ≡ Some n → GainsChild n m head key → l.parent ≡ Some parent → content_of l.content ≡ leaf (p ∷ []) → vars ≡ max old.vars (beyond_rights l.bindings) → LinksLeaf (with_nodes old made) (written_leaf old between at m vars leaves) parent key l n m head p
links_written old made between parent at key l n m head p vars leaves is vacant put got gains below content bound = record {
  between = between;
  vacant = vacant;
  put = put;
  got = subst (λ k. get between k ≡ Some n) is got;
  linked = subst (λ k. Updates between (with_value between at m) k (Some m)) is (Updates-with_value between at m (ap is_some got));
  gains = gains;
  below = below;
  content = content;
  root = refl;
  next = refl;
  vars = bound;
}

-- there are more nodes than leaves, as the root is none
leaf_one : (c : trees.Content) → leaves_of c ≤ 1
leaf_one (inner split children) = omega arith
leaf_one (leaf ps) = omega arith

pub fewer_leaves : (old : Inside) (made : Slab TreeNode) (between : ℕ) → IsKept old → map node_in_slot made.slots ≡ map node_in_slot old.nodes.slots → between ≡ slab_len made + 1 → old.leaves < between
fewer_leaves old made between kept same more =
    let most = counted_below leaves_of (λ content. 1) (tree_of old).nodes leaf_one in
    let count = nodes_counted made.slots in
    let moved : counted (λ content. 1) (map node_in_slot made.slots) ≡ counted (λ content. 1) (map node_in_slot old.nodes.slots) = ap (counted (λ content. 1)) same in
    omega (arith, kept.leaves, most, count, moved, more)

-- ---- the parent in the slab
pub parent_made : (old : Inside) (made : Slab TreeNode) (parent : ℕ) (node : Node Term) → map node_in_slot made.slots ≡ map node_in_slot old.nodes.slots → HasNode (tree_of old) parent node → (x : TreeNode) × (get made parent ≡ Some x) × (node_of x ≡ node)
parent_made old made parent node same has =
    let found = stood made.slots parent node (ap (λ slots. get_or slots parent None) same ∙ has) in
    (found.kept, found.got, found.read)

pub parent_between : (made between : Slab TreeNode) (parent key : ℕ) (l x : TreeNode) → get made key ≡ None → Updates made between key (Some l) → get made parent ≡ Some x → get between parent ≡ Some x
parent_between made between parent key l x vacant put got = put.others parent apart ∙ got where
  apart : parent ≡ key → ⊥
  apart e = differ (sym vacant ∙ ap (get made) (sym e) ∙ got) where
    differ : None ≡ Some x → ⊥
    differ f = cc
