-- A kept tree stays kept when its indicators are numbered anew.
use Rattle.std.proofs.Common.{◌≡◌, inl, inr, ℕ, suc, ◌+◌, List, [], ◌∷◌, Option, None, Some, get_or, refl, sym, ◌∙◌, ap, subst, arith}
use Rattle.std.specs.Prelude.{is_some}
use Rattle.std.proofs.lemmas.Option.{same_Some}
use Rattle.slab.specs.Slab.{get, ContainsKey}
use Rattle.si_defs.specs.Terms as terms
use Rattle.si_defs.specs.Substitutions.{IsAmong}
use Rattle.si_defs.proofs.ListLaws.{all_at, all_from}
use Rattle.si_flat.specs.Cells.{query, entry, ind, Term}
use Rattle.si_flat.specs.Rows.{AreWhole}
use Rattle.si_legal.specs.Counts.{leaves_of, unmerged_of, counted, leaf_count, unmerged_count}
use Rattle.si_legal.specs.Legal.{ChildBinds}
use Rattle.si_legal.specs.Renumbering.{renamed, renamed_content, IsRenumbered}
use Rattle.si_legal.specs.Trees.{inner, leaf, Node, Tree, HasNode, Path, IsPath}
use Rattle.si_legal.specs.Trees as trees
use Rattle.si_legal.proofs.PathLaws.{one_node, one_path}
use Rattle.si_changes.specs.Places.{number_among, renumbered_node, IsPlaced}
use Rattle.si_changes.proofs.FewOpened.{few_next}
use Rattle.si_changes.proofs.PlacedLaws.{placed_renumbered}
use Rattle.si_changes.proofs.RenamedTerms.{map_among}
use Rattle.si_changes.proofs.RenumberLaws.{renumbered_legal, renumbered_stored, renumbered_leaves, leaves_stay, binds_still}
use Rattle.si_tree.specs.Nodes.{Content, Fork, Inner, One, Many, TreeNode}
use Rattle.si_tree.specs.declared.node.Head.{Head}
use Rattle.si_tree.specs.declared.node.Head.TheVariants.{Sym, Var}
use Rattle.si_tree.specs.declared.renumber.Renumbered.{Renumbered}
use Rattle.si_tree.specs.declared.renumber.Renumbering.{Renumbering}
use Rattle.si_tree.specs.declared.tree.Tree.TheInside.{Inside}
use Rattle.si_tree.specs.Forks.{fork_children, fork_heads, fork_split}
use Rattle.si_tree.specs.Heads.{HasHead, AreHeadsOf}
use Rattle.si_tree.specs.KeptHeads.{heads_in}
use Rattle.si_tree.specs.KeptNodes.{node_of, tree_of, content_of, KnowsHeads, IsKept}
use Rattle.si_tree.specs.Renumbers.{with_split, with_numbers, keys_of, with_new_split, IsToHave, IsRenumbering, AreKeysOf, exchanged, Renumbers}
use Rattle.si_tree.proofs.CountLaws.{weight}
use Rattle.si_tree.proofs.ExchangeLaws.{exchanged_other, exchanged_here}
use Rattle.si_tree.proofs.SlotLaws.{node_read, vacant_read, stood}

-- ---- heads
head_renamed : (to : ℕ → ℕ) (t : Term) (head : Head) → HasHead t head → HasHead (renamed to t) head
head_renamed to (terms.app s ts) (Sym n arity) h = h
head_renamed to (terms.app s ts) (Var n) h = absurd h
head_renamed to (terms.var (entry m)) (Var n) h = h
head_renamed to (terms.var (entry m)) (Sym n arity) h = absurd h
head_renamed to (terms.var (query m)) (Var n) h = absurd h
head_renamed to (terms.var (query m)) (Sym n arity) h = absurd h
head_renamed to (terms.var (ind m)) (Var n) h = absurd h
head_renamed to (terms.var (ind m)) (Sym n arity) h = absurd h

heads_renamed : (old new : Tree Term) (split split' : ℕ) (heads : List Head) (children : List ℕ) → ((child : ℕ) (t : Term) → IsAmong children child → ChildBinds old child split t → (to : ℕ → ℕ) × ChildBinds new child split' (renamed to t)) → AreHeadsOf old split heads children → AreHeadsOf new split' heads children
heads_renamed old new split split' [] [] bind are = tt
heads_renamed old new split split' [] (c ∷ cs) bind are = absurd are
heads_renamed old new split split' (h ∷ hs) [] bind are = absurd are
heads_renamed old new split split' (h ∷ hs) (c ∷ cs) bind are =
    let one = are.0 in
    let is = bind c one.0 (inl refl) one.1 in (
      (renamed is.0 one.0, is.1, head_renamed is.0 one.0 h one.2),
      heads_renamed old new split split' hs cs (λ child t a. bind child t (inr a)) are.1,
    )

-- ---- contents
split_replaced : (split : ℕ) (c : Content) → content_of (with_split split c) ≡ with_new_split split (content_of c)
split_replaced split (Fork f) = refl
split_replaced split (Inner b) = refl
split_replaced split (One s) = refl
split_replaced split (Many ps) = refl

-- ---- counts
module _ {R : Type 0} (count : trees.Content → ℕ) where
  counted_first : (x : Option (Node R)) (xs : List (Option (Node R))) → counted count (x ∷ xs) ≡ weight count x + counted count xs
  counted_first None xs = omega arith
  counted_first (Some node) xs = refl

  counted_alike : (xs ys : List (Option (Node R))) → ((key : ℕ) → weight count (get_or ys key None) ≡ weight count (get_or xs key None)) → counted count ys ≡ counted count xs
  counted_alike [] [] same = refl
  counted_alike [] (y ∷ ys) same = omega (arith, counted_first y ys, same 0, counted_alike [] ys (λ key. same (suc key)))
  counted_alike (x ∷ xs) [] same = omega (arith, counted_first x xs, same 0, counted_alike xs [] (λ key. same (suc key)))
  counted_alike (x ∷ xs) (y ∷ ys) same = omega (arith, counted_first x xs, counted_first y ys, same 0, counted_alike xs ys (λ key. same (suc key)))

-- ---- the whole tree
abbrev pub renumbered_inside : Inside → Renumbering → Inside
renumbered_inside old r = record {
  alloc = old.alloc;
  nodes = exchanged old.nodes r.nodes.items;
  root = old.root;
  next = r.next;
  vars = old.vars;
  leaves = old.leaves;
  unmerged = old.unmerged;
  renumbered_next = r.next;
}

pub kept_still : (old : Inside) (next : ℕ) → IsKept old → IsKept (record old { renumbered_next = next })
kept_still old next kept = record {
  legal = kept.legal;
  whole = kept.whole;
  heads = kept.heads;
  leaves = kept.leaves;
  unmerged = kept.unmerged;
}

module _ (old : Inside) (kept : IsKept old) (r : Renumbering) (h : IsRenumbering (tree_of old) r) where
  -- what a node has then
  pub record Became (key : ℕ) (n : TreeNode) : Type 0 where
    pub what : Renumbered
    pub to_have : IsToHave (tree_of old) what
    pub key_is : what.node ≡ key
    pub got : get (exchanged old.nodes r.nodes.items) key ≡ Some (with_numbers what.bindings what.split n)
    pub read : node_of (with_numbers what.bindings what.split n) ≡ renumbered_node to_have.above (node_of n)

  pub became : (key : ℕ) (n : TreeNode) → get old.nodes key ≡ Some n → Became key n
  became key n got =
      let has : HasNode (tree_of old) key (node_of n) = node_read old.nodes.slots key n got in
      let among = map_among (λ x. x.node) r.nodes.items key (h.complete key (node_of n) has) in
      let what = among.0 in
      let x = all_at (IsToHave (tree_of old)) r.nodes.items what h.each among.1 in
      let same : x.node ≡ node_of n = one_node (tree_of old) key x.node (node_of n) (subst (λ k. HasNode (tree_of old) k x.node) among.2 x.has) has in
      let bindings = x.bindings ∙ ap (λ m. (renumbered_node x.above m).bindings) same in
      let content = split_replaced what.split n.content ∙ ap (λ m. with_new_split what.split m.content) (sym same) ∙ x.content ∙ ap (λ m. (renumbered_node x.above m).content) same in
      record {
        what = what;
        to_have = x;
        key_is = among.2;
        got =
            ap (get (exchanged old.nodes r.nodes.items)) (sym among.2)
            ∙ exchanged_here old.nodes r.nodes.items what n h.distinct among.1 (ap (get old.nodes) among.2 ∙ got);
        read = λ i. record { parent = n.parent; bindings = bindings i; content = content i };
      }

  -- no other key has a node
  none_came : (key : ℕ) → get old.nodes key ≡ None → get (exchanged old.nodes r.nodes.items) key ≡ None
  none_came key none = exchanged_other old.nodes r.nodes.items key (λ a. absent a) ∙ none where
    absent : IsAmong (keys_of r.nodes.items) key → ⊥
    absent a =
        let among = map_among (λ x. x.node) r.nodes.items key a in
        let x = all_at (IsToHave (tree_of old)) r.nodes.items among.0 h.each among.1 in
        differ x.node (sym (vacant_read old.nodes.slots key none) ∙ subst (λ k. HasNode (tree_of old) k x.node) among.2 x.has) where
          differ : (m : Node Term) → None ≡ Some m → ⊥
          differ m e = cc

  has_became : (key : ℕ) (n : TreeNode) (b : Became key n) → HasNode (tree_of (renumbered_inside old r)) key (renumbered_node b.to_have.above (node_of n))
  has_became key n b = node_read (exchanged old.nodes r.nodes.items).slots key (with_numbers b.what.bindings b.what.split n) b.got ∙ ap Some b.read

  -- a node that is there then was there before
  pub came_from : (key : ℕ) (m : TreeNode) → get (exchanged old.nodes r.nodes.items) key ≡ Some m → (n : TreeNode) × (get old.nodes key ≡ Some n)
  came_from key m got = by (get old.nodes key) refl where
    by : (slot : Option TreeNode) → get old.nodes key ≡ slot → (n : TreeNode) × (get old.nodes key ≡ Some n)
    by None is = absurd (differ (sym (none_came key is) ∙ got)) where
      differ : None ≡ Some m → ⊥
      differ e = cc
    by (Some n) is = (n, is)

  placed_node : (key : ℕ) (node : Node Term) (above : Path) → HasNode (tree_of old) key node → IsPath (tree_of old) node.parent above → HasNode (tree_of (renumbered_inside old r)) key (renumbered_node above node)
  placed_node key node above has reached =
      let s = stood old.nodes.slots key node has in
      let b = became key s.kept s.got in
      let x = b.to_have in
      let same : x.node ≡ node = one_node (tree_of old) key x.node node (subst (λ k. HasNode (tree_of old) k x.node) b.key_is x.has) has in
      let path : x.above ≡ above = one_path (tree_of old) node.parent x.above above (subst (λ m. IsPath (tree_of old) m.parent x.above) same x.reached) reached in
      has_became key s.kept b ∙ (λ i. Some (renumbered_node (path i) (s.read i)))

  was_there : (key : ℕ) (other : Node Term) → HasNode (tree_of (renumbered_inside old r)) key other → (node : Node Term) × HasNode (tree_of old) key node
  was_there key other has =
      let s = stood (exchanged old.nodes r.nodes.items).slots key other has in
      let n = came_from key s.kept s.got in
      (node_of n.0, node_read old.nodes.slots key n.0 n.1)

  pub is_placed : IsPlaced (tree_of old) (tree_of (renumbered_inside old r))
  is_placed = record {
    root = refl;
    vars = refl;
    nodes = placed_node;
    no_others = was_there;
    enough = h.enough;
    least = h.least;
  }

  pub is_renumbered : IsRenumbered (tree_of old) (tree_of (renumbered_inside old r))
  is_renumbered = placed_renumbered (tree_of old) (tree_of (renumbered_inside old r)) kept.legal is_placed

  -- ---- counts
  same_weight : (count : trees.Content → ℕ) → ((to : ℕ → ℕ) (c : trees.Content) → count (renamed_content to c) ≡ count c) → (key : ℕ) → weight count (get_or (tree_of (renumbered_inside old r)).nodes key None) ≡ weight count (get_or (tree_of old).nodes key None)
  same_weight count stays key = by (get old.nodes key) refl where
    by : (slot : Option TreeNode) → get old.nodes key ≡ slot → weight count (get_or (tree_of (renumbered_inside old r)).nodes key None) ≡ weight count (get_or (tree_of old).nodes key None)
    by None is = ap (weight count) (vacant_read (exchanged old.nodes r.nodes.items).slots key (none_came key is)) ∙ ap (weight count) (sym (vacant_read old.nodes.slots key is))
    by (Some n) is =
        let b = became key n is in
        ap (weight count) (has_became key n b)
        ∙ stays (number_among _) (node_of n).content
        ∙ ap (weight count) (sym (node_read old.nodes.slots key n is))

  same_counted : (count : trees.Content → ℕ) → ((to : ℕ → ℕ) (c : trees.Content) → count (renamed_content to c) ≡ count c) → counted count (tree_of (renumbered_inside old r)).nodes ≡ counted count (tree_of old).nodes
  same_counted count stays = counted_alike count (tree_of old).nodes (tree_of (renumbered_inside old r)).nodes (same_weight count stays)

  leaves_each : (to : ℕ → ℕ) (c : trees.Content) → leaves_of (renamed_content to c) ≡ leaves_of c
  leaves_each to (inner split children) = refl
  leaves_each to (leaf postings) = refl

  unmerged_each : (to : ℕ → ℕ) (c : trees.Content) → unmerged_of (renamed_content to c) ≡ unmerged_of c
  unmerged_each to (inner split children) = refl
  unmerged_each to (leaf postings) = refl

  same_leaves : leaf_count (tree_of (renumbered_inside old r)) ≡ leaf_count (tree_of old)
  same_leaves = same_counted leaves_of leaves_each

  same_unmerged : unmerged_count (tree_of (renumbered_inside old r)) ≡ unmerged_count (tree_of old)
  same_unmerged = same_counted unmerged_of unmerged_each

  -- ---- what is kept
  whole_then : (key : ℕ) (m : TreeNode) → get (exchanged old.nodes r.nodes.items) key ≡ Some m → AreWhole m.bindings
  whole_then key m got =
      let n = came_from key m got in
      let b = became key n.0 n.1 in
      subst (λ x. AreWhole x.bindings) (same_Some (with_numbers b.what.bindings b.what.split n.0) m (sym b.got ∙ got)) b.to_have.whole

  heads_known : (key : ℕ) (n : TreeNode) (x : Node Term) (split split' : ℕ) (heads : List Head) (children : List ℕ) → get old.nodes key ≡ Some n → HasNode (tree_of (renumbered_inside old r)) key x → content_of n.content ≡ inner split children → x.content ≡ inner split' children → AreHeadsOf (tree_of old) split heads children → AreHeadsOf (tree_of (renumbered_inside old r)) split' heads children
  heads_known key n x split split' heads children got there was is known =
      heads_renamed (tree_of old) (tree_of (renumbered_inside old r)) split split' heads children
      (λ child t a. binds_still (tree_of old) (tree_of (renumbered_inside old r)) kept.legal is_renumbered key child split split' (node_of n) x children children t (node_read old.nodes.slots key n got) there was is a)
      known

  heads_at : (key : ℕ) (n : TreeNode) (x : Node Term) (split : ℕ) (c : Content) → get old.nodes key ≡ Some n → n.content ≡ c → HasNode (tree_of (renumbered_inside old r)) key x → x.content ≡ content_of (with_split split c) → KnowsHeads (tree_of old) c → KnowsHeads (tree_of (renumbered_inside old r)) (with_split split c)
  heads_at key n x split (One s) got e there is known = refl
  heads_at key n x split (Many ps) got e there is known = refl
  heads_at key n x split (Fork f) got e there is known =
      heads_known key n x (fork_split f) split (fork_heads f) (fork_children f) got there (ap content_of e) is known
  heads_at key n x split (Inner b) got e there is known =
      heads_known key n x b.split split (heads_in b.heads) b.children.items got there (ap content_of e) is known

  heads_then : (key : ℕ) (m : TreeNode) → get (exchanged old.nodes r.nodes.items) key ≡ Some m → KnowsHeads (tree_of (renumbered_inside old r)) m.content
  heads_then key m got =
      let n = came_from key m got in
      let b = became key n.0 n.1 in
      let there = node_read (exchanged old.nodes r.nodes.items).slots key (with_numbers b.what.bindings b.what.split n.0) b.got in
      subst (λ x. KnowsHeads (tree_of (renumbered_inside old r)) x.content) (same_Some (with_numbers b.what.bindings b.what.split n.0) m (sym b.got ∙ got))
      (heads_at key n.0 (node_of (with_numbers b.what.bindings b.what.split n.0)) b.what.split n.0.content n.1 refl there refl (kept.heads key n.0 n.1))

  pub kept_then : IsKept (renumbered_inside old r)
  kept_then = record {
    legal = renumbered_legal (tree_of old) (tree_of (renumbered_inside old r)) kept.legal is_renumbered;
    whole = whole_then;
    heads = heads_then;
    leaves = kept.leaves ∙ sym same_leaves;
    unmerged = kept.unmerged ∙ sym same_unmerged;
  }

  pub renumbers : Renumbers (tree_of old) (tree_of (renumbered_inside old r))
  renumbers =
      let nodes = same_counted (λ content. 1) (λ to c. refl) in
      let leaves = same_leaves in
      let unmerged = same_unmerged in
      record {
        renumbered = is_renumbered;
        few = few_next (tree_of old) (tree_of (renumbered_inside old r)) kept.legal is_renumbered;
        stays = renumbered_stored (tree_of old) (tree_of (renumbered_inside old r)) kept.legal is_renumbered;
        keeps = renumbered_leaves (tree_of old) (tree_of (renumbered_inside old r)) kept.legal is_renumbered;
        leaves = λ key t postings l. (leaves_stay (tree_of old) (tree_of (renumbered_inside old r)) kept.legal is_renumbered key t postings).0 l;
        counts = λ i. record { nodes = nodes i; leaves = leaves i; unmerged = unmerged i };
      }

  -- ---- the nodes that are exchanged
  pub are_keys : AreKeysOf old.nodes r.nodes.items
  are_keys = all_from (λ x. ContainsKey old.nodes x.node) r.nodes.items (λ x a.
      let to_have = all_at (IsToHave (tree_of old)) r.nodes.items x h.each a in
      let s = stood old.nodes.slots x.node to_have.node to_have.has in
      ap is_some s.got)
