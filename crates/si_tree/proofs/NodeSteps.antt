-- What a step at a node does, by what it does to the children.
use Rattle.std.proofs.Common.{◌≡◌, ◌<◌, ℕ, List, [], ◌∷◌, ◌++◌, Option, Some, length, sym, ◌∙◌, ap}
use Rattle.std.specs.Prelude.{slice_get, slice_set}
use Rattle.std.specs.List.{swap_remove}
use Rattle.std.proofs.lemmas.Option.{slice_get_within}
use Rattle.si_defs.specs.Substitutions.{IsAmong}
use Rattle.si_flat.specs.Rows.{CellPair}
use Rattle.si_legal.specs.Trees.{inner}
use Rattle.si_tree.specs.declared.node.Branches.{Branches}
use Rattle.si_tree.specs.declared.node.Head.{Head}
use Rattle.si_tree.specs.declared.node.Below.{Below}
use Rattle.si_tree.specs.Dropping.{LosesChild}
use Rattle.si_tree.specs.Forks.{Forked, fork_children, fork_heads, fork_split}
use Rattle.si_tree.specs.KeptHeads.{heads_in}
use Rattle.si_tree.specs.KeptNodes.{content_of, heads_of, GainsChild, HasChildBy, RelinksChild}
use Rattle.si_tree.specs.Nodes.{Content, Fork, Inner, TreeNode, content_in, parent_in}
use Rattle.si_tree.proofs.ChildPlaces.{head_among, child_at}
use Rattle.si_tree.proofs.PostingLists.{replaced}

-- the node that has these bindings, and this below it
abbrev pub seen : List CellPair → Below → TreeNode
seen bindings below = record { parent = parent_in below; bindings = bindings; content = content_in below }

-- the node with this content
abbrev pub with_content : Option ℕ → List CellPair → Content → TreeNode
with_content parent bindings content = record { parent = parent; bindings = bindings; content = content }

module _ (n : TreeNode) (parent : Option ℕ) (bindings : List CellPair) where
  -- ---- the place of a child
  pub among_branches : (b : Branches) → n ≡ with_content parent bindings (Inner b) → (head : Head) (child : ℕ) → HasChildBy n head child → IsAmong (heads_in b.heads) head
  among_branches b was head child has =
      head_among n b.split (heads_in b.heads) b.children.items (ap (λ x. content_of x.content) was) (ap (λ x. heads_of x.content) was) head child has

  pub within_branches : (b : Branches) → n ≡ with_content parent bindings (Inner b) → (head : Head) (child : ℕ) → HasChildBy n head child → (at : ℕ) → slice_get (heads_in b.heads) at ≡ Some head → at < length b.children.items
  within_branches b was head child has at got =
      slice_get_within b.children.items at child (child_at n b.split (heads_in b.heads) b.children.items (ap (λ x. content_of x.content) was) (ap (λ x. heads_of x.content) was) head child has at got)

  pub among_forked : (f : Forked) → n ≡ with_content parent bindings (Fork f) → (head : Head) (child : ℕ) → HasChildBy n head child → IsAmong (fork_heads f) head
  among_forked f was head child has =
      head_among n (fork_split f) (fork_heads f) (fork_children f) (ap (λ x. content_of x.content) was) (ap (λ x. heads_of x.content) was) head child has

  pub within_forked : (f : Forked) → n ≡ with_content parent bindings (Fork f) → (head : Head) (child : ℕ) → HasChildBy n head child → (at : ℕ) → slice_get (fork_heads f) at ≡ Some head → at < length (fork_children f)
  within_forked f was head child has at got =
      slice_get_within (fork_children f) at child (child_at n (fork_split f) (fork_heads f) (fork_children f) (ap (λ x. content_of x.content) was) (ap (λ x. heads_of x.content) was) head child has at got)

module _ (n m : TreeNode) (parent : Option ℕ) (bindings : List CellPair) where
  parent_stays : (c d : Content) → n ≡ with_content parent bindings c → m ≡ with_content parent bindings d → m.parent ≡ n.parent
  parent_stays c d was is = ap (λ x. x.parent) is ∙ sym (ap (λ x. x.parent) was)

  bindings_stay : (c d : Content) → n ≡ with_content parent bindings c → m ≡ with_content parent bindings d → m.bindings ≡ n.bindings
  bindings_stay c d was is = ap (λ x. x.bindings) is ∙ sym (ap (λ x. x.bindings) was)

  -- ---- branches
  module _ (b d : Branches) (was : n ≡ with_content parent bindings (Inner b)) (is : m ≡ with_content parent bindings (Inner d)) (split : d.split ≡ b.split) where
    content_was : content_of n.content ≡ inner b.split b.children.items
    content_was = ap (λ x. content_of x.content) was

    heads_was : heads_of n.content ≡ heads_in b.heads
    heads_was = ap (λ x. heads_of x.content) was

    content_is : (children : List ℕ) → d.children.items ≡ children → content_of m.content ≡ inner b.split children
    content_is children e = ap (λ x. content_of x.content) is ∙ (λ i. inner (split i) (e i))

    heads_is : heads_of m.content ≡ heads_in d.heads
    heads_is = ap (λ x. heads_of x.content) is

    pub inner_gains : (head : Head) (child : ℕ) → heads_in d.heads ≡ heads_in b.heads ++ head ∷ [] → d.children.items ≡ b.children.items ++ child ∷ [] → GainsChild n m head child
    inner_gains head child heads children = record {
      split = b.split;
      children = b.children.items;
      parent = parent_stays _ _ was is;
      bindings = bindings_stay _ _ was is;
      was = content_was;
      is = content_is _ children;
      heads = heads_is ∙ heads ∙ ap (λ hs. hs ++ head ∷ []) (sym heads_was);
    }

    pub inner_relinks : (head : Head) (at child other : ℕ) → HasChildBy n head child → slice_get (heads_in b.heads) at ≡ Some head → heads_in d.heads ≡ heads_in b.heads → d.children.items ≡ slice_set b.children.items at other → RelinksChild n m child other
    inner_relinks head at child other has got heads children = record {
      split = b.split;
      children = b.children.items;
      after = slice_set b.children.items at other;
      parent = parent_stays _ _ was is;
      bindings = bindings_stay _ _ was is;
      was = content_was;
      is = content_is _ children;
      replaced = replaced b.children.items at child other (child_at n b.split (heads_in b.heads) b.children.items content_was heads_was head child has at got);
      heads = heads_is ∙ heads ∙ sym heads_was;
    }

    pub inner_loses : (head : Head) (at child : ℕ) → HasChildBy n head child → slice_get (heads_in b.heads) at ≡ Some head → heads_in d.heads ≡ swap_remove (heads_in b.heads) at head → ((k : ℕ) → slice_get b.children.items at ≡ Some k → d.children.items ≡ swap_remove b.children.items at k) → LosesChild n m child
    inner_loses head at child has got heads children =
        let there = child_at n b.split (heads_in b.heads) b.children.items content_was heads_was head child has at got in
        record {
          split = b.split;
          children = b.children.items;
          place = at;
          head = head;
          parent = parent_stays _ _ was is;
          bindings = bindings_stay _ _ was is;
          was = content_was;
          there = there;
          is = content_is _ (children child there);
          heads = heads_is ∙ heads ∙ ap (λ hs. swap_remove hs at head) (sym heads_was);
        }

  -- ---- forks
  module _ (f g : Forked) (was : n ≡ with_content parent bindings (Fork f)) (is : m ≡ with_content parent bindings (Fork g)) where
    fork_was : content_of n.content ≡ inner (fork_split f) (fork_children f)
    fork_was = ap (λ x. content_of x.content) was

    fork_heads_was : heads_of n.content ≡ fork_heads f
    fork_heads_was = ap (λ x. heads_of x.content) was

    fork_is : (h : Forked) → g ≡ h → content_of m.content ≡ inner (fork_split h) (fork_children h)
    fork_is h e = ap (λ x. content_of x.content) is ∙ ap (λ k. inner (fork_split k) (fork_children k)) e

    fork_heads_is : (h : Forked) → g ≡ h → heads_of m.content ≡ fork_heads h
    fork_heads_is h e = ap (λ x. heads_of x.content) is ∙ ap fork_heads e

    pub fork_gains : (head : Head) (child : ℕ) → g ≡ (fork_split f, fork_heads f ++ head ∷ [], fork_children f ++ child ∷ []) → GainsChild n m head child
    fork_gains head child e = record {
      split = fork_split f;
      children = fork_children f;
      parent = parent_stays _ _ was is;
      bindings = bindings_stay _ _ was is;
      was = fork_was;
      is = fork_is _ e;
      heads = fork_heads_is _ e ∙ ap (λ hs. hs ++ head ∷ []) (sym fork_heads_was);
    }

    pub fork_relinks : (head : Head) (at child other : ℕ) → HasChildBy n head child → slice_get (fork_heads f) at ≡ Some head → g ≡ (fork_split f, fork_heads f, slice_set (fork_children f) at other) → RelinksChild n m child other
    fork_relinks head at child other has got e = record {
      split = fork_split f;
      children = fork_children f;
      after = slice_set (fork_children f) at other;
      parent = parent_stays _ _ was is;
      bindings = bindings_stay _ _ was is;
      was = fork_was;
      is = fork_is _ e;
      replaced = replaced (fork_children f) at child other (child_at n (fork_split f) (fork_heads f) (fork_children f) fork_was fork_heads_was head child has at got);
      heads = fork_heads_is _ e ∙ sym fork_heads_was;
    }

    pub fork_loses : (head : Head) (at child : ℕ) → HasChildBy n head child → slice_get (fork_heads f) at ≡ Some head → g ≡ (fork_split f, swap_remove (fork_heads f) at head, swap_remove (fork_children f) at child) → LosesChild n m child
    fork_loses head at child has got e = record {
      split = fork_split f;
      children = fork_children f;
      place = at;
      head = head;
      parent = parent_stays _ _ was is;
      bindings = bindings_stay _ _ was is;
      was = fork_was;
      there = child_at n (fork_split f) (fork_heads f) (fork_children f) fork_was fork_heads_was head child has at got;
      is = fork_is _ e;
      heads = fork_heads_is _ e ∙ ap (λ hs. swap_remove hs at head) (sym fork_heads_was);
    }
