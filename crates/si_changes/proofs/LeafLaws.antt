-- A leaf comes into a legal tree, or goes.
use Rattle.std.proofs.Common.{◌≡◌, ◌≢◌, ◌↔◌, inl, inr, ℕ, ◌≤◌, false, List, [], ◌∷◌, length, Some, refl, ap, sym, ◌∙◌, subst, arith}
use Rattle.std.proofs.lemmas.Bool.Decides.{eqb_tells}
use Rattle.std.proofs.lemmas.Option.{same_Some}
use Rattle.std.proofs.lemmas.List.Sorted.{length_permutation}
use Rattle.si_defs.specs.Substitutions.{IsAmong}
use Rattle.si_flat.specs.Cells.{Term}
use Rattle.si_legal.specs.declared.Posting.{Posting}
use Rattle.si_legal.specs.Bindings.{Binding, BindsExactly, indicators, applied}
use Rattle.si_legal.specs.Generalizations.{same_head}
use Rattle.si_legal.specs.Trees.{inner, Node, Tree, HasNode, IsPath, path_term, IsLeaf}
use Rattle.si_legal.specs.Legal.{IsOpenBelow, OpensOnce, IsLeafTerm, ChildBinds, HasEnoughChildren, IsLegalContent, IsLegalNode, IsLegal}
use Rattle.si_legal.specs.StoredSets.{Gains, StaysStored, KeepsLeaves}
use Rattle.si_legal.proofs.PathLaws.{one_node, one_path}
use Rattle.si_changes.specs.Nodes.{leaf_below, MayComeIn, RoomFor}
use Rattle.si_changes.specs.Leaves.{IsTermAt, MayAddLeaf, AddsLeaf, MayDropLeaf, DropsLeaf}
use Rattle.si_changes.proofs.OneLeafLaws.{gains_leaf, loses_leaf}
use Rattle.si_changes.proofs.Frames.{legal_at, legal_nodes, HasLegalNodes, StaysInPlace, Lifted, IsChild, child_over, binding_over, differ_more, ChildrenChange}
use Rattle.si_changes.proofs.StoredLaws.{inner_no_leaf, OtherLeavesStay}
use Rattle.si_changes.proofs.Heads.{childless}
use Rattle.si_changes.proofs.Borrowed.{bound_left}
use Rattle.si_changes.proofs.OpenLaws.{vacant_apart, no_child_of_vacant}
use Rattle.si_changes.proofs.NewLeaves.{new_leaf}
use Rattle.si_changes.proofs.Relinked.{IsRelinked, same_inner, stays, lifted_elsewhere, other_leaves, root_stays, was_content, other_nodes}

-- ---- a leaf comes
module _ (old new : Tree Term) (parent key : ℕ) (bindings : List Binding) (p : Posting) (legal : IsLegal old) (may : MayAddLeaf old parent bindings p) (adds : AddsLeaf old new parent bindings p key) where
  differs : parent ≢ key
  differs = vacant_apart old key parent may.node adds.vacant may.reached.1

  no_child : (child : ℕ) → IsChild old key child → ⊥
  no_child child c = no_child_of_vacant old (legal_nodes old legal) key child c.0 adds.vacant c.1 c.2

  relinked : IsRelinked old new key parent [] (key ∷ [])
  relinked = record {
    linked = adds.linked;
    others = adds.others;
    root = adds.root;
    next = adds.next;
    apart = differs;
    no_root = vacant_apart old key old.root legal.root.0 adds.vacant legal.root.1;
    childless = no_child;
    was_below = λ k c. absurd (vacant_apart old key key c.0 adds.vacant c.1 refl);
    is_below = λ k c. same_Some k parent (sym c.2 ∙ ap (λ n. n.parent) (one_node new key c.0 (leaf_below parent bindings (p ∷ [])) c.1 adds.new_leaf));
  }

  -- the path to the parent, in the new tree
  lift : Lifted old new (Some parent) ((parent, may.node) ∷ may.above)
  lift = lifted_elsewhere old new key parent [] (key ∷ []) legal relinked parent ((parent, may.node) ∷ may.above) differs may.reached

  -- ---- the new leaf
  new_term : applied bindings (path_term lift.path) ≡ applied bindings (path_term ((parent, may.node) ∷ may.above))
  new_term = ap (applied bindings) lift.lifts.term

  new_path : IsPath new (Some key) ((key, leaf_below parent bindings (p ∷ [])) ∷ lift.path)
  new_path = (refl, adds.new_leaf, lift.reached)

  room : RoomFor old new (applied bindings (path_term lift.path))
  room = adds.room (applied bindings (path_term lift.path)) ((key, leaf_below parent bindings (p ∷ [])) ∷ lift.path, new_path, refl)

  leaf_term : IsLeafTerm (applied bindings (path_term lift.path))
  leaf_term = subst IsLeafTerm (sym new_term) may.may_come.leaf_term

  new_childless : (child : ℕ) → IsChild new key child → ⊥
  new_childless child c =
      elim (eqb_tells child key) as (λ _. ⊥) [
        | inl e ↦ differs (sym (relinked.is_below key (subst (IsChild new key) e.1 c)))
        | inr e ↦ no_child child (child_over new old key child (sym (stays old new key parent [] (key ∷ []) legal relinked child e.1)) c)
      ]

  new_one : IsLegalNode new key (leaf_below parent bindings (p ∷ []))
  new_one =
      let h = legal.nodes parent may.node may.reached.1 in
      let once : OpensOnce ((parent, may.node) ∷ may.above) = subst (λ q. OpensOnce ((parent, may.node) ∷ q)) (one_path old may.node.parent h.above may.above h.reached may.reached.2) h.opens in
      new_leaf old new key parent bindings p lift.path lift.reached (lift.lifts.once once)
      (subst (λ t. BindsExactly (IsAmong (indicators t)) bindings) (sym lift.lifts.term) may.binds)
      may.opens_none leaf_term room new_childless

  -- ---- its parent
  same_content : (may.split ≡ adds.linked.split) × (may.children ≡ adds.linked.before)
  same_content =
      same_inner may.split adds.linked.split may.children adds.linked.before
      (sym may.inner_node ∙ ap (λ n. n.content) (one_node old parent may.node adds.linked.node may.reached.1 adds.linked.had) ∙ adds.linked.content)

  old_content : IsLegalContent old parent ((parent, adds.linked.node) ∷ may.above) (inner adds.linked.split adds.linked.before)
  unfolding relinked
  old_content = was_content old new key parent [] (key ∷ []) legal relinked may.above (refl, adds.linked.had, subst (λ n. IsPath old n.parent may.above) (one_node old parent may.node adds.linked.node may.reached.1 adds.linked.had) may.reached.2)

  no_key : (child : ℕ) → IsChild old parent child → child ≢ key
  no_key child c = vacant_apart old key child c.0 adds.vacant c.1

  binds_over : (child n : ℕ) (t : Term) → child ≢ key → ChildBinds old child n t ↔ ChildBinds new child n t
  binds_over child n t other =
      let same = stays old new key parent [] (key ∷ []) legal relinked child other in
      (binding_over old new child n t same, binding_over new old child n t (sym same))

  change : ChildrenChange old new parent adds.linked.split [] (key ∷ [])
  change = record {
    came = λ child a. elim a as (λ _. IsChild new parent child) [ inl e ↦ subst (IsChild new parent) e (leaf_below parent bindings (p ∷ []), adds.new_leaf, refl) | inr b ↦ absurd b ];
    stayed = λ child c g. child_over old new parent child (stays old new key parent [] (key ∷ []) legal relinked child (no_key child c)) c;
    others = λ child c other. (child_over new old parent child (sym (stays old new key parent [] (key ∷ []) legal relinked child (λ e. other (inl (sym e))))) c, (λ a. a));
    bind = λ child t c g. binds_over child adds.linked.split t (no_key child c);
    differ = λ stay are h. differ_more new adds.linked.split key stay new_binds (heads stay are) h;
  } where
    new_binds : (t : Term) × ChildBinds new key adds.linked.split t
    new_binds =
        let split_open : IsOpenBelow ((parent, may.node) ∷ may.above) adds.linked.split = subst (λ n. IsAmong (indicators (path_term ((parent, n) ∷ may.above))) adds.linked.split) (one_node old parent adds.linked.node may.node adds.linked.had may.reached.1) old_content.0 in
        let bound = bound_left bindings adds.linked.split ((may.binds.1 adds.linked.split).1 split_open) in
        (bound.0, (leaf_below parent bindings (p ∷ []), adds.new_leaf, bound.1))

    heads : (stay : List ℕ) → ((child : ℕ) → IsAmong stay child → IsChild old parent child × (IsAmong [] child → ⊥)) → (child : ℕ) (t u : Term) → IsAmong stay child → ChildBinds new key adds.linked.split t → ChildBinds new child adds.linked.split u → same_head t u ≡ false
    heads stay are child t u a one two =
        let c = (are child a).0 in
        let mine : IsAmong bindings (adds.linked.split, t) = subst (λ n. IsAmong n.bindings (adds.linked.split, t)) (one_node new key one.0 (leaf_below parent bindings (p ∷ [])) one.1 adds.new_leaf) one.2 in
        may.new_head t u child
        (subst (λ n. IsAmong bindings (n, t)) (sym same_content.0) mine)
        (subst (λ l. IsAmong l child) (sym same_content.1) ((old_content.1 child).1 c))
        (subst (λ n. ChildBinds old child n u) (sym same_content.0) ((binds_over child adds.linked.split u (no_key child c)).1 two))

  enough : HasEnoughChildren new parent adds.linked.after
  enough no_root = omega (
    arith,
    old_content.3 (λ e. no_root (e ∙ sym adds.root)),
    length_permutation adds.linked.stay adds.linked.before adds.linked.before_are,
    length_permutation (key ∷ adds.linked.stay) adds.linked.after adds.linked.after_are,
  )

  -- ---- the whole tree
  nodes : HasLegalNodes new
  unfolding relinked
  nodes = record {
    root = root_stays old new key parent [] (key ∷ []) legal relinked;
    nodes = λ k node has. elim (eqb_tells k key) as (λ _. IsLegalNode new k node) [
      | inl e ↦ legal_at new k key node (leaf_below parent bindings (p ∷ [])) has e.1 adds.new_leaf new_one
      | inr e ↦ other_nodes old new key parent [] (key ∷ []) legal relinked room.0 change enough k node e.1 has
    ];
  }

  -- each leaf stays, with or without postings
  pub other_leaves_stay : OtherLeavesStay old new key
  other_leaves_stay = other_leaves old new key parent [] (key ∷ []) legal relinked

  is_leaf : IsLeaf new key (applied bindings (path_term ((parent, may.node) ∷ may.above))) (p ∷ [])
  is_leaf = record { node = leaf_below parent bindings (p ∷ []); above = lift.path; reached = new_path; content = refl; term = sym new_term }

pub adds_leaf : (old new : Tree Term) (parent key : ℕ) (bindings : List Binding) (p : Posting) → IsLegal old → (may : MayAddLeaf old parent bindings p) → AddsLeaf old new parent bindings p key → (t : Term) → t ≡ applied bindings (path_term ((parent, may.node) ∷ may.above)) → IsLegal new × Gains old new t p × KeepsLeaves old new × IsTermAt new key t
adds_leaf old new parent key bindings p legal may adds t t_is = (tree.0, tree.1, tree.2, ((key, leaf_below parent bindings (p ∷ [])) ∷ up.path, path, t_is ∙ sym term)) where
  up : Lifted old new (Some parent) ((parent, may.node) ∷ may.above)
  up = lift old new parent key bindings p legal may adds

  path : IsPath new (Some key) ((key, leaf_below parent bindings (p ∷ [])) ∷ up.path)
  path = new_path old new parent key bindings p legal may adds

  term : applied bindings (path_term up.path) ≡ applied bindings (path_term ((parent, may.node) ∷ may.above))
  term = new_term old new parent key bindings p legal may adds

  tree : IsLegal new × Gains old new t p × KeepsLeaves old new
  tree =
      gains_leaf old new key t p legal (nodes old new parent key bindings p legal may adds) adds.vacant (other_leaves_stay old new parent key bindings p legal may adds)
      (subst (λ u. IsLeaf new key u (p ∷ [])) (sym t_is) (is_leaf old new parent key bindings p legal may adds))
      (subst (λ u. MayComeIn old u p) (sym t_is) may.may_come)
      (subst (RoomFor old new) (term ∙ sym t_is) (room old new parent key bindings p legal may adds))
      (omega (arith, adds.next))

-- ---- a leaf goes
module _ (old new : Tree Term) (key : ℕ) (legal : IsLegal old) (may : MayDropLeaf old key) (drops : DropsLeaf old new key) where
  drop_linked : IsRelinked old new key drops.parent (key ∷ []) []
  drop_linked = record {
    linked = drops.linked;
    others = drops.others;
    root = drops.root;
    next = drops.next;
    apart = λ e. leaf_apart drops.parent drops.linked.node drops.linked.split drops.linked.before drops.linked.had drops.linked.content e;
    no_root = λ e. leaf_apart old.root legal.root.0 0 legal.root.2.splits.0 legal.root.1 legal.root.2.splits.1 e;
    childless = λ child c. childless old (legal_nodes old legal) key child may.stands.node [] may.stands.has may.empty c;
    was_below = λ k c. same_Some k drops.parent (sym c.2 ∙ ap (λ n. n.parent) (one_node old key c.0 drops.node c.1 drops.had) ∙ drops.below);
    is_below = λ k c. absurd (vacant_apart new key key c.0 drops.gone c.1 refl);
  } where
    leaf_apart : (k : ℕ) (node : Node Term) (split : ℕ) (children : List ℕ) → HasNode old k node → node.content ≡ inner split children → k ≡ key → ⊥
    leaf_apart k node split children has is e =
        inner_no_leaf split children [] (sym is ∙ ap (λ n. n.content) (one_node old key node may.stands.node (subst (λ j. HasNode old j node) e has) may.stands.has) ∙ may.empty)

  drop_stays : (child : ℕ) → child ≢ key → StaysInPlace old new child
  drop_stays child other = stays old new key drops.parent (key ∷ []) [] legal drop_linked child other

  drop_change : ChildrenChange old new drops.parent drops.linked.split (key ∷ []) []
  drop_change = record {
    came = λ child a. absurd a;
    stayed = λ child c g. child_over old new drops.parent child (drop_stays child (λ e. g (inl (sym e)))) c;
    others = λ child c g. (
      child_over new old drops.parent child (sym (drop_stays child (vacant_apart new key child c.0 drops.gone c.1))) c,
      (λ a. elim a as (λ _. ⊥) [ inl e ↦ vacant_apart new key child c.0 drops.gone c.1 (sym e) | inr b ↦ b ]),
    );
    bind = λ child t c g.
        let same = drop_stays child (λ e. g (inl (sym e))) in
        (binding_over old new child drops.linked.split t same, binding_over new old child drops.linked.split t (sym same));
    differ = λ stay are h. h;
  }

  same_parent : may.stands.parent ≡ drops.parent
  same_parent = same_Some may.stands.parent drops.parent (sym may.stands.below ∙ ap (λ n. n.parent) (one_node old key may.stands.node drops.node may.stands.has drops.had) ∙ drops.below)

  same_children : may.stands.children ≡ drops.linked.before
  same_children =
      let there : HasNode old drops.parent may.stands.parent_node = subst (λ k. HasNode old k may.stands.parent_node) same_parent may.stands.is_parent in
      (same_inner may.stands.split drops.linked.split may.stands.children drops.linked.before
      (sym may.stands.inner_node ∙ ap (λ n. n.content) (one_node old drops.parent may.stands.parent_node drops.linked.node there drops.linked.had) ∙ drops.linked.content)).1

  drop_enough : HasEnoughChildren new drops.parent drops.linked.after
  drop_enough no_root =
      elim may.enough as (λ _. 2 ≤ length drops.linked.after) [
        | inl e ↦ absurd (no_root (sym same_parent ∙ e ∙ sym drops.root))
        | inr three ↦ omega (
          arith,
          three,
          ap length same_children,
          length_permutation (key ∷ drops.linked.stay) drops.linked.before drops.linked.before_are,
          length_permutation drops.linked.stay drops.linked.after drops.linked.after_are,
        )
      ]

  drop_nodes : HasLegalNodes new
  unfolding drop_linked
  drop_nodes = record {
    root = root_stays old new key drops.parent (key ∷ []) [] legal drop_linked;
    nodes = λ k node has. other_nodes old new key drops.parent (key ∷ []) [] legal drop_linked (omega (arith, drops.vars)) drop_change drop_enough k node (vacant_apart new key k node drops.gone has) has;
  }

  drop_leaves : OtherLeavesStay old new key
  drop_leaves = other_leaves old new key drops.parent (key ∷ []) [] legal drop_linked

pub drops_leaf : (old new : Tree Term) (key : ℕ) → IsLegal old → MayDropLeaf old key → DropsLeaf old new key → IsLegal new × StaysStored old new × KeepsLeaves old new
drops_leaf old new key legal may drops =
    loses_leaf old new key may.stands.node legal (drop_nodes old new key legal may drops) (drop_leaves old new key legal may drops) may.stands.has may.empty drops.gone drops.next drops.vars
