-- How a walk over a tree begins, goes on and ends.
use Rattle.std.proofs.Common.{◌≡◌, ◌⊎◌, inl, inr, ℕ, zero, suc, ◌+◌, ◌<◌, ◌≤◌, List, [], ◌∷◌, ◌++◌, length, max, None, Some, map, replicate, refl, sym, ◌∙◌, ap, subst, arith, length-append}
use Rattle.std.specs.List.{AllByRecursion}
use Rattle.std.proofs.lemmas.Bool.Decides.{leb_tells}
use Rattle.std.proofs.lemmas.List.{map-append, length-map}
use Rattle.std.proofs.lemmas.Option.{same_Some}
use Rattle.slab.specs.Slab.{get}
use Rattle.si_defs.specs.Substitutions.{IsAmong, AreDistinct}
use Rattle.si_defs.proofs.ListLaws.{all_at, all_from, all_append, all_front, all_back, among_front, among_back, among_parts, among_either}
use Rattle.si_flat.specs.Cells.{Term}
use Rattle.si_flat.proofs.RowLaws.{distinct_parts, distinct_append}
use Rattle.si_legal.specs.Trees.{Node, Tree, HasNode, Path, IsPath, opened}
use Rattle.si_legal.specs.Legal.{IsLegal, IsRoot}
use Rattle.si_legal.specs.Bindings.{right_indicators}
use Rattle.si_legal.proofs.PathLaws.{one_node, one_path}
use Rattle.si_changes.specs.Places.{number_among}
use Rattle.si_changes.proofs.FewOpened.{few_below, has_within}
use Rattle.si_changes.proofs.Frames.{IsChild}
use Rattle.si_changes.proofs.RenamedTerms.{among_map, map_among}
use Rattle.si_tree.specs.Nodes.{TreeNode}
use Rattle.si_tree.specs.declared.renumber.Renumbered.{Renumbered}
use Rattle.si_tree.specs.declared.renumber.Renumbering.{Renumbering}
use Rattle.si_tree.specs.declared.renumber.Visit.{Visit}
use Rattle.si_tree.specs.declared.tree.Tree.TheInside.{Inside}
use Rattle.si_tree.specs.KeptNodes.{node_of, tree_of, content_of, IsKept}
use Rattle.si_tree.specs.Numbers.{rights_in, noted, noted_number, renumbered_pairs}
use Rattle.si_tree.specs.Reading.{children_of}
use Rattle.si_tree.specs.Renumbers.{split_in, visits, keys_of, IsToHave, IsRenumbering}
use Rattle.si_tree.proofs.SlotLaws.{node_read, stood}
use Rattle.si_tree.proofs.NumberLaws.{noted_long}
use Rattle.si_tree.proofs.WalkLaws.{Waits, IsTaken, taken, to_have, are_children, children_distinct, child_waits, still_waits, new_opened}

abbrev pub visit_keys : List Visit → List ℕ
visit_keys vs = map (λ v. v.node) vs

-- the path above the node of this visit
abbrev pub IsAbove : Tree Term → Visit → Path → Type 0
IsAbove tree v p = (node : Node Term) × HasNode tree v.node node × IsPath tree node.parent p

-- what is opened above the one is opened above the other
abbrev pub OpensLess : Tree Term → Visit → Visit → Type 0
OpensLess tree v w = (p q : Path) → IsAbove tree v p → IsAbove tree w q → (n : ℕ) → IsAmong (opened p) n → IsAmong (opened q) n

-- of those that wait each opens no more than those after it
abbrev pub AreNested : Tree Term → List Visit → Type 0
AreNested tree [] = Unit {0}
AreNested tree (v ∷ vs) = AllByRecursion (OpensLess tree v) vs × AreNested tree vs

-- Some nodes wait and some are done. The parents of all are done, and all children of those that
-- are done are among them.
pub record IsWalk (tree : Tree Term) (left : List Visit) (numbers : List ℕ) (done : List Renumbered) (next : ℕ) : Type 0 where
  pub room : length numbers ≡ tree.next
  pub waits : AllByRecursion (Waits tree numbers) left
  pub nested : AreNested tree left
  pub each : AllByRecursion (IsToHave tree) done
  pub left_distinct : AreDistinct (visit_keys left)
  pub done_distinct : AreDistinct (keys_of done)
  pub apart : (key : ℕ) → IsAmong (visit_keys left) key → IsAmong (keys_of done) key → ⊥
  pub parents : (child key : ℕ) → IsChild tree key child → IsAmong (visit_keys left) child ⊎ IsAmong (keys_of done) child → IsAmong (keys_of done) key
  pub children : (child key : ℕ) → IsChild tree key child → IsAmong (keys_of done) key → IsAmong (visit_keys left) child ⊎ IsAmong (keys_of done) child
  pub root : IsAmong (visit_keys left) tree.root ⊎ IsAmong (keys_of done) tree.root
  pub enough : (key : ℕ) (path : Path) → IsAmong (keys_of done) key → IsPath tree (Some key) path → length (opened path) ≤ next
  pub least : (key : ℕ) × (path : Path) × IsPath tree (Some key) path × (next ≡ length (opened path))

-- ---- nested visits
nested_front : (tree : Tree Term) (vs ws : List Visit) → AreNested tree (vs ++ ws) → AreNested tree vs
nested_front tree [] ws h = tt
nested_front tree (v ∷ vs) ws h = (all_front (OpensLess tree v) vs ws h.0, nested_front tree vs ws h.1)

nested_across : (tree : Tree Term) (vs ws : List Visit) (v w : Visit) → AreNested tree (vs ++ ws) → IsAmong vs v → IsAmong ws w → OpensLess tree v w
nested_across tree [] ws v w h a b = absurd a
nested_across tree (x ∷ vs) ws v w h (inl e) b = subst (λ y. OpensLess tree y w) e (all_at (OpensLess tree x) ws w (all_back (OpensLess tree x) vs ws h.0) b)
nested_across tree (x ∷ vs) ws v w h (inr a) b = nested_across tree vs ws v w h.1 a b

nested_append : (tree : Tree Term) (vs ws : List Visit) → AreNested tree vs → AreNested tree ws → ((v w : Visit) → IsAmong vs v → IsAmong ws w → OpensLess tree v w) → AreNested tree (vs ++ ws)
nested_append tree [] ws one two across = two
nested_append tree (v ∷ vs) ws one two across = (
  all_append (OpensLess tree v) vs ws one.0 (all_from (OpensLess tree v) ws (λ w b. across v w (inl refl) b)),
  nested_append tree vs ws one.1 two (λ x w a b. across x w (inr a) b),
)

nested_all : (tree : Tree Term) (vs : List Visit) → ((v w : Visit) → IsAmong vs v → IsAmong vs w → OpensLess tree v w) → AreNested tree vs
nested_all tree [] all = tt
nested_all tree (v ∷ vs) all = (all_from (OpensLess tree v) vs (λ w b. all v w (inl refl) (inr b)), nested_all tree vs (λ x w a b. all x w (inr a) (inr b)))

-- ---- keys
key_waits : (vs : List Visit) (v : Visit) → IsAmong vs v → IsAmong (visit_keys vs) v.node
key_waits vs v a = among_map (λ w. w.node) vs v a

visits_keys : (opened_are : ℕ) (children : List ℕ) → visit_keys (visits opened_are children) ≡ children
visits_keys o [] = refl
visits_keys o (c ∷ cs) = ap (λ l. c ∷ l) (visits_keys o cs)

-- a node below a path that passes by the done nodes is one
complete : (tree : Tree Term) (done : List Renumbered) → (node : Node Term) × HasNode tree tree.root node × IsRoot node → ((key : ℕ) (node : Node Term) → HasNode tree key node → node.parent ≡ None → key ≡ tree.root) → IsAmong (keys_of done) tree.root → ((child key : ℕ) → IsChild tree key child → IsAmong (keys_of done) key → IsAmong (keys_of done) child) → (key : ℕ) (p : Path) → IsPath tree (Some key) p → IsAmong (keys_of done) key
complete tree done root only at_root below key [] reached = absurd (none reached) where
  none : Some key ≡ None → ⊥
  none e = cc
complete tree done root only at_root below key (step ∷ []) reached =
    subst (IsAmong (keys_of done)) (sym (only step.0 step.1 reached.1 reached.2) ∙ sym (same_Some key step.0 reached.0)) at_root
complete tree done root only at_root below key (step ∷ above ∷ p) reached =
    let rest = complete tree done root only at_root below above.0 (above ∷ p) (refl, reached.2.1, reached.2.2) in
    below key above.0 (subst (IsChild tree above.0) (sym (same_Some key step.0 reached.0)) (step.1, reached.1, reached.2.0)) rest

-- ---- mapped lists with more after them
module _ {X : Type 0} (f : X → ℕ) (xs ys : List X) (k : ℕ) where
  mapped_front : IsAmong (map f xs) k → IsAmong (map f (xs ++ ys)) k
  mapped_front a = subst (λ l. IsAmong l k) (sym (map-append f xs ys)) (among_front (map f xs) (map f ys) k a)

  mapped_back : IsAmong (map f ys) k → IsAmong (map f (xs ++ ys)) k
  mapped_back a = subst (λ l. IsAmong l k) (sym (map-append f xs ys)) (among_back (map f xs) (map f ys) k a)

  mapped_parts : IsAmong (map f (xs ++ ys)) k → IsAmong (map f xs) k ⊎ IsAmong (map f ys) k
  mapped_parts a = among_parts (map f xs) (map f ys) k (subst (λ l. IsAmong l k) (map-append f xs ys) a)

done_has : (tree : Tree Term) (done : List Renumbered) (k : ℕ) → AllByRecursion (IsToHave tree) done → IsAmong (keys_of done) k → k < length tree.nodes
done_has tree done k each a =
    let one = map_among (λ r. r.node) done k a in
    let r = all_at (IsToHave tree) done one.0 each one.1 in
    subst (λ j. j < length tree.nodes) one.2 (has_within tree.nodes one.0.node r.node r.has)

-- ---- the last that waits
module _ (t : Inside) (kept : IsKept t) (init : List Visit) (v : Visit) (numbers : List ℕ) (done : List Renumbered) (next : ℕ) (h : IsWalk (tree_of t) (init ++ v ∷ []) numbers done next) where
  waits_last : Waits (tree_of t) numbers v
  waits_last = (all_back (Waits (tree_of t) numbers) init (v ∷ []) h.waits).0

  pub last_stood : (n : TreeNode) × (get t.nodes v.node ≡ Some n)
  last_stood = let s = stood t.nodes.slots v.node waits_last.node waits_last.has in (s.kept, s.got)

  was_last : IsAmong (visit_keys (init ++ v ∷ [])) v.node
  was_last = mapped_back (λ w. w.node) init (v ∷ []) v.node (inl refl)

  not_done : IsAmong (keys_of done) v.node → ⊥
  not_done a = h.apart v.node was_last a

  pub fewer_done : length done < length (tree_of t).nodes
  fewer_done =
      let distinct : AreDistinct (keys_of done ++ v.node ∷ []) = distinct_append (keys_of done) (v.node ∷ []) h.done_distinct ((λ a. a), tt) (λ k a b. elim b as (λ _. ⊥) [ inl e ↦ not_done (subst (IsAmong (keys_of done)) (sym e) a) | inr m ↦ m ]) in
      let few = few_below (length (tree_of t).nodes) (keys_of done ++ v.node ∷ []) distinct (λ k a. elim (among_either (keys_of done) v.node k a) as (λ _. k < length (tree_of t).nodes) [
        | inl b ↦ done_has (tree_of t) done k h.each b
        | inr e ↦ subst (λ j. j < length (tree_of t).nodes) e (has_within (tree_of t).nodes v.node waits_last.node waits_last.has)
      ]) in
      omega (arith, few, length-append (keys_of done) (v.node ∷ []), length-map done (λ r. r.node))

  either_greater : (m : ℕ) → (max next m ≡ next) ⊎ (max next m ≡ m)
  either_greater m = elim (leb_tells next m) as (λ _. (max next m ≡ next) ⊎ (max next m ≡ m)) [ inl e ↦ inr (omega (arith, e.1)) | inr e ↦ inl (omega (arith, e.1)) ]

  -- ---- the turn
  module _ (n : TreeNode) (got : get t.nodes v.node ≡ Some n) where
    abbrev opened_then : ℕ
    opened_then = v.opened + length (rights_in n.bindings)

    abbrev noted_now : List ℕ
    noted_now = noted numbers v.opened (rights_in n.bindings)

    abbrev made : Renumbered
    made = record {
      node = v.node;
      bindings = renumbered_pairs (noted_number (noted numbers v.opened (rights_in n.bindings))) n.bindings;
      split = split_in (content_of n.content) (noted numbers v.opened (rights_in n.bindings));
    }

    abbrev children : List ℕ
    children = children_of (content_of n.content)

    pub is_taken : IsTaken t numbers v n
    is_taken = taken t numbers v n waits_last got h.room

    has_node : HasNode (tree_of t) v.node (node_of n)
    has_node = node_read t.nodes.slots v.node n got

    above_taken : IsAbove (tree_of t) v is_taken.above
    above_taken = (node_of n, has_node, is_taken.reached)

    are : (child : ℕ) → IsAmong children child → IsChild (tree_of t) v.node child
    are child a = ((are_children t kept numbers v n is_taken) child).0 a

    is_one : (child : ℕ) → IsChild (tree_of t) v.node child → IsAmong children child
    is_one child c = ((are_children t kept numbers v n is_taken) child).1 c

    -- ---- keys
    done_old : (k : ℕ) → IsAmong (keys_of done) k → IsAmong (keys_of (done ++ made ∷ [])) k
    done_old k a = mapped_front (λ r. r.node) done (made ∷ []) k a

    done_new : IsAmong (keys_of (done ++ made ∷ [])) v.node
    done_new = mapped_back (λ r. r.node) done (made ∷ []) v.node (inl refl)

    done_back : (k : ℕ) → IsAmong (keys_of (done ++ made ∷ [])) k → IsAmong (keys_of done) k ⊎ (v.node ≡ k)
    done_back k a = elim (mapped_parts (λ r. r.node) done (made ∷ []) k a) as (λ _. IsAmong (keys_of done) k ⊎ (v.node ≡ k)) [
      | inl b ↦ inl b
      | inr b ↦ elim b as (λ _. IsAmong (keys_of done) k ⊎ (v.node ≡ k)) [ inl e ↦ inr e | inr m ↦ absurd m ]
    ]

    left_old : (k : ℕ) → IsAmong (visit_keys init) k → IsAmong (visit_keys (init ++ visits opened_then children)) k
    left_old k a = mapped_front (λ w. w.node) init (visits opened_then children) k a

    left_new : (k : ℕ) → IsChild (tree_of t) v.node k → IsAmong (visit_keys (init ++ visits opened_then children)) k
    left_new k c = mapped_back (λ w. w.node) init (visits opened_then children) k (subst (λ l. IsAmong l k) (sym (visits_keys opened_then children)) (is_one k c))

    left_back : (k : ℕ) → IsAmong (visit_keys (init ++ visits opened_then children)) k → IsAmong (visit_keys init) k ⊎ IsChild (tree_of t) v.node k
    left_back k a = elim (mapped_parts (λ w. w.node) init (visits opened_then children) k a) as (λ _. IsAmong (visit_keys init) k ⊎ IsChild (tree_of t) v.node k) [
      | inl b ↦ inl b
      | inr b ↦ inr (are k (subst (λ l. IsAmong l k) (visits_keys opened_then children) b))
    ]

    was_left : (k : ℕ) → IsAmong (visit_keys init) k → IsAmong (visit_keys (init ++ v ∷ [])) k
    was_left k a = mapped_front (λ w. w.node) init (v ∷ []) k a

    left_was : (k : ℕ) → IsAmong (visit_keys (init ++ v ∷ [])) k → IsAmong (visit_keys init) k ⊎ (v.node ≡ k)
    left_was k a = elim (mapped_parts (λ w. w.node) init (v ∷ []) k a) as (λ _. IsAmong (visit_keys init) k ⊎ (v.node ≡ k)) [
      | inl b ↦ inl b
      | inr b ↦ elim b as (λ _. IsAmong (visit_keys init) k ⊎ (v.node ≡ k)) [ inl e ↦ inr e | inr m ↦ absurd m ]
    ]

    init_parts : AreDistinct (visit_keys init) × ((k : ℕ) → IsAmong (visit_keys init) k → v.node ≡ k → ⊥)
    init_parts =
        let parts = distinct_parts (visit_keys init) (v.node ∷ []) (subst AreDistinct (map-append (λ w. w.node) init (v ∷ [])) h.left_distinct) in
        (parts.0, (λ k a e. parts.2 k a (inl e)))

    -- no child was among them
    child_new : (k : ℕ) → IsChild (tree_of t) v.node k → IsAmong (visit_keys (init ++ v ∷ [])) k ⊎ IsAmong (keys_of done) k → ⊥
    child_new k c a = not_done (h.parents k v.node c a)

    -- ---- what waits then
    still : (w : Visit) → IsAmong init w → Waits (tree_of t) noted_now w
    still w a =
        let x = all_at (Waits (tree_of t) numbers) init w (all_front (Waits (tree_of t) numbers) init (v ∷ []) h.waits) a in
        still_waits t kept numbers v n is_taken w x
        (λ k b. nested_across (tree_of t) init (v ∷ []) w v h.nested a (inl refl) x.above is_taken.above (x.node, x.has, x.reached) above_taken k b)

    visit_of : (w : Visit) → IsAmong (visits opened_then children) w → (child : ℕ) × IsAmong children child × (w.node ≡ child) × (w.opened ≡ opened_then)
    visit_of w a =
        let c = map_among (λ child. record { node = child; opened = opened_then }) children w a in
        (c.0, c.1, ap (λ x. x.node) (sym c.2), ap (λ x. x.opened) (sym c.2))

    child_waits_then : (w : Visit) → IsAmong (visits opened_then children) w → Waits (tree_of t) noted_now w
    child_waits_then w a =
        let c = visit_of w a in
        child_waits t kept numbers v n is_taken c.0 (are c.0 c.1) w c.2 c.3

    -- the path above a child
    above_child : (w : Visit) → IsAmong (visits opened_then children) w → (q : Path) → IsAbove (tree_of t) w q → q ≡ ((v.node, node_of n) ∷ is_taken.above)
    above_child w a q (node, has, reached) =
        let c = visit_of w a in
        let child = are c.0 c.1 in
        let same : node ≡ child.0 = one_node (tree_of t) c.0 node child.0 (subst (λ k. HasNode (tree_of t) k node) c.2 has) child.1 in
        one_path (tree_of t) (Some v.node) q ((v.node, node_of n) ∷ is_taken.above)
        (subst (λ k. IsPath (tree_of t) k q) (ap (λ x. x.parent) same ∙ child.2) reached)
        (refl, has_node, is_taken.reached)

    across : (w x : Visit) → IsAmong init w → IsAmong (visits opened_then children) x → OpensLess (tree_of t) w x
    across w x a b p q up there k i =
        subst (λ l. IsAmong (opened l) k) (sym (above_child x b q there))
        (among_front (opened is_taken.above) _ k (nested_across (tree_of t) init (v ∷ []) w v h.nested a (inl refl) p is_taken.above up above_taken k i))

    siblings : (w x : Visit) → IsAmong (visits opened_then children) w → IsAmong (visits opened_then children) x → OpensLess (tree_of t) w x
    siblings w x a b p q up there k i = subst (λ l. IsAmong (opened l) k) (above_child w a p up ∙ sym (above_child x b q there)) i

    pub turned : IsWalk (tree_of t) (init ++ visits opened_then children) noted_now (done ++ made ∷ []) (max next opened_then)
    turned = record {
      room = noted_long numbers v.opened (rights_in n.bindings) ∙ h.room;
      waits = all_append (Waits (tree_of t) noted_now) init (visits opened_then children) (all_from (Waits (tree_of t) noted_now) init still) (all_from (Waits (tree_of t) noted_now) (visits opened_then children) child_waits_then);
      nested = nested_append (tree_of t) init (visits opened_then children) (nested_front (tree_of t) init (v ∷ []) h.nested) (nested_all (tree_of t) (visits opened_then children) siblings) across;
      each = all_append (IsToHave (tree_of t)) done (made ∷ []) h.each (to_have t kept numbers v n is_taken, tt);
      left_distinct =
          subst AreDistinct (sym (map-append (λ w. w.node) init (visits opened_then children)))
          (distinct_append (visit_keys init) (visit_keys (visits opened_then children)) init_parts.0
          (subst AreDistinct (sym (visits_keys opened_then children)) (children_distinct t kept numbers v n is_taken))
          (λ k a b. child_new k (are k (subst (λ l. IsAmong l k) (visits_keys opened_then children) b)) (inl (was_left k a))));
      done_distinct =
          subst AreDistinct (sym (map-append (λ r. r.node) done (made ∷ [])))
          (distinct_append (keys_of done) (v.node ∷ []) h.done_distinct ((λ a. a), tt) (λ k a b. elim b as (λ _. ⊥) [ inl e ↦ not_done (subst (IsAmong (keys_of done)) (sym e) a) | inr m ↦ m ]));
      apart = λ k a b. elim (left_back k a) as (λ _. ⊥) [
        | inl i ↦ elim (done_back k b) as (λ _. ⊥) [ inl d ↦ h.apart k (was_left k i) d | inr e ↦ init_parts.1 k i e ]
        | inr c ↦ elim (done_back k b) as (λ _. ⊥) [ inl d ↦ child_new k c (inr d) | inr e ↦ child_new k c (inl (subst (IsAmong (visit_keys (init ++ v ∷ []))) e was_last)) ]
      ];
      parents = λ child key c a. elim a as (λ _. IsAmong (keys_of (done ++ made ∷ [])) key) [
        | inl b ↦ elim (left_back child b) as (λ _. IsAmong (keys_of (done ++ made ∷ [])) key) [
          | inl i ↦ done_old key (h.parents child key c (inl (was_left child i)))
          | inr d ↦ subst (IsAmong (keys_of (done ++ made ∷ []))) (same_parent child v.node key d c) done_new
        ]
        | inr b ↦ elim (done_back child b) as (λ _. IsAmong (keys_of (done ++ made ∷ [])) key) [
          | inl d ↦ done_old key (h.parents child key c (inr d))
          | inr e ↦ done_old key (h.parents child key c (inl (subst (IsAmong (visit_keys (init ++ v ∷ []))) e was_last)))
        ]
      ];
      children = λ child key c a. elim (done_back key a) as (λ _. IsAmong (visit_keys (init ++ visits opened_then children)) child ⊎ IsAmong (keys_of (done ++ made ∷ [])) child) [
        | inl d ↦ over child (h.children child key c d)
        | inr e ↦ inl (left_new child (subst (λ k. IsChild (tree_of t) k child) (sym e) c))
      ];
      root = over (tree_of t).root h.root;
      enough = λ key path a reached. elim (done_back key a) as (λ _. length (opened path) ≤ max next opened_then) [
        | inl d ↦ (let was = h.enough key path d reached in omega (arith, was))
        | inr e ↦ (let same = one_path (tree_of t) (Some key) path ((v.node, node_of n) ∷ is_taken.above) reached (ap Some (sym e), has_node, is_taken.reached) in
            omega (arith, ap (λ p. length (opened p)) same, new_opened t kept numbers v n is_taken))
      ];
      least = elim (either_greater opened_then) as (λ _. (key : ℕ) × (path : Path) × IsPath (tree_of t) (Some key) path × (max next opened_then ≡ length (opened path))) [
        | inl e ↦ (h.least.0, h.least.1, h.least.2, e ∙ h.least.3)
        | inr e ↦ (v.node, (v.node, node_of n) ∷ is_taken.above, (refl, has_node, is_taken.reached), e ∙ new_opened t kept numbers v n is_taken)
      ];
    } where
      same_parent : (child j k : ℕ) → IsChild (tree_of t) j child → IsChild (tree_of t) k child → j ≡ k
      same_parent child j k (one, has, up) (two, has', up') = same_Some j k (sym up ∙ ap (λ x. x.parent) (one_node (tree_of t) child one two has has') ∙ up')

      over : (k : ℕ) → IsAmong (visit_keys (init ++ v ∷ [])) k ⊎ IsAmong (keys_of done) k → IsAmong (visit_keys (init ++ visits opened_then children)) k ⊎ IsAmong (keys_of (done ++ made ∷ [])) k
      over k (inl a) = elim (left_was k a) as (λ _. IsAmong (visit_keys (init ++ visits opened_then children)) k ⊎ IsAmong (keys_of (done ++ made ∷ [])) k) [
        | inl i ↦ inl (left_old k i)
        | inr e ↦ inr (subst (IsAmong (keys_of (done ++ made ∷ []))) e done_new)
      ]
      over k (inr d) = inr (done_old k d)

    pub turned_to : (tree : Tree Term) (left' : List Visit) (numbers' : List ℕ) (done' : List Renumbered) (next' : ℕ) → tree_of t ≡ tree → left' ≡ init ++ visits opened_then children → numbers' ≡ noted_now → done' ≡ done ++ made ∷ [] → next' ≡ max next opened_then → IsWalk tree left' numbers' done' next'
    turned_to tree left' numbers' done' next' same left_is numbers_are done_are next_is =
        subst (λ x. IsWalk x left' numbers' done' next') same
        (subst (λ l. IsWalk (tree_of t) l numbers' done' next') (sym left_is)
        (subst (λ l. IsWalk (tree_of t) (init ++ visits opened_then children) l done' next') (sym numbers_are)
        (subst (λ l. IsWalk (tree_of t) (init ++ visits opened_then children) noted_now l next') (sym done_are)
        (subst (λ k. IsWalk (tree_of t) (init ++ visits opened_then children) noted_now (done ++ made ∷ []) k) (sym next_is) turned))))

pub one_longer : {X : Type 0} (xs ys : List X) (y : X) → ys ≡ xs ++ y ∷ [] → length ys ≡ length xs + 1
one_longer xs ys y e = ap length e ∙ length-append xs (y ∷ [])

-- ---- its start and its end
pub walk_begins : (tree : Tree Term) (numbers : List ℕ) (v : Visit) → IsLegal tree → length numbers ≡ tree.next → noted_number numbers 0 ≡ 0 → v.node ≡ tree.root → v.opened ≡ 1 → IsWalk tree (v ∷ []) numbers [] 1
walk_begins tree numbers v legal room zero_first at_root one = record {
  room = room;
  waits = (
    record {
      node = root.0;
      above = [];
      has = has;
      reached = root.2.parent;
      long = one;
      known = λ n a. elim a as (λ _. noted_number numbers n ≡ number_among (0 ∷ []) n) [
        | inl e ↦ subst (λ k. noted_number numbers k ≡ number_among (0 ∷ []) k) e zero_first
        | inr m ↦ absurd m
      ];
    },
    tt,
  );
  nested = (tt, tt);
  each = tt;
  left_distinct = ((λ a. a), tt);
  done_distinct = tt;
  apart = λ k a b. b;
  parents = λ child key c a. elim a as (λ _. ⊥) [
    | inl b ↦ elim b as (λ _. ⊥) [ inl e ↦ no_parent child key c (sym e ∙ at_root) | inr m ↦ m ]
    | inr b ↦ b
  ];
  children = λ child key c a. absurd a;
  root = inl (inl at_root);
  enough = λ key path a reached. absurd a;
  least = (v.node, (v.node, root.0) ∷ [], (refl, has, root.2.parent), sym (ap (λ bs. length (0 ∷ right_indicators bs)) root.2.bindings));
} where
  root : (node : Node Term) × HasNode tree tree.root node × IsRoot node
  root = legal.root

  has : HasNode tree v.node legal.root.0
  has = subst (λ k. HasNode tree k legal.root.0) (sym at_root) legal.root.1

  no_parent : (child key : ℕ) → IsChild tree key child → child ≡ tree.root → ⊥
  no_parent child key (node, there, up) e = differ (sym legal.root.2.parent ∙ ap (λ x. x.parent) (one_node tree tree.root legal.root.0 node legal.root.1 (subst (λ k. HasNode tree k node) e there)) ∙ up) where
    differ : None ≡ Some key → ⊥
    differ f = cc

pub walk_ends : (tree : Tree Term) (left : List Visit) (numbers : List ℕ) (done : List Renumbered) (next : ℕ) → IsLegal tree → left ≡ [] → IsWalk tree left numbers done next → (r : Renumbering) → r.nodes.items ≡ done → r.next ≡ next → IsRenumbering tree r
walk_ends tree left numbers done next legal none h r nodes_are next_is = record {
  each = subst (AllByRecursion (IsToHave tree)) (sym nodes_are) h.each;
  distinct = subst (λ l. AreDistinct (keys_of l)) (sym nodes_are) h.done_distinct;
  complete = λ key node has. subst (λ l. IsAmong (keys_of l) key) (sym nodes_are) (all_done key node has);
  enough = λ key path reached. subst (λ k. length (opened path) ≤ k) (sym next_is) (h.enough key path (start key path reached) reached);
  least = (h.least.0, h.least.1, h.least.2, next_is ∙ h.least.3);
} where
  only_done : (k : ℕ) → IsAmong (visit_keys left) k ⊎ IsAmong (keys_of done) k → IsAmong (keys_of done) k
  only_done k (inl a) = absurd (subst (λ l. IsAmong (visit_keys l) k) none a)
  only_done k (inr d) = d

  start : (key : ℕ) (path : Path) → IsPath tree (Some key) path → IsAmong (keys_of done) key
  start key path reached =
      complete tree done legal.root (λ k node has up. (legal.nodes k node has).only_root up) (only_done tree.root h.root)
      (λ child k c a. only_done child (h.children child k c a)) key path reached

  all_done : (key : ℕ) (node : Node Term) → HasNode tree key node → IsAmong (keys_of done) key
  all_done key node has = let was = legal.nodes key node has in start key ((key, node) ∷ was.above) (refl, has, was.reached)

-- the same walk, by the values that the program has
pub walk_at : (tree tree' : Tree Term) (left init : List Visit) (v v' : Visit) (numbers : List ℕ) (done : List Renumbered) (next : ℕ) → tree' ≡ tree → left ≡ init ++ v ∷ [] → v' ≡ v → IsWalk tree left numbers done next → IsWalk tree' (init ++ v' ∷ []) numbers done next
walk_at tree tree' left init v v' numbers done next same items view h =
    subst (λ x. IsWalk x (init ++ v' ∷ []) numbers done next) (sym same)
    (subst (λ x. IsWalk tree (init ++ x ∷ []) numbers done next) (sym view)
    (subst (λ l. IsWalk tree l numbers done next) items h))

all_zero : (n : ℕ) → noted_number (replicate n 0) 0 ≡ 0
all_zero zero = refl
all_zero (suc n) = refl

pub walk_starts : (tree : Tree Term) (none left : List Visit) (v : Visit) (numbers : List ℕ) (n : ℕ) (done : List Renumbered) → IsLegal tree → none ≡ [] → left ≡ none ++ v ∷ [] → done ≡ [] → numbers ≡ replicate n 0 → length numbers ≡ tree.next → v.node ≡ tree.root → v.opened ≡ 1 → IsWalk tree left numbers done 1
walk_starts tree none left v numbers n done legal empty left_is done_is numbers_are room at_root one =
    subst (λ l. IsWalk tree l numbers done 1) (sym (left_is ∙ ap (λ l. l ++ v ∷ []) empty))
    (subst (λ l. IsWalk tree (v ∷ []) numbers l 1) (sym done_is)
    (walk_begins tree numbers v legal room (ap (λ l. noted_number l 0) numbers_are ∙ all_zero n) at_root one))
