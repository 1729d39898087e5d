-- A legal tree stays legal where a node is split.
use Rattle.std.proofs.Common.{◌≡◌, ◌≢◌, ◌⊎◌, inl, inr, ℕ, ◌≤◌, true, false, List, [], ◌∷◌, ◌++◌, Option, None, Some, slice_index_or, refl, ap, sym, ◌∙◌, subst, arith, append_assoc}
use Rattle.std.specs.List.{AllByRecursion}
use Rattle.std.proofs.lemmas.Bool.Decides.{eqb_tells}
use Rattle.std.proofs.lemmas.List.{map-append}
use Rattle.std.proofs.lemmas.List.Sorted.{length_permutation, IsPermutation-sym}
use Rattle.std.proofs.lemmas.Option.{same_Some}
use Rattle.si_defs.specs.Terms as terms
use Rattle.si_defs.specs.Substitutions.{IsAmong, AreDistinct}
use Rattle.si_defs.proofs.ListLaws.{all_at, all_from, among_front, among_back, among_parts, same_tail}
use Rattle.si_defs.proofs.ListLaws.{same_first}
use Rattle.si_flat.specs.Cells.{Variable, ind, Term}
use Rattle.si_flat.specs.Rows.{left_sides}
use Rattle.si_flat.proofs.RowLaws.{distinct_append, distinct_parts}
use Rattle.si_legal.specs.declared.Posting.{Posting}
use Rattle.si_legal.specs.Bindings.{Binding, indicators, right_indicators, BindsExactly, applied}
use Rattle.si_legal.specs.Generalizations.{same_head}
use Rattle.si_legal.specs.Trees.{inner, Node, Tree, HasNode, Path, IsPath, PassesBy, path_term, opened}
use Rattle.si_legal.specs.Legal.{IsOpenBelow, OpensOnce, IsWithin, AreLegalBindings, ChildBinds, IsLeafTerm, IsLegalContent, IsLegalNode, IsLegal, IsRoot}
use Rattle.si_legal.specs.StoredSets.{Gains, KeepsLeaves}
use Rattle.si_legal.proofs.PathLaws.{one_node, one_path}
use Rattle.si_legal.proofs.SplitLaws.{binding_left}
use Rattle.si_changes.specs.Nodes.{IsVacant, with_content, leaf_below, ChangesChildren, RoomFor}
use Rattle.si_changes.specs.Splits.{Parts, MaySplitNode, SplitsNode}
use Rattle.si_changes.proofs.Borrowed.{bound_left}
use Rattle.si_changes.proofs.Relinked.{same_inner, root_over}
use Rattle.si_changes.proofs.Permuted.{among_or_not, permuted_among}
use Rattle.si_changes.proofs.HeadLaws.{same_head_back, head_apart}
use Rattle.si_changes.proofs.Frames.{HasLegalNodes, legal_nodes, legal_at, Lifted, lifted_step, within_more, Lifts, lifts_nil, lifted_node, IsChild, one_right, Differ, differ_more, differ_told, differ_from, differ_permuted, place_of, StaysInPlace, has_placed, child_over, binding_over, KeepsChildren, keeps_children, kept_content, ChildrenChange, changed_content}
use Rattle.si_changes.proofs.ComposeLaws.{indicator_in, right-append, right_among, IsOpenAfter, open_from, is_open}
use Rattle.si_changes.proofs.DivideLaws.{IsVariableOf, IsFreshVariable, Divides, divides}
use Rattle.si_changes.proofs.OpenLaws.{vacant_apart, no_child_of_vacant, no_return, root_no_child, open_opened, opened_low}
use Rattle.si_changes.specs.Leaves.{IsTermAt}
use Rattle.si_changes.proofs.NewLeaves.{new_leaf}
use Rattle.si_changes.proofs.OneLeafLaws.{gains_leaf}
use Rattle.si_changes.proofs.StoredLaws.{LeafStays, OtherLeavesStay, leaf_stays, leaf_stays_lifted, no_leaf_stays, no_leaf_linked, no_leaf_here, no_leaf_vacant}

module _ (old new : Tree Term) (key : ℕ) (parts : Parts) (others : List Binding) (p : Posting) (inner_key leaf_key : ℕ) (legal : IsLegal old) (may : MaySplitNode old key parts others p) (s : SplitsNode old new key parts others p inner_key leaf_key) where
  -- ---- the nodes
  abbrev node : Node Term
  node = may.node

  abbrev parent : ℕ
  parent = may.parent

  abbrev upper : Path
  upper = (parent, may.parent_node) ∷ may.above

  nodes : HasLegalNodes old
  nodes = legal_nodes old legal

  has_key : HasNode old key node
  has_key = may.reached.1

  has_parent : HasNode old parent may.parent_node
  has_parent = may.reached.2.1

  below : node.parent ≡ Some parent
  below = may.reached.2.0

  upper_reached : IsPath old (Some parent) upper
  upper_reached = (refl, may.reached.2.1, may.reached.2.2)

  not_above : PassesBy upper key → ⊥
  not_above = no_return old key node upper may.reached

  key_not_parent : key ≢ parent
  key_not_parent e = not_above (inl (sym e))

  same_parent : s.parent ≡ parent
  same_parent = same_Some s.parent parent (sym s.below ∙ ap (λ n. n.parent) (one_node old key s.node node s.had has_key) ∙ below)

  -- the new nodes
  abbrev inner_of : Node Term
  inner_of = record { parent = Some parent; bindings = parts.common; content = inner s.first s.two }

  abbrev rest_of : Node Term
  rest_of = record { parent = Some inner_key; bindings = parts.rest_node; content = node.content }

  abbrev leaf_of : Node Term
  leaf_of = leaf_below inner_key (parts.rest_new ++ others) (p ∷ [])

  has_inner : HasNode new inner_key inner_of
  has_inner = subst (λ k. HasNode new inner_key (record { parent = Some k; bindings = parts.common; content = inner s.first s.two })) same_parent s.inner_node

  has_rest : HasNode new key rest_of
  has_rest = subst (λ n. HasNode new key (record { parent = Some inner_key; bindings = parts.rest_node; content = n.content })) (one_node old key s.node node s.had has_key) s.rest

  linked : ChangesChildren old new parent (key ∷ []) (inner_key ∷ [])
  linked = subst (λ k. ChangesChildren old new k (key ∷ []) (inner_key ∷ [])) same_parent s.linked

  was_parent : linked.node ≡ may.parent_node
  was_parent = one_node old parent linked.node may.parent_node linked.had has_parent

  was_content : may.parent_node.content ≡ inner linked.split linked.before
  was_content = ap (λ n. n.content) (sym was_parent) ∙ linked.content

  same_split : may.split ≡ linked.split
  same_split = (same_inner may.split linked.split may.children linked.before (sym may.inner_node ∙ was_content)).0

  abbrev parent_of : Node Term
  parent_of = with_content may.parent_node (inner linked.split linked.after)

  has_new_parent : HasNode new parent parent_of
  has_new_parent = subst (λ n. HasNode new parent (with_content n (inner linked.split linked.after))) was_parent linked.has

  -- ---- keys
  key_not_inner : key ≢ inner_key
  key_not_inner = vacant_apart old inner_key key node s.inner_vacant has_key

  key_not_leaf : key ≢ leaf_key
  key_not_leaf = vacant_apart old leaf_key key node s.leaf_vacant has_key

  parent_not_inner : parent ≢ inner_key
  parent_not_inner = vacant_apart old inner_key parent may.parent_node s.inner_vacant has_parent

  parent_not_leaf : parent ≢ leaf_key
  parent_not_leaf = vacant_apart old leaf_key parent may.parent_node s.leaf_vacant has_parent

  -- Which of the keys this is. The nodes of all others stay.
  pub data Which (k : ℕ) : Type 0 where
    is_key : k ≡ key → Which k
    is_parent : k ≡ parent → Which k
    is_inner : k ≡ inner_key → Which k
    is_leaf : k ≡ leaf_key → Which k
    is_other : slice_index_or new.nodes k None ≡ slice_index_or old.nodes k None → k ≢ key → k ≢ parent → k ≢ leaf_key → Which k

  pub which : (k : ℕ) → Which k
  which k = elim (eqb_tells k key) as (λ _. Which k) [
    | inl a ↦ is_key a.1
    | inr a ↦ elim (eqb_tells k parent) as (λ _. Which k) [
      | inl b ↦ is_parent b.1
      | inr b ↦ elim (eqb_tells k inner_key) as (λ _. Which k) [
        | inl c ↦ is_inner c.1
        | inr c ↦ elim (eqb_tells k leaf_key) as (λ _. Which k) [
          | inl d ↦ is_leaf d.1
          | inr d ↦ is_other (s.others_stay k (other a.1 b.1 c.1 d.1)) a.1 b.1 d.1
        ]
      ]
    ]
  ] where
    other : k ≢ key → k ≢ parent → k ≢ inner_key → k ≢ leaf_key → IsAmong (key ∷ s.parent ∷ inner_key ∷ leaf_key ∷ []) k → ⊥
    other a b c d (inl e) = a (sym e)
    other a b c d (inr (inl e)) = b (sym e ∙ same_parent)
    other a b c d (inr (inr (inl e))) = c (sym e)
    other a b c d (inr (inr (inr (inl e)))) = d (sym e)
    other a b c d (inr (inr (inr (inr h)))) = h

  parent_in_place : StaysInPlace old new parent
  parent_in_place = ap place_of has_new_parent ∙ sym (ap place_of has_parent)

  in_place : (k : ℕ) → k ≢ key → k ≢ inner_key → k ≢ leaf_key → StaysInPlace old new k
  in_place k a c d = by (which k) where
    by : Which k → StaysInPlace old new k
    by (is_key e) = absurd (a e)
    by (is_parent e) = subst (StaysInPlace old new) (sym e) parent_in_place
    by (is_inner e) = absurd (c e)
    by (is_leaf e) = absurd (d e)
    by (is_other same x y z) = ap place_of same

  old_in_place : (k : ℕ) (n : Node Term) → HasNode old k n → k ≢ key → StaysInPlace old new k
  old_in_place k n has a = in_place k a (vacant_apart old inner_key k n s.inner_vacant has) (vacant_apart old leaf_key k n s.leaf_vacant has)

  -- ---- what the split gives
  given : Divides old.next node.bindings parts.common parts.rest_node parts.rest_new
  given = divides old.next node.bindings may.new parts.common parts.rest_node parts.rest_new may.may_split may.splits

  key_legal : IsLegalNode old key node
  key_legal = legal.nodes key node has_key

  key_above : key_legal.above ≡ upper
  key_above = one_path old node.parent key_legal.above upper key_legal.reached may.reached.2

  key_opens : AreDistinct (opened upper ++ right_indicators node.bindings)
  key_opens = subst (λ a. OpensOnce ((key, node) ∷ a)) key_above key_legal.opens

  key_binds : AreLegalBindings old upper node.bindings
  key_binds = subst (λ a. AreLegalBindings old a node.bindings) key_above key_legal.binds

  apart : AreDistinct (opened upper) × AreDistinct (right_indicators node.bindings) × ((n : ℕ) → IsAmong (opened upper) n → IsAmong (right_indicators node.bindings) n → ⊥)
  apart = distinct_parts (opened upper) (right_indicators node.bindings) key_opens

  common_apart : (n : ℕ) → IsAmong (opened upper) n → IsAmong (right_indicators parts.common) n → ⊥
  common_apart n a b = elim (given.common_opens n b) as (λ _. ⊥) [
    | inl i ↦ apart.2 n a i
    | inr high ↦ omega (arith, high, opened_low old legal (Some parent) upper upper_reached n a)
  ]

  open_apart : (n : ℕ) → IsAmong (indicators (path_term upper)) n → IsAmong (right_indicators parts.common) n → ⊥
  open_apart n a b = common_apart n (open_opened old nodes (Some parent) upper upper_reached n a) b

  both_apart : (n : ℕ) → IsAmong (opened upper) n → IsAmong (right_indicators parts.common ++ right_indicators parts.rest_node) n → ⊥
  both_apart n a b = elim (among_parts (right_indicators parts.common) (right_indicators parts.rest_node) n b) as (λ _. ⊥) [
    | inl c ↦ common_apart n a c
    | inr c ↦ apart.2 n a (given.rest_opens n c)
  ]

  more : old.next ≤ new.next
  more = omega (arith, s.next)

  -- ---- paths
  -- a path of the old tree goes over, and opens the same if it doesn't pass by the node
  record Over (from : Option ℕ) (q : Path) : Type 0 where
    lifted : Lifted old new from q
    same : (PassesBy q key → ⊥) → opened lifted.path ≡ opened q

  over_step : (from : Option ℕ) (step : ℕ × Node Term) (q : Path) → IsPath old from (step ∷ q) → step.0 ≢ key → Over step.1.parent q → Over from (step ∷ q)
  over_step from step q reached other rest =
      let place = old_in_place step.0 step.1 reached.1 other in
      let placed = has_placed old new step.0 step.1 place reached.1 in
      record {
        lifted = lifted_step old new nodes from step q reached place rest.lifted;
        same = λ not_here. (let above = rest.same (λ passes. not_here (inr passes)) in λ i. above i ++ right_indicators (placed.bindings i));
      }

  key_lifts : (rest : Over (Some parent) upper) → Lifts old.next ((key, node) ∷ upper) ((key, rest_of) ∷ (inner_key, inner_of) ∷ rest.lifted.path)
  key_lifts rest = record {
    term = ap (λ t. applied parts.rest_node (applied parts.common t)) rest.lifted.lifts.term ∙ given.gives_node (path_term upper) open_apart;
    opens = there;
    once = λ h. subst AreDistinct (sym whole) (distinct_append (opened upper) (right_indicators parts.common ++ right_indicators parts.rest_node) apart.0 given.opens_once both_apart);
  } where
    whole : (opened rest.lifted.path ++ right_indicators parts.common) ++ right_indicators parts.rest_node ≡ opened upper ++ (right_indicators parts.common ++ right_indicators parts.rest_node)
    whole =
        append_assoc (opened rest.lifted.path) (right_indicators parts.common) (right_indicators parts.rest_node)
        ∙ ap (λ l. l ++ (right_indicators parts.common ++ right_indicators parts.rest_node)) (rest.same not_above)

    old_right : (n : ℕ) → IsAmong (right_indicators node.bindings) n → IsAmong (opened upper ++ right_indicators node.bindings) n
    old_right n a = among_back (opened upper) (right_indicators node.bindings) n a

    there : (n : ℕ) → IsAmong ((opened rest.lifted.path ++ right_indicators parts.common) ++ right_indicators parts.rest_node) n → IsAmong (opened upper ++ right_indicators node.bindings) n ⊎ (old.next ≤ n)
    there n a =
        elim (among_parts (opened upper) (right_indicators parts.common ++ right_indicators parts.rest_node) n (subst (λ l. IsAmong l n) whole a)) as (λ _. IsAmong (opened upper ++ right_indicators node.bindings) n ⊎ (old.next ≤ n)) [
          | inl b ↦ inl (among_front (opened upper) (right_indicators node.bindings) n b)
          | inr b ↦ elim (among_parts (right_indicators parts.common) (right_indicators parts.rest_node) n b) as (λ _. IsAmong (opened upper ++ right_indicators node.bindings) n ⊎ (old.next ≤ n)) [
            | inl c ↦ elim (given.common_opens n c) as (λ _. IsAmong (opened upper ++ right_indicators node.bindings) n ⊎ (old.next ≤ n)) [
              | inl d ↦ inl (old_right n d)
              | inr d ↦ inr d
            ]
            | inr c ↦ inl (old_right n (given.rest_opens n c))
          ]
        ]

  over_key : Over (Some parent) upper → Over (Some key) ((key, node) ∷ upper)
  over_key rest = record {
    lifted = record {
      path = (key, rest_of) ∷ (inner_key, inner_of) ∷ rest.lifted.path;
      reached = (refl, has_rest, (refl, has_inner, rest.lifted.reached));
      lifts = key_lifts rest;
    };
    same = λ not_here. absurd (not_here (inl refl));
  }

  over_here : (from : Option ℕ) (step : ℕ × Node Term) (q : Path) → IsPath old from (step ∷ q) → step.0 ≡ key → Over step.1.parent q → Over from (step ∷ q)
  over_here from step q reached e rest =
      let from_key : from ≡ Some key = reached.0 ∙ ap Some e in
      let same : (key, node) ∷ upper ≡ step ∷ q = one_path old (Some key) ((key, node) ∷ upper) (step ∷ q) may.reached (subst (λ k. IsPath old k (step ∷ q)) from_key reached) in
      let tail : q ≡ upper = sym (same_tail same) in
      let above : step.1.parent ≡ Some parent = sym (ap (λ x. x.1.parent) (same_first same)) ∙ below in
      subst (λ k. Over k (step ∷ q)) (sym from_key)
      (subst (Over (Some key)) same (over_key (subst (Over (Some parent)) tail (subst (λ k. Over k q) above rest))))

  over : (from : Option ℕ) (q : Path) → IsPath old from q → Over from q
  over from [] reached = record { lifted = record { path = []; reached = reached; lifts = lifts_nil old.next }; same = λ h. refl }
  over from (step ∷ q) reached =
      let rest = over step.1.parent q reached.2 in
      elim (eqb_tells step.0 key) as (λ _. Over from (step ∷ q)) [
        | inl e ↦ over_here from step q reached e.1 rest
        | inr e ↦ over_step from step q reached e.1 rest
      ]

  -- ---- children
  -- a child in the new tree that stands in its place is an old one
  child_back : (k child : ℕ) → StaysInPlace old new child → IsChild new k child → IsChild old k child
  child_back k child same h = child_over new old k child (sym same) h

  -- the children of the inner node
  inner_child : (child : ℕ) → IsChild new inner_key child → (child ≡ key) ⊎ (child ≡ leaf_key)
  inner_child child h = by (which child) where
    old_one : StaysInPlace old new child → (child ≡ key) ⊎ (child ≡ leaf_key)
    old_one same =
        let was = child_back inner_key child same h in
        absurd (no_child_of_vacant old nodes inner_key child was.0 s.inner_vacant was.1 was.2)

    by : Which child → (child ≡ key) ⊎ (child ≡ leaf_key)
    by (is_key e) = inl e
    by (is_leaf e) = inr e
    by (is_parent e) = old_one (subst (StaysInPlace old new) (sym e) parent_in_place)
    by (is_inner e) =
        let here = one_node new inner_key h.0 inner_of (subst (λ k. HasNode new k h.0) e h.1) has_inner in
        absurd (parent_not_inner (same_Some parent inner_key (sym (ap (λ n. n.parent) here) ∙ h.2)))
    by (is_other same x y z) = old_one (ap place_of same)

  -- the leaf has none
  leaf_childless : (child : ℕ) → IsChild new leaf_key child → ⊥
  leaf_childless child h = by (which child) where
    old_one : StaysInPlace old new child → ⊥
    old_one same =
        let was = child_back leaf_key child same h in
        no_child_of_vacant old nodes leaf_key child was.0 s.leaf_vacant was.1 was.2

    by : Which child → ⊥
    by (is_key e) =
        let here = one_node new key h.0 rest_of (subst (λ k. HasNode new k h.0) e h.1) has_rest in
        s.apart (same_Some inner_key leaf_key (sym (ap (λ n. n.parent) here) ∙ h.2))
    by (is_leaf e) =
        let here = one_node new leaf_key h.0 leaf_of (subst (λ k. HasNode new k h.0) e h.1) s.new_leaf in
        s.apart (same_Some inner_key leaf_key (sym (ap (λ n. n.parent) here) ∙ h.2))
    by (is_parent e) = old_one (subst (StaysInPlace old new) (sym e) parent_in_place)
    by (is_inner e) =
        let here = one_node new inner_key h.0 inner_of (subst (λ k. HasNode new k h.0) e h.1) has_inner in
        parent_not_leaf (same_Some parent leaf_key (sym (ap (λ n. n.parent) here) ∙ h.2))
    by (is_other same x y z) = old_one (ap place_of same)

  -- every other node but the parent keeps its children
  keeps : (k : ℕ) (n : Node Term) → HasNode old k n → k ≢ parent → KeepsChildren old new k
  keeps k n has other = keeps_children old new k (λ child. by child (which child)) where
    not_inner : inner_key ≢ k
    not_inner e = vacant_apart old inner_key k n s.inner_vacant has (sym e)

    vacant_no_child : (vacant child : ℕ) → IsVacant old vacant → child ≡ vacant → IsChild old k child → ⊥
    vacant_no_child vacant child none e h = vacant_apart old vacant child h.0 none h.1 e

    by : (child : ℕ) → Which child → StaysInPlace old new child ⊎ ((IsChild old k child → ⊥) × (IsChild new k child → ⊥))
    by child (is_key e) = inr (
      (λ h. (let here = one_node old key h.0 node (subst (λ x. HasNode old x h.0) e h.1) has_key in
          other (same_Some k parent (sym h.2 ∙ ap (λ n. n.parent) here ∙ below)))),
      (λ h. (let here = one_node new key h.0 rest_of (subst (λ x. HasNode new x h.0) e h.1) has_rest in
          not_inner (same_Some inner_key k (sym (ap (λ n. n.parent) here) ∙ h.2)))),
    )
    by child (is_inner e) = inr (
      vacant_no_child inner_key child s.inner_vacant e,
      (λ h. (let here = one_node new inner_key h.0 inner_of (subst (λ x. HasNode new x h.0) e h.1) has_inner in
          other (same_Some k parent (sym h.2 ∙ ap (λ n. n.parent) here)))),
    )
    by child (is_leaf e) = inr (
      vacant_no_child leaf_key child s.leaf_vacant e,
      (λ h. (let here = one_node new leaf_key h.0 leaf_of (subst (λ x. HasNode new x h.0) e h.1) s.new_leaf in
          not_inner (same_Some inner_key k (sym (ap (λ n. n.parent) here) ∙ h.2)))),
    )
    by child (is_parent e) = inl (subst (StaysInPlace old new) (sym e) parent_in_place)
    by child (is_other same x y z) = inl (ap place_of same)

  -- ---- the nodes that were there
  upper_over : Over (Some parent) upper
  upper_over = over (Some parent) upper upper_reached

  abbrev top : Path
  top = upper_over.lifted.path

  same_opened : opened top ≡ opened upper
  same_opened = upper_over.same not_above

  same_term : path_term top ≡ path_term upper
  same_term = upper_over.lifted.lifts.term

  leaf_reached : IsPath new (Some leaf_key) ((leaf_key, leaf_of) ∷ (inner_key, inner_of) ∷ top)
  leaf_reached = (refl, s.new_leaf, (refl, has_inner, upper_over.lifted.reached))

  abbrev leaf_term : Term
  leaf_term = applied (parts.rest_new ++ others) (applied parts.common (path_term upper))

  same_leaf_term : applied (parts.rest_new ++ others) (applied parts.common (path_term top)) ≡ leaf_term
  same_leaf_term = ap (λ t. applied (parts.rest_new ++ others) (applied parts.common t)) same_term

  room : RoomFor old new leaf_term
  room = s.room leaf_term ((leaf_key, leaf_of) ∷ (inner_key, inner_of) ∷ top, leaf_reached, sym same_leaf_term)

  vars : old.vars ≤ new.vars
  vars = room.0

  other_legal : (k : ℕ) (n : Node Term) → HasNode old k n → k ≢ key → k ≢ parent → IsLegalNode new k n
  other_legal k n has a b =
      let h = legal.nodes k n has in
      let q = (over n.parent h.above h.reached).lifted in
      lifted_node old new k n n q.path more vars h q.lifts q.reached refl (λ e. h.only_root e ∙ sym s.root)
      (kept_content old new k ((k, n) ∷ h.above) ((k, n) ∷ q.path) n.content nodes s.root (ap (applied n.bindings) q.lifts.term) (keeps k n has b) h.content)

  -- what the node bound is open above the inner node
  node_open : (n : ℕ) → IsAmong (left_sides node.bindings) n → IsAmong (indicators (path_term top)) n
  node_open n a = subst (λ t. IsAmong (indicators t) n) (sym same_term) (all_at (IsOpenBelow upper) (left_sides node.bindings) n key_binds.lefts a)

  common_open : AllByRecursion (IsAmong (indicators (path_term top))) (left_sides parts.common)
  common_open = all_from (IsAmong (indicators (path_term top))) (left_sides parts.common) (λ n a. node_open n (given.common_left n a))

  -- and below it what it didn't bind, and what it opens
  still_open : (n : ℕ) → IsAmong (indicators (path_term top)) n → (IsAmong (left_sides parts.common) n → ⊥) → IsAmong (indicators (applied parts.common (path_term top))) n
  still_open n a other = is_open parts.common (path_term top) n given.common_distinct common_open (inl (a, other))

  newly_open : (n : ℕ) → IsAmong (right_indicators parts.common) n → IsAmong (indicators (applied parts.common (path_term top))) n
  newly_open n a = is_open parts.common (path_term top) n given.common_distinct common_open (inr a)

  rest_open : (n : ℕ) → IsAmong (left_sides parts.rest_node) n → IsAmong (indicators (applied parts.common (path_term top))) n
  rest_open n a = elim ((given.node_left n).0 a) as (λ _. IsAmong (indicators (applied parts.common (path_term top))) n) [
    | inl h ↦ still_open n (node_open n h.0) h.1
    | inr h ↦ newly_open n h.0
  ]

  -- variables
  within_node : (x : Variable) (b : Binding) → IsAmong node.bindings b → IsAmong (terms.variables b.1) x → IsWithin new x
  within_node x b a v =
      within_more old new x more vars
      (all_at (IsWithin old) (terms.variables b.1) x (all_at (λ c. AllByRecursion (IsWithin old) (terms.variables c.1)) node.bindings b key_binds.within a) v)

  rest_within : AllByRecursion (λ b. AllByRecursion (IsWithin new) (terms.variables b.1)) parts.rest_node
  rest_within =
      all_from (λ b. AllByRecursion (IsWithin new) (terms.variables b.1)) parts.rest_node
      (λ b a. all_from (IsWithin new) (terms.variables b.1) (λ x v. (let c = given.node_variables b x a v in within_node x c.0 c.1 c.2)))

  common_within : AllByRecursion (λ b. AllByRecursion (IsWithin new) (terms.variables b.1)) parts.common
  common_within =
      all_from (λ b. AllByRecursion (IsWithin new) (terms.variables b.1)) parts.common
      (λ b a. all_from (IsWithin new) (terms.variables b.1) (λ x v. by b x a v (given.common_variables b x a v))) where
        by : (b : Binding) (x : Variable) → IsAmong parts.common b → IsAmong (terms.variables b.1) x → IsVariableOf node.bindings x ⊎ IsFreshVariable old.next x → IsWithin new x
        by b x a v (inl c) = within_node x c.0 c.1 c.2
        by b x a v (inr f) =
            let stands : IsAmong (terms.variables b.1) (ind f.0) = subst (IsAmong (terms.variables b.1)) f.2 v in
            let opens = right_among parts.common b f.0 a (indicator_in (terms.variables b.1) f.0 stands) in
            subst (IsWithin new) (sym f.2) (omega (arith, given.fresh_low f.0 opens, s.next))

  rest_legal : IsLegalNode new key rest_of
  rest_legal =
      let lifts = key_lifts upper_over in
      record {
        above = (inner_key, inner_of) ∷ top;
        reached = (refl, has_inner, upper_over.lifted.reached);
        only_root = λ e. absurd (some_parent e);
        binds = record {
          lefts = all_from (IsOpenBelow ((inner_key, inner_of) ∷ top)) (left_sides parts.rest_node) rest_open;
          distinct = given.node_distinct;
          rights = given.node_rights;
          within = rest_within;
        };
        opens = lifts.once key_opens;
        content =
            kept_content old new key ((key, node) ∷ upper) ((key, rest_of) ∷ (inner_key, inner_of) ∷ top) node.content nodes s.root lifts.term (keeps key node has_key key_not_parent)
            (subst (λ a. IsLegalContent old key ((key, node) ∷ a) node.content) key_above key_legal.content);
      } where
        some_parent : ◌≡◌ {A = Option ℕ} (Some inner_key) None → ⊥
        some_parent e = cc

  -- ---- the new leaf's bindings
  leaf_lefts : left_sides (parts.rest_new ++ others) ≡ left_sides parts.rest_new ++ left_sides others
  leaf_lefts = map-append (λ b. b.0) parts.rest_new others

  leaf_distinct : AreDistinct (left_sides (parts.rest_new ++ others))
  leaf_distinct = subst AreDistinct (sym leaf_lefts) (distinct_append (left_sides parts.rest_new) (left_sides others) given.new_distinct may.binds.0 (λ n a b. (
      let other = (may.binds.1 n).0 b in
      elim ((given.new_left n).0 a) as (λ _. ⊥) [
        | inl h ↦ other.1 h.0
        | inr h ↦ open_apart n other.0 h
      ])))

  -- ---- the inner node
  inner_binds : AreLegalBindings new top parts.common
  inner_binds = record {
    lefts = common_open;
    distinct = given.common_distinct;
    rights = given.common_rights;
    within = common_within;
  }

  inner_opens : AreDistinct (opened top ++ right_indicators parts.common)
  inner_opens = subst (λ l. AreDistinct (l ++ right_indicators parts.common)) (sym same_opened) (distinct_append (opened upper) (right_indicators parts.common) apart.0 given.common_once common_apart)

  first_bound : IsAmong parts.rest_node (s.first, s.right)
  first_bound = subst (λ l. IsAmong l (s.first, s.right)) (sym s.first_left) (inl refl)

  key_binds_first : (t : Term) × ChildBinds new key s.first t
  key_binds_first = (s.right, (rest_of, has_rest, first_bound))

  leaf_binds_first : (t : Term) × ChildBinds new leaf_key s.first t
  leaf_binds_first =
      let b = given.rests_differ s.first s.right first_bound in
      (b.0, (leaf_of, s.new_leaf, among_front parts.rest_new others (s.first, b.0) b.1))

  heads_differ : (t u : Term) → ChildBinds new key s.first t → ChildBinds new leaf_key s.first u → same_head t u ≡ false
  heads_differ t u k l =
      let t_among : IsAmong parts.rest_node (s.first, t) = subst (λ n. IsAmong n.bindings (s.first, t)) (one_node new key k.0 rest_of k.1 has_rest) k.2 in
      let u_among : IsAmong (parts.rest_new ++ others) (s.first, u) = subst (λ n. IsAmong n.bindings (s.first, u)) (one_node new leaf_key l.0 leaf_of l.1 s.new_leaf) l.2 in
      let b = given.rests_differ s.first t t_among in
      let same = one_right (parts.rest_new ++ others) s.first b.0 u leaf_distinct (among_front parts.rest_new others (s.first, b.0) b.1) u_among in
      subst (λ x. same_head t x ≡ false) same b.2

  inner_legal : IsLegalNode new inner_key inner_of
  inner_legal = record {
    above = top;
    reached = upper_over.lifted.reached;
    only_root = λ e. absurd (some_parent e);
    binds = inner_binds;
    opens = inner_opens;
    content = (
      rest_open s.first (binding_left parts.rest_node s.first s.right first_bound),
      (λ child. (forth child, back child)),
      differ_from new s.first s.two (differ_permuted new s.first (key ∷ leaf_key ∷ []) s.two s.two_are two_differ),
      (λ no_root. omega (arith, length_permutation (key ∷ leaf_key ∷ []) s.two s.two_are)),
    );
  } where
    some_parent : ◌≡◌ {A = Option ℕ} (Some parent) None → ⊥
    some_parent e = cc

    forth : (child : ℕ) → IsAmong s.two child → IsChild new inner_key child
    forth child a = elim (permuted_among s.two (key ∷ leaf_key ∷ []) child (IsPermutation-sym (key ∷ leaf_key ∷ []) s.two s.two_are) a) as (λ _. IsChild new inner_key child) [
      | inl e ↦ subst (IsChild new inner_key) e (rest_of, has_rest, refl)
      | inr b ↦ elim b as (λ _. IsChild new inner_key child) [
        | inl e ↦ subst (IsChild new inner_key) e (leaf_of, s.new_leaf, refl)
        | inr h ↦ absurd h
      ]
    ]

    back : (child : ℕ) → IsChild new inner_key child → IsAmong s.two child
    back child c = permuted_among (key ∷ leaf_key ∷ []) s.two child s.two_are (elim (inner_child child c) as (λ _. IsAmong (key ∷ leaf_key ∷ []) child) [
      | inl e ↦ inl (sym e)
      | inr e ↦ inr (inl (sym e))
    ])

    nothing_differs : Differ new s.first []
    nothing_differs = record { distinct = tt; each = (λ child a. absurd a); apart = (λ c d t u a b. absurd a) }

    two_differ : Differ new s.first (key ∷ leaf_key ∷ [])
    two_differ = differ_more new s.first key (leaf_key ∷ []) key_binds_first
        (λ child t u a k l. elim a as (λ _. same_head t u ≡ false) [ inl e ↦ heads_differ t u k (subst (λ c. ChildBinds new c s.first u) (sym e) l) | inr h ↦ absurd h ])
        (differ_more new s.first leaf_key [] leaf_binds_first (λ child t u a. absurd a) nothing_differs)

  -- ---- the parent
  upper_legal : IsLegalNode old parent may.parent_node
  upper_legal = legal.nodes parent may.parent_node has_parent

  upper_above : upper_legal.above ≡ may.above
  upper_above = one_path old may.parent_node.parent upper_legal.above may.above upper_legal.reached may.reached.2.2

  upper_content : IsLegalContent old parent ((parent, may.parent_node) ∷ upper_legal.above) (inner linked.split linked.before)
  upper_content = subst (IsLegalContent old parent ((parent, may.parent_node) ∷ upper_legal.above)) was_content upper_legal.content

  upper_differ : Differ old linked.split linked.before
  upper_differ = differ_told old linked.split linked.before nodes upper_content.2

  -- what the inner node binds has the head of what the node bound
  split_head : (t : Term) → ChildBinds new inner_key linked.split t → (a : Term) × ChildBinds old key linked.split a × (same_head t a ≡ true)
  split_head t b =
      let among : IsAmong parts.common (linked.split, t) = subst (λ n. IsAmong n.bindings (linked.split, t)) (one_node new inner_key b.0 inner_of b.1 has_inner) b.2 in
      let h = given.common_heads (linked.split, t) among in
      (h.0, (node, has_key, h.1), same_head_back h.0 t h.2)

  change : ChildrenChange old new parent linked.split (key ∷ []) (inner_key ∷ [])
  change = record {
    came = λ child a. elim a as (λ _. IsChild new parent child) [ inl e ↦ subst (IsChild new parent) e (inner_of, has_inner, refl) | inr h ↦ absurd h ];
    stayed = λ child c gone. child_over old new parent child (old_in_place child c.0 c.1 (λ e. gone (inl (sym e)))) c;
    others = others_were;
    bind = λ child t c gone. (let place = old_in_place child c.0 c.1 (λ e. gone (inl (sym e))) in
        (binding_over old new child linked.split t place, binding_over new old child linked.split t (sym place)));
    differ = λ stay old_ones h. differ_more new linked.split inner_key stay inner_binds_split (heads stay old_ones) h;
  } where
    not_inner : inner_key ≢ parent
    not_inner e = parent_not_inner (sym e)

    others_were : (child : ℕ) → IsChild new parent child → (IsAmong (inner_key ∷ []) child → ⊥) → IsChild old parent child × (IsAmong (key ∷ []) child → ⊥)
    others_were child c none = (child_back parent child (in_place child not_key (λ e. none (inl (sym e))) not_leaf) c, (λ a. elim a as (λ _. ⊥) [ inl e ↦ not_key (sym e) | inr h ↦ h ])) where
      not_key : child ≢ key
      not_key e =
          let here = one_node new key c.0 rest_of (subst (λ k. HasNode new k c.0) e c.1) has_rest in
          not_inner (same_Some inner_key parent (sym (ap (λ n. n.parent) here) ∙ c.2))

      not_leaf : child ≢ leaf_key
      not_leaf e =
          let here = one_node new leaf_key c.0 leaf_of (subst (λ k. HasNode new k c.0) e c.1) s.new_leaf in
          not_inner (same_Some inner_key parent (sym (ap (λ n. n.parent) here) ∙ c.2))

    inner_binds_split : (t : Term) × ChildBinds new inner_key linked.split t
    inner_binds_split = let b = bound_left parts.common linked.split (subst (IsAmong (left_sides parts.common)) same_split may.binds_split) in (b.0, (inner_of, has_inner, b.1))

    heads : (stay : List ℕ) → ((child : ℕ) → IsAmong stay child → IsChild old parent child × (IsAmong (key ∷ []) child → ⊥)) → (child : ℕ) (t u : Term) → IsAmong stay child → ChildBinds new inner_key linked.split t → ChildBinds new child linked.split u → same_head t u ≡ false
    heads stay old_ones child t u a b c =
        let was = old_ones child a in
        let not_key : child ≢ key = λ e. was.1 (inl (sym e)) in
        let place = old_in_place child was.0.0 was.0.1 not_key in
        let h = split_head t b in
        head_apart t h.0 u h.2
        (upper_differ.apart key child h.0 u ((upper_content.1 key).1 (node, has_key, below)) ((upper_content.1 child).1 was.0) (λ e. not_key (sym e)) h.1 (binding_over new old child linked.split u (sym place) c))

  parent_legal : IsLegalNode new parent parent_of
  parent_legal =
      let q = (over may.parent_node.parent upper_legal.above upper_legal.reached).lifted in
      lifted_node old new parent may.parent_node parent_of q.path more vars upper_legal q.lifts q.reached refl (λ e. upper_legal.only_root e ∙ sym s.root)
      (changed_content old new parent linked.split ((parent, may.parent_node) ∷ upper_legal.above) ((parent, parent_of) ∷ q.path) (key ∷ []) (inner_key ∷ []) linked.stay linked.before linked.after nodes
      (ap (applied may.parent_node.bindings) q.lifts.term) linked.before_are linked.after_are change upper_content
      (λ no_root. omega (arith, upper_content.3 (λ e. no_root (e ∙ sym s.root)), length_permutation (key ∷ linked.stay) linked.before linked.before_are, length_permutation (inner_key ∷ linked.stay) linked.after linked.after_are)))

  -- ---- the new leaf
  leaf_binds : BindsExactly (IsOpenBelow ((inner_key, inner_of) ∷ top)) (parts.rest_new ++ others)
  leaf_binds = (leaf_distinct, (λ n. (forth n, back n))) where
    forth : (n : ℕ) → IsAmong (left_sides (parts.rest_new ++ others)) n → IsAmong (indicators (applied parts.common (path_term top))) n
    forth n a =
        elim (among_parts (left_sides parts.rest_new) (left_sides others) n (subst (λ l. IsAmong l n) leaf_lefts a)) as (λ _. IsAmong (indicators (applied parts.common (path_term top))) n) [
          | inl b ↦ elim ((given.new_left n).0 b) as (λ _. IsAmong (indicators (applied parts.common (path_term top))) n) [
            | inl h ↦ still_open n (node_open n h.0) h.1
            | inr h ↦ newly_open n h
          ]
          | inr b ↦ (let other = (may.binds.1 n).0 b in still_open n (subst (λ t. IsAmong (indicators t) n) (sym same_term) other.0) (λ c. other.1 (given.common_left n c)))
        ]

    back : (n : ℕ) → IsAmong (indicators (applied parts.common (path_term top))) n → IsAmong (left_sides (parts.rest_new ++ others)) n
    back n a = subst (λ l. IsAmong l n) (sym leaf_lefts) (by (open_from parts.common (path_term top) n given.common_distinct a)) where
      by : IsOpenAfter parts.common (path_term top) n → IsAmong (left_sides parts.rest_new ++ left_sides others) n
      by (inr h) = among_front (left_sides parts.rest_new) (left_sides others) n ((given.new_left n).1 (inr h))
      by (inl h) = elim (among_or_not (left_sides node.bindings) n) as (λ _. IsAmong (left_sides parts.rest_new ++ left_sides others) n) [
        | inl m ↦ among_front (left_sides parts.rest_new) (left_sides others) n ((given.new_left n).1 (inl (m, h.1)))
        | inr o ↦ among_back (left_sides parts.rest_new) (left_sides others) n ((may.binds.1 n).1 (subst (λ t. IsAmong (indicators t) n) same_term h.0, o))
      ]

  -- where the new leaf hangs, what it binds is open
  pub leaf_open : AreDistinct (left_sides (parts.rest_new ++ others)) × ((n : ℕ) → IsAmong (left_sides (parts.rest_new ++ others)) n → IsAmong (indicators (applied parts.common (path_term ((may.parent, may.parent_node) ∷ may.above)))) n)
  leaf_open = (leaf_binds.0, λ n a. subst (λ t. IsAmong (indicators (applied parts.common t)) n) same_term ((leaf_binds.1 n).0 a))

  leaf_legal : IsLegalNode new leaf_key leaf_of
  leaf_legal =
      new_leaf old new leaf_key inner_key (parts.rest_new ++ others) p ((inner_key, inner_of) ∷ top) (refl, has_inner, upper_over.lifted.reached) inner_opens leaf_binds
      (right-append parts.rest_new others ∙ (λ i. given.new_opens_none i ++ may.opens_none i))
      (subst IsLeafTerm (sym same_leaf_term) may.may_come.leaf_term)
      (subst (RoomFor old new) (sym same_leaf_term) room) leaf_childless

  -- ---- the whole tree
  root_legal : (r : Node Term) × HasNode new new.root r × IsRoot r
  root_legal = root_over old new parent (key ∷ []) (inner_key ∷ []) legal linked s.root (λ differs. by differs (which old.root)) where
    by : old.root ≢ parent → Which old.root → slice_index_or new.nodes old.root None ≡ slice_index_or old.nodes old.root None
    by differs (is_key e) = absurd (root_no_child old legal key parent node has_key below e)
    by differs (is_parent e) = absurd (differs e)
    by differs (is_inner e) = absurd (vacant_apart old inner_key old.root legal.root.0 s.inner_vacant legal.root.1 e)
    by differs (is_leaf e) = absurd (vacant_apart old leaf_key old.root legal.root.0 s.leaf_vacant legal.root.1 e)
    by differs (is_other same x y z) = same

  new_nodes : HasLegalNodes new
  new_nodes = record { root = root_legal; nodes = λ k n has. by k n has (which k) } where
    by : (k : ℕ) (n : Node Term) → HasNode new k n → Which k → IsLegalNode new k n
    by k n has (is_key e) = legal_at new k key n rest_of has e has_rest rest_legal
    by k n has (is_parent e) = legal_at new k parent n parent_of has e has_new_parent parent_legal
    by k n has (is_inner e) = legal_at new k inner_key n inner_of has e has_inner inner_legal
    by k n has (is_leaf e) = legal_at new k leaf_key n leaf_of has e s.new_leaf leaf_legal
    by k n has (is_other same x y z) = other_legal k n (sym same ∙ has) x y

  -- each leaf stays, with or without postings
  pub other_leaves_stay : OtherLeavesStay old new leaf_key
  other_leaves_stay k other = by (which k) where
    by : Which k → LeafStays old new k
    by (is_key e) = subst (LeafStays old new) (sym e)
        (leaf_stays old new key node rest_of ((key, node) ∷ upper) ((key, rest_of) ∷ (inner_key, inner_of) ∷ top) has_key has_rest may.reached (refl, has_rest, (refl, has_inner, upper_over.lifted.reached)) refl (key_lifts upper_over).term)
    by (is_parent e) = subst (LeafStays old new) (sym e) (no_leaf_linked old new parent (key ∷ []) (inner_key ∷ []) linked)
    by (is_inner e) = subst (LeafStays old new) (sym e)
        (no_leaf_stays old new inner_key (λ t ps. no_leaf_vacant old inner_key t ps s.inner_vacant) (λ t ps. no_leaf_here new inner_key inner_of s.first s.two t ps has_inner refl))
    by (is_leaf e) = absurd (other e)
    by (is_other same x y z) = leaf_stays_lifted old new nodes k same (λ q reached. (over (Some k) q reached).lifted)

  -- A node of a legal tree is split: the tree stays legal, and gains the posting under the new
  -- leaf's term. Every other posting stays in its leaf.
  pub splits_node : IsLegal new × Gains old new leaf_term p × KeepsLeaves old new
  splits_node =
      gains_leaf old new leaf_key leaf_term p legal new_nodes s.leaf_vacant other_leaves_stay
      (record { node = leaf_of; above = (inner_key, inner_of) ∷ top; reached = leaf_reached; content = refl; term = sym same_leaf_term })
      may.may_come room more

  pub splits_term : IsTermAt new leaf_key leaf_term
  splits_term = ((leaf_key, leaf_of) ∷ (inner_key, inner_of) ∷ top, leaf_reached, sym same_leaf_term)
