-- A legal tree stays legal where a leaf goes and its parent is joined with the other child.
use Rattle.std.proofs.Common.{◌≡◌, ◌≢◌, ◌⊎◌, inl, inr, ℕ, ◌<◌, ◌≤◌, true, false, List, [], ◌∷◌, ◌++◌, Option, None, Some, slice_index_or, refl, ap, sym, ◌∙◌, subst, arith, append_assoc}
use Rattle.std.specs.List.{AllByRecursion}
use Rattle.std.proofs.lemmas.Bool.Decides.{eqb_tells}
use Rattle.std.proofs.lemmas.List.Sorted.{length_permutation, IsPermutation-sym}
use Rattle.std.proofs.lemmas.Option.{same_Some}
use Rattle.si_defs.specs.Terms as terms
use Rattle.si_defs.specs.Substitutions.{image, IsAmong, AreDistinct}
use Rattle.si_defs.proofs.ListLaws.{all_at, all_from, among_front, among_back, among_parts}
use Rattle.si_flat.specs.Cells.{Variable, same_variable, Term}
use Rattle.si_flat.specs.Rows.{left_sides}
use Rattle.si_flat.proofs.RowLaws.{distinct_append, distinct_parts}
use Rattle.si_legal.specs.Bindings.{Binding, substitution_of, composed, indicators, IsIndicator, right_indicators, applied}
use Rattle.si_legal.specs.Generalizations.{same_head}
use Rattle.si_legal.specs.Trees.{inner, Node, Tree, HasNode, Path, IsPath, PassesBy, path_term, opened}
use Rattle.si_legal.specs.Legal.{IsOpenBelow, OpensOnce, IsWithin, AreLegalBindings, ChildBinds, IsLegalContent, IsLegalNode, IsLegal, IsRoot}
use Rattle.si_legal.specs.StoredSets.{StaysStored, KeepsLeaves}
use Rattle.si_legal.proofs.PathLaws.{one_node, one_path}
use Rattle.si_changes.specs.Nodes.{IsVacant, with_content, ChangesChildren}
use Rattle.si_changes.specs.Joins.{MayJoin, Joins}
use Rattle.si_changes.proofs.Permuted.{permuted_among, permuted_distinct}
use Rattle.si_changes.proofs.HeadLaws.{same_head_self, head_stays, image_keeps, head_apart}
use Rattle.si_changes.proofs.Frames.{HasLegalNodes, legal_nodes, legal_at, Lifted, lifted_step, low_rights, within_more, Lifts, lifts_nil, lifted_node, IsChild, one_right, Differ, differ_more, differ_told, place_of, StaysInPlace, child_over, binding_over, KeepsChildren, keeps_children, kept_content, ChildrenChange, changed_content}
use Rattle.si_changes.proofs.ComposeLaws.{open_from, composed_applied, composed_lefts, composed_opens, composed_once, carried, carried_among, among_carried, unused, unused_is, unused_left, distinct_unused, applied_from, not_bare}
use Rattle.si_changes.proofs.OpenLaws.{vacant_apart, passes_start, no_return, root_no_child, open_opened}
use Rattle.si_changes.proofs.StoredLaws.{LeafStays, OtherLeavesStay, leaf_stays, leaf_stays_lifted, no_leaf_stays, no_leaf_linked, no_leaf_here, no_leaf_vacant, inner_no_leaf}
use Rattle.si_changes.proofs.Heads.{childless, only_start}
use Rattle.si_changes.proofs.Relinked.{root_over}
use Rattle.si_changes.proofs.OneLeafLaws.{loses_leaf}

module _ (old new : Tree Term) (key other : ℕ) (legal : IsLegal old) (may : MayJoin old key other) (joins : Joins old new key other) where
  -- ---- the nodes
  nodes : HasLegalNodes old
  nodes = legal_nodes old legal

  abbrev parent : ℕ
  parent = may.stands.parent

  abbrev above : ℕ
  above = joins.above

  -- the bindings of the two nodes that are joined
  abbrev first : List Binding
  first = may.stands.parent_node.bindings

  abbrev second : List Binding
  second = joins.other_node.bindings

  parent_legal : IsLegalNode old parent may.stands.parent_node
  parent_legal = legal.nodes parent may.stands.parent_node may.stands.is_parent

  abbrev upper : Path
  upper = parent_legal.above

  parent_content : IsLegalContent old parent ((parent, may.stands.parent_node) ∷ upper) (inner may.stands.split may.stands.children)
  parent_content = subst (IsLegalContent old parent ((parent, may.stands.parent_node) ∷ upper)) may.stands.inner_node parent_legal.content

  other_child : IsChild old parent other
  other_child = (parent_content.1 other).0 (permuted_among (key ∷ other ∷ []) may.stands.children other may.two (inr (inl refl)))

  other_below : joins.other_node.parent ≡ Some parent
  other_below = ap (λ n. n.parent) (sym (one_node old other other_child.0 joins.other_node other_child.1 joins.was_below)) ∙ other_child.2

  same_parent : joins.parent ≡ parent
  same_parent = same_Some joins.parent parent (sym joins.child_of ∙ other_below)

  same_node : joins.parent_node ≡ may.stands.parent_node
  same_node = one_node old parent joins.parent_node may.stands.parent_node (subst (λ k. HasNode old k joins.parent_node) same_parent joins.was_parent) may.stands.is_parent

  below_above : may.stands.parent_node.parent ≡ Some above
  below_above = ap (λ n. n.parent) (sym same_node) ∙ joins.below_parent

  abbrev joined_of : Node Term
  joined_of = record { parent = Some above; bindings = composed first second; content = joins.other_node.content }

  has_joined : HasNode new other joined_of
  has_joined = subst (λ n. HasNode new other (record { parent = Some above; bindings = composed n.bindings second; content = joins.other_node.content })) same_node joins.joined

  parent_gone : IsVacant new parent
  parent_gone = subst (IsVacant new) same_parent joins.parent_gone

  linked : ChangesChildren old new above (parent ∷ []) (other ∷ [])
  linked = subst (λ k. ChangesChildren old new above (k ∷ []) (other ∷ [])) same_parent joins.linked

  abbrev above_of : Node Term
  above_of = with_content linked.node (inner linked.split linked.after)

  -- ---- the paths down to the other child
  upper_reached : IsPath old (Some above) upper
  upper_reached = subst (λ k. IsPath old k upper) below_above parent_legal.reached

  parent_reached : IsPath old (Some parent) ((parent, may.stands.parent_node) ∷ upper)
  parent_reached = (refl, may.stands.is_parent, parent_legal.reached)

  other_reached : IsPath old (Some other) ((other, joins.other_node) ∷ (parent, may.stands.parent_node) ∷ upper)
  other_reached = (refl, joins.was_below, subst (λ k. IsPath old k ((parent, may.stands.parent_node) ∷ upper)) (sym other_below) parent_reached)

  upper_starts : PassesBy upper above
  upper_starts = passes_start old above upper upper_reached

  above_not_parent : above ≢ parent
  above_not_parent e = no_return old parent may.stands.parent_node upper parent_reached (subst (PassesBy upper) e upper_starts)

  above_not_other : above ≢ other
  above_not_other e = no_return old other joins.other_node ((parent, may.stands.parent_node) ∷ upper) other_reached (inr (subst (PassesBy upper) e upper_starts))

  other_not_parent : other ≢ parent
  other_not_parent e = no_return old other joins.other_node ((parent, may.stands.parent_node) ∷ upper) other_reached (inl (sym e))

  -- an inner node isn't the leaf
  inner_not_key : (k split : ℕ) (n : Node Term) (children : List ℕ) → HasNode old k n → n.content ≡ inner split children → k ≢ key
  inner_not_key k split n children has is e =
      inner_no_leaf split children [] (sym is ∙ ap (λ m. m.content) (one_node old key n may.stands.node (subst (λ j. HasNode old j n) e has) may.stands.has) ∙ may.empty)

  parent_not_key : parent ≢ key
  parent_not_key = inner_not_key parent may.stands.split may.stands.parent_node may.stands.children may.stands.is_parent may.stands.inner_node

  above_not_key : above ≢ key
  above_not_key = inner_not_key above linked.split linked.node linked.before linked.had linked.content

  other_not_key : other ≢ key
  other_not_key e = (permuted_distinct may.stands.children (key ∷ other ∷ []) (IsPermutation-sym (key ∷ other ∷ []) may.stands.children may.two) (differ_told old may.stands.split may.stands.children nodes parent_content.2).distinct).0 (inl e)

  -- Which of the keys this is. The nodes of all others stay.
  data Which (k : ℕ) : Type 0 where
    is_key : k ≡ key → Which k
    is_parent : k ≡ parent → Which k
    is_joined : k ≡ other → Which k
    is_above : k ≡ above → Which k
    is_rest : slice_index_or new.nodes k None ≡ slice_index_or old.nodes k None → k ≢ parent → k ≢ other → k ≢ above → Which k

  which : (k : ℕ) → Which k
  which k = elim (eqb_tells k key) as (λ _. Which k) [
    | inl a ↦ is_key a.1
    | inr a ↦ elim (eqb_tells k parent) as (λ _. Which k) [
      | inl b ↦ is_parent b.1
      | inr b ↦ elim (eqb_tells k other) as (λ _. Which k) [
        | inl c ↦ is_joined c.1
        | inr c ↦ elim (eqb_tells k above) as (λ _. Which k) [
          | inl d ↦ is_above d.1
          | inr d ↦ is_rest (joins.others k (none a.1 b.1 c.1 d.1)) b.1 c.1 d.1
        ]
      ]
    ]
  ] where
    none : k ≢ key → k ≢ parent → k ≢ other → k ≢ above → IsAmong (key ∷ joins.parent ∷ other ∷ above ∷ []) k → ⊥
    none a b c d (inl e) = a (sym e)
    none a b c d (inr (inl e)) = b (sym e ∙ same_parent)
    none a b c d (inr (inr (inl e))) = c (sym e)
    none a b c d (inr (inr (inr (inl e)))) = d (sym e)
    none a b c d (inr (inr (inr (inr h)))) = h

  above_in_place : StaysInPlace old new above
  above_in_place = ap place_of linked.has ∙ sym (ap place_of linked.had)

  in_place : (k : ℕ) → k ≢ key → k ≢ parent → k ≢ other → StaysInPlace old new k
  in_place k a b c = by (which k) where
    by : Which k → StaysInPlace old new k
    by (is_key e) = absurd (a e)
    by (is_parent e) = absurd (b e)
    by (is_joined e) = absurd (c e)
    by (is_above e) = subst (StaysInPlace old new) (sym e) above_in_place
    by (is_rest same x y z) = ap place_of same

  -- ---- what is open and opened
  other_legal : IsLegalNode old other joins.other_node
  other_legal = legal.nodes other joins.other_node joins.was_below

  other_above : other_legal.above ≡ (parent, may.stands.parent_node) ∷ upper
  other_above = one_path old joins.other_node.parent other_legal.above ((parent, may.stands.parent_node) ∷ upper) other_legal.reached other_reached.2

  other_binds : AreLegalBindings old ((parent, may.stands.parent_node) ∷ upper) second
  other_binds = subst (λ a. AreLegalBindings old a second) other_above other_legal.binds

  abbrev rights : List ℕ
  rights = right_indicators first ++ right_indicators second

  other_opens : AreDistinct ((opened upper ++ right_indicators first) ++ right_indicators second)
  other_opens = subst (λ a. OpensOnce ((other, joins.other_node) ∷ a)) other_above other_legal.opens

  apart : AreDistinct (opened upper) × AreDistinct rights × ((n : ℕ) → IsAmong (opened upper) n → IsAmong rights n → ⊥)
  apart = distinct_parts (opened upper) rights (subst AreDistinct (append_assoc (opened upper) (right_indicators first) (right_indicators second)) other_opens)

  -- what the parent opens isn't open above it
  open_apart : (n : ℕ) → IsAmong (indicators (path_term upper)) n → IsAmong (right_indicators first) n → ⊥
  open_apart n a b = apart.2 n (open_opened old nodes (Some above) upper upper_reached n a) (among_front (right_indicators first) (right_indicators second) n b)

  rights_low : (n : ℕ) → IsAmong rights n → n < old.next
  rights_low n a = elim (among_parts (right_indicators first) (right_indicators second) n a) as (λ _. n < old.next) [
    | inl b ↦ all_at (λ m. m < old.next) (right_indicators first) n (low_rights old first parent_legal.binds.within) b
    | inr b ↦ all_at (λ m. m < old.next) (right_indicators second) n (low_rights old second other_binds.within) b
  ]

  joined_rights : (n : ℕ) → IsAmong (right_indicators (composed first second)) n → IsAmong rights n
  joined_rights n a = elim (composed_opens first second n other_binds.distinct a) as (λ _. IsAmong rights n) [
    | inl b ↦ among_front (right_indicators first) (right_indicators second) n b
    | inr b ↦ among_back (right_indicators first) (right_indicators second) n b
  ]

  -- ---- paths
  -- a path that passes by none of the three
  over_beside : (from : Option ℕ) (q : Path) → IsPath old from q → (PassesBy q key → ⊥) → (PassesBy q parent → ⊥) → (PassesBy q other → ⊥) → Lifted old new from q
  over_beside from [] reached a b c = record { path = []; reached = reached; lifts = lifts_nil old.next }
  over_beside from (step ∷ q) reached a b c =
      lifted_step old new nodes from step q reached (in_place step.0 (λ e. a (inl e)) (λ e. b (inl e)) (λ e. c (inl e)))
      (over_beside step.1.parent q reached.2 (λ h. a (inr h)) (λ h. b (inr h)) (λ h. c (inr h)))

  upper_over : Lifted old new (Some above) upper
  upper_over = over_beside (Some above) upper upper_reached
      (λ h. above_not_key (only_start old nodes above key may.stands.node upper [] upper_reached may.stands.has may.empty h))
      (no_return old parent may.stands.parent_node upper parent_reached)
      (λ h. no_return old other joins.other_node ((parent, may.stands.parent_node) ∷ upper) other_reached (inr h))

  abbrev top : Path
  top = upper_over.path

  abbrev all : List ℕ
  all = (opened upper ++ right_indicators first) ++ right_indicators second

  joined_lifts : Lifts old.next ((other, joins.other_node) ∷ (parent, may.stands.parent_node) ∷ upper) ((other, joined_of) ∷ top)
  joined_lifts = record {
    term = ap (applied (composed first second)) upper_over.lifts.term ∙ sym (composed_applied first second (path_term upper) open_apart);
    opens = there;
    once = λ h. distinct_append (opened top) (right_indicators (composed first second)) (upper_over.lifts.once apart.0) (composed_once first second other_binds.distinct apart.1) meet;
  } where
    in_all : (n : ℕ) → IsAmong (opened upper ++ rights) n → IsAmong all n
    in_all n a = subst (λ l. IsAmong l n) (sym (append_assoc (opened upper) (right_indicators first) (right_indicators second))) a

    there : (n : ℕ) → IsAmong (opened top ++ right_indicators (composed first second)) n → IsAmong all n ⊎ (old.next ≤ n)
    there n a = elim (among_parts (opened top) (right_indicators (composed first second)) n a) as (λ _. IsAmong all n ⊎ (old.next ≤ n)) [
      | inl b ↦ elim (upper_over.lifts.opens n b) as (λ _. IsAmong all n ⊎ (old.next ≤ n)) [
        | inl c ↦ inl (in_all n (among_front (opened upper) rights n c))
        | inr c ↦ inr c
      ]
      | inr b ↦ inl (in_all n (among_back (opened upper) rights n (joined_rights n b)))
    ]

    meet : (n : ℕ) → IsAmong (opened top) n → IsAmong (right_indicators (composed first second)) n → ⊥
    meet n a b = elim (upper_over.lifts.opens n a) as (λ _. ⊥) [
      | inl c ↦ apart.2 n c (joined_rights n b)
      | inr c ↦ omega (arith, c, rights_low n (joined_rights n b))
    ]

  joined_reached : IsPath new (Some other) ((other, joined_of) ∷ top)
  joined_reached = (refl, has_joined, upper_over.reached)

  over_here : (from : Option ℕ) (step : ℕ × Node Term) (q : Path) → IsPath old from (step ∷ q) → step.0 ≡ other → Lifted old new from (step ∷ q)
  over_here from step q reached e =
      let from_other : from ≡ Some other = reached.0 ∙ ap Some e in
      let same : (other, joins.other_node) ∷ (parent, may.stands.parent_node) ∷ upper ≡ step ∷ q = one_path old (Some other) ((other, joins.other_node) ∷ (parent, may.stands.parent_node) ∷ upper) (step ∷ q) other_reached (subst (λ k. IsPath old k (step ∷ q)) from_other reached) in
      let it : Lifted old new (Some other) ((other, joins.other_node) ∷ (parent, may.stands.parent_node) ∷ upper) = record { path = (other, joined_of) ∷ top; reached = joined_reached; lifts = joined_lifts } in
      subst (λ k. Lifted old new k (step ∷ q)) (sym from_other) (subst (Lifted old new (Some other)) same it)

  -- only the leaf and the other child stand below the parent
  below_parent : (k : ℕ) → IsChild old parent k → (k ≡ key) ⊎ (k ≡ other)
  below_parent k c = elim (permuted_among may.stands.children (key ∷ other ∷ []) k (IsPermutation-sym (key ∷ other ∷ []) may.stands.children may.two) ((parent_content.1 k).1 c)) as (λ _. (k ≡ key) ⊎ (k ≡ other)) [
    | inl e ↦ inl (sym e)
    | inr b ↦ elim b as (λ _. (k ≡ key) ⊎ (k ≡ other)) [ inl e ↦ inr (sym e) | inr h ↦ absurd h ]
  ]

  over : (from : Option ℕ) (q : Path) → IsPath old from q → (from ≡ Some key → ⊥) → (from ≡ Some parent → ⊥) → Lifted old new from q
  over from [] reached a b = record { path = []; reached = reached; lifts = lifts_nil old.next }
  over from (step ∷ q) reached a b =
      let not_key : step.0 ≢ key = λ e. a (reached.0 ∙ ap Some e) in
      let not_parent : step.0 ≢ parent = λ e. b (reached.0 ∙ ap Some e) in
      elim (eqb_tells step.0 other) as (λ _. Lifted old new from (step ∷ q)) [
        | inl e ↦ over_here from step q reached e.1
        | inr e ↦ lifted_step old new nodes from step q reached (in_place step.0 not_key not_parent e.1)
            (over step.1.parent q reached.2
            (λ f. childless old nodes key step.0 may.stands.node [] may.stands.has may.empty (step.1, reached.1, f))
            (λ f. elim (below_parent step.0 (step.1, reached.1, f)) as (λ _. ⊥) [ inl g ↦ not_key g | inr g ↦ e.1 g ]))
      ]

  -- ---- children
  vacant_has_none : (k : ℕ) (n : Node Term) → IsVacant new k → HasNode new k n → ⊥
  vacant_has_none k n gone has = vacant_apart new k k n gone has refl

  -- a child that has gone stands nowhere
  gone_child : (k child at : ℕ) → IsVacant new at → child ≡ at → IsChild new k child → ⊥
  gone_child k child at gone e h = vacant_has_none at h.0 gone (subst (λ j. HasNode new j h.0) e h.1)

  -- a child with this key has the parent of its node
  parent_told : (tree : Tree Term) (k child at : ℕ) (n : Node Term) → HasNode tree at n → child ≡ at → IsChild tree k child → n.parent ≡ Some k
  parent_told tree k child at n has e h = ap (λ m. m.parent) (one_node tree at n h.0 has (subst (λ j. HasNode tree j h.0) e h.1)) ∙ h.2

  -- every other node but the two parents keeps its children
  keeps : (k : ℕ) → k ≢ parent → k ≢ above → KeepsChildren old new k
  keeps k a b = keeps_children old new k (λ child. by child (which child)) where
    by : (child : ℕ) → Which child → StaysInPlace old new child ⊎ ((IsChild old k child → ⊥) × (IsChild new k child → ⊥))
    by child (is_key e) = inr (
      (λ h. a (same_Some k parent (sym (parent_told old k child key may.stands.node may.stands.has e h) ∙ may.stands.below))),
      gone_child k child key joins.gone e,
    )
    by child (is_parent e) = inr (
      (λ h. b (same_Some k above (sym (parent_told old k child parent may.stands.parent_node may.stands.is_parent e h) ∙ below_above))),
      gone_child k child parent parent_gone e,
    )
    by child (is_joined e) = inr (
      (λ h. a (same_Some k parent (sym (parent_told old k child other joins.other_node joins.was_below e h) ∙ other_below))),
      (λ h. b (same_Some k above (sym (parent_told new k child other joined_of has_joined e h)))),
    )
    by child (is_above e) = inl (subst (StaysInPlace old new) (sym e) above_in_place)
    by child (is_rest same x y z) = inl (ap place_of same)

  -- ---- the nodes that were there
  more : old.next ≤ new.next
  more = omega (arith, joins.next)

  vars : old.vars ≤ new.vars
  vars = omega (arith, joins.vars)

  -- the node's parent is none of the two that go
  parent_stays : (k : ℕ) (n : Node Term) → HasNode old k n → k ≢ key → k ≢ other → (n.parent ≡ Some key → ⊥) × (n.parent ≡ Some parent → ⊥)
  parent_stays k n has a c = (
    (λ e. childless old nodes key k may.stands.node [] may.stands.has may.empty (n, has, e)),
    (λ e. elim (below_parent k (n, has, e)) as (λ _. ⊥) [ inl f ↦ a f | inr f ↦ c f ]),
  )

  rest_legal : (k : ℕ) (n : Node Term) → HasNode old k n → k ≢ key → k ≢ parent → k ≢ other → k ≢ above → IsLegalNode new k n
  rest_legal k n has a b c d =
      let h = legal.nodes k n has in
      let up = parent_stays k n has a c in
      let q = over n.parent h.above h.reached up.0 up.1 in
      lifted_node old new k n n q.path more vars h q.lifts q.reached refl (λ e. h.only_root e ∙ sym joins.root)
      (kept_content old new k ((k, n) ∷ h.above) ((k, n) ∷ q.path) n.content nodes joins.root (ap (applied n.bindings) q.lifts.term) (keeps k b d) h.content)

  -- ---- the joined node
  same_term : path_term top ≡ path_term upper
  same_term = upper_over.lifts.term

  first_open : (n : ℕ) → IsAmong (left_sides first) n → IsAmong (indicators (path_term top)) n
  first_open n a = subst (λ t. IsAmong (indicators t) n) (sym same_term) (all_at (IsOpenBelow upper) (left_sides first) n parent_legal.binds.lefts a)

  -- what the second list binds besides was open above the first
  abbrev besides : List Binding
  besides = unused (right_indicators first) second

  besides_open : (n : ℕ) → IsAmong (left_sides besides) n → IsAmong (indicators (path_term upper)) n × (IsAmong (left_sides first) n → ⊥)
  besides_open n a =
      let left = unused_left (right_indicators first) second n a in
      elim (open_from first (path_term upper) n parent_legal.binds.distinct (all_at (IsOpenBelow ((parent, may.stands.parent_node) ∷ upper)) (left_sides second) n other_binds.lefts left.0)) as (λ _. IsAmong (indicators (path_term upper)) n × (IsAmong (left_sides first) n → ⊥)) [
        | inl h ↦ h
        | inr h ↦ absurd (left.1 h)
      ]

  joined_lefts : (n : ℕ) → IsAmong (left_sides (composed first second)) n → IsAmong (indicators (path_term top)) n
  joined_lefts n a = elim (among_parts (left_sides first) (left_sides besides) n (subst (λ l. IsAmong l n) (composed_lefts first second) a)) as (λ _. IsAmong (indicators (path_term top)) n) [
    | inl b ↦ first_open n b
    | inr b ↦ subst (λ t. IsAmong (indicators t) n) (sym same_term) (besides_open n b).0
  ]

  joined_distinct : AreDistinct (left_sides (composed first second))
  joined_distinct =
      subst AreDistinct (sym (composed_lefts first second))
      (distinct_append (left_sides first) (left_sides besides) parent_legal.binds.distinct (distinct_unused (right_indicators first) second other_binds.distinct) (λ n a b. (besides_open n b).1 a))

  -- a binding of the joined node is one of the first list, with the second applied, or one of the
  -- second
  joined_from : (b : Binding) → IsAmong (composed first second) b → ((c : Binding) × IsAmong first c × (applied second c.1 ≡ b.1)) ⊎ IsAmong second b
  joined_from b a = elim (among_parts (carried first second) besides b a) as (λ _. ((c : Binding) × IsAmong first c × (applied second c.1 ≡ b.1)) ⊎ IsAmong second b) [
    | inl h ↦ inl (among_carried first second b h)
    | inr h ↦ inr (unused_is (right_indicators first) second b h).0
  ]

  joined_plain : (b : Binding) → IsAmong (composed first second) b → IsIndicator b.1 → ⊥
  joined_plain b a = elim (joined_from b a) as (λ _. IsIndicator b.1 → ⊥) [
    | inl c ↦ subst (λ t. IsIndicator t → ⊥) c.2 (not_bare second c.0.1 (all_at (λ d. IsIndicator d.1 → ⊥) first c.0 parent_legal.binds.rights c.1))
    | inr h ↦ all_at (λ d. IsIndicator d.1 → ⊥) second b other_binds.rights h
  ]

  within_old : (bs : List Binding) → AllByRecursion (λ b. AllByRecursion (IsWithin old) (terms.variables b.1)) bs → (b : Binding) (x : Variable) → IsAmong bs b → IsAmong (terms.variables b.1) x → IsWithin new x
  within_old bs h b x a v =
      within_more old new x more vars
      (all_at (IsWithin old) (terms.variables b.1) x (all_at (λ c. AllByRecursion (IsWithin old) (terms.variables c.1)) bs b h a) v)

  joined_within : (b : Binding) (x : Variable) → IsAmong (composed first second) b → IsAmong (terms.variables b.1) x → IsWithin new x
  joined_within b x a v = elim (joined_from b a) as (λ _. IsWithin new x) [
    | inl c ↦ elim (applied_from second c.0.1 x other_binds.distinct (subst (λ t. IsAmong (terms.variables t) x) (sym c.2) v)) as (λ _. IsWithin new x) [
      | inl w ↦ within_old first parent_legal.binds.within c.0 x c.1 w
      | inr d ↦ within_old second other_binds.within d.0 x d.1 d.2
    ]
    | inr h ↦ within_old second other_binds.within b x h v
  ]

  joined_legal : IsLegalNode new other joined_of
  joined_legal = record {
    above = top;
    reached = upper_over.reached;
    only_root = λ e. absurd (some_parent e);
    binds = record {
      lefts = all_from (IsOpenBelow top) (left_sides (composed first second)) joined_lefts;
      distinct = joined_distinct;
      rights = all_from (λ b. IsIndicator b.1 → ⊥) (composed first second) joined_plain;
      within = all_from (λ b. AllByRecursion (IsWithin new) (terms.variables b.1)) (composed first second) (λ b a. all_from (IsWithin new) (terms.variables b.1) (λ x v. joined_within b x a v));
    };
    opens = joined_lifts.once other_opens;
    content =
        kept_content old new other ((other, joins.other_node) ∷ (parent, may.stands.parent_node) ∷ upper) ((other, joined_of) ∷ top) joins.other_node.content nodes joins.root joined_lifts.term
        (keeps other other_not_parent (λ e. above_not_other (sym e)))
        (subst (λ a. IsLegalContent old other ((other, joins.other_node) ∷ a) joins.other_node.content) other_above other_legal.content);
  } where
    some_parent : ◌≡◌ {A = Option ℕ} (Some above) None → ⊥
    some_parent e = cc

  -- ---- the node above
  above_legal : IsLegalNode old above linked.node
  above_legal = legal.nodes above linked.node linked.had

  above_content : IsLegalContent old above ((above, linked.node) ∷ above_legal.above) (inner linked.split linked.before)
  above_content = subst (IsLegalContent old above ((above, linked.node) ∷ above_legal.above)) linked.content above_legal.content

  above_differ : Differ old linked.split linked.before
  above_differ = differ_told old linked.split linked.before nodes above_content.2

  parent_among : IsAmong linked.before parent
  parent_among = (above_content.1 parent).1 (may.stands.parent_node, may.stands.is_parent, below_above)

  -- what the parent bound the split to
  split_right : (a : Term) × IsAmong first (linked.split, a)
  split_right =
      let b = above_differ.each parent parent_among in
      (b.0, subst (λ n. IsAmong n.bindings (linked.split, b.0)) (one_node old parent b.1.0 may.stands.parent_node b.1.1 may.stands.is_parent) b.1.2)

  split_joined : IsAmong (composed first second) (linked.split, applied second split_right.0)
  split_joined = among_front (carried first second) besides (linked.split, applied second split_right.0) (carried_among first second linked.split split_right.0 split_right.1)

  split_head : (t : Term) → ChildBinds new other linked.split t → same_head t split_right.0 ≡ true
  split_head t b =
      let there : IsAmong (composed first second) (linked.split, t) = subst (λ n. IsAmong n.bindings (linked.split, t)) (one_node new other b.0 joined_of b.1 has_joined) b.2 in
      let plain = all_at (λ d. IsIndicator d.1 → ⊥) first (linked.split, split_right.0) parent_legal.binds.rights split_right.1 in
      subst (λ u. same_head u split_right.0 ≡ true) (one_right (composed first second) linked.split (applied second split_right.0) t joined_distinct split_joined there)
      (head_stays (image same_variable (substitution_of second)) split_right.0 split_right.0 (image_keeps second) plain (same_head_self split_right.0))

  -- the other children of the node above stay in their places
  beside : (child : ℕ) → IsChild old above child → child ≢ parent → StaysInPlace old new child
  beside child c differs = in_place child not_key differs not_other where
    not_key : child ≢ key
    not_key e = above_not_parent (same_Some above parent (sym (parent_told old above child key may.stands.node may.stands.has e c) ∙ may.stands.below))

    not_other : child ≢ other
    not_other e = above_not_parent (same_Some above parent (sym (parent_told old above child other joins.other_node joins.was_below e c) ∙ other_below))

  change : ChildrenChange old new above linked.split (parent ∷ []) (other ∷ [])
  change = record {
    came = λ child a. elim a as (λ _. IsChild new above child) [ inl e ↦ subst (IsChild new above) e (joined_of, has_joined, refl) | inr h ↦ absurd h ];
    stayed = λ child c gone. child_over old new above child (beside child c (λ e. gone (inl (sym e)))) c;
    others = others_were;
    bind = λ child t c gone. (let place = beside child c (λ e. gone (inl (sym e))) in
        (binding_over old new child linked.split t place, binding_over new old child linked.split t (sym place)));
    differ = λ stay old_ones h. differ_more new linked.split other stay (applied second split_right.0, (joined_of, has_joined, split_joined)) (heads stay old_ones) h;
  } where
    others_were : (child : ℕ) → IsChild new above child → (IsAmong (other ∷ []) child → ⊥) → IsChild old above child × (IsAmong (parent ∷ []) child → ⊥)
    others_were child c none = (
      child_over new old above child (sym (in_place child (λ e. gone_child above child key joins.gone e c) (λ e. gone_child above child parent parent_gone e c) (λ e. none (inl (sym e))))) c,
      (λ a. elim a as (λ _. ⊥) [ inl e ↦ gone_child above child parent parent_gone (sym e) c | inr h ↦ h ]),
    )

    heads : (stay : List ℕ) → ((child : ℕ) → IsAmong stay child → IsChild old above child × (IsAmong (parent ∷ []) child → ⊥)) → (child : ℕ) (t u : Term) → IsAmong stay child → ChildBinds new other linked.split t → ChildBinds new child linked.split u → same_head t u ≡ false
    heads stay old_ones child t u a b c =
        let was = old_ones child a in
        let differs : child ≢ parent = λ e. was.1 (inl (sym e)) in
        let place = beside child was.0 differs in
        head_apart t split_right.0 u (split_head t b)
        (above_differ.apart parent child split_right.0 u parent_among ((above_content.1 child).1 was.0) (λ e. differs (sym e)) (may.stands.parent_node, may.stands.is_parent, split_right.1) (binding_over new old child linked.split u (sym place) c))

  new_above_legal : IsLegalNode new above above_of
  new_above_legal =
      let up = parent_stays above linked.node linked.had above_not_key above_not_other in
      let q = over linked.node.parent above_legal.above above_legal.reached up.0 up.1 in
      lifted_node old new above linked.node above_of q.path more vars above_legal q.lifts q.reached refl (λ e. above_legal.only_root e ∙ sym joins.root)
      (changed_content old new above linked.split ((above, linked.node) ∷ above_legal.above) ((above, above_of) ∷ q.path) (parent ∷ []) (other ∷ []) linked.stay linked.before linked.after nodes
      (ap (applied linked.node.bindings) q.lifts.term) linked.before_are linked.after_are change above_content
      (λ no_root. omega (arith, above_content.3 (λ e. no_root (e ∙ sym joins.root)), length_permutation (parent ∷ linked.stay) linked.before linked.before_are, length_permutation (other ∷ linked.stay) linked.after linked.after_are)))

  -- ---- the whole tree
  root_legal : (r : Node Term) × HasNode new new.root r × IsRoot r
  root_legal = root_over old new above (parent ∷ []) (other ∷ []) legal linked joins.root (λ differs. by differs (which old.root)) where
    by : old.root ≢ above → Which old.root → slice_index_or new.nodes old.root None ≡ slice_index_or old.nodes old.root None
    by differs (is_key e) = absurd (root_no_child old legal key parent may.stands.node may.stands.has may.stands.below e)
    by differs (is_parent e) = absurd (root_no_child old legal parent above may.stands.parent_node may.stands.is_parent below_above e)
    by differs (is_joined e) = absurd (root_no_child old legal other parent joins.other_node joins.was_below other_below e)
    by differs (is_above e) = absurd (differs e)
    by differs (is_rest same x y z) = same

  new_nodes : HasLegalNodes new
  new_nodes = record { root = root_legal; nodes = λ k n has. by k n has (which k) } where
    by : (k : ℕ) (n : Node Term) → HasNode new k n → Which k → IsLegalNode new k n
    by k n has (is_key e) = absurd (vacant_apart new key k n joins.gone has e)
    by k n has (is_parent e) = absurd (vacant_apart new parent k n parent_gone has e)
    by k n has (is_joined e) = legal_at new k other n joined_of has e has_joined joined_legal
    by k n has (is_above e) = legal_at new k above n above_of has e linked.has new_above_legal
    by k n has (is_rest same x y z) = rest_legal k n (sym same ∙ has) (vacant_apart new key k n joins.gone has) x y z

  leaves : OtherLeavesStay old new key
  leaves k differs = by (which k) where
    by : Which k → LeafStays old new k
    by (is_key e) = absurd (differs e)
    by (is_parent e) = subst (LeafStays old new) (sym e)
        (no_leaf_stays old new parent (λ t ps. no_leaf_here old parent may.stands.parent_node may.stands.split may.stands.children t ps may.stands.is_parent may.stands.inner_node) (λ t ps. no_leaf_vacant new parent t ps parent_gone))
    by (is_joined e) = subst (LeafStays old new) (sym e)
        (leaf_stays old new other joins.other_node joined_of ((other, joins.other_node) ∷ (parent, may.stands.parent_node) ∷ upper) ((other, joined_of) ∷ top) joins.was_below has_joined other_reached joined_reached refl joined_lifts.term)
    by (is_above e) = subst (LeafStays old new) (sym e) (no_leaf_linked old new above (parent ∷ []) (other ∷ []) linked)
    by (is_rest same x y z) = leaf_stays_lifted old new nodes k same (λ q reached. over (Some k) q reached (λ e. differs (same_Some k key e)) (λ e. x (same_Some k parent e)))

  -- A leaf without a posting goes, and its parent is joined with the other child: the tree stays
  -- legal, and all that is stored stays, each posting in its leaf.
  pub joins_nodes : IsLegal new × StaysStored old new × KeepsLeaves old new
  joins_nodes = loses_leaf old new key may.stands.node legal new_nodes leaves may.stands.has may.empty joins.gone joins.next joins.vars
