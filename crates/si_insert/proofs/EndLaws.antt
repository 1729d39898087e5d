-- Where an insertion ends: at a leaf, below an inner node without such a child, or at a node whose
-- bindings don't fit.
use Rattle.std.proofs.Common.{◌≡◌, ◌≢◌, ℕ, ◌+◌, ◌<◌, ◌^◌, inl, inr, Bool, true, false, ◌&&◌, List, [], ◌∷◌, ◌++◌, Some, refl, sym, ◌∙◌, ap, subst, arith, append-nil}
use Rattle.std.proofs.lemmas.Bool.{and_parts, eqb-true, eq-eqb}
use Rattle.si_defs.specs.Terms as terms
use Rattle.si_defs.specs.Substitutions.{IsAmong, AreDistinct}
use Rattle.si_flat.specs.Cells.{query, entry, ind, Term}
use Rattle.si_flat.specs.Rows.{left_sides}
use Rattle.si_legal.specs.declared.Posting.{Posting}
use Rattle.si_legal.specs.Bindings.{Binding, indicators, right_indicators, right_sizes, OpensNone, BindsExactly, applied, composed, HaveSamePairs}
use Rattle.si_legal.specs.Generalizations.{same_head, MaySplit, Splits}
use Rattle.si_legal.specs.Trees.{inner, Node, Tree, HasNode, Path, IsPath, path_term, opened}
use Rattle.si_legal.specs.Legal.{IsOpenBelow, ChildBinds, IsLegal}
use Rattle.si_changes.proofs.HeadLaws.{image_bound}
use Rattle.si_changes.proofs.ComposeLaws.{carried, unused, unused_is, is_unused, unused_left, left_unused, distinct_unused, right_among, bound, same_applied, bound_front, bound_back, bound_unused, bound_composed, composed_applied}
use Rattle.si_changes.proofs.OpenLaws.{may_split, open_opened, opened_low}
use Rattle.si_changes.proofs.Frames.{legal_nodes}
use Rattle.si_changes.proofs.Permuted.{among_or_not}
use Rattle.si_changes.proofs.Borrowed.{bound_left, image_other}
use Rattle.si_legal.proofs.SplitLaws.{binding_left}
use Rattle.si_flat.proofs.RowLaws.{distinct_parts}
use Rattle.si_defs.proofs.ListLaws.{all_at, among_front, among_back}
use Rattle.si_changes.proofs.DivideLaws.{Divides, divides}
use Rattle.si_insert.specs.Parting.{AreOpenAt}
use Rattle.si_insert.specs.Passing.{without, MakesAll}
use Rattle.si_changes.specs.Nodes.{MayComeIn}
use Rattle.si_changes.specs.Leaves.{MayAddLeaf}
use Rattle.si_changes.specs.Splits.{MaySplitNode}
use Rattle.si_tree.specs.declared.node.Head.{Head}
use Rattle.si_tree.specs.declared.node.Head.TheVariants.{Sym, Var}
use Rattle.si_tree.specs.Heads.{HasHead, IsChildBy}
use Rattle.si_insert.specs.Underway.{IsInsertUnderway}
use Rattle.si_insert.proofs.UnderwayLaws.{none_among, none_open, stays_whole, child_path}

-- ---- a head that no child has
-- two terms of one head have the same heads
head_shared : (t u : Term) (head : Head) → same_head t u ≡ true → HasHead t head → HasHead u head
head_shared (terms.app s ts) (terms.app r us) (Sym number arity) e h =
    let both = and_parts _ _ e in
    (sym (eqb-true _ _ both.0) ∙ h.0, sym (eqb-true _ _ both.1) ∙ h.1)
head_shared (terms.app s ts) (terms.app r us) (Var k) e h = absurd h
head_shared (terms.app s ts) (terms.var x) head e h = absurd cc
head_shared (terms.var (entry m)) (terms.var (entry n)) (Var k) e h = sym (eqb-true m n e) ∙ h
head_shared (terms.var (entry m)) (terms.var (entry n)) (Sym number arity) e h = absurd h
head_shared (terms.var (entry m)) (terms.var (query n)) head e h = absurd cc
head_shared (terms.var (entry m)) (terms.var (ind n)) head e h = absurd cc
head_shared (terms.var (entry m)) (terms.app r us) head e h = absurd cc
head_shared (terms.var (query m)) u head e h = absurd h
head_shared (terms.var (ind m)) u head e h = absurd h

-- two terms with this head have the same head
pub head_same : (t u : Term) (head : Head) → HasHead t head → HasHead u head → same_head t u ≡ true
head_same (terms.app s ts) (terms.app r us) (Sym number arity) h k = (λ i. eq-eqb s.number r.number (h.0 ∙ sym k.0) i && eq-eqb s.arity r.arity (h.1 ∙ sym k.1) i)
head_same (terms.app s ts) (terms.app r us) (Var n) h k = absurd h
head_same (terms.app s ts) (terms.var x) (Var n) h k = absurd h
head_same (terms.app s ts) (terms.var (entry n)) (Sym number arity) h k = absurd k
head_same (terms.app s ts) (terms.var (query n)) (Sym number arity) h k = absurd k
head_same (terms.app s ts) (terms.var (ind n)) (Sym number arity) h k = absurd k
head_same (terms.var (entry m)) (terms.var (entry n)) (Var j) h k = eq-eqb m n (h ∙ sym k)
head_same (terms.var (entry m)) u (Sym number arity) h k = absurd h
head_same (terms.var (entry m)) (terms.var (query n)) (Var j) h k = absurd k
head_same (terms.var (entry m)) (terms.var (ind n)) (Var j) h k = absurd k
head_same (terms.var (entry m)) (terms.app r us) (Var j) h k = absurd k
head_same (terms.var (query m)) u head h k = absurd h
head_same (terms.var (ind m)) u head h k = absurd h

pub head_new : (tree : Tree Term) (key split child : ℕ) (children : List ℕ) (node : Node Term) (head : Head) (t u : Term) → HasNode tree key node → node.content ≡ inner split children → ((other : ℕ) → IsChildBy tree key head other → ⊥) → HasHead t head → IsAmong children child → ChildBinds tree child split u → same_head t u ≡ false
head_new tree key split child children node head t u has content none h among binds = by (same_head t u) refl where
  by : (b : Bool) → same_head t u ≡ b → b ≡ false
  by false e = refl
  by true e = absurd (none child (record {
    node = node;
    split = split;
    children = children;
    has = has;
    content = content;
    among = among;
    by = (u, binds, head_shared t u head e h);
  }))

pub may_add_leaf : (tree : Tree Term) (key split : ℕ) (children : List ℕ) (node : Node Term) (above : Path) (t r : Term) (there : List Binding) (p : Posting) (head : Head) → IsInsertUnderway tree key t ((key, node) ∷ above) there → node.content ≡ inner split children → IsAmong there (split, r) → HasHead r head → ((other : ℕ) → IsChildBy tree key head other → ⊥) → MayComeIn tree t p → MayAddLeaf tree key there p
may_add_leaf tree key split children node above t r there p head u content part h none may = record {
  node = node;
  above = above;
  split = split;
  children = children;
  reached = u.reached;
  inner_node = content;
  binds = u.binds;
  opens_none = none_open (path_term ((key, node) ∷ above)) t there u.binds u.gives may.leaf_term;
  new_head = λ t' u' child bound among binds. head_new tree key split child children node head t' u' u.reached.1 content none (subst (λ v. HasHead v head) (sym (image_bound there split r u.binds.0 part) ∙ image_bound there split t' u.binds.0 bound) h) among binds;
  may_come = subst (λ v. MayComeIn tree v p) (sym u.gives) may;
}

-- ---- a node whose bindings don't fit
pub opens_none_of : (there new : List Binding) → OpensNone there → ((b : Binding) → IsAmong new b → IsAmong there b) → OpensNone new
opens_none_of there [] none among = refl
opens_none_of there (b ∷ bs) none among = one (opens_none_of there bs none (λ c a. among c (inr a))) where
  first : indicators b.1 ≡ []
  first = none_among (indicators b.1) (λ k a. subst (λ l. IsAmong l k) none (right_among there b k (among b (inl refl)) a))

  one : right_indicators bs ≡ [] → right_indicators (b ∷ bs) ≡ []
  one rest = (λ i. first i ++ rest i)

-- what a rest binds, and the common part doesn't open, the list has
rest_pair : (common rest bs : List Binding) (n : ℕ) (a : Term) → HaveSamePairs (composed common rest) bs → IsAmong rest (n, a) → (IsAmong (right_indicators common) n → ⊥) → IsAmong bs (n, a)
rest_pair common rest bs n a same among other = (same (n, a)).0 (among_back (carried common rest) (unused (right_indicators common) rest) (n, a) (is_unused (right_indicators common) rest (n, a) among other))

-- what the common part binds, with the rest applied, the list has
common_pair : (common rest bs : List Binding) (n : ℕ) (c : Term) → HaveSamePairs (composed common rest) bs → IsAmong common (n, c) → IsAmong bs (n, applied rest c)
common_pair common rest bs n c same among = (same (n, applied rest c)).0 (among_front (carried common rest) (unused (right_indicators common) rest) (n, applied rest c) (through common among)) where
  through : (cs : List Binding) → IsAmong cs (n, c) → IsAmong (carried cs rest) (n, applied rest c)
  through (d ∷ cs) (inl e) = inl (ap (λ b. (b.0, applied rest b.1)) e)
  through (d ∷ cs) (inr later) = inr (through cs later)
  through [] none = none

-- nothing is left of the node: the other rest makes its right sides what is open
nothing_left : (next : ℕ) (node new common rest_new there : List Binding) → AreDistinct (left_sides there) → MaySplit next node new → Splits next node new common [] rest_new → AreOpenAt there (left_sides node) new → MakesAll rest_new there node
nothing_left next node new common rest_new there distinct may cut open_at n r u among also =
    let f = kept common ((cut.gives_node (n, r)).1 among) in
    let here = open_at.among (n, applied rest_new r) (common_pair common rest_new new n r cut.gives_new f) in
    sym (image_bound there n (applied rest_new r) distinct here) ∙ image_bound there n u distinct also where
      same : (cs : List Binding) → IsAmong (carried cs []) (n, r) → IsAmong cs (n, r)
      same (c ∷ cs) (inl e) = inl (λ i. (ap (λ b. b.0) e i, (sym (stays_whole c.1) ∙ ap (λ b. b.1) e) i))
      same (c ∷ cs) (inr later) = inr (same cs later)
      same [] none = none

      kept : (cs : List Binding) → IsAmong (composed cs []) (n, r) → IsAmong cs (n, r)
      kept cs a = same cs (subst (λ l. IsAmong l (n, r)) (append-nil (carried cs [])) a)

module _ (tree : Tree Term) (parent child split : ℕ) (children : List ℕ) (node child_node : Node Term) (above : Path) (t a b : Term) (there new others common rest_node rest_new : List Binding) (p : Posting) (legal : IsLegal tree) (u : IsInsertUnderway tree parent t ((parent, node) ∷ above) there) (content : node.content ≡ inner split children) (has : HasNode tree child child_node) (below : child_node.parent ≡ Some parent) (part : IsAmong there (split, b)) (right : IsAmong child_node.bindings (split, a)) (same : same_head a b ≡ true) (open_at : AreOpenAt there (left_sides child_node.bindings) new) (room : tree.next + right_sizes child_node.bindings < 2 ^ 31) (cut : Splits tree.next child_node.bindings new common rest_node rest_new) (never : (fs : List Binding) → MakesAll fs there child_node.bindings → ⊥) (others_are : others ≡ without (left_sides child_node.bindings) there) (may : MayComeIn tree t p) where
  abbrev path : Path
  path = (parent, node) ∷ above

  pub none : OpensNone there
  none = none_open (path_term path) t there u.binds u.gives may.leaf_term

  pub may_cut : MaySplit tree.next child_node.bindings new
  may_cut = may_split tree legal child child_node new has open_at.lefts_are (opens_none_of there new none open_at.among) room

  abbrev parts : Divides tree.next child_node.bindings common rest_node rest_new
  parts = divides tree.next child_node.bindings new common rest_node rest_new may_cut cut

  -- what the common part opens is no left side of the node, and isn't open above it
  not_opened : (n : ℕ) → IsAmong (left_sides child_node.bindings) n → IsAmong (right_indicators common) n → ⊥
  not_opened n left opened_there = elim (parts.common_opens n opened_there) as (λ _. ⊥) [
    | inl old ↦ all_at (λ m. IsAmong (left_sides child_node.bindings) m → ⊥) (right_indicators child_node.bindings) n may_cut.opens_others old left
    | inr fresh ↦ omega (arith, fresh, all_at (λ m. m < tree.next) (left_sides child_node.bindings) n may_cut.low left)
  ]

  not_open : (n : ℕ) → IsOpenBelow path n → IsAmong (right_indicators common) n → ⊥
  not_open n open_there opened_there = elim (parts.common_opens n opened_there) as (λ _. ⊥) [
    | inl old ↦ (let k = legal.nodes child child_node has in
        let above_is = child_path tree parent child child_node path legal u.reached has below k in
        (distinct_parts (opened path) (right_indicators child_node.bindings) (subst (λ q. AreDistinct (opened q ++ right_indicators child_node.bindings)) above_is k.opens)).2 n (open_opened tree (legal_nodes tree legal) (Some parent) path u.reached n open_there) old)
    | inr fresh ↦ omega (arith, fresh, opened_low tree legal (Some parent) path u.reached n (open_opened tree (legal_nodes tree legal) (Some parent) path u.reached n open_there))
  ]

  -- what the new rest binds at a left side of the node is what is open there
  rest_open : (n : ℕ) (v : Term) → IsAmong rest_new (n, v) → IsAmong (left_sides child_node.bindings) n → IsAmong there (n, v)
  rest_open n v among left = open_at.among (n, v) (rest_pair common rest_new new n v cut.gives_new among (not_opened n left))

  pub binds_split : IsAmong (left_sides common) split
  binds_split = elim (among_or_not (left_sides common) split) as (λ _. IsAmong (left_sides common) split) [
    | inl h ↦ h
    | inr other ↦ (let left = binding_left child_node.bindings split a right in
        let r = bound_left rest_node split ((parts.node_left split).1 (inl (left, other))) in
        let d = parts.rests_differ split r.0 r.1 in
        let a_is : r.0 ≡ a = sym (image_bound child_node.bindings split r.0 may_cut.distinct (rest_pair common rest_node child_node.bindings split r.0 cut.gives_node r.1 (not_opened split left))) ∙ image_bound child_node.bindings split a may_cut.distinct right in
        let b_is : d.0 ≡ b = sym (image_bound there split d.0 u.binds.0 (rest_open split d.0 d.1 left)) ∙ image_bound there split b u.binds.0 part in
        let clash : true ≡ false = sym same ∙ (λ i. same_head (sym a_is i) (sym b_is i)) ∙ d.2 in
        absurd cc)
  ]

  pub differs : rest_node ≢ []
  differs e = never rest_new (nothing_left tree.next child_node.bindings new common rest_new there u.binds.0 may_cut (subst (λ r. Splits tree.next child_node.bindings new common r rest_new) e cut) open_at)

  pub binds_others : BindsExactly (λ n. IsOpenBelow path n × (IsAmong (left_sides child_node.bindings) n → ⊥)) others
  binds_others = subst (BindsExactly (λ n. IsOpenBelow path n × (IsAmong (left_sides child_node.bindings) n → ⊥))) (sym others_are) (
    distinct_unused (left_sides child_node.bindings) there u.binds.0,
    λ n. (
      λ among. (let h = unused_left (left_sides child_node.bindings) there n among in ((u.binds.1 n).0 h.0, h.1)),
      λ h. left_unused (left_sides child_node.bindings) there n ((u.binds.1 n).1 h.0) h.1,
    ),
  )

  pub others_open_none : OpensNone others
  others_open_none = subst OpensNone (sym others_are) (opens_none_of there (without (left_sides child_node.bindings) there) none (λ c among. (unused_is (left_sides child_node.bindings) there c among).0))

  open_part : (n : ℕ) (v : Term) → IsAmong there (n, v) → v ≡ bound there n
  open_part n v among = sym (image_bound there n v u.binds.0 among)

  abbrev stays : (n : ℕ) → IsOpenBelow path n → applied (rest_new ++ others) (bound common n) ≡ bound there n
  stays n inside = elim (among_or_not (left_sides common) n) as (λ _. applied (rest_new ++ others) (bound common n) ≡ bound there n) [
    | inl left ↦ (let c = bound_left common n left in
        ap (applied (rest_new ++ others)) (image_bound common n c.0 parts.common_distinct c.1)
        ∙ same_applied (rest_new ++ others) rest_new c.0 (λ k among. bound_front rest_new others k ((parts.new_left k).1 (inr (right_among common (n, c.0) k c.1 among))))
        ∙ open_part n (applied rest_new c.0) (open_at.among (n, applied rest_new c.0) (common_pair common rest_new new n c.0 cut.gives_new c.1)))
    | inr other ↦ ap (applied (rest_new ++ others)) (image_other common n other) ∙ (elim (among_or_not (left_sides child_node.bindings) n) as (λ _. bound (rest_new ++ others) n ≡ bound there n) [
      | inl left ↦ (let r = bound_left rest_new n ((parts.new_left n).1 (inl (left, other))) in
          bound_front rest_new others n (binding_left rest_new n r.0 r.1) ∙ image_bound rest_new n r.0 parts.new_distinct r.1 ∙ open_part n r.0 (rest_open n r.0 r.1 left))
      | inr apart ↦
          bound_back rest_new others n (λ left. elim ((parts.new_left n).0 left) as (λ _. ⊥) [ inl h ↦ apart h.0 | inr h ↦ not_open n inside h ])
          ∙ ap (λ l. bound l n) others_are
          ∙ bound_unused (left_sides child_node.bindings) there n apart
    ])
  ]

  pub term_stays : applied (rest_new ++ others) (applied common (path_term path)) ≡ t
  term_stays =
      composed_applied common (rest_new ++ others) (path_term path) not_open
      ∙ same_applied (composed common (rest_new ++ others)) there (path_term path) (λ n inside. bound_composed common (rest_new ++ others) n (not_open n inside) ∙ stays n inside)
      ∙ u.gives

  abbrev pub may_split_node : MaySplitNode tree child (record { common = common; rest_node = rest_node; rest_new = rest_new }) others p
  may_split_node = record {
    node = child_node;
    parent = parent;
    parent_node = node;
    above = above;
    split = split;
    children = children;
    new = new;
    reached = (refl, has, subst (λ k. IsPath tree k path) (sym below) u.reached);
    inner_node = content;
    may_split = may_cut;
    splits = cut;
    binds_split = binds_split;
    differs = differs;
    binds = binds_others;
    opens_none = others_open_none;
    may_come = subst (λ v. MayComeIn tree v p) (sym term_stays) may;
  }
