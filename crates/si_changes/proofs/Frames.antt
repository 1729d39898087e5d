-- How paths, bindings and children go over from a legal tree to another.
use Rattle.std.proofs.Common.{◌≡◌, ◌≢◌, ◌⊎◌, ◌↔◌, inl, inr, ℕ, ◌<◌, ◌≤◌, false, List, [], ◌∷◌, ◌++◌, Option, None, Some, slice_index_or, IsPermutation, refl, ap, sym, ◌∙◌, subst, arith}
use Rattle.std.specs.List.{AllByRecursion}
use Rattle.std.proofs.lemmas.Option.{same_Some}
use Rattle.std.proofs.lemmas.List.Sorted.{IsPermutation-sym}
use Rattle.si_defs.specs.Terms as terms
use Rattle.si_defs.specs.Substitutions.{IsAmong, AreDistinct}
use Rattle.si_defs.proofs.ListLaws.{all_weaker, all_append, all_at, all_from, among_front, among_back, among_parts}
use Rattle.si_flat.specs.Cells.{Variable, query, entry, ind, Term}
use Rattle.si_flat.specs.Rows.{left_sides}
use Rattle.si_flat.proofs.RowLaws.{distinct_append, distinct_parts}
use Rattle.si_legal.specs.Bindings.{Binding, indicators, indicators_among, right_indicators, applied}
use Rattle.si_legal.specs.Trees.{Content, inner, leaf, Node, Tree, HasNode, Path, IsPath, path_term, opened}
use Rattle.si_legal.specs.Legal.{IsOpenBelow, OpensOnce, IsWithin, AreLegalBindings, AreChildren, ChildrenDiffer, HasEnoughChildren, ChildBinds, IsLeafTerm, IsLegalContent, IsLegalNode, IsLegal, IsRoot}
use Rattle.si_legal.specs.Generalizations.{same_head}
use Rattle.si_legal.proofs.PathLaws.{one_node}
use Rattle.si_legal.proofs.SplitLaws.{binding_left}
use Rattle.si_changes.proofs.Permuted.{among_or_not, permuted_among, permuted_distinct}
use Rattle.si_changes.proofs.HeadLaws.{own_head, heads_differ_back}

-- ---- the nodes of a legal tree
-- the root and the nodes are legal; what leaves share is left open
pub record HasLegalNodes (tree : Tree Term) : Type 0 where
  pub root : (node : Node Term) × HasNode tree tree.root node × IsRoot node
  pub nodes : (key : ℕ) (node : Node Term) → HasNode tree key node → IsLegalNode tree key node

abbrev pub legal_nodes : (tree : Tree Term) → IsLegal tree → HasLegalNodes tree
legal_nodes tree legal = record { root = legal.root; nodes = legal.nodes }

-- ---- indicators and variables below the bounds
low_among : (tree : Tree Term) (xs : List Variable) → AllByRecursion (IsWithin tree) xs → AllByRecursion (λ n. n < tree.next) (indicators_among xs)
low_among tree [] h = tt
low_among tree (query n ∷ xs) h = low_among tree xs h.1
low_among tree (entry n ∷ xs) h = low_among tree xs h.1
low_among tree (ind n ∷ xs) h = (h.0, low_among tree xs h.1)

pub low_rights : (tree : Tree Term) (bs : List Binding) → AllByRecursion (λ b. AllByRecursion (IsWithin tree) (terms.variables b.1)) bs → AllByRecursion (λ n. n < tree.next) (right_indicators bs)
low_rights tree [] h = tt
low_rights tree (b ∷ bs) h = all_append (λ n. n < tree.next) (indicators b.1) (right_indicators bs) (low_among tree (terms.variables b.1) h.0) (low_rights tree bs h.1)

pub within_more : (old new : Tree Term) (x : Variable) → old.next ≤ new.next → old.vars ≤ new.vars → IsWithin old x → IsWithin new x
within_more old new (query n) more vars h = h
within_more old new (entry n) more vars h = omega (arith, h, vars)
within_more old new (ind n) more vars h = omega (arith, h, more)

-- ---- paths
-- The new path has the term of the old one, and it opens what that opens, but for indicators from
-- the bound on.
pub record Lifts (bound : ℕ) (p q : Path) : Type 0 where
  pub term : path_term q ≡ path_term p
  pub opens : (n : ℕ) → IsAmong (opened q) n → IsAmong (opened p) n ⊎ (bound ≤ n)
  pub once : OpensOnce p → OpensOnce q

pub lifts_nil : (bound : ℕ) → Lifts bound [] []
lifts_nil bound = record { term = refl; opens = (λ n a. inl a); once = (λ h. h) }

-- one step more, with the same bindings
pub lifts_step : (bound : ℕ) (step step' : ℕ × Node Term) (p q : Path) → step'.1.bindings ≡ step.1.bindings → AllByRecursion (λ n. n < bound) (right_indicators step.1.bindings) → Lifts bound p q → Lifts bound (step ∷ p) (step' ∷ q)
lifts_step bound step step' p q same low h = record {
  term = λ i. applied (same i) (h.term i);
  opens = there;
  once = once;
} where
  rights : List ℕ
  rights = right_indicators step.1.bindings

  same_rights : right_indicators step'.1.bindings ≡ rights
  same_rights = ap right_indicators same

  there : (n : ℕ) → IsAmong (opened q ++ right_indicators step'.1.bindings) n → IsAmong (opened p ++ rights) n ⊎ (bound ≤ n)
  there n a =
      elim (among_parts (opened q) (right_indicators step'.1.bindings) n a) as (λ _. IsAmong (opened p ++ rights) n ⊎ (bound ≤ n)) [
        | inl b ↦ elim (h.opens n b) as (λ _. IsAmong (opened p ++ rights) n ⊎ (bound ≤ n)) [ inl c ↦ inl (among_front (opened p) rights n c) | inr c ↦ inr c ]
        | inr b ↦ inl (among_back (opened p) rights n (subst (λ l. IsAmong l n) same_rights b))
      ]

  once : AreDistinct (opened p ++ rights) → AreDistinct (opened q ++ right_indicators step'.1.bindings)
  once d =
      let parts = distinct_parts (opened p) rights d in
      subst (λ l. AreDistinct (opened q ++ l)) (sym same_rights)
      (distinct_append (opened q) rights (h.once parts.0) parts.1 (λ n a b. elim (h.opens n a) as (λ _. ⊥) [
        | inl c ↦ parts.2 n c b
        | inr c ↦ omega (arith, c, all_at (λ m. m < bound) rights n low b)
      ]))

-- ---- one node
lifted_bindings : (old new : Tree Term) (above above' : Path) (bs : List Binding) → path_term above' ≡ path_term above → old.next ≤ new.next → old.vars ≤ new.vars → AreLegalBindings old above bs → AreLegalBindings new above' bs
lifted_bindings old new above above' bs same more vars h = record {
  lefts = all_weaker (IsOpenBelow above) (IsOpenBelow above') (left_sides bs) (λ n a. subst (λ t. IsAmong (indicators t) n) (sym same) a) h.lefts;
  distinct = h.distinct;
  rights = h.rights;
  within = all_weaker (λ b. AllByRecursion (IsWithin old) (terms.variables b.1)) (λ b. AllByRecursion (IsWithin new) (terms.variables b.1)) bs (λ b a. all_weaker (IsWithin old) (IsWithin new) (terms.variables b.1) (λ x. within_more old new x more vars) a) h.within;
}

-- A legal node stays legal where the path above it lifts, and its bindings stay.
pub lifted_node : (old new : Tree Term) (key : ℕ) (node node' : Node Term) (above' : Path) → old.next ≤ new.next → old.vars ≤ new.vars → (h : IsLegalNode old key node) → Lifts old.next h.above above' → IsPath new node'.parent above' → node'.bindings ≡ node.bindings → (node'.parent ≡ None → key ≡ new.root) → IsLegalContent new key ((key, node') ∷ above') node'.content → IsLegalNode new key node'
lifted_node old new key node node' above' more vars h lifts reached same only content = record {
  above = above';
  reached = reached;
  only_root = only;
  binds = subst (AreLegalBindings new above') (sym same) (lifted_bindings old new h.above above' node.bindings lifts.term more vars h.binds);
  opens = (lifts_step old.next (key, node) (key, node') h.above above' same (low_rights old node.bindings h.binds.within) lifts).once h.opens;
  content = content;
}

-- a key has one node, so what is shown of that is shown of it
pub legal_at : (tree : Tree Term) (key other : ℕ) (node node' : Node Term) → HasNode tree key node → key ≡ other → HasNode tree other node' → IsLegalNode tree other node' → IsLegalNode tree key node
legal_at tree key other node node' has e has' h =
    subst (λ k. IsLegalNode tree k node) (sym e)
    (subst (IsLegalNode tree other) (one_node tree other node' node has' (subst (λ k. HasNode tree k node) e has)) h)

-- ---- children
abbrev pub IsChild : Tree Term → ℕ → ℕ → Type 0
IsChild tree key child = (node : Node Term) × HasNode tree child node × (node.parent ≡ Some key)

-- a left side has one right side
pub one_right : (bs : List Binding) (n : ℕ) (t u : Term) → AreDistinct (left_sides bs) → IsAmong bs (n, t) → IsAmong bs (n, u) → t ≡ u
one_right [] n t u h a b = absurd a
one_right (c ∷ bs) n t u h (inl p) (inl q) = sym (ap (λ b. b.1) p) ∙ ap (λ b. b.1) q
one_right (c ∷ bs) n t u h (inl p) (inr b) = absurd (h.0 (subst (IsAmong (left_sides bs)) (sym (ap (λ b. b.0) p)) (binding_left bs n u b)))
one_right (c ∷ bs) n t u h (inr a) (inl q) = absurd (h.0 (subst (IsAmong (left_sides bs)) (sym (ap (λ b. b.0) q)) (binding_left bs n t a)))
one_right (c ∷ bs) n t u h (inr a) (inr b) = one_right bs n t u h.1 a b

pub binds_once : (tree : Tree Term) → HasLegalNodes tree → (child n : ℕ) (t u : Term) → ChildBinds tree child n t → ChildBinds tree child n u → t ≡ u
binds_once tree legal child n t u p q =
    let same = one_node tree child q.0 p.0 q.1 p.1 in
    one_right p.0.bindings n t u (legal.nodes child p.0 p.1).binds.distinct p.2 (subst (λ node. IsAmong node.bindings (n, u)) same q.2)

-- children that differ, of any two, in whatever order they stand
pub record Differ (tree : Tree Term) (split : ℕ) (children : List ℕ) : Type 0 where
  pub distinct : AreDistinct children
  pub each : (child : ℕ) → IsAmong children child → (t : Term) × ChildBinds tree child split t
  pub apart : (c d : ℕ) (t u : Term) → IsAmong children c → IsAmong children d → c ≢ d → ChildBinds tree c split t → ChildBinds tree d split u → same_head t u ≡ false

-- with one more
pub differ_more : (tree : Tree Term) (split new : ℕ) (children : List ℕ) → ((t : Term) × ChildBinds tree new split t) → ((child : ℕ) (t u : Term) → IsAmong children child → ChildBinds tree new split t → ChildBinds tree child split u → same_head t u ≡ false) → Differ tree split children → Differ tree split (new ∷ children)
differ_more tree split new children binds heads h = record {
  distinct = ((λ a. own_head binds.0 (heads new binds.0 binds.0 a binds.1 binds.1)), h.distinct);
  each = each;
  apart = apart;
} where
  each : (child : ℕ) → IsAmong (new ∷ children) child → (t : Term) × ChildBinds tree child split t
  each child (inl e) = subst (λ c. (t : Term) × ChildBinds tree c split t) e binds
  each child (inr a) = h.each child a

  apart : (c d : ℕ) (t u : Term) → IsAmong (new ∷ children) c → IsAmong (new ∷ children) d → c ≢ d → ChildBinds tree c split t → ChildBinds tree d split u → same_head t u ≡ false
  apart c d t u (inl e) (inl f) different p q = absurd (different (sym e ∙ f))
  apart c d t u (inl e) (inr b) different p q = heads d t u b (subst (λ x. ChildBinds tree x split t) (sym e) p) q
  apart c d t u (inr a) (inl f) different p q = heads_differ_back u t (heads c u t a (subst (λ x. ChildBinds tree x split u) (sym f) q) p)
  apart c d t u (inr a) (inr b) different p q = h.apart c d t u a b different p q

pub differ_told : (tree : Tree Term) (split : ℕ) (children : List ℕ) → HasLegalNodes tree → ChildrenDiffer tree split children → Differ tree split children
differ_told tree split [] legal h = record {
  distinct = tt;
  each = λ child a. absurd a;
  apart = λ c d t u a b different p q. absurd a;
}
differ_told tree split (first ∷ children) legal h = differ_more tree split first children (h.0.0, h.0.1) other (differ_told tree split children legal h.1) where
  other : (child : ℕ) (t u : Term) → IsAmong children child → ChildBinds tree first split t → ChildBinds tree child split u → same_head t u ≡ false
  other child t u a p q = subst (λ x. same_head x u ≡ false) (binds_once tree legal first split h.0.0 t h.0.1 p) (all_at (λ c. (x : Term) → ChildBinds tree c split x → same_head h.0.0 x ≡ false) children child h.0.2 a u q)

pub differ_from : (tree : Tree Term) (split : ℕ) (children : List ℕ) → Differ tree split children → ChildrenDiffer tree split children
differ_from tree split [] h = tt
differ_from tree split (first ∷ children) h =
    let one = h.each first (inl refl) in (
      (
        one.0,
        one.1,
        all_from (λ other. (u : Term) → ChildBinds tree other split u → same_head one.0 u ≡ false) children
            (λ other a u q. h.apart first other one.0 u (inl refl) (inr a) (λ e. h.distinct.0 (subst (IsAmong children) (sym e) a)) one.1 q),
      ),
      differ_from tree split children (record {
        distinct = h.distinct.1;
        each = λ child a. h.each child (inr a);
        apart = λ c d t u a b. h.apart c d t u (inr a) (inr b);
      }),
    )

-- in another order
pub differ_permuted : (tree : Tree Term) (split : ℕ) (xs ys : List ℕ) → IsPermutation xs ys → Differ tree split xs → Differ tree split ys
differ_permuted tree split xs ys moved h =
    let back : (n : ℕ) → IsAmong ys n → IsAmong xs n = λ n a. permuted_among ys xs n (IsPermutation-sym xs ys moved) a in
    record {
      distinct = permuted_distinct xs ys moved h.distinct;
      each = λ child a. h.each child (back child a);
      apart = λ c d t u a b. h.apart c d t u (back c a) (back d b);
    }

-- without some
pub differ_rest : (tree : Tree Term) (split : ℕ) (gone stay : List ℕ) → Differ tree split (gone ++ stay) → Differ tree split stay
differ_rest tree split gone stay h = record {
  distinct = (distinct_parts gone stay h.distinct).1;
  each = λ child a. h.each child (among_back gone stay child a);
  apart = λ c d t u a b. h.apart c d t u (among_back gone stay c a) (among_back gone stay d b);
}

-- in a tree in which the children bind the same
pub differ_over : (old new : Tree Term) (split : ℕ) (children : List ℕ) → ((child : ℕ) (t : Term) → IsAmong children child → ChildBinds old child split t ↔ ChildBinds new child split t) → Differ old split children → Differ new split children
differ_over old new split children same h = record {
  distinct = h.distinct;
  each = λ child a. let one = h.each child a in (one.0, (same child one.0 a).0 one.1);
  apart = λ c d t u a b different p q. h.apart c d t u a b different ((same c t a).1 p) ((same d u b).1 q);
}

-- ---- nodes that stay in their places
abbrev pub place_of : Option (Node Term) → Option (Option ℕ × List Binding)
place_of None = None
place_of (Some node) = Some (node.parent, node.bindings)

-- the node with this key has the same parent and the same bindings in both trees, or is in neither
abbrev pub StaysInPlace : Tree Term → Tree Term → ℕ → Type 0
StaysInPlace old new key =
    place_of (slice_index_or new.nodes key None) ≡ place_of (slice_index_or old.nodes key None)

pub record HasPlaced (tree : Tree Term) (key : ℕ) (node : Node Term) : Type 0 where
  pub placed : Node Term
  pub has : HasNode tree key placed
  pub parent : placed.parent ≡ node.parent
  pub bindings : placed.bindings ≡ node.bindings

pub has_placed : (old new : Tree Term) (key : ℕ) (node : Node Term) → StaysInPlace old new key → HasNode old key node → HasPlaced new key node
has_placed old new key node same has = by (slice_index_or new.nodes key None) refl (same ∙ ap place_of has) where
  by : (there : Option (Node Term)) → slice_index_or new.nodes key None ≡ there → place_of there ≡ Some (node.parent, node.bindings) → HasPlaced new key node
  by None e f = cc
  by (Some placed) e f =
      let both = same_Some (placed.parent, placed.bindings) (node.parent, node.bindings) f in
      record { placed = placed; has = e; parent = ap (λ b. b.0) both; bindings = ap (λ b. b.1) both }

pub child_over : (old new : Tree Term) (key child : ℕ) → StaysInPlace old new child → IsChild old key child → IsChild new key child
child_over old new key child same h =
    let p = has_placed old new child h.0 same h.1 in
    (p.placed, p.has, p.parent ∙ h.2)

pub binding_over : (old new : Tree Term) (child n : ℕ) (t : Term) → StaysInPlace old new child → ChildBinds old child n t → ChildBinds new child n t
binding_over old new child n t same h =
    let p = has_placed old new child h.0 same h.1 in
    (p.placed, p.has, subst (λ bs. IsAmong bs (n, t)) (sym p.bindings) h.2)

-- The nodes of which P holds stay in their places, and where it holds of a node it holds of the
-- parent.
pub record PlacesStay (old new : Tree Term) (P : ℕ → Type 0) : Type 0 where
  pub stays : (key : ℕ) → P key → StaysInPlace old new key
  pub up : (key parent : ℕ) (node : Node Term) → P key → HasNode old key node → node.parent ≡ Some parent → P parent

-- so their paths lift
pub record Lifted (old new : Tree Term) (key : Option ℕ) (p : Path) : Type 0 where
  pub path : Path
  pub reached : IsPath new key path
  pub lifts : Lifts old.next p path

-- one step more, to a node that stays in its place
abbrev pub lifted_step : (old new : Tree Term) → HasLegalNodes old → (key : Option ℕ) (step : ℕ × Node Term) (p : Path) → IsPath old key (step ∷ p) → StaysInPlace old new step.0 → Lifted old new step.1.parent p → Lifted old new key (step ∷ p)
lifted_step old new legal key step p reached stays rest =
    let placed = has_placed old new step.0 step.1 stays reached.1 in
    record {
      path = (step.0, placed.placed) ∷ rest.path;
      reached = (reached.0, placed.has, subst (λ k. IsPath new k rest.path) (sym placed.parent) rest.reached);
      lifts = lifts_step old.next step (step.0, placed.placed) p rest.path placed.bindings (low_rights old step.1.bindings (legal.nodes step.0 step.1 reached.1).binds.within) rest.lifts;
    }

pub lifted_path : (old new : Tree Term) (P : ℕ → Type 0) → HasLegalNodes old → PlacesStay old new P → (key : Option ℕ) (p : Path) → IsPath old key p → ((k : ℕ) → key ≡ Some k → P k) → Lifted old new key p
lifted_path old new P legal places key [] reached from = record { path = []; reached = reached; lifts = lifts_nil old.next }
lifted_path old new P legal places key (step ∷ p) reached from =
    let here : P step.0 = from step.0 reached.0 in
    lifted_step old new legal key step p reached (places.stays step.0 here)
    (lifted_path old new P legal places step.1.parent p reached.2 (λ k e. places.up step.0 k step.1 here reached.1 e))

-- and such a node is legal where its content is
pub lifted_legal : (old new : Tree Term) (P : ℕ → Type 0) (legal : HasLegalNodes old) → PlacesStay old new P → old.next ≤ new.next → old.vars ≤ new.vars → new.root ≡ old.root → (key : ℕ) (node node' : Node Term) (has : HasNode old key node) → P key → HasNode new key node' → ((q : Path) → path_term q ≡ path_term ((key, node) ∷ (legal.nodes key node has).above) → IsLegalContent new key q node'.content) → IsLegalNode new key node'
lifted_legal old new P legal places more vars root key node node' has here has' content =
    let h = legal.nodes key node has in
    let placed = has_placed old new key node (places.stays key here) has in
    let same : placed.placed ≡ node' = one_node new key placed.placed node' placed.has has' in
    let parent : node'.parent ≡ node.parent = ap (λ n. n.parent) (sym same) ∙ placed.parent in
    let bindings : node'.bindings ≡ node.bindings = ap (λ n. n.bindings) (sym same) ∙ placed.bindings in
    let l = lifted_path old new P legal places node.parent h.above h.reached (λ k e. places.up key k node here has e) in
    lifted_node old new key node node' l.path more vars h l.lifts (subst (λ k. IsPath new k l.path) (sym parent) l.reached) bindings (λ e. h.only_root (sym parent ∙ e) ∙ sym root)
    (content ((key, node') ∷ l.path) (λ i. applied (bindings i) (l.lifts.term i)))

-- ---- contents
-- the node with this key has the same children, and these bind the same
pub record KeepsChildren (old new : Tree Term) (key : ℕ) : Type 0 where
  pub same : (child : ℕ) → IsChild old key child ↔ IsChild new key child
  pub bind : (child n : ℕ) (t : Term) → IsChild old key child → ChildBinds old child n t ↔ ChildBinds new child n t

-- each node stays in its place, or is no child of this one
pub keeps_children : (old new : Tree Term) (key : ℕ) → ((child : ℕ) → StaysInPlace old new child ⊎ ((IsChild old key child → ⊥) × (IsChild new key child → ⊥))) → KeepsChildren old new key
keeps_children old new key stays = record {
  same = λ child. elim (stays child) as (λ _. IsChild old key child ↔ IsChild new key child) [
    | inl same ↦ (child_over old new key child same, child_over new old key child (sym same))
    | inr none ↦ ((λ h. absurd (none.0 h)), (λ h. absurd (none.1 h)))
  ];
  bind = λ child n t c. elim (stays child) as (λ _. ChildBinds old child n t ↔ ChildBinds new child n t) [
    | inl same ↦ (binding_over old new child n t same, binding_over new old child n t (sym same))
    | inr none ↦ absurd (none.0 c)
  ];
}

pub children_over : (old new : Tree Term) (key : ℕ) (children : List ℕ) → KeepsChildren old new key → AreChildren old key children → AreChildren new key children
children_over old new key children keeps h = λ child. ((λ a. (keeps.same child).0 ((h child).0 a)), (λ c. (h child).1 ((keeps.same child).1 c)))

pub kept_content : (old new : Tree Term) (key : ℕ) (p q : Path) (content : Content) → HasLegalNodes old → new.root ≡ old.root → path_term q ≡ path_term p → KeepsChildren old new key → IsLegalContent old key p content → IsLegalContent new key q content
kept_content old new key p q (inner split children) legal root same keeps h = (
  subst (λ t. IsAmong (indicators t) split) (sym same) h.0,
  children_over old new key children keeps h.1,
  differ_from new split children
      (differ_over old new split children (λ child t a. keeps.bind child split t ((h.1 child).0 a)) (differ_told old split children legal h.2)),
  (λ differs. h.3 (λ e. differs (e ∙ sym root))),
)
kept_content old new key p q (leaf postings) legal root same keeps h = (
  children_over old new key [] keeps h.0,
  subst IsLeafTerm (sym same) h.1,
  h.2,
)

-- The children of an inner node change: some go and some come, and the others stay.
pub record ChildrenChange (old new : Tree Term) (key split : ℕ) (gone come : List ℕ) : Type 0 where
  pub came : (child : ℕ) → IsAmong come child → IsChild new key child
  pub stayed : (child : ℕ) → IsChild old key child → (IsAmong gone child → ⊥) → IsChild new key child
  pub others : (child : ℕ) → IsChild new key child → (IsAmong come child → ⊥) → IsChild old key child × (IsAmong gone child → ⊥)
  pub bind : (child : ℕ) (t : Term) → IsChild old key child → (IsAmong gone child → ⊥) → ChildBinds old child split t ↔ ChildBinds new child split t
  pub differ : (stay : List ℕ) → ((child : ℕ) → IsAmong stay child → IsChild old key child × (IsAmong gone child → ⊥)) → Differ new split stay → Differ new split (come ++ stay)

pub changed_content : (old new : Tree Term) (key split : ℕ) (p q : Path) (gone come stay before after : List ℕ) → HasLegalNodes old → path_term q ≡ path_term p → IsPermutation (gone ++ stay) before → IsPermutation (come ++ stay) after → ChildrenChange old new key split gone come → IsLegalContent old key p (inner split before) → HasEnoughChildren new key after → IsLegalContent new key q (inner split after)
changed_content old new key split p q gone come stay before after legal same was is change h enough = (
  subst (λ t. IsAmong (indicators t) split) (sym same) h.0,
  (λ child. (forth child, back child)),
  differ_from new split after (differ_permuted new split (come ++ stay) after is
      (change.differ stay remains
      (differ_over old new split stay (λ child t a. change.bind child t (remains child a).0 (remains child a).1) (differ_rest old split gone stay olds)))),
  enough,
) where
  olds : Differ old split (gone ++ stay)
  olds = differ_permuted old split before (gone ++ stay) (IsPermutation-sym (gone ++ stay) before was) (differ_told old split before legal h.2)

  remains : (child : ℕ) → IsAmong stay child → IsChild old key child × (IsAmong gone child → ⊥)
  remains child a = (
    (h.1 child).0 (permuted_among (gone ++ stay) before child was (among_back gone stay child a)),
    (λ g. (distinct_parts gone stay olds.distinct).2 child g a),
  )

  forth : (child : ℕ) → IsAmong after child → IsChild new key child
  forth child a =
      elim (among_parts come stay child (permuted_among after (come ++ stay) child (IsPermutation-sym (come ++ stay) after is) a)) as (λ _. IsChild new key child) [
        | inl b ↦ change.came child b
        | inr b ↦ change.stayed child (remains child b).0 (remains child b).1
      ]

  back : (child : ℕ) → IsChild new key child → IsAmong after child
  back child c =
      elim (among_or_not come child) as (λ _. IsAmong after child) [
        | inl a ↦ permuted_among (come ++ stay) after child is (among_front come stay child a)
        | inr a ↦ (
            let old_one = change.others child c a in
            elim (among_parts gone stay child (permuted_among before (gone ++ stay) child (IsPermutation-sym (gone ++ stay) before was) ((h.1 child).1 old_one.0))) as (λ _. IsAmong after child) [
              | inl g ↦ absurd (old_one.1 g)
              | inr b ↦ permuted_among (come ++ stay) after child is (among_back come stay child b)
            ])
      ]
