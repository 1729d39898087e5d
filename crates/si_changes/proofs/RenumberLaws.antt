-- A legal tree stays legal when its indicators are numbered anew, and all that is stored stays.
use Rattle.std.proofs.Common.{◌≡◌, inl, inr, ℕ, zero, suc, ◌+◌, ◌<◌, ◌≤◌, List, [], ◌∷◌, ◌++◌, length, Option, None, Some, map, refl, ap, sym, ◌∙◌, subst, arith, length-append}
use Rattle.std.specs.List.{AllByRecursion}
use Rattle.si_defs.specs.Terms as terms
use Rattle.si_defs.specs.Substitutions.{IsAmong, AreDistinct}
use Rattle.si_defs.specs.declared.TheConstants.{MOST_OCCURRENCES}
use Rattle.si_defs.proofs.ListLaws.{all_at, all_from, among_front, among_back, same_tail}
use Rattle.si_defs.proofs.ListLaws.{same_first}
use Rattle.si_flat.specs.Cells.{Variable, query, entry, ind, same_variable, Term}
use Rattle.si_flat.specs.Rows.{left_sides}
use Rattle.si_flat.proofs.RowLaws.{distinct_append, distinct_parts}
use Rattle.si_flat.proofs.FirstPlaces.{among_firsts}
use Rattle.si_flat.proofs.VariableLaws.{variable_is}
use Rattle.si_legal.specs.declared.Posting.{Posting}
use Rattle.si_legal.specs.Bindings.{Binding, HasNoBareIndicator, indicator, indicators, right_indicators, applied}
use Rattle.si_legal.specs.Generalizations.{same_head, consecutive}
use Rattle.si_legal.specs.Trees.{Content, inner, leaf, Node, Tree, HasNode, Path, IsPath, path_term, opened, IsLeaf}
use Rattle.si_legal.specs.Legal.{IsOpenBelow, OpensOnce, IsWithin, AreChildren, ChildBinds, IsLeafTerm, IsLegalContent, IsLegalNode, IsLegal, IsRoot}
use Rattle.si_legal.specs.StoredSets.{AreUnder, StaysStored, KeepsLeaves}
use Rattle.si_legal.specs.Renumbering.{renumbered, renamed, renamed_bindings, renamed_content, IsRenamedNode, OpensInOrder, IsRenumbered}
use Rattle.si_legal.proofs.PathLaws.{one_node, one_path}
use Rattle.si_legal.proofs.Splitting.{numbers-append}
use Rattle.si_legal.proofs.SplitLaws.{binding_left}
use Rattle.si_changes.proofs.ComposeLaws.{open_from, term_once, indicator_in, right_among}
use Rattle.si_changes.proofs.Frames.{HasLegalNodes, legal_nodes, IsChild, Differ, differ_told, differ_from}
use Rattle.si_changes.proofs.Heads.{leaves_apart, no_bare}
use Rattle.si_changes.proofs.NewLeaves.{counted}
use Rattle.si_changes.proofs.StoredLaws.{inner_no_leaf, LeafStays}
use Rattle.si_changes.proofs.RenamedTerms.{TellsApart, among_map, map_among, told_apart, distinct_map, variables-renamed, indicators-renamed, closed_stays, lefts-renamed, bare-renamed, applied_renamed, heads_renamed}

-- ---- numbers in a row
same_mapped : (f g : ℕ → ℕ) (ns : List ℕ) (n : ℕ) → map f ns ≡ map g ns → IsAmong ns n → f n ≡ g n
same_mapped f g [] n e a = absurd a
same_mapped f g (m ∷ ns) n e (inl p) = subst (λ k. f k ≡ g k) p (same_first e)
same_mapped f g (m ∷ ns) n e (inr a) = same_mapped f g ns n (same_tail e) a

consecutive_high : (first count n : ℕ) → IsAmong (consecutive first count) n → first ≤ n
consecutive_high first zero n a = absurd a
consecutive_high first (suc count) n (inl e) = omega (arith, e)
consecutive_high first (suc count) n (inr a) = omega (arith, consecutive_high (suc first) count n a)

pub consecutive_distinct : (first count : ℕ) → AreDistinct (consecutive first count)
consecutive_distinct first zero = tt
consecutive_distinct first (suc count) = ((λ a. omega (arith, consecutive_high (suc first) count first a)), consecutive_distinct (suc first) count)

-- a leaf's term has no indicator
pub leaf_closed : (t : Term) → IsLeafTerm t → (n : ℕ) → IsAmong (terms.variables t) (ind n) → ⊥
leaf_closed t h n a = by one.1 where
  one : (m : ℕ) × (ind n ≡ entry m) × (m < 0 + h.numbered.0)
  one = counted 0 h.numbered.0 (ind n) (subst (λ l. IsAmong l (ind n)) h.numbered.1 (among_firsts same_variable variable_is (terms.variables t) (ind n) a))

  by : ind n ≡ entry one.0 → ⊥
  by e = cc

-- ---- paths
-- The new path has the term of the old one with other numbers, each indicator in it once, and it
-- opens 0, 1, 2 and so on.
pub record Renumbers (p q : Path) : Type 0 where
  pub to : ℕ → ℕ
  pub term : path_term q ≡ renamed to (path_term p)
  pub once : AreDistinct (indicators (path_term q))
  pub within : (n : ℕ) → IsAmong (indicators (path_term q)) n → IsAmong (opened q) n
  pub order : opened q ≡ consecutive 0 (length (opened q))

renumbers_nil : Renumbers [] []
renumbers_nil = record {
  to = λ n. n;
  term = refl;
  once = ((λ a. a), tt);
  within = λ n a. a;
  order = refl;
}

-- ---- one step
-- A node on a path, and what it becomes on the new one.
pub record Steps (step step' : ℕ × Node Term) (p q : Path) : Type 0 where
  pub above : Renumbers p q
  pub renames : IsRenamedNode p step.1 q step'.1
  pub in_order : OpensInOrder q step'.1
  pub lefts : AllByRecursion (IsOpenBelow p) (left_sides step.1.bindings)
  pub distinct : AreDistinct (left_sides step.1.bindings)

module _ (step step' : ℕ × Node Term) (p q : Path) (s : Steps step step' p q) where
  pub step_apart : TellsApart s.renames.to (indicators (path_term p))
  step_apart = told_apart s.renames.to (indicators (path_term p)) (subst AreDistinct (ap indicators s.renames.term ∙ indicators-renamed s.renames.to (path_term p)) s.above.once)

  pub step_term : path_term (step' ∷ q) ≡ renamed s.renames.to (path_term (step ∷ p))
  step_term = (λ i. applied (s.renames.bindings i) (s.renames.term i)) ∙ applied_renamed s.renames.to step.1.bindings (path_term p) step_apart s.lefts

  pub lefts_distinct : AreDistinct (left_sides step'.1.bindings)
  lefts_distinct =
      let is_open = all_at (IsOpenBelow p) (left_sides step.1.bindings) in
      subst AreDistinct (sym (ap left_sides s.renames.bindings ∙ lefts-renamed s.renames.to step.1.bindings))
      (distinct_map s.renames.to (left_sides step.1.bindings) (λ m n a b. step_apart m n (is_open m s.lefts a) (is_open n s.lefts b)) s.distinct)

  step_order : opened (step' ∷ q) ≡ consecutive 0 (length (opened (step' ∷ q)))
  step_order =
      let first : 0 + length (opened q) ≡ length (opened q) = omega arith in
      (λ i. s.above.order i ++ s.in_order i)
      ∙ ap (λ k. consecutive 0 (length (opened q)) ++ consecutive k (length (right_indicators step'.1.bindings))) (sym first)
      ∙ sym (numbers-append 0 (length (opened q)) (length (right_indicators step'.1.bindings)))
      ∙ ap (consecutive 0) (sym (length-append (opened q) (right_indicators step'.1.bindings)))

  pub step_opens_once : OpensOnce (step' ∷ q)
  step_opens_once = subst AreDistinct (sym step_order) (consecutive_distinct 0 (length (opened (step' ∷ q))))

  pub renumbers_step : Renumbers (step ∷ p) (step' ∷ q)
  renumbers_step =
      let bs = step'.1.bindings in
      let parts = distinct_parts (opened q) (right_indicators bs) step_opens_once in
      record {
        to = s.renames.to;
        term = step_term;
        once = term_once bs (path_term q) lefts_distinct (distinct_append (indicators (path_term q)) (right_indicators bs) s.above.once parts.1 (λ n a b. parts.2 n (s.above.within n a) b));
        within = λ n a. elim (open_from bs (path_term q) n lefts_distinct a) as (λ _. IsAmong (opened q ++ right_indicators bs) n) [
          | inl h ↦ among_front (opened q) (right_indicators bs) n (s.above.within n h.0)
          | inr h ↦ among_back (opened q) (right_indicators bs) n h
        ];
        order = step_order;
      }

-- ---- the whole tree
pub record HasRenumbered (new : Tree Term) (key : Option ℕ) (p : Path) : Type 0 where
  pub path : Path
  pub reached : IsPath new key path
  pub renumbers : Renumbers p path

pub record HasRenamed (new : Tree Term) (key : ℕ) (node : Node Term) (p q : Path) : Type 0 where
  pub other : Node Term
  pub has : HasNode new key other
  pub reached : IsPath new other.parent q
  pub steps : Steps (key, node) (key, other) p q

module _ (old new : Tree Term) (legal : IsLegal old) (h : IsRenumbered old new) where
  nodes : HasLegalNodes old
  nodes = legal_nodes old legal

  has_renamed : (key : ℕ) (node : Node Term) (p : Path) → HasNode old key node → IsPath old node.parent p → (rest : HasRenumbered new node.parent p) → HasRenamed new key node p rest.path
  has_renamed key node p has reached rest =
      let other = h.nodes key node has in
      let at = other.2 in
      let was = legal.nodes key node has in
      let above : at.above ≡ p = one_path old node.parent at.above p at.reached reached in
      let up : was.above ≡ p = one_path old node.parent was.above p was.reached reached in
      let there : IsPath new other.0.parent rest.path = subst (λ k. IsPath new k rest.path) (sym at.renamed_node.parent) rest.reached in
      let new_above : at.new_above ≡ rest.path = one_path new other.0.parent at.new_above rest.path at.new_reached there in
      record {
        other = other.0;
        has = other.1;
        reached = there;
        steps = record {
          above = rest.renumbers;
          renames = subst (λ q. IsRenamedNode p node q other.0) new_above (subst (λ q. IsRenamedNode q node at.new_above other.0) above at.renamed_node);
          in_order = subst (λ q. OpensInOrder q other.0) new_above at.in_order;
          lefts = subst (λ q. AllByRecursion (IsOpenBelow q) (left_sides node.bindings)) up was.binds.lefts;
          distinct = was.binds.distinct;
        };
      }

  step_there : (key : Option ℕ) (step : ℕ × Node Term) (p : Path) → IsPath old key (step ∷ p) → HasRenumbered new step.1.parent p → HasRenumbered new key (step ∷ p)
  step_there key step p reached rest =
      let r = has_renamed step.0 step.1 p reached.1 reached.2 rest in
      record {
        path = (step.0, r.other) ∷ rest.path;
        reached = (reached.0, r.has, r.reached);
        renumbers = renumbers_step step (step.0, r.other) p rest.path r.steps;
      }

  pub renumbered_path : (key : Option ℕ) (p : Path) → IsPath old key p → HasRenumbered new key p
  renumbered_path key [] reached = record { path = []; reached = reached; renumbers = renumbers_nil }
  renumbered_path key (step ∷ p) reached = step_there key step p reached (renumbered_path step.1.parent p reached.2)

  -- ---- nodes
  pub record Came (key : ℕ) (other : Node Term) : Type 0 where
    pub node : Node Term
    pub had : HasNode old key node
    pub was : IsLegalNode old key node
    pub new_above : Path
    pub new_reached : IsPath new other.parent new_above
    pub steps : Steps (key, node) (key, other) was.above new_above

  pub came : (key : ℕ) (other : Node Term) → HasNode new key other → Came key other
  came key other has =
      let node = h.no_others key other has in
      let was = legal.nodes key node.0 node.1 in
      let rest = renumbered_path node.0.parent was.above was.reached in
      let r = has_renamed key node.0 was.above node.1 was.reached rest in
      let same : r.other ≡ other = one_node new key r.other other r.has has in
      record {
        node = node.0;
        had = node.1;
        was = was;
        new_above = rest.path;
        new_reached = subst (λ n. IsPath new n.parent rest.path) same r.reached;
        steps = subst (λ n. Steps (key, node.0) (key, n) was.above rest.path) same r.steps;
      }

  -- ---- children
  child_there : (key child : ℕ) → IsChild old key child → IsChild new key child
  child_there key child c =
      let other = h.nodes child c.0 c.1 in
      (other.0, other.1, other.2.renamed_node.parent ∙ c.2)

  child_back : (key child : ℕ) → IsChild new key child → IsChild old key child
  child_back key child c =
      let from = came child c.0 c.1 in
      (from.node, from.had, sym from.steps.renames.parent ∙ c.2)

  children_there : (key : ℕ) (children : List ℕ) → AreChildren old key children → AreChildren new key children
  children_there key children are = λ child. ((λ a. child_there key child ((are child).0 a)), (λ c. (are child).1 (child_back key child c)))

  -- ---- one node
  module _ (key : ℕ) (other : Node Term) (has : HasNode new key other) (c : Came key other) where
    abbrev here : Path
    here = (key, c.node) ∷ c.was.above

    abbrev new_here : Path
    new_here = (key, other) ∷ c.new_above

    here_term : path_term new_here ≡ renamed c.steps.renames.to (path_term here)
    here_term = step_term (key, c.node) (key, other) c.was.above c.new_above c.steps

    open_there : (n : ℕ) → IsOpenBelow here n → IsOpenBelow new_here (c.steps.renames.to n)
    open_there n a = subst (λ l. IsAmong l (c.steps.renames.to n)) (sym (ap indicators here_term ∙ indicators-renamed c.steps.renames.to (path_term here))) (among_map c.steps.renames.to (indicators (path_term here)) n a)

    -- its child, whose map gives the same numbers to what is open below it
    record ChildCame (child : ℕ) : Type 0 where
      pub child_node : Node Term
      pub child_new : Node Term
      pub child_had : HasNode old child child_node
      pub child_has : HasNode new child child_new
      pub child_steps : Steps (child, child_node) (child, child_new) here new_here

    child_came : (child : ℕ) → IsChild old key child → ChildCame child
    child_came child (node, had, below) =
        let reached : IsPath old (Some key) here = (refl, c.had, c.was.reached) in
        let there : IsPath old node.parent here = subst (λ k. IsPath old k here) (sym below) reached in
        let rest = renumbered_path node.parent here there in
        let new_reached : IsPath new (Some key) new_here = (refl, has, c.new_reached) in
        let same : rest.path ≡ new_here = one_path new (Some key) rest.path new_here (subst (λ k. IsPath new k rest.path) below rest.reached) new_reached in
        let r = has_renamed child node here had there rest in
        record {
          child_node = node;
          child_new = r.other;
          child_had = had;
          child_has = r.has;
          child_steps = subst (Steps (child, node) (child, r.other) here) same r.steps;
        }

    same_number : (child : ℕ) (d : ChildCame child) (n : ℕ) → IsOpenBelow here n → d.child_steps.renames.to n ≡ c.steps.renames.to n
    same_number child d n a =
        same_mapped d.child_steps.renames.to c.steps.renames.to (indicators (path_term here)) n
        (sym (indicators-renamed d.child_steps.renames.to (path_term here))
        ∙ ap indicators (sym d.child_steps.renames.term ∙ here_term)
        ∙ indicators-renamed c.steps.renames.to (path_term here))
        a

    record BindsRenamed (child split : ℕ) (u : Term) : Type 0 where
      pub from : ℕ → ℕ
      pub was_bound : Term
      pub binds : ChildBinds old child split was_bound
      pub is : u ≡ renamed from was_bound

    binds_there : (child split : ℕ) (t : Term) → IsOpenBelow here split → IsChild old key child → ChildBinds old child split t → (from : ℕ → ℕ) × ChildBinds new child (c.steps.renames.to split) (renamed from t)
    binds_there child split t is_open is_child (node, had, binds) =
        let d = child_came child is_child in
        let by = d.child_steps.renames.to in
        let there : IsAmong d.child_node.bindings (split, t) = subst (λ n. IsAmong n.bindings (split, t)) (one_node old child node d.child_node had d.child_had) binds in
        let moved : IsAmong d.child_new.bindings (by split, renamed by t) = subst (λ bs. IsAmong bs (by split, renamed by t)) (sym d.child_steps.renames.bindings) (among_map (λ b. (by b.0, renamed by b.1)) d.child_node.bindings (split, t) there) in
        (by, (d.child_new, d.child_has, subst (λ n. IsAmong d.child_new.bindings (n, renamed by t)) (same_number child d split is_open) moved))

    binds_back : (child split : ℕ) (u : Term) → IsOpenBelow here split → IsChild old key child → ChildBinds new child (c.steps.renames.to split) u → BindsRenamed child split u
    binds_back child split u is_open is_child (node, had, binds) =
        let d = child_came child is_child in
        let by = d.child_steps.renames.to in
        let number = same_number child d split is_open in
        let there : IsAmong d.child_new.bindings (c.steps.renames.to split, u) = subst (λ n. IsAmong n.bindings (c.steps.renames.to split, u)) (one_node new child node d.child_new had d.child_has) binds in
        let b = map_among (λ b. (by b.0, renamed by b.1)) d.child_node.bindings (c.steps.renames.to split, u) (subst (λ bs. IsAmong bs (c.steps.renames.to split, u)) d.child_steps.renames.bindings there) in
        let left_open = all_at (IsOpenBelow here) (left_sides d.child_node.bindings) b.0.0 d.child_steps.lefts (binding_left d.child_node.bindings b.0.0 b.0.1 b.1) in
        let left : b.0.0 ≡ split = step_apart (child, d.child_node) (child, d.child_new) here new_here d.child_steps b.0.0 split left_open is_open (ap (λ p. p.0) b.2 ∙ sym number) in
        record {
          from = by;
          was_bound = b.0.1;
          binds = (d.child_node, d.child_had, subst (λ n. IsAmong d.child_node.bindings (n, b.0.1)) left b.1);
          is = sym (ap (λ p. p.1) b.2);
        }

    differ_there : (split : ℕ) (children : List ℕ) → IsOpenBelow here split → AreChildren old key children → Differ old split children → Differ new (c.steps.renames.to split) children
    differ_there split children is_open are d = record {
      distinct = d.distinct;
      each = λ child a. let one = d.each child a in let is = binds_there child split one.0 is_open ((are child).0 a) one.1 in (renamed is.0 one.0, is.1);
      apart = λ j k t u a b different x y.
          let one = binds_back j split t is_open ((are j).0 a) x in
          let two = binds_back k split u is_open ((are k).0 b) y in
          (λ i. same_head (one.is i) (two.is i))
          ∙ heads_renamed one.from two.from one.was_bound two.was_bound (no_bare old nodes j split one.was_bound one.binds) (no_bare old nodes k split two.was_bound two.binds)
          ∙ d.apart j k one.was_bound two.was_bound a b different one.binds two.binds;
    }

    -- ---- its content
    content_there : (content : Content) → IsLegalContent old key here content → IsLegalContent new key new_here (renamed_content c.steps.renames.to content)
    content_there (inner split children) l = (
      open_there split l.0,
      children_there key children l.1,
      differ_from new (c.steps.renames.to split) children (differ_there split children l.0 l.1 (differ_told old split children nodes l.2)),
      (λ differs. l.3 (λ e. differs (e ∙ sym h.root))),
    )
    content_there (leaf postings) l = (
      children_there key [] l.0,
      subst IsLeafTerm (sym (here_term ∙ closed_stays c.steps.renames.to (path_term here) (leaf_closed (path_term here) l.1))) l.1,
      l.2,
    )

    -- ---- its bindings
    right_within : (b : Binding) → IsAmong other.bindings b → (x : Variable) → IsAmong (terms.variables b.1) x → (y : Variable) → IsWithin old y → renumbered c.steps.renames.to y ≡ x → IsWithin new x
    right_within b a x i (query n) low e = absurd low
    right_within b a x i (entry n) low e = subst (IsWithin new) e (subst (λ k. n < k) (sym h.vars) low)
    right_within b a x i (ind n) low e =
        let k = c.steps.renames.to n in
        let right = right_among other.bindings b k a (indicator_in (terms.variables b.1) k (subst (IsAmong (terms.variables b.1)) (sym e) i)) in
        subst (IsWithin new) e (h.next.above k (key, new_here, (refl, has, c.new_reached), among_back (opened c.new_above) (right_indicators other.bindings) k right))

    within_there : AllByRecursion (λ b. AllByRecursion (IsWithin new) (terms.variables b.1)) other.bindings
    within_there = all_from (λ b. AllByRecursion (IsWithin new) (terms.variables b.1)) other.bindings (λ b a. all_from (IsWithin new) (terms.variables b.1) (λ x i.
        let by = c.steps.renames.to in
        let was = map_among (λ d. (by d.0, renamed by d.1)) c.node.bindings b (subst (λ bs. IsAmong bs b) c.steps.renames.bindings a) in
        let same : terms.variables b.1 ≡ map (renumbered by) (terms.variables was.0.1) = ap (λ p. terms.variables p.1) (sym was.2) ∙ variables-renamed by was.0.1 in
        let y = map_among (renumbered by) (terms.variables was.0.1) x (subst (λ l. IsAmong l x) same i) in
        let low = all_at (λ d. AllByRecursion (IsWithin old) (terms.variables d.1)) c.node.bindings was.0 c.was.binds.within was.1 in
        right_within b a x i y.0 (all_at (IsWithin old) (terms.variables was.0.1) y.0 low y.1) y.2))

    lefts_there : AllByRecursion (IsOpenBelow c.new_above) (left_sides other.bindings)
    lefts_there = all_from (IsOpenBelow c.new_above) (left_sides other.bindings) (λ n a.
        let by = c.steps.renames.to in
        let was = map_among by (left_sides c.node.bindings) n (subst (λ l. IsAmong l n) (ap left_sides c.steps.renames.bindings ∙ lefts-renamed by c.node.bindings) a) in
        let is_open = all_at (IsOpenBelow c.was.above) (left_sides c.node.bindings) was.0 c.steps.lefts was.1 in
        subst (IsOpenBelow c.new_above) was.2 (subst (λ l. IsAmong l (by was.0)) (sym (ap indicators c.steps.renames.term ∙ indicators-renamed by (path_term c.was.above))) (among_map by (indicators (path_term c.was.above)) was.0 is_open)))

    legal_there : IsLegalNode new key other
    legal_there = record {
      above = c.new_above;
      reached = c.new_reached;
      only_root = λ e. c.was.only_root (sym c.steps.renames.parent ∙ e) ∙ sym h.root;
      binds = record {
        lefts = lefts_there;
        distinct = lefts_distinct (key, c.node) (key, other) c.was.above c.new_above c.steps;
        rights = subst HasNoBareIndicator (sym c.steps.renames.bindings) (bare-renamed c.steps.renames.to c.node.bindings c.was.binds.rights);
        within = within_there;
      };
      opens = step_opens_once (key, c.node) (key, other) c.was.above c.new_above c.steps;
      content = subst (IsLegalContent new key new_here) (sym c.steps.renames.content) (content_there c.node.content c.was.content);
    }

  -- what a child gives the split it gives it still, with other numbers
  pub binds_still : (key child split split' : ℕ) (node other : Node Term) (children others : List ℕ) (t : Term) → HasNode old key node → HasNode new key other → node.content ≡ inner split children → other.content ≡ inner split' others → IsAmong children child → ChildBinds old child split t → (from : ℕ → ℕ) × ChildBinds new child split' (renamed from t)
  binds_still key child split split' node other children others t had has content content' a binds =
      let c = came key other has in
      let same : c.node ≡ node = one_node old key c.node node c.had had in
      let was : c.node.content ≡ inner split children = ap (λ n. n.content) same ∙ content in
      let number : c.steps.renames.to split ≡ split' = same_split (c.steps.renames.to split) split' children others (sym (c.steps.renames.content ∙ ap (renamed_content c.steps.renames.to) was) ∙ content') in
      let l : IsLegalContent old key ((key, c.node) ∷ c.was.above) (inner split children) = subst (IsLegalContent old key ((key, c.node) ∷ c.was.above)) was c.was.content in
      let is = binds_there key other has c child split t l.0 ((l.1 child).0 a) binds in
      (is.0, subst (λ k. ChildBinds new child k (renamed is.0 t)) number is.1) where
        same_split : (m n : ℕ) (ms ns : List ℕ) → inner m ms ≡ inner n ns → m ≡ n
        same_split m n ms ns e = cc

  -- ---- all nodes
  root_there : (node : Node Term) × HasNode new new.root node × IsRoot node
  root_there =
      let was = legal.root in
      let other = h.nodes old.root was.0 was.1 in
      let at = other.2 in
      let renames = at.renamed_node in
      let above : at.above ≡ [] = one_path old None at.above [] (subst (λ k. IsPath old k at.above) was.2.parent at.reached) refl in
      let parent : other.0.parent ≡ None = renames.parent ∙ was.2.parent in
      let new_above : at.new_above ≡ [] = one_path new None at.new_above [] (subst (λ k. IsPath new k at.new_above) parent at.new_reached) refl in
      let zero_stays : renames.to 0 ≡ 0 = same_indicator (renames.to 0) 0 (sym (ap path_term (sym new_above) ∙ renames.term ∙ ap (λ p. renamed renames.to (path_term p)) above)) in (
        other.0,
        subst (λ k. HasNode new k other.0) (sym h.root) other.1,
        record {
          parent = parent;
          bindings = renames.bindings ∙ ap (renamed_bindings renames.to) was.2.bindings;
          splits = (was.2.splits.0, renames.content ∙ ap (renamed_content renames.to) was.2.splits.1 ∙ ap (λ n. inner n was.2.splits.0) zero_stays);
        },
      ) where
        same_indicator : (m n : ℕ) → indicator m ≡ indicator n → m ≡ n
        same_indicator m n e = cc

  pub legal_nodes_there : HasLegalNodes new
  legal_nodes_there = record {
    root = root_there;
    nodes = λ key other has. legal_there key other has (came key other has);
  }

  -- ---- leaves
  leaf_term_stays : (key : ℕ) (node : Node Term) (p q : Path) (to : ℕ → ℕ) (postings : List Posting) → IsPath old (Some key) ((key, node) ∷ p) → node.content ≡ leaf postings → path_term q ≡ renamed to (path_term ((key, node) ∷ p)) → path_term q ≡ path_term ((key, node) ∷ p)
  leaf_term_stays key node p q to postings reached is_leaf e =
      let was = legal.nodes key node reached.1 in
      let path : was.above ≡ p = one_path old node.parent was.above p was.reached reached.2 in
      let content : IsLegalContent old key ((key, node) ∷ p) (leaf postings) = subst (IsLegalContent old key ((key, node) ∷ p)) is_leaf (subst (λ a. IsLegalContent old key ((key, node) ∷ a) node.content) path was.content) in
      e ∙ closed_stays to (path_term ((key, node) ∷ p)) (leaf_closed (path_term ((key, node) ∷ p)) content.1)

  leaf_there : (key : ℕ) (t : Term) (postings : List Posting) → IsLeaf old key t postings → IsLeaf new key t postings
  leaf_there key t postings l =
      let rest = renumbered_path l.node.parent l.above l.reached.2 in
      let r = has_renamed key l.node l.above l.reached.1 l.reached.2 rest in
      record {
        node = r.other;
        above = rest.path;
        reached = (refl, r.has, r.reached);
        content = r.steps.renames.content ∙ ap (renamed_content r.steps.renames.to) l.content;
        term = l.term ∙ sym (leaf_term_stays key l.node l.above ((key, r.other) ∷ rest.path) r.steps.renames.to postings l.reached l.content (step_term (key, l.node) (key, r.other) l.above rest.path r.steps));
      }

  leaf_back : (key : ℕ) (t : Term) (postings : List Posting) → IsLeaf new key t postings → IsLeaf old key t postings
  leaf_back key t postings l =
      let c = came key l.node l.reached.1 in
      let content : c.node.content ≡ leaf postings = was_leaf c.steps.renames.to c.node.content postings (sym c.steps.renames.content ∙ l.content) in
      let reached : IsPath old (Some key) ((key, c.node) ∷ c.was.above) = (refl, c.had, c.was.reached) in
      let path : l.above ≡ c.new_above = one_path new l.node.parent l.above c.new_above l.reached.2 c.new_reached in
      record {
        node = c.node;
        above = c.was.above;
        reached = reached;
        content = content;
        term = l.term ∙ ap (λ q. path_term ((key, l.node) ∷ q)) path
            ∙ leaf_term_stays key c.node c.was.above ((key, l.node) ∷ c.new_above) c.steps.renames.to postings reached content (step_term (key, c.node) (key, l.node) c.was.above c.new_above c.steps);
      } where
        was_leaf : (to : ℕ → ℕ) (content : Content) (ps : List Posting) → renamed_content to content ≡ leaf ps → content ≡ leaf ps
        was_leaf to (inner split children) ps e = absurd (inner_no_leaf (to split) children ps e)
        was_leaf to (leaf qs) ps e = e

  -- each leaf has the same term and the same postings in both trees
  pub leaves_stay : (key : ℕ) → LeafStays old new key
  leaves_stay key t postings = (leaf_there key t postings, leaf_back key t postings)

  -- ---- the tree
  pub renumbered_legal : IsLegal new
  renumbered_legal = record {
    root = root_there;
    nodes = legal_nodes_there.nodes;
    terms_differ = leaves_apart new legal_nodes_there;
    postings_differ = λ j k t u p one two. legal.postings_differ j k t u p (one.0, leaf_back j t one.0 one.1, one.2) (two.0, leaf_back k u two.0 two.1, two.2);
    zero_known = omega (arith, h.next.least.2);
    few_variables = subst (λ n. n ≤ MOST_OCCURRENCES) (sym h.vars) legal.few_variables;
  }

  under_there : (t : Term) (postings : List Posting) → AreUnder old t postings → AreUnder new t postings
  under_there t postings (inl l) = inl (l.0, leaf_there l.0 t postings l.1)
  under_there t postings (inr none) = inr ((λ key others l. none.0 key others (leaf_back key t others l)), none.1)

  under_back : (t : Term) (postings : List Posting) → AreUnder new t postings → AreUnder old t postings
  under_back t postings (inl l) = inl (l.0, leaf_back l.0 t postings l.1)
  under_back t postings (inr none) = inr ((λ key others l. none.0 key others (leaf_there key t others l)), none.1)

  pub renumbered_stored : StaysStored old new
  renumbered_stored t postings = (under_there t postings, under_back t postings)

  pub renumbered_leaves : KeepsLeaves old new
  renumbered_leaves key t p stood stays = (stood.0, leaf_there key t stood.0 stood.1, stood.2)
