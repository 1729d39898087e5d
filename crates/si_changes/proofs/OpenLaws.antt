-- What is open and what is opened on the paths of a legal tree, and that no path comes back.
use Rattle.std.proofs.Common.{◌≡◌, ◌≢◌, ◌↔◌, inl, inr, ℕ, ◌+◌, ◌^◌, ◌<◌, ◌≤◌, List, [], ◌∷◌, ◌++◌, Option, None, Some, length, refl, ap, sym, ◌∙◌, subst, arith}
use Rattle.std.specs.List.{AllByRecursion}
use Rattle.std.proofs.lemmas.Option.{same_Some}
use Rattle.si_defs.specs.Substitutions.{IsAmong, AreDistinct}
use Rattle.si_defs.proofs.ListLaws.{all_at, all_from, among_front, among_back, among_parts}
use Rattle.si_flat.specs.Cells.{Term}
use Rattle.si_flat.specs.Rows.{left_sides}
use Rattle.si_flat.proofs.RowLaws.{distinct_append, distinct_parts}
use Rattle.si_legal.specs.Bindings.{Binding, indicators, right_indicators, right_sizes, OpensNone}
use Rattle.si_legal.specs.Generalizations.{MaySplit}
use Rattle.si_legal.specs.Trees.{Node, Tree, HasNode, Path, IsPath, PassesBy, path_term, opened}
use Rattle.si_legal.specs.Legal.{IsOpenBelow, OpensOnce, IsLegalNode, IsLegal}
use Rattle.si_legal.proofs.PathLaws.{one_node, one_path}
use Rattle.si_changes.specs.Nodes.{IsVacant}
use Rattle.si_changes.proofs.Frames.{HasLegalNodes, legal_nodes, low_rights}
use Rattle.si_changes.proofs.ComposeLaws.{IsOpenAfter, open_from, is_open, term_once}

-- ---- keys
pub vacant_apart : (tree : Tree Term) (vacant key : ℕ) (node : Node Term) → IsVacant tree vacant → HasNode tree key node → key ≢ vacant
vacant_apart tree vacant key node none has e = by (sym none ∙ subst (λ k. HasNode tree k node) e has) where
  by : None ≡ Some node → ⊥
  by p = cc

-- where a path leads on, there is a node
pub path_node : (tree : Tree Term) (key : ℕ) (p : Path) → IsPath tree (Some key) p → (node : Node Term) × HasNode tree key node
path_node tree key [] reached = absurd (by reached) where
  by : Some key ≡ None → ⊥
  by e = cc
path_node tree key (step ∷ p) reached = (step.1, subst (λ k. HasNode tree k step.1) (same_Some step.0 key (sym reached.0)) reached.1)

-- no node is the child of a vacant key
pub no_child_of_vacant : (tree : Tree Term) → HasLegalNodes tree → (vacant child : ℕ) (node : Node Term) → IsVacant tree vacant → HasNode tree child node → node.parent ≡ Some vacant → ⊥
no_child_of_vacant tree legal vacant child node none has below =
    let h = legal.nodes child node has in
    let parent = path_node tree vacant h.above (subst (λ k. IsPath tree k h.above) below h.reached) in
    vacant_apart tree vacant vacant parent.0 none parent.1 refl

-- a path passes by the node that it leads from
pub passes_start : (tree : Tree Term) (key : ℕ) (p : Path) → IsPath tree (Some key) p → PassesBy p key
passes_start tree key [] reached = absurd (by reached) where
  by : Some key ≡ None → ⊥
  by e = cc
passes_start tree key (step ∷ p) reached = inl (same_Some step.0 key (sym reached.0))

-- the root is no node that has a parent
pub root_no_child : (tree : Tree Term) → IsLegal tree → (key parent : ℕ) (node : Node Term) → HasNode tree key node → node.parent ≡ Some parent → tree.root ≢ key
root_no_child tree legal key parent node has below e =
    none (sym legal.root.2.parent ∙ ap (λ n. n.parent) (one_node tree key legal.root.0 node (subst (λ k. HasNode tree k legal.root.0) e legal.root.1) has) ∙ below) where
      none : None ≡ Some parent → ⊥
      none p = cc

-- ---- no path comes back
-- the path of a node on a path is no longer
passed_path : (tree : Tree Term) (from : Option ℕ) (key : ℕ) (p : Path) → IsPath tree from p → PassesBy p key → (q : Path) × IsPath tree (Some key) q × (length q ≤ length p)
passed_path tree from key [] reached passes = absurd passes
passed_path tree from key (step ∷ p) reached (inl e) = (step ∷ p, (ap Some (sym e), reached.1, reached.2), omega arith)
passed_path tree from key (step ∷ p) reached (inr passes) =
    let q = passed_path tree step.1.parent key p reached.2 passes in
    (q.0, q.1, omega (arith, q.2))

pub no_return : (tree : Tree Term) (key : ℕ) (node : Node Term) (p : Path) → IsPath tree (Some key) ((key, node) ∷ p) → PassesBy p key → ⊥
no_return tree key node p reached passes =
    let q = passed_path tree node.parent key p reached.2 passes in
    let same = one_path tree (Some key) q.0 ((key, node) ∷ p) q.1 reached in
    omega (arith, ap length same, q.2)

-- ---- indicators
-- what is open below a path is opened on it
pub open_opened : (tree : Tree Term) → HasLegalNodes tree → (from : Option ℕ) (p : Path) → IsPath tree from p → (n : ℕ) → IsOpenBelow p n → IsAmong (opened p) n
open_opened tree legal from [] reached n is = is
open_opened tree legal from (step ∷ p) reached n is =
    let rights = right_indicators step.1.bindings in
    elim (open_from step.1.bindings (path_term p) n (legal.nodes step.0 step.1 reached.1).binds.distinct is) as (λ _. IsAmong (opened p ++ rights) n) [
      | inl h ↦ among_front (opened p) rights n (open_opened tree legal step.1.parent p reached.2 n h.0)
      | inr h ↦ among_back (opened p) rights n h
    ]

-- all that is opened is below the tree's bound
pub opened_low : (tree : Tree Term) → IsLegal tree → (from : Option ℕ) (p : Path) → IsPath tree from p → (n : ℕ) → IsAmong (opened p) n → n < tree.next
opened_low tree legal from [] reached n a = elim a as (λ _. n < tree.next) [ inl e ↦ subst (λ m. m < tree.next) e legal.zero_known | inr m ↦ absurd m ]
opened_low tree legal from (step ∷ p) reached n a =
    let rights = right_indicators step.1.bindings in
    elim (among_parts (opened p) rights n a) as (λ _. n < tree.next) [
      | inl b ↦ opened_low tree legal step.1.parent p reached.2 n b
      | inr b ↦ all_at (λ m. m < tree.next) rights n (low_rights tree step.1.bindings (legal.nodes step.0 step.1 reached.1).binds.within) b
    ]

-- a path of a legal tree opens each once
pub path_opens_once : (tree : Tree Term) → HasLegalNodes tree → (from : Option ℕ) (p : Path) → IsPath tree from p → OpensOnce p
path_opens_once tree legal from [] reached = ((λ a. a), tt)
path_opens_once tree legal from (step ∷ p) reached =
    let h = legal.nodes step.0 step.1 reached.1 in
    subst (λ q. OpensOnce (step ∷ q)) (one_path tree step.1.parent h.above p h.reached reached.2) h.opens

-- and in its term each stands once
pub open_once : (tree : Tree Term) → HasLegalNodes tree → (from : Option ℕ) (p : Path) → IsPath tree from p → AreDistinct (indicators (path_term p))
open_once tree legal from [] reached = ((λ a. a), tt)
open_once tree legal from (step ∷ p) reached =
    let bs = step.1.bindings in
    let once = distinct_parts (opened p) (right_indicators bs) (path_opens_once tree legal from (step ∷ p) reached) in
    term_once bs (path_term p) (legal.nodes step.0 step.1 reached.1).binds.distinct
    (distinct_append (indicators (path_term p)) (right_indicators bs) (open_once tree legal step.1.parent p reached.2) once.1 (λ n a b. once.2 n (open_opened tree legal step.1.parent p reached.2 n a) b))

-- ---- open means opened and not bound
-- the indicators that the nodes of a path bind
abbrev pub bound_on : Path → List ℕ
bound_on [] = []
bound_on (step ∷ p) = bound_on p ++ left_sides step.1.bindings

module _ (tree : Tree Term) (legal : HasLegalNodes tree) where
  -- a node binds what is open above it
  pub left_open : (from : Option ℕ) (step : ℕ × Node Term) (p : Path) → IsPath tree from (step ∷ p) → (n : ℕ) → IsAmong (left_sides step.1.bindings) n → IsOpenBelow p n
  left_open from step p reached n a =
      let h = legal.nodes step.0 step.1 reached.1 in
      all_at (IsOpenBelow p) (left_sides step.1.bindings) n (subst (λ q. AllByRecursion (IsOpenBelow q) (left_sides step.1.bindings)) (one_path tree step.1.parent h.above p h.reached reached.2) h.binds.lefts) a

  bound_above : (from : Option ℕ) (step : ℕ × Node Term) (p : Path) → IsPath tree from (step ∷ p) → (n : ℕ) → (IsAmong (bound_on p) n → IsAmong (opened p) n) → IsAmong (bound_on (step ∷ p)) n → IsAmong (opened p) n
  bound_above from step p reached n above a = elim (among_parts (bound_on p) (left_sides step.1.bindings) n a) as (λ _. IsAmong (opened p) n) [
    | inl b ↦ above b
    | inr b ↦ open_opened tree legal step.1.parent p reached.2 n (left_open from step p reached n b)
  ]

  -- what a path binds it opens
  pub bound_opened : (from : Option ℕ) (p : Path) → IsPath tree from p → (n : ℕ) → IsAmong (bound_on p) n → IsAmong (opened p) n
  bound_opened from [] reached n a = absurd a
  bound_opened from (step ∷ p) reached n a = among_front (opened p) (right_indicators step.1.bindings) n (bound_above from step p reached n (bound_opened step.1.parent p reached.2 n) a)

  abbrev IsOpenedOnly : Path → ℕ → Type 0
  IsOpenedOnly p n = IsAmong (opened p) n × (IsAmong (bound_on p) n → ⊥)

  one_step : (from : Option ℕ) (step : ℕ × Node Term) (p : Path) → IsPath tree from (step ∷ p) → (n : ℕ) → IsOpenBelow p n ↔ IsOpenedOnly p n → IsOpenBelow (step ∷ p) n ↔ IsOpenedOnly (step ∷ p) n
  one_step from step p reached n above = (
    (λ a. elim (open_from bs (path_term p) n distinct a) as (λ _. IsOpenedOnly (step ∷ p) n) [
      | inl h ↦ (let was = above.0 h.0 in (
        among_front (opened p) (right_indicators bs) n was.0,
        (λ b. elim (among_parts (bound_on p) (left_sides bs) n b) as (λ _. ⊥) [ inl c ↦ was.1 c | inr c ↦ h.1 c ]),
      ))
      | inr h ↦ (among_back (opened p) (right_indicators bs) n h, (λ b. apart n (bound_above from step p reached n (bound_opened step.1.parent p reached.2 n) b) h))
    ]),
    (λ h. is_open bs (path_term p) n distinct (all_from (IsOpenBelow p) (left_sides bs) (left_open from step p reached))
        (elim (among_parts (opened p) (right_indicators bs) n h.0) as (λ _. IsOpenAfter bs (path_term p) n) [
          | inl a ↦ inl (above.1 (a, (λ b. h.1 (among_front (bound_on p) (left_sides bs) n b))), (λ b. h.1 (among_back (bound_on p) (left_sides bs) n b)))
          | inr a ↦ inr a
        ])),
  ) where
    bs : List Binding
    bs = step.1.bindings

    distinct : AreDistinct (left_sides step.1.bindings)
    distinct = (legal.nodes step.0 step.1 reached.1).binds.distinct

    apart : (k : ℕ) → IsAmong (opened p) k → IsAmong (right_indicators step.1.bindings) k → ⊥
    apart = (distinct_parts (opened p) (right_indicators step.1.bindings) (path_opens_once tree legal from (step ∷ p) reached)).2

  -- An indicator is open below a path exactly where the path opens it and doesn't bind it.
  pub open_exactly : (from : Option ℕ) (p : Path) → IsPath tree from p → (n : ℕ) → IsOpenBelow p n ↔ (IsAmong (opened p) n × (IsAmong (bound_on p) n → ⊥))
  open_exactly from [] reached n = ((λ a. (a, (λ b. b))), (λ h. h.0))
  open_exactly from (step ∷ p) reached n = one_step from step p reached n (open_exactly step.1.parent p reached.2 n)

-- ---- which splits a legal tree allows
-- The bindings of a node may be split against each list with the same left sides that opens none,
-- if there is room for the fresh indicators.
pub may_split : (tree : Tree Term) → IsLegal tree → (key : ℕ) (node : Node Term) (new : List Binding) → HasNode tree key node → left_sides node.bindings ≡ left_sides new → OpensNone new → tree.next + right_sizes node.bindings < 2 ^ 31 → MaySplit tree.next node.bindings new
may_split tree legal key node new has same none room = record {
  same_lefts = same;
  distinct = h.binds.distinct;
  low = all_from (λ n. n < tree.next) (left_sides node.bindings) (λ n a. opened_low tree legal node.parent h.above h.reached n (left_opened n a));
  ground = none;
  opens_once = parts.1;
  opens_low = low_rights tree node.bindings h.binds.within;
  opens_others = all_from (λ n. IsAmong (left_sides node.bindings) n → ⊥) (right_indicators node.bindings) (λ n a b. parts.2 n (left_opened n b) a);
  no_bare = h.binds.rights;
  room = room;
} where
  h : IsLegalNode tree key node
  h = legal.nodes key node has

  parts : AreDistinct (opened h.above) × AreDistinct (right_indicators node.bindings) × ((n : ℕ) → IsAmong (opened h.above) n → IsAmong (right_indicators node.bindings) n → ⊥)
  parts = distinct_parts (opened h.above) (right_indicators node.bindings) h.opens

  left_opened : (n : ℕ) → IsAmong (left_sides node.bindings) n → IsAmong (opened h.above) n
  left_opened n a = open_opened tree (legal_nodes tree legal) node.parent h.above h.reached n (all_at (IsOpenBelow h.above) (left_sides node.bindings) n h.binds.lefts a)
