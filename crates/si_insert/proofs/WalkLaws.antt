-- The walk of an insertion from the root down.
use Rattle.std.proofs.Common.{◌≡◌, ℕ, zero, suc, ◌+◌, ◌-◌, ◌<◌, ◌≤◌, false, List, [], ◌∷◌, length, Option, None, Some, refl, sym, ◌∙◌, ap, subst, arith}
use Rattle.std.specs.Prelude.{slice_index_or}
use Rattle.si_defs.specs.Substitutions.{IsAmong}
use Rattle.si_defs.proofs.ListLaws.{all_at}
use Rattle.si_flat.specs.declared.Cell.{Cell}
use Rattle.si_flat.specs.Cells.{Term, StandsFor}
use Rattle.si_flat.proofs.Subterms.{length-cells_of}
use Rattle.si_legal.specs.Bindings.{Binding, IsIndicator}
use Rattle.si_legal.specs.Trees.{inner, Node, Tree, HasNode, Path, IsPath, path_term}
use Rattle.si_legal.specs.Legal.{IsOpenBelow, IsLegalContent, IsLegal}
use Rattle.si_legal.proofs.PathLaws.{one_path, one_node}
use Rattle.si_changes.proofs.HeadLaws.{image_bound}
use Rattle.si_changes.proofs.WeightLaws.{weight, not_lighter, heavier, some_weight, no_heavier_than_large}
use Rattle.si_tree.specs.declared.node.Head.{Head}
use Rattle.si_tree.specs.Heads.{HasHead, IsChildBy}
use Rattle.si_insert.specs.declared.open.Opened.{Opened}
use Rattle.si_insert.specs.Passing.{Passes}
use Rattle.si_insert.specs.Underway.{IsInsertUnderway, HoldsOpened}
use Rattle.si_insert.proofs.UnderwayLaws.{underway_at_root, holds_at_root, stepped}

-- ---- a path, found from its end
abbrev pub path_from : ℕ → Tree Term → Option ℕ → Path
path_from zero tree key = []
path_from (suc n) tree None = []
path_from (suc n) tree (Some key) =
    elim (slice_index_or tree.nodes key None) [
      | None ↦ []
      | Some node ↦ (key, node) ∷ path_from n tree node.parent
    ]

found_path : (n : ℕ) (tree : Tree Term) (key : Option ℕ) (p : Path) → IsPath tree key p → length p ≤ n → path_from n tree key ≡ p
found_path zero tree key [] reached few = refl
found_path zero tree key (step ∷ p) reached few = absurd (omega (arith, few))
found_path (suc n) tree key [] reached few = ap (path_from (suc n) tree) reached
found_path (suc n) tree key (step ∷ p) reached few =
    let rest = found_path n tree step.1.parent p reached.2 (omega (arith, few)) in
    ap (path_from (suc n) tree) reached.0
    ∙ ap (λ o. elim o as (λ _. Path) [ None ↦ [] | Some node ↦ (step.0, node) ∷ path_from n tree node.parent ]) reached.1
    ∙ ap (λ q. step ∷ q) rest

-- ---- where the walk stands
pub record Walk (tree : Tree Term) (cells : List Cell) (t : Term) (key : ℕ) (all : List Opened) : Type 0 where
  pub path : Path
  pub there : List Binding
  pub underway : IsInsertUnderway tree key t path there
  pub holds : HoldsOpened cells all path there
  pub long : length path ≤ 1 + weight (path_term path)

pub walk_start : (tree : Tree Term) (cells : List Cell) (t : Term) (all : List Opened) → IsLegal tree → StandsFor cells t → all ≡ record { indicator = 0; at = 0; bound = false } ∷ [] → Walk tree cells t tree.root all
walk_start tree cells t all legal stands e = record {
  path = (tree.root, legal.root.0) ∷ [];
  there = (0, t) ∷ [];
  underway = underway_at_root tree t legal;
  holds = subst (λ l. HoldsOpened cells l ((tree.root, legal.root.0) ∷ []) ((0, t) ∷ [])) (sym e) (holds_at_root tree cells t legal stands);
  long = omega arith;
}

-- what is left to come, at most
abbrev pub left_of : List Cell → Tree Term → ℕ → ℕ
left_of cells tree key =
    suc (length cells) - weight (path_term (path_from (suc (suc (length cells))) tree (Some key)))

not_too_heavy : (tree : Tree Term) (cells : List Cell) (t : Term) (key : ℕ) (all : List Opened) → StandsFor cells t → (w : Walk tree cells t key all) → weight (path_term w.path) ≤ length cells
not_too_heavy tree cells t key all stands w = omega (arith, not_lighter w.there (path_term w.path), ap weight w.underway.gives, no_heavier_than_large t, ap length stands.cells_are, length-cells_of t)

left_is : (tree : Tree Term) (cells : List Cell) (t : Term) (key : ℕ) (all : List Opened) → StandsFor cells t → (w : Walk tree cells t key all) → left_of cells tree key ≡ suc (length cells) - weight (path_term w.path)
left_is tree cells t key all stands w = ap (λ p. suc (length cells) - weight (path_term p)) (found_path (suc (suc (length cells))) tree (Some key) w.path w.underway.reached (omega (arith, w.long, not_too_heavy tree cells t key all stands w)))

-- ---- a step
pub record WalksOn (tree : Tree Term) (cells : List Cell) (t : Term) (key child : ℕ) (new : List Opened) : Type 0 where
  pub walk : Walk tree cells t child new
  pub less : left_of cells tree child < left_of cells tree key

-- the child, with its bindings
pub record Below (tree : Tree Term) (key child split : ℕ) (head : Head) : Type 0 where
  pub node : Node Term
  pub has : HasNode tree child node
  pub below : node.parent ≡ Some key
  pub right : Term
  pub binds : IsAmong node.bindings (split, right)
  pub right_head : HasHead right head
  pub inside : (p : Path) → IsPath tree (Some key) p → IsOpenBelow p split

pub below_child : (tree : Tree Term) (key child split : ℕ) (children : List ℕ) (node : Node Term) (head : Head) → IsLegal tree → HasNode tree key node → node.content ≡ inner split children → IsChildBy tree key head child → Below tree key child split head
below_child tree key child split children node head legal has content by =
    let same : by.node ≡ node = one_node tree key by.node node by.has has in
    let alike : inner by.split by.children ≡ inner split children = sym by.content ∙ ap (λ n. n.content) same ∙ content in
    let split_is : by.split ≡ split = split_same by.split split by.children children alike in
    let children_are : by.children ≡ children = children_same by.split split by.children children alike in
    let k = legal.nodes key node has in
    let h = subst (IsLegalContent tree key ((key, node) ∷ k.above)) content k.content in
    let c = (h.1 child).0 (subst (λ l. IsAmong l child) children_are by.among) in
    let binds = by.by.1 in
    let one : binds.0 ≡ c.0 = one_node tree child binds.0 c.0 binds.1 c.1 in
    record {
      node = c.0;
      has = c.1;
      below = c.2;
      right = by.by.0;
      right_head = by.by.2;
      binds = subst (λ n. IsAmong n.bindings (split, by.by.0)) one (subst (λ n. IsAmong binds.0.bindings (n, by.by.0)) split_is binds.2);
      inside = λ p reached. subst (λ q. IsOpenBelow q split) (one_path tree (Some key) ((key, node) ∷ k.above) p (refl, has, k.reached) reached) h.0;
    } where
      split_same : (m n : ℕ) (ms ns : List ℕ) → inner m ms ≡ inner n ns → m ≡ n
      split_same m n ms ns e = cc

      children_same : (m n : ℕ) (ms ns : List ℕ) → inner m ms ≡ inner n ns → ms ≡ ns
      children_same m n ms ns e = cc

pub walked : (tree : Tree Term) (cells : List Cell) (t : Term) (key child split : ℕ) (head : Head) (all new : List Opened) → IsLegal tree → StandsFor cells t → (w : Walk tree cells t key all) → (b : Below tree key child split head) → (fs : List Binding) → Passes cells all new w.there b.node.bindings fs → WalksOn tree cells t key child new
walked tree cells t key child split head all new legal stands w b fs passes =
    let s = stepped tree key child b.node w.path t w.there fs cells all new legal w.underway w.holds b.has b.below passes in
    let k = legal.nodes child b.node b.has in
    let bound_is = image_bound b.node.bindings split b.right k.binds.distinct b.binds in
    let more = heavier b.node.bindings (path_term w.path) split (b.inside w.path w.underway.reached) in
    let some = some_weight b.right (all_at (λ c. IsIndicator c.1 → ⊥) b.node.bindings (split, b.right) k.binds.rights b.binds) in
    let walk : Walk tree cells t child new = record {
      path = (child, b.node) ∷ w.path;
      there = s.there;
      underway = s.underway;
      holds = s.holds;
      long = omega (arith, w.long, more, ap weight bound_is, some);
    } in
    record {
      walk = walk;
      less = omega (arith, left_is tree cells t key all stands w, left_is tree cells t child new stands walk, not_too_heavy tree cells t child new stands walk, more, ap weight bound_is, some);
    }
