-- An insertion begins at the root, goes on below a child whose bindings fit, and ends.
use Rattle.std.proofs.Common.{◌≡◌, ℕ, inl, false, List, [], ◌∷◌, ◌++◌, length, take, Some, refl, sym, ◌∙◌, ap, subst, arith, append-nil}
use Rattle.std.specs.List.{AllByRecursion}
use Rattle.si_defs.specs.Terms as terms
use Rattle.si_defs.specs.Substitutions.{IsAmong, AreDistinct, image}
use Rattle.si_defs.proofs.ListLaws.{all_weaker}
use Rattle.si_flat.specs.Cells.{entry, ind, same_variable, Term, Terms, cells_of, StandsFor}
use Rattle.si_flat.specs.Rows.{CellPair, left_sides, first_span}
use Rattle.si_flat.specs.declared.Cell.{Cell}
use Rattle.si_flat.proofs.RowLaws.{first_taken, distinct_parts}
use Rattle.si_flat.proofs.Subterms.{cells_some}
use Rattle.si_flat.proofs.FirstPlaces.{among_firsts}
use Rattle.si_flat.proofs.VariableLaws.{variable_is}
use Rattle.si_legal.specs.Bindings.{Binding, indicators, indicator, right_indicators, OpensNone, BindsExactly, applied, substitution_of, StandForBindings}
use Rattle.si_legal.specs.declared.Posting.{Posting}
use Rattle.si_legal.specs.Trees.{leaf, Node, Tree, HasNode, Path, IsPath, path_term, opened, IsLeaf}
use Rattle.si_legal.specs.Legal.{IsOpenBelow, IsLeafTerm, IsLegalContent, IsLegalNode, IsLegal}
use Rattle.si_legal.proofs.PathLaws.{one_path}
use Rattle.si_legal.proofs.SplitLaws.{binding_left}
use Rattle.si_changes.proofs.ComposeLaws.{indicator_in, among_right, right_applied}
use Rattle.si_changes.proofs.HeadLaws.{indicator_variable}
use Rattle.si_changes.proofs.Frames.{legal_nodes}
use Rattle.si_changes.proofs.OpenLaws.{open_opened}
use Rattle.si_changes.proofs.NewLeaves.{counted}
use Rattle.si_insert.specs.declared.open.Opened.{Opened}
use Rattle.si_insert.specs.Passing.{without, MayPass, Passes}
use Rattle.si_insert.specs.Underway.{IsInsertUnderway, HoldsOpened}
use Rattle.si_insert.proofs.StepLaws.{gives_after, binds_after}

-- ---- the start
pub underway_at_root : (tree : Tree Term) (t : Term) (legal : IsLegal tree) → IsInsertUnderway tree tree.root t ((tree.root, legal.root.0) ∷ []) ((0, t) ∷ [])
underway_at_root tree t legal =
    let node = legal.root.0 in
    let root = legal.root.2 in
    let term : applied node.bindings (indicator 0) ≡ indicator 0 = ap (λ bs. applied bs (indicator 0)) root.bindings in
    let inside : indicators (applied node.bindings (indicator 0)) ≡ 0 ∷ [] = ap indicators term in
    record {
      reached = (refl, legal.root.1, root.parent);
      binds = ((λ among. among, tt), λ n. (λ among. subst (λ l. IsAmong l n) (sym inside) among, λ among. subst (λ l. IsAmong l n) inside among));
      gives = ap (applied ((0, t) ∷ [])) term;
    }

pub holds_at_root : (tree : Tree Term) (cells : List Cell) (t : Term) (legal : IsLegal tree) → StandsFor cells t → HoldsOpened cells (record { indicator = 0; at = 0; bound = false } ∷ []) ((tree.root, legal.root.0) ∷ []) ((0, t) ∷ [])
holds_at_root tree cells t legal stands = record {
  stand = (refl, subst (λ l. StandsFor l t) (sym (ap (λ l. take (first_span l) l) whole ∙ first_taken (cells_of t) [] (t, record { cells_are = refl; sound = stands.sound }) ∙ sym stands.cells_are)) stands, tt);
  within = (omega (arith, ap length stands.cells_are, cells_some t), tt);
  numbers_are = ap (λ bs. 0 ∷ right_indicators bs) (sym legal.root.2.bindings);
} where
  whole : cells ≡ cells_of t ++ []
  whole = stands.cells_are ∙ sym (append-nil (cells_of t))

-- ---- a child
-- what the child's path is
pub child_path : (tree : Tree Term) (key child : ℕ) (node : Node Term) (path : Path) → IsLegal tree → IsPath tree (Some key) path → HasNode tree child node → node.parent ≡ Some key → (legal : IsLegalNode tree child node) → legal.above ≡ path
child_path tree key child node path legal reached has below h = one_path tree (Some key) h.above path (subst (λ k. IsPath tree k h.above) below h.reached) reached

pub may_pass : (tree : Tree Term) (key child : ℕ) (node : Node Term) (path : Path) (t : Term) (there : List Binding) (cells : List Cell) (all : List Opened) (pairs : List CellPair) → IsLegal tree → IsInsertUnderway tree key t path there → HoldsOpened cells all path there → HasNode tree child node → node.parent ≡ Some key → StandForBindings pairs node.bindings → MayPass cells all pairs there node.bindings
may_pass tree key child node path t there cells all pairs legal u h has below stand =
    let k = legal.nodes child node has in
    let same = child_path tree key child node path legal u.reached has below k in
    record {
      stand = h.stand;
      within = h.within;
      node_stand = stand;
      lefts = all_weaker (IsOpenBelow k.above) (IsAmong (left_sides there)) (left_sides node.bindings) (λ n open_there. (u.binds.1 n).1 (subst (λ p. IsOpenBelow p n) same open_there)) k.binds.lefts;
      distinct = subst (λ l. AreDistinct (l ++ right_indicators node.bindings)) (ap opened same ∙ sym h.numbers_are) k.opens;
    }

pub record Step (tree : Tree Term) (child : ℕ) (node : Node Term) (path : Path) (t : Term) (cells : List Cell) (new : List Opened) : Type 0 where
  pub there : List Binding
  pub underway : IsInsertUnderway tree child t ((child, node) ∷ path) there
  pub holds : HoldsOpened cells new ((child, node) ∷ path) there

pub stepped : (tree : Tree Term) (key child : ℕ) (node : Node Term) (path : Path) (t : Term) (there fs : List Binding) (cells : List Cell) (all new : List Opened) → IsLegal tree → IsInsertUnderway tree key t path there → HoldsOpened cells all path there → HasNode tree child node → node.parent ≡ Some key → Passes cells all new there node.bindings fs → Step tree child node path t cells new
stepped tree key child node path t there fs cells all new legal u h has below passes =
    let k = legal.nodes child node has in
    let same = child_path tree key child node path legal u.reached has below k in
    let lefts : AllByRecursion (IsOpenBelow path) (left_sides node.bindings) = subst (λ p. AllByRecursion (IsOpenBelow p) (left_sides node.bindings)) same k.binds.lefts in
    let opens : AreDistinct (opened path ++ right_indicators node.bindings) = subst (λ p. AreDistinct (opened p ++ right_indicators node.bindings)) same k.opens in
    let parts = distinct_parts (opened path) (right_indicators node.bindings) opens in
    let apart : (n : ℕ) → IsAmong (indicators (path_term path)) n → IsAmong (right_indicators node.bindings) n → ⊥ = λ n inside right. parts.2 n (open_opened tree (legal_nodes tree legal) (Some key) path u.reached n inside) right in
    record {
      there = without (left_sides node.bindings) there ++ fs;
      underway = record {
        reached = (refl, has, subst (λ p. IsPath tree p path) (sym below) u.reached);
        binds = binds_after (path_term path) there node.bindings fs u.binds lefts k.binds.distinct apart parts.1 passes.fit;
        gives = gives_after (path_term path) there node.bindings fs u.binds lefts k.binds.distinct apart parts.1 passes.fit ∙ u.gives;
      };
      holds = record {
        stand = passes.stand;
        within = passes.within;
        numbers_are = passes.numbers_are ∙ (λ i. h.numbers_are i ++ passes.fit.lefts i);
      };
    }

-- ---- the end
pub leaf_ground : (t : Term) → IsLeafTerm t → (n : ℕ) → IsAmong (indicators t) n → ⊥
leaf_ground t is n among =
    let x = counted 0 is.numbered.0 (ind n) (subst (λ l. IsAmong l (ind n)) is.numbered.1 (among_firsts same_variable variable_is (terms.variables t) (ind n) (indicator_variable (terms.variables t) n among))) in
    apart x.0 x.1 where
      apart : (m : ℕ) → ind n ≡ entry m → ⊥
      apart m e = cc

pub none_among : (ns : List ℕ) → ((n : ℕ) → IsAmong ns n → ⊥) → ns ≡ []
none_among [] h = refl
none_among (n ∷ ns) h = absurd (h n (inl refl))

pub none_open : (p t : Term) (there : List Binding) → BindsExactly (λ n. IsAmong (indicators p) n) there → applied there p ≡ t → IsLeafTerm t → OpensNone there
none_open p t there binds gives is = none_among (right_indicators there) by where
  by : (k : ℕ) → IsAmong (right_indicators there) k → ⊥
  by k among =
      let b = among_right there k among in
      let inside = right_applied there p b.0 (ind k) binds.0 b.1 ((binds.1 b.0.0).0 (binding_left there b.0.0 b.0.1 b.1)) (indicator_variable (terms.variables b.0.1) k b.2) in
      leaf_ground t is k (indicator_in (terms.variables t) k (subst (λ v. IsAmong (terms.variables v) (ind k)) gives inside))

mutual
  pub stays_whole : (t : Term) → applied [] t ≡ t
  stays_whole (terms.var x) = refl
  stays_whole (terms.app s ts) = ap (terms.app s) (all_stay_whole ts)

  all_stay_whole : (ts : Terms) → terms.substitute_all (image same_variable (substitution_of [])) ts ≡ ts
  all_stay_whole terms.none = refl
  all_stay_whole (terms.more t ts) = λ i. terms.more (stays_whole t i) (all_stay_whole ts i)

-- at a leaf the path's term is the term
pub at_leaf : (tree : Tree Term) (key : ℕ) (node : Node Term) (above : Path) (t : Term) (there : List Binding) (ps : List Posting) → IsLegal tree → IsInsertUnderway tree key t ((key, node) ∷ above) there → node.content ≡ leaf ps → IsLeaf tree key t ps
at_leaf tree key node above t there ps legal u content =
    let k = legal.nodes key node u.reached.1 in
    let same : k.above ≡ above = one_path tree node.parent k.above above k.reached u.reached.2 in
    let is : IsLeafTerm (path_term ((key, node) ∷ above)) = (subst (λ p. IsLegalContent tree key ((key, node) ∷ p) (leaf ps)) same (subst (IsLegalContent tree key ((key, node) ∷ k.above)) content k.content)).1 in
    let none : left_sides there ≡ [] = none_among (left_sides there) (λ n among. leaf_ground (path_term ((key, node) ∷ above)) is n ((u.binds.1 n).0 among)) in
    record {
      node = node;
      above = above;
      reached = u.reached;
      content = content;
      term = sym u.gives ∙ ap (λ bs. applied bs (path_term ((key, node) ∷ above))) (no_lefts there none) ∙ stays_whole (path_term ((key, node) ∷ above));
    } where
      no_lefts : (bs : List Binding) → left_sides bs ≡ [] → bs ≡ []
      no_lefts [] e = refl
      no_lefts (b ∷ bs) e = cc
