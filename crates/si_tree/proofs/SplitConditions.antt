-- What the conditions of a split give to the code.
use Rattle.std.proofs.Common.{◌≡◌, ℕ, ◌<◌, true, false, List, [], ◌∷◌, ◌++◌, Some, inl, inr, refl, sym, ◌∙◌, subst, arith}
use Rattle.std.specs.List.{AllByRecursion}
use Rattle.std.proofs.lemmas.List.{map-append}
use Rattle.si_defs.specs.Terms as terms
use Rattle.si_defs.specs.Substitutions.{IsAmong, AreDistinct}
use Rattle.si_defs.proofs.ListLaws.{all_at, all_from, among_front}
use Rattle.si_flat.specs.Cells.{Variable, query, entry, ind, Term}
use Rattle.si_flat.specs.Rows.{left_sides}
use Rattle.si_flat.proofs.RowLaws.{distinct_parts, distinct_append}
use Rattle.si_legal.specs.declared.Posting.{Posting}
use Rattle.si_legal.specs.Bindings.{Binding, IsIndicator, indicators, right_indicators, applied}
use Rattle.si_legal.specs.Trees.{Tree, Path, IsPath, path_term, opened}
use Rattle.si_legal.specs.Legal.{IsLegal, IsOpenBelow, IsWithin}
use Rattle.si_legal.proofs.SplitLaws.{binding_left}
use Rattle.si_legal.proofs.PathLaws.{one_path}
use Rattle.si_changes.specs.Splits.{Parts, MaySplitNode}
use Rattle.si_changes.proofs.Frames.{legal_nodes, one_right}
use Rattle.si_changes.proofs.OpenLaws.{open_opened, opened_low, path_opens_once}
use Rattle.si_changes.proofs.ComposeLaws.{is_open, right_applied}
use Rattle.si_changes.proofs.DivideLaws.{Divides, divides}
use Rattle.si_tree.specs.declared.node.Head.{Head}
use Rattle.si_tree.specs.declared.node.Head.TheVariants.{Sym, Var}
use Rattle.si_tree.specs.Heads.{HasHead}
use Rattle.si_tree.proofs.HeadLaws.{heads_same}
use Rattle.si_tree.proofs.RightLaws.{IsHeaded}
use Rattle.si_tree.proofs.VariableLaws.{leaf_variable}

module _ (old : Tree Term) (key : ℕ) (parts : Parts) (others : List Binding) (p : Posting) (legal : IsLegal old) (may : MaySplitNode old key parts others p) where
  abbrev top : Path
  top = (may.parent, may.parent_node) ∷ may.above

  abbrev upper : Term
  upper = applied parts.common (path_term ((may.parent, may.parent_node) ∷ may.above))

  top_reached : IsPath old (Some may.parent) top
  top_reached = (refl, may.reached.2.1, may.reached.2.2)

  given : Divides old.next may.node.bindings parts.common parts.rest_node parts.rest_new
  given = divides old.next may.node.bindings may.new parts.common parts.rest_node parts.rest_new may.may_split may.splits

  node_open : (n : ℕ) → IsAmong (left_sides may.node.bindings) n → IsAmong (indicators (path_term top)) n
  node_open n a =
      let h = legal.nodes key may.node may.reached.1 in
      let same : h.above ≡ top = one_path old may.node.parent h.above top h.reached may.reached.2 in
      subst (λ q. IsOpenBelow q n) same (all_at (IsOpenBelow h.above) (left_sides may.node.bindings) n h.binds.lefts a)

  common_open : AllByRecursion (IsAmong (indicators (path_term top))) (left_sides parts.common)
  common_open = all_from (IsAmong (indicators (path_term top))) (left_sides parts.common) (λ n a. node_open n (given.common_left n a))

  still_open : (n : ℕ) → IsAmong (indicators (path_term top)) n → (IsAmong (left_sides parts.common) n → ⊥) → IsAmong (indicators upper) n
  still_open n a other = is_open parts.common (path_term top) n given.common_distinct common_open (inl (a, other))

  newly_open : (n : ℕ) → IsAmong (right_indicators parts.common) n → IsAmong (indicators upper) n
  newly_open n a = is_open parts.common (path_term top) n given.common_distinct common_open (inr a)

  new_open : (n : ℕ) → IsAmong (left_sides parts.rest_new) n → IsAmong (indicators upper) n
  new_open n a = elim ((given.new_left n).0 a) as (λ _. IsAmong (indicators upper) n) [
    | inl h ↦ still_open n (node_open n h.0) h.1
    | inr h ↦ newly_open n h
  ]

  -- an indicator that is open above isn't opened by the node, and is no fresh one
  not_opened : (n : ℕ) → IsAmong (indicators (path_term top)) n → IsAmong (right_indicators parts.common) n → ⊥
  not_opened n a b =
      let opened_there = open_opened old (legal_nodes old legal) (Some may.parent) top top_reached n a in
      elim (given.common_opens n b) as (λ _. ⊥) [
        | inl c ↦ (distinct_parts (opened top) (right_indicators may.node.bindings) (path_opens_once old (legal_nodes old legal) (Some key) ((key, may.node) ∷ top) may.reached)).2 n opened_there c
        | inr high ↦ absurd (omega (arith, high, opened_low old legal (Some may.parent) top top_reached n opened_there))
      ]

  pub leaf_distinct : AreDistinct (left_sides parts.rest_new ++ left_sides others)
  leaf_distinct = distinct_append (left_sides parts.rest_new) (left_sides others) given.new_distinct may.binds.0 apart where
    apart : (n : ℕ) → IsAmong (left_sides parts.rest_new) n → IsAmong (left_sides others) n → ⊥
    apart n a b =
        let other = (may.binds.1 n).0 b in
        elim ((given.new_left n).0 a) as (λ _. ⊥) [ inl h ↦ other.1 h.0 | inr h ↦ not_opened n other.0 h ]

  whole_distinct : AreDistinct (left_sides (parts.rest_new ++ others))
  whole_distinct = subst AreDistinct (sym (map-append (λ b. b.0) parts.rest_new others)) leaf_distinct

  -- ---- heads
  pub new_headed : (n : ℕ) (t : Term) → IsAmong parts.rest_new (n, t) → IsHeaded t
  new_headed n (terms.app s ts) a = (Sym s.number s.arity, (refl, refl))
  new_headed n (terms.var x) a = by x (leaf_variable (applied (parts.rest_new ++ others) upper) may.may_come.leaf_term x inside) where
    inside : IsAmong (terms.variables (applied (parts.rest_new ++ others) upper)) x
    inside = right_applied (parts.rest_new ++ others) upper (n, terms.var x) x whole_distinct (among_front parts.rest_new others (n, terms.var x) a) (new_open n (binding_left parts.rest_new n (terms.var x) a)) (inl refl)

    by : (x : Variable) → (m : ℕ) × (x ≡ entry m) × (m < may.may_come.leaf_term.numbered.0) → IsHeaded (terms.var x)
    by x (m, is, low) = subst (λ y. IsHeaded (terms.var y)) (sym is) (Var m, refl)

  pub node_headed : (n : ℕ) (t : Term) → IsAmong parts.rest_node (n, t) → IsHeaded t
  node_headed n (terms.app s ts) a = (Sym s.number s.arity, (refl, refl))
  node_headed n (terms.var (entry m)) a = (Var m, refl)
  node_headed n (terms.var (ind m)) a = absurd (all_at (λ b. IsIndicator b.1 → ⊥) parts.rest_node (n, terms.var (ind m)) given.node_rights a tt)
  node_headed n (terms.var (query m)) a =
      let v = given.node_variables (n, terms.var (query m)) (query m) a (inl refl) in
      absurd (all_at (IsWithin old) (terms.variables v.0.1) (query m) (all_at (λ b. AllByRecursion (IsWithin old) (terms.variables b.1)) may.node.bindings v.0 (legal.nodes key may.node may.reached.1).binds.within v.1) v.2)

  pub new_bound : (n : ℕ) (a : Term) → IsAmong parts.rest_node (n, a) → IsAmong (left_sides parts.rest_new) n
  new_bound n a among = (let found = given.rests_differ n a among in binding_left parts.rest_new n found.0 found.1)

  -- what stands at one left side in both rests has two heads
  pub heads_apart : (n : ℕ) (h k : Head) (t u : Term) → IsAmong parts.rest_node (n, t) → HasHead t h → IsAmong parts.rest_new (n, u) → HasHead u k → IsAmong (h ∷ []) k → ⊥
  heads_apart n h k t u a p b q (inr none) = none
  heads_apart n h k t u a p b q (inl e) =
      let found = given.rests_differ n t a in
      let same : u ≡ found.0 = one_right parts.rest_new n u found.0 given.new_distinct b found.1 in
      differ (sym (heads_same t found.0 k (subst (HasHead t) e p) (subst (λ v. HasHead v k) same q)) ∙ found.2) where
        differ : true ≡ false → ⊥
        differ f = cc
