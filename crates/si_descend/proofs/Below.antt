-- Which nodes stand below a node: itself, and those below its children, each below one of them.
use Rattle.std.proofs.Common.{◌≡◌, ◌⊎◌, inl, inr, ℕ, zero, suc, ◌+◌, ◌≤◌, List, [], ◌∷◌, Option, None, Some, length, slice_index_or, refl, ap, sym, ◌∙◌, subst, arith}
use Rattle.std.proofs.lemmas.Option.{same_Some}
use Rattle.si_defs.specs.Substitutions.{IsAmong, AreDistinct}
use Rattle.si_flat.specs.Cells.{Term}
use Rattle.si_legal.specs.Counts.{counted, node_count}
use Rattle.si_legal.specs.Trees.{Node, Tree, HasNode, Path, IsPath, PassesBy}
use Rattle.si_legal.proofs.PathLaws.{one_node}
use Rattle.si_changes.proofs.OpenLaws.{no_return}
use Rattle.si_descend.proofs.ExactLists.{no_more}

-- the node is a child of this one
abbrev pub IsChildOf : Tree Term → ℕ → ℕ → Type 0
IsChildOf tree key child = (node : Node Term) × HasNode tree child node × (node.parent ≡ Some key)

module _ (tree : Tree Term) where
  -- ---- paths
  no_end : {X : Type 0} (x : X) → Some x ≡ None → ⊥
  no_end x e = cc

  pub passes_first : (key : ℕ) (p : Path) → IsPath tree (Some key) p → PassesBy p key
  passes_first key [] reached = absurd (no_end key reached)
  passes_first key (step ∷ above) reached = inl (same_Some step.0 key (sym reached.0))

  -- a path that passes by a node starts there, or passes by a child of it
  pub passes_child : (from : Option ℕ) (p : Path) (top : ℕ) → IsPath tree from p → PassesBy p top → (from ≡ Some top) ⊎ ((child : ℕ) × IsChildOf tree top child × PassesBy p child)
  passes_child from [] top reached passes = absurd passes
  passes_child from (step ∷ above) top reached (inl e) = inl (reached.0 ∙ ap Some e)
  passes_child from (step ∷ above) top reached (inr passes) = elim (passes_child step.1.parent above top reached.2 passes) as (λ _. (from ≡ Some top) ⊎ ((child : ℕ) × IsChildOf tree top child × PassesBy (step ∷ above) child)) [
    | inl e ↦ inr (step.0, (step.1, reached.1, e), inl refl)
    | inr h ↦ inr (h.0, h.1, inr h.2)
  ]

  -- and one that passes by a child passes by the node
  pub child_passes : (from : Option ℕ) (p : Path) (top child : ℕ) → IsPath tree from p → IsChildOf tree top child → PassesBy p child → PassesBy p top
  child_passes from [] top child reached is passes = absurd passes
  child_passes from (step ∷ above) top child reached is (inl e) =
      let same = one_node tree child step.1 is.0 (subst (λ k. HasNode tree k step.1) e reached.1) is.1 in
      inr (passes_first top above (subst (λ k. IsPath tree k above) (ap (λ n. n.parent) same ∙ is.2) reached.2))
  child_passes from (step ∷ above) top child reached is (inr passes) = inr (child_passes step.1.parent above top child reached.2 is passes)

  -- the node's own path passes by no child
  pub no_child_above : (top child : ℕ) (p : Path) → IsPath tree (Some top) p → IsChildOf tree top child → PassesBy p child → ⊥
  no_child_above top child p reached is passes =
      no_return tree child is.0 p (refl, is.1, subst (λ k. IsPath tree k p) (sym is.2) reached) passes

  -- a path passes by one child
  pub one_child : (from : Option ℕ) (p : Path) (top one other : ℕ) → IsPath tree from p → IsChildOf tree top one → IsChildOf tree top other → PassesBy p one → PassesBy p other → one ≡ other
  one_child from [] top one other reached is is' passes passes' = absurd passes
  one_child from (step ∷ above) top one other reached is is' (inl e) (inl e') = sym e ∙ e'
  one_child from (step ∷ above) top one other reached is is' (inl e) (inr q) = absurd (no_child_above top other above (parent_path one e is) is' q) where
    parent_path : (child : ℕ) → step.0 ≡ child → (c : IsChildOf tree top child) → IsPath tree (Some top) above
    parent_path child e c = subst (λ k. IsPath tree k above) (ap (λ n. n.parent) (one_node tree child step.1 c.0 (subst (λ k. HasNode tree k step.1) e reached.1) c.1) ∙ c.2) reached.2
  one_child from (step ∷ above) top one other reached is is' (inr p) (inl e) = absurd (no_child_above top one above (parent_path other e is') is p) where
    parent_path : (child : ℕ) → step.0 ≡ child → (c : IsChildOf tree top child) → IsPath tree (Some top) above
    parent_path child e c = subst (λ k. IsPath tree k above) (ap (λ n. n.parent) (one_node tree child step.1 c.0 (subst (λ k. HasNode tree k step.1) e reached.1) c.1) ∙ c.2) reached.2
  one_child from (step ∷ above) top one other reached is is' (inr p) (inr q) = one_child step.1.parent above top one other reached.2 is is' p q

  -- ---- numbers of nodes
  abbrev keys_from : ℕ → List (Option (Node Term)) → List ℕ
  keys_from k [] = []
  keys_from k (None ∷ nodes) = keys_from (suc k) nodes
  keys_from k (Some node ∷ nodes) = k ∷ keys_from (suc k) nodes

  keys_counted : (k : ℕ) (nodes : List (Option (Node Term))) → length (keys_from k nodes) ≡ counted (λ content. 1) nodes
  keys_counted k [] = refl
  keys_counted k (None ∷ nodes) = keys_counted (suc k) nodes
  keys_counted k (Some node ∷ nodes) = omega (arith, keys_counted (suc k) nodes)

  key_among : (k n : ℕ) (nodes : List (Option (Node Term))) (node : Node Term) → slice_index_or nodes n None ≡ Some node → IsAmong (keys_from k nodes) (k + n)
  key_among k n [] node e = absurd (by e) where
    by : None ≡ Some node → ⊥
    by p = cc
  key_among k zero (None ∷ nodes) node e = absurd (by e) where
    by : None ≡ Some node → ⊥
    by p = cc
  key_among k zero (Some x ∷ nodes) node e = inl (omega arith)
  key_among k (suc n) (None ∷ nodes) node e = subst (IsAmong (keys_from (suc k) nodes)) (omega arith) (key_among (suc k) n nodes node e)
  key_among k (suc n) (Some x ∷ nodes) node e = inr (subst (IsAmong (keys_from (suc k) nodes)) (omega arith) (key_among (suc k) n nodes node e))

  from_zero : (n : ℕ) → 0 + n ≡ n
  from_zero n = omega arith

  -- distinct keys of nodes are no more than the nodes
  pub few_keys : (keys : List ℕ) → AreDistinct keys → ((key : ℕ) → IsAmong keys key → (node : Node Term) × HasNode tree key node) → length keys ≤ node_count tree
  few_keys keys distinct has =
      let most = no_more keys (keys_from 0 tree.nodes) distinct (λ key a. let n = has key a in subst (IsAmong (keys_from 0 tree.nodes)) (from_zero key) (key_among 0 key tree.nodes n.0 n.1)) in
      omega (arith, most, keys_counted 0 tree.nodes)

  -- ---- paths are no longer than the tree has nodes
  abbrev pub keys_of : Path → List ℕ
  keys_of [] = []
  keys_of (step ∷ above) = step.0 ∷ keys_of above

  passed : (p : Path) (key : ℕ) → IsAmong (keys_of p) key → PassesBy p key
  passed [] key a = absurd a
  passed (step ∷ above) key (inl e) = inl e
  passed (step ∷ above) key (inr a) = inr (passed above key a)

  keys_distinct : (from : Option ℕ) (p : Path) → IsPath tree from p → AreDistinct (keys_of p)
  keys_distinct from [] reached = tt
  keys_distinct from (step ∷ above) reached = (
    λ a. no_return tree step.0 step.1 above (refl, reached.1, reached.2) (passed above step.0 a),
    keys_distinct step.1.parent above reached.2,
  )

  keys_have : (from : Option ℕ) (p : Path) → IsPath tree from p → (key : ℕ) → IsAmong (keys_of p) key → (node : Node Term) × HasNode tree key node
  keys_have from [] reached key a = absurd a
  keys_have from (step ∷ above) reached key (inl e) = (step.1, subst (λ k. HasNode tree k step.1) e reached.1)
  keys_have from (step ∷ above) reached key (inr a) = keys_have step.1.parent above reached.2 key a

  keys_long : (p : Path) → length (keys_of p) ≡ length p
  keys_long [] = refl
  keys_long (step ∷ above) = ap suc (keys_long above)

  pub short_path : (from : Option ℕ) (p : Path) → IsPath tree from p → length p ≤ node_count tree
  short_path from p reached =
      omega (arith, keys_long p, few_keys (keys_of p) (keys_distinct from p reached) (keys_have from p reached))
