-- How far down a node stands: a child stands one deeper, and no node deeper than there are nodes.
use Rattle.std.proofs.Common.{◌≡◌, ℕ, zero, suc, ◌≤◌, [], ◌∷◌, Option, None, Some, length, refl, ap, ◌∙◌, subst, arith}
use Rattle.si_flat.specs.Cells.{Term}
use Rattle.si_legal.specs.Counts.{node_count}
use Rattle.si_legal.specs.Trees.{Tree, Path, IsPath}
use Rattle.si_changes.proofs.Frames.{HasLegalNodes}
use Rattle.si_descend.specs.Searching.{depth_within, one_deeper, depth}
use Rattle.si_descend.proofs.Below.{IsChildOf, short_path}

nowhere : (most : ℕ) (tree : Tree Term) → depth_within most tree None ≡ 0
nowhere zero tree = refl
nowhere (suc most) tree = refl

pub depth_path : (most : ℕ) (tree : Tree Term) (from : Option ℕ) (p : Path) → IsPath tree from p → length p ≤ most → depth_within most tree from ≡ length p
depth_path most tree from [] reached short = ap (depth_within most tree) reached ∙ nowhere most tree
depth_path zero tree from (step ∷ above) reached short = absurd (omega (arith, short))
depth_path (suc most) tree from (step ∷ above) reached short =
    let rest = depth_path most tree step.1.parent above reached.2 (omega (arith, short)) in
    let one = ap (depth_within (suc most) tree) reached.0 ∙ ap (one_deeper (depth_within most tree)) reached.1 in
    omega (arith, one, rest)

pub record IsDeeper (tree : Tree Term) (key child : ℕ) : Type 0 where
  pub one : depth tree child ≡ suc (depth tree key)
  pub few : depth tree child ≤ node_count tree

pub child_deeper : (tree : Tree Term) → HasLegalNodes tree → (key child : ℕ) → IsChildOf tree key child → IsDeeper tree key child
child_deeper tree legal key child is =
    let h = legal.nodes child is.0 is.1 in
    let up : IsPath tree (Some key) h.above = subst (λ k. IsPath tree k h.above) is.2 h.reached in
    let down : IsPath tree (Some child) ((child, is.0) ∷ h.above) = (refl, is.1, h.reached) in
    let short = short_path tree (Some child) ((child, is.0) ∷ h.above) down in
    let here = depth_path (node_count tree) tree (Some child) ((child, is.0) ∷ h.above) down short in
    let there = depth_path (node_count tree) tree (Some key) h.above up (omega (arith, short)) in
    record { one = omega (arith, here, there); few = omega (arith, here, short) }
