-- A node has one path.
use Rattle.std.proofs.Common.{◌≡◌, ℕ, [], ◌∷◌, Option, None, Some, refl, sym, ◌∙◌, subst}
use Rattle.std.proofs.lemmas.Option.{same_Some}
use Rattle.si_flat.specs.Cells.{Term}
use Rattle.si_legal.specs.Trees.{Node, Tree, HasNode, Path, IsPath}

-- a key has one node
pub one_node : (tree : Tree Term) (key : ℕ) (one other : Node Term) → HasNode tree key one → HasNode tree key other → one ≡ other
one_node tree key one other p q = same_Some one other (sym p ∙ q)

pub one_path : (tree : Tree Term) (key : Option ℕ) (one other : Path) → IsPath tree key one → IsPath tree key other → one ≡ other
one_path tree key [] [] p q = refl
one_path tree key [] (step ∷ other) p q = absurd (by (sym p ∙ q.0)) where
  by : None ≡ Some step.0 → ⊥
  by e = cc
one_path tree key (step ∷ one) [] p q = absurd (by (sym q ∙ p.0)) where
  by : None ≡ Some step.0 → ⊥
  by e = cc
one_path tree key (step ∷ one) (step' ∷ other) p q =
    let same_key : step.0 ≡ step'.0 = same_Some step.0 step'.0 (sym p.0 ∙ q.0) in
    let same_node : step.1 ≡ step'.1 = one_node tree step'.0 step.1 step'.1 (subst (λ k. HasNode tree k step.1) same_key p.1) q.1 in
    let rest : one ≡ other = one_path tree step'.1.parent one other (subst (λ n. IsPath tree n.parent one) same_node p.2) q.2 in
    λ i. (same_key i, same_node i) ∷ rest i
