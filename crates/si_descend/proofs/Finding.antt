-- Which nodes and answers are open.
use Rattle.std.proofs.Common.{inl, inr, ℕ, List, [], ◌∷◌, Option, Some, ap, sym, ◌∙◌, subst}
use Rattle.si_defs.specs.declared.Relation.{Relation}
use Rattle.si_flat.specs.Cells.{query, Term}
use Rattle.si_flat.specs.Flattened.{IsNumberedBy}
use Rattle.si_legal.specs.declared.Posting.{Posting}
use Rattle.si_legal.specs.Trees.{Tree, Path, IsPath, PassesBy, path_term, IsLeaf}
use Rattle.si_legal.specs.Legal.{IsLegal, IsLeafTerm, IsLegalContent}
use Rattle.si_legal.specs.Descents.{IsAnswerBelow}
use Rattle.si_legal.specs.OpenNodes.{IsOpen, IsOpenNode}
use Rattle.si_legal.proofs.PathLaws.{one_path}
use Rattle.si_changes.proofs.Frames.{legal_nodes}
use Rattle.si_descend.proofs.AtLeaves.{open_relates}
use Rattle.si_descend.proofs.Openness.{open_above}

module _ (tree : Tree Term) (legal : IsLegal tree) (relation : Relation) (q : Term) (numbered : IsNumberedBy query q) where
  -- ---- upwards
  -- a node that is passed on the way to an open one is open
  pub passed_open : (from : Option ℕ) (p : Path) (top : ℕ) (above : Path) → IsPath tree from p → IsPath tree (Some top) above → PassesBy p top → IsOpen relation q (path_term p) → IsOpen relation q (path_term above)
  passed_open from [] top above reached there passes h = absurd passes
  passed_open from (step ∷ p) top above reached there (inl e) h =
      subst (λ r. IsOpen relation q (path_term r)) (one_path tree (Some top) (step ∷ p) above (ap Some (sym e), reached.1, reached.2) there) h
  passed_open from (step ∷ p) top above reached there (inr passes) h =
      passed_open step.1.parent p top above reached.2 there passes (open_above tree (legal_nodes tree legal) relation q numbered from step p reached h)

  -- below a closed node all are closed
  pub none_open : (top : ℕ) (above : Path) → IsPath tree (Some top) above → (IsOpen relation q (path_term above) → ⊥) → (key : ℕ) → IsOpenNode tree top relation q key → ⊥
  none_open top above there closed key h = closed (passed_open (Some key) h.path top above h.leads there h.below h.open_for)

  -- ---- answers are open
  pub leaf_numbered : (key : ℕ) (t : Term) (ps : List Posting) (l : IsLeaf tree key t ps) → IsLeafTerm t
  leaf_numbered key t ps l =
      let h = legal.nodes key l.node l.reached.1 in
      let same = one_path tree l.node.parent h.above l.above h.reached l.reached.2 in
      let content = subst (IsLegalContent tree key ((key, l.node) ∷ h.above)) l.content h.content in
      subst IsLeafTerm (ap (λ a. path_term ((key, l.node) ∷ a)) same ∙ sym l.term) content.1

  pub answer_open : (top : ℕ) (p : Posting) (h : IsAnswerBelow tree top relation q p) → IsOpen relation q (path_term ((h.key, h.leaf.node) ∷ h.leaf.above))
  answer_open top p h =
      subst (IsOpen relation q) h.leaf.term
      ((open_relates q h.term numbered (leaf_numbered h.key h.term h.postings h.leaf).numbered relation).1 h.relates)
