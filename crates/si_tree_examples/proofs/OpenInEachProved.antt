-- What is open in each legal tree, proved.
use Rattle.std.proofs.Common.{◌≡◌, ◌↔◌, inl, inr, ℕ, List, [], ◌∷◌, Option, Some, refl, ap, sym, subst, ◌∙◌}
use Rattle.si_defs.specs.Terms as terms
use Rattle.si_defs.specs.Substitutions.{Substitution, apply, image}
use Rattle.si_defs.specs.declared.Relation.{Relation}
use Rattle.si_defs.specs.declared.Relation.TheVariants.{Variants, Instances, Generalizations, Unifiable}
use Rattle.si_defs.proofs.ListLaws.{among_back}
use Rattle.si_flat.specs.Cells.{Symbol, Variable, query, ind, same_variable, Term}
use Rattle.si_flat.specs.Flattened.{IsNumberedBy}
use Rattle.si_legal.specs.declared.Posting.{Posting}
use Rattle.si_legal.specs.Bindings.{indicator, applied}
use Rattle.si_legal.specs.Legal.{IsLegal, IsLegalContent, IsLeafTerm}
use Rattle.si_legal.specs.OpenNodes.{IsOpen, IsOpenNode}
use Rattle.si_legal.specs.Trees.{Tree, Path, IsPath, PassesBy, path_term, IsLeaf}
use Rattle.si_legal.proofs.PathLaws.{one_path}
use Rattle.si_changes.proofs.Frames.{legal_nodes}
use Rattle.si_descend.proofs.AtLeaves.{open_relates}
use Rattle.si_descend.proofs.Openness.{of_kind, open_above}
use Rattle.si_descend.proofs.Tabulated.{substituted_none}
use Rattle.si_tree_examples.specs.SomeOpenNodes.{RootOpen, OpenAbove, LeavesRelate}
use Rattle.si_tree_examples.proofs.OpenNodesProved.{no_entry}

-- ---- the root
-- indicator 0 becomes the query
abbrev to_query : Term → Substitution Symbol Variable
to_query q = (ind 0, q) ∷ []

query_stays : (q : Term) → IsNumberedBy query q → apply same_variable (to_query q) q ≡ q
query_stays q numbered = substituted_none (image same_variable (to_query q)) q (λ x a.
    let k = of_kind query q x numbered a in
    subst (λ y. image same_variable (to_query q) y ≡ terms.var y) k.1 refl)

zero_open : (relation : Relation) (q : Term) → IsNumberedBy query q → IsOpen relation q (indicator 0)
zero_open Unifiable q numbered = (to_query q, query_stays q numbered)
zero_open Instances q numbered = (
  to_query q,
  (among_back (terms.variables q) (ind 0 ∷ []) (ind 0) (inl refl), tt),
  query_stays q numbered,
)
zero_open Generalizations q numbered = (to_query q, record { on = (inl refl, tt); takes = refl })
zero_open Variants q numbered = (
  to_query q,
  record { on = (inl refl, tt); takes = refl },
  record { renames = λ m h. absurd (no_entry m 0 h); apart = λ m n h k e. absurd (no_entry m 0 h) },
)

pub root_open : RootOpen
root_open tree legal relation q numbered =
    let root = legal.root in record {
      path = (tree.root, root.0) ∷ [];
      leads = (refl, root.1, root.2.parent);
      below = inl refl;
      open_for = subst (λ bs. IsOpen relation q (applied bs (indicator 0))) (sym root.2.bindings) (zero_open relation q numbered);
    }

-- ---- above an open node
module _ (tree : Tree Term) (legal : IsLegal tree) (relation : Relation) (q : Term) (numbered : IsNumberedBy query q) where
  passed_open : (from : Option ℕ) (path : Path) (top : ℕ) → IsPath tree from path → PassesBy path top → IsOpen relation q (path_term path) → IsOpenNode tree top relation q top
  passed_open from [] top leads passes h = absurd passes
  passed_open from (step ∷ above) top leads (inl e) h = record {
    path = step ∷ above;
    leads = (ap Some (sym e), leads.1, leads.2);
    below = inl e;
    open_for = h;
  }
  passed_open from (step ∷ above) top leads (inr passes) h =
      passed_open step.1.parent above top leads.2 passes (open_above tree (legal_nodes tree legal) relation q numbered from step above leads h)

  -- ---- at a leaf
  leaf_term : (key : ℕ) (t : Term) (postings : List Posting) → IsLeaf tree key t postings → IsLeafTerm t
  leaf_term key t postings l =
      let h = legal.nodes key l.node l.reached.1 in
      let same = one_path tree l.node.parent h.above l.above h.reached l.reached.2 in
      let content = subst (IsLegalContent tree key ((key, l.node) ∷ h.above)) l.content h.content in
      subst IsLeafTerm (ap (λ a. path_term ((key, l.node) ∷ a)) same ∙ sym l.term) content.1

  leaf_open : (key : ℕ) (t : Term) (postings : List Posting) → IsLeaf tree key t postings → IsOpenNode tree key relation q key ↔ IsOpen relation q t
  leaf_open key t postings l = (
    λ h. subst (IsOpen relation q) (ap path_term (one_path tree (Some key) h.path ((key, l.node) ∷ l.above) h.leads l.reached) ∙ sym l.term) h.open_for,
    λ h. record {
      path = (key, l.node) ∷ l.above;
      leads = l.reached;
      below = inl refl;
      open_for = subst (IsOpen relation q) l.term h;
    },
  )

pub nodes_above : OpenAbove
nodes_above tree legal relation q numbered top key h =
    passed_open tree legal relation q numbered (Some key) h.path top h.leads h.below h.open_for

pub leaves_relate : LeavesRelate
leaves_relate tree legal relation q numbered key t postings l =
    let opens = leaf_open tree legal relation q numbered key t postings l in
    let relates = open_relates q t numbered (leaf_term tree legal relation q numbered key t postings l).numbered relation in
    (λ h. relates.0 (opens.0 h), λ h. opens.1 (relates.1 h))
