-- What two trees hold, said of both at once; and those that store the same, or nothing.
use Rattle.std.proofs.Common.{◌≢◌, inl, inr, ℕ, Bool, true, false, List, [], map, subst}
use Rattle.std.proofs.lemmas.Bool.Decides.{eqb_tells}
use Rattle.si_defs.specs.Symbols.{Numbering, IsNumbering}
use Rattle.si_defs.specs.Substitutions.{IsAmong, AreDistinct}
use Rattle.si_defs.specs.Clauses.{Clause}
use Rattle.si_flat.specs.Cells.{Term}
use Rattle.si_legal.specs.declared.Posting.{Posting}
use Rattle.si_legal.specs.Trees.{Tree, IsLeaf}
use Rattle.si_legal.specs.Legal.{IsLegal}
use Rattle.si_legal.specs.StoredSets.{IsUnder}
use Rattle.si_legal.specs.KeptTrees.{HoldsEntries, NumbersAll}
use Rattle.si_changes.specs.Nodes.{IsVacant}
use Rattle.si_changes.proofs.StoredLaws.{no_leaf_here, no_leaf_vacant}
use Rattle.si_held.specs.TwoTrees.{TwoTrees, tree_for, AreLegal, Hold, HoldSame}
use Rattle.si_held.specs.KeptEntries.{IsKeptEntry}
use Rattle.si_held.proofs.KeyLaws.{key_of, clause_of}

-- ---- both trees
module _ (numbers : Numbering) (kept : List (ℕ × Clause)) (trees : TwoTrees) where
  abbrev pub HoldEntries : Type 0
  HoldEntries = (literals : Bool) → HoldsEntries numbers kept literals (tree_for literals trees)

  pub held : Hold numbers kept trees → HoldEntries
  held h true = h.literals_held
  held h false = h.subterms_held

  pub legal_for : Hold numbers kept trees → (literals : Bool) → IsLegal (tree_for literals trees)
  legal_for h true = h.literals_legal
  legal_for h false = h.subterms_legal

  pub hold_from : AreDistinct (map key_of kept) → IsNumbering numbers → NumbersAll numbers (map clause_of kept) → AreLegal trees → HoldEntries → Hold numbers kept trees
  hold_from keys numbering numbered legal each = record {
    keys = keys;
    numbering = numbering;
    numbered = numbered;
    literals_legal = legal.0;
    subterms_legal = legal.1;
    literals_held = each true;
    subterms_held = each false;
  }

-- an entry of a clause that others keep too
pub entry_stays : (numbers : Numbering) (kept others : List (ℕ × Clause)) (literals : Bool) (t : Term) (p : Posting) (e : IsKeptEntry numbers kept literals t p) → IsAmong others (p.clause, e.1.clause) → IsKeptEntry numbers others literals t p
entry_stays numbers kept others literals t p e a = (
  e.0,
  record {
    clause = e.1.clause;
    placed = e.1.placed;
    is_kept = a;
    numbered = e.1.numbered;
    entry_is = e.1.entry_is;
  },
  e.2,
  e.3,
)

-- ---- the same postings
pub same_held : (numbers : Numbering) (kept : List (ℕ × Clause)) (old new : TwoTrees) → Hold numbers kept old → HoldSame old new → AreLegal new → Hold numbers kept new
same_held numbers kept old new h same legal =
    hold_from numbers kept new h.keys h.numbering h.numbered legal (λ literals t p. (
      (λ u. (held numbers kept old h literals t p).0 ((same literals t p).0 u)),
      (λ e. (same literals t p).1 ((held numbers kept old h literals t p).1 e)),
    ))

-- ---- no posting
pub empty_held : (numbers : Numbering) (trees : TwoTrees) → IsNumbering numbers → AreLegal trees → ((literals : Bool) (t : Term) (p : Posting) → IsUnder (tree_for literals trees) t p → ⊥) → Hold numbers [] trees
empty_held numbers trees numbering legal none =
    hold_from numbers [] trees tt numbering tt legal (λ literals t p. ((λ u. absurd (none literals t p u)), (λ e. absurd e.1.is_kept)))

-- a legal tree without a node beside its root
root_stores_nothing : (tree : Tree Term) → IsLegal tree → ((key : ℕ) → key ≢ tree.root → IsVacant tree key) → (t : Term) (p : Posting) → IsUnder tree t p → ⊥
root_stores_nothing tree legal alone t p u =
    elim (eqb_tells u.0 tree.root) as (λ _. ⊥) [
      | inl e ↦ no_leaf_here tree tree.root legal.root.0 0 legal.root.2.splits.0 t u.1.0 legal.root.1 legal.root.2.splits.1 (subst (λ k. IsLeaf tree k t u.1.0) e.1 u.1.1)
      | inr e ↦ no_leaf_vacant tree u.0 t u.1.0 (alone u.0 e.1) u.1.1
    ]

pub roots_held : (numbers : Numbering) (trees : TwoTrees) → IsNumbering numbers → AreLegal trees → ((literals : Bool) (key : ℕ) → key ≢ (tree_for literals trees).root → IsVacant (tree_for literals trees) key) → Hold numbers [] trees
roots_held numbers trees numbering legal alone = empty_held numbers trees numbering legal none where
  none : (literals : Bool) (t : Term) (p : Posting) → IsUnder (tree_for literals trees) t p → ⊥
  none true = root_stores_nothing trees.literals legal.0 (alone true)
  none false = root_stores_nothing trees.subterms legal.1 (alone false)
