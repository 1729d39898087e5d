-- What is stored under terms in a relation to a query: the postings of the kept entries in it.
use Rattle.std.proofs.Common.{◌≡◌, ◌↔◌, ℕ, Bool, List, refl, subst}
use Rattle.si_defs.specs.Symbols.{Numbering}
use Rattle.si_defs.specs.Clauses.{Clause}
use Rattle.si_defs.specs.Entries.{Entry}
use Rattle.si_defs.specs.Relations.{Relates}
use Rattle.si_defs.specs.declared.Relation.{Relation}
use Rattle.si_flat.specs.Cells.{entry, same_variable, Term}
use Rattle.si_flat.specs.Flattened.{numbered_entry}
use Rattle.si_legal.specs.declared.Posting.{Posting}
use Rattle.si_legal.specs.StoredSets.{IsUnder}
use Rattle.si_legal.specs.KeptTrees.{is_literal, IsPostingOf}
use Rattle.si_held.specs.TwoTrees.{TwoTrees, tree_for, Hold}
use Rattle.si_held.proofs.Holding.{held}

pub answers_held : (numbers : Numbering) (kept : List (ℕ × Clause)) (trees : TwoTrees) → Hold numbers kept trees → (literals : Bool) (relation : Relation) (q : Term) (p : Posting)
    → ((t : Term) × IsUnder (tree_for literals trees) t p × Relates same_variable relation q t)
    ↔ ((e : Entry) × IsPostingOf kept p e × (is_literal e ≡ literals) × Relates same_variable relation q (numbered_entry numbers entry e))
answers_held numbers kept trees h literals relation q p = (
  (λ u. let e = (held numbers kept trees h literals u.0 p).0 u.1 in (e.0, e.1, e.2, subst (Relates same_variable relation q) e.3 u.2)),
  (λ e. (numbered_entry numbers entry e.0, (held numbers kept trees h literals (numbered_entry numbers entry e.0) p).1 (e.0, e.1, e.2, refl), e.3)),
)
