-- The entries of one clause among those that are kept.
use Rattle.std.proofs.Common.{◌≡◌, ℕ, Bool, List, map, slice_get, refl, sym, ap, ◌∙◌, subst}
use Rattle.std.specs.Prelude.{Some}
use Rattle.si_defs.specs.Symbols.{Numbering}
use Rattle.si_defs.specs.Substitutions.{IsAmong}
use Rattle.si_defs.specs.Clauses.{Clause}
use Rattle.si_defs.specs.Entries.{entries}
use Rattle.si_flat.specs.Cells.{entry, Term}
use Rattle.si_flat.specs.Flattened.{numbered_entry}
use Rattle.si_legal.specs.declared.Posting.{Posting}
use Rattle.si_legal.specs.KeptTrees.{is_literal}
use Rattle.si_changes.proofs.RenamedTerms.{among_map}
use Rattle.si_held.specs.TwoTrees.{TwoTrees, Hold, IsPostingIn, IsNewKey, HoldsClause}
use Rattle.si_held.proofs.KeyLaws.{key_of, one_clause}
use Rattle.si_held.specs.KeptEntries.{IsKeptEntry}
use Rattle.si_held.proofs.Holding.{held}

pub posting_in : (numbers : Numbering) (kept : List (ℕ × Clause)) (key : ℕ) (clause : Clause) (literals : Bool) (t : Term) (p : Posting) → IsAmong kept (key, clause) → IsPostingIn numbers key clause literals t p → IsKeptEntry numbers kept literals t p
posting_in numbers kept key clause literals t p a h = (
  h.placed.entry,
  record {
    clause = clause;
    placed = h.placed;
    is_kept = subst (λ k. IsAmong kept (k, clause)) (sym h.key_is) a;
    numbered = h.numbered;
    entry_is = refl;
  },
  h.kind,
  h.term_is,
)

pub of_clause : (numbers : Numbering) (kept : List (ℕ × Clause)) (key : ℕ) (clause : Clause) (literals : Bool) (t : Term) (p : Posting) → p.clause ≡ key → (h : IsKeptEntry numbers kept literals t p) → h.1.clause ≡ clause → IsPostingIn numbers key clause literals t p
of_clause numbers kept key clause literals t p is h same = record {
  key_is = is;
  placed = h.1.placed;
  numbered = subst (λ c. slice_get (entries c) p.entry ≡ Some h.1.placed) same h.1.numbered;
  kind = ap is_literal h.1.entry_is ∙ h.2;
  term_is = h.3 ∙ ap (numbered_entry numbers entry) (sym h.1.entry_is);
}

module _ (numbers : Numbering) (kept : List (ℕ × Clause)) (trees : TwoTrees) (h : Hold numbers kept trees) where
  -- a key that no kept clause has is new
  pub new_key : (key : ℕ) → (IsAmong (map key_of kept) key → ⊥) → IsNewKey key trees
  new_key key new literals t p u is =
      let e = (held numbers kept trees h literals t p).0 u in
      new (subst (IsAmong (map key_of kept)) is (among_map key_of kept (p.clause, e.1.clause) e.1.is_kept))

  -- of the key of a kept clause exactly its postings are stored
  pub holds_clause : (key : ℕ) (clause : Clause) → IsAmong kept (key, clause) → HoldsClause numbers key clause trees
  holds_clause key clause a literals t p = (
    (λ u.
        let e = (held numbers kept trees h literals t p).0 u.0 in
        of_clause numbers kept key clause literals t p u.1 e
        (one_clause kept key e.1.clause clause h.keys (subst (λ k. IsAmong kept (k, e.1.clause)) u.1 e.1.is_kept) a)),
    (λ i. ((held numbers kept trees h literals t p).1 (posting_in numbers kept key clause literals t p a i), i.key_is)),
  )
