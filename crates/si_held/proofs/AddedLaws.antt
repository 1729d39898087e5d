-- What two trees hold when a clause comes.
use Rattle.std.proofs.Common.{◌≡◌, ◌⊎◌, inl, inr, ℕ, Bool, List, [], ◌∷◌, ◌++◌, map, refl, sym, ap, subst}
use Rattle.std.specs.List.{AllByRecursion}
use Rattle.std.proofs.lemmas.List.{map-append}
use Rattle.si_defs.specs.Symbols.{Numbering}
use Rattle.si_defs.specs.Substitutions.{IsAmong, AreDistinct}
use Rattle.si_defs.specs.Clauses.{Clause}
use Rattle.si_defs.specs.Entries.{clause_symbols}
use Rattle.si_defs.proofs.ListLaws.{among_front, among_back, among_either}
use Rattle.si_flat.specs.Cells.{Term}
use Rattle.si_flat.specs.Flattened.{unnumbered}
use Rattle.si_legal.specs.declared.Posting.{Posting}
use Rattle.si_legal.specs.StoredSets.{IsUnder}
use Rattle.si_legal.specs.KeptTrees.{NumbersAll}
use Rattle.si_changes.proofs.PostingLaws.{distinct_last}
use Rattle.si_held.specs.TwoTrees.{TwoTrees, tree_for, AreLegal, Hold, IsPostingIn, AddsClause}
use Rattle.si_held.specs.KeptEntries.{IsKeptEntry}
use Rattle.si_held.proofs.EntrySymbols.{all_of_kept, all_kept}
use Rattle.si_held.proofs.EntryNumbers.{HasNumber, all_numbers}
use Rattle.si_held.proofs.KeyLaws.{key_of, clause_of}
use Rattle.si_held.proofs.Holding.{HoldEntries, held, hold_from, entry_stays}
use Rattle.si_held.proofs.ClauseEntries.{posting_in, of_clause}

module _ (numbers : Numbering) (kept : List (ℕ × Clause)) (key : ℕ) (clause : Clause) (old new : TwoTrees) (h : Hold numbers kept old) where
  abbrev last : ℕ × Clause
  last = (key, clause)

  abbrev more_kept : List (ℕ × Clause)
  more_kept = kept ++ last ∷ []

  -- an entry is one of the old clauses, or of the new one
  stored_or_new : (literals : Bool) (t : Term) (p : Posting) → IsKeptEntry numbers more_kept literals t p → IsUnder (tree_for literals old) t p ⊎ IsPostingIn numbers key clause literals t p
  stored_or_new literals t p e =
      elim (among_either kept last (p.clause, e.1.clause) e.1.is_kept) as (λ _. IsUnder (tree_for literals old) t p ⊎ IsPostingIn numbers key clause literals t p) [
        | inl a ↦ inl ((held numbers kept old h literals t p).1 (entry_stays numbers more_kept kept literals t p e a))
        | inr s ↦ inr (of_clause numbers more_kept key clause literals t p (sym (ap key_of s)) e (sym (ap clause_of s)))
      ]

  more_entries : AddsClause numbers key clause old new → HoldEntries numbers more_kept new
  more_entries adds literals t p = (
    (λ u. elim ((adds literals t p).0 u) as (λ _. IsKeptEntry numbers more_kept literals t p) [
      | inl was ↦ (
          let e = (held numbers kept old h literals t p).0 was in
          entry_stays numbers kept more_kept literals t p e (among_front kept (last ∷ []) (p.clause, e.1.clause) e.1.is_kept))
      | inr i ↦ posting_in numbers more_kept key clause literals t p (among_back kept (last ∷ []) last (inl refl)) i
    ]),
    (λ e. (adds literals t p).1 (stored_or_new literals t p e)),
  )

  more_numbered : unnumbered numbers (clause_symbols clause) ≡ [] → NumbersAll numbers (map clause_of more_kept)
  more_numbered known =
      all_kept (HasNumber numbers) more_kept (λ k a. elim (among_either kept last k a) as (λ _. AllByRecursion (HasNumber numbers) (clause_symbols k.1)) [
        | inl b ↦ all_of_kept (HasNumber numbers) kept h.numbered k b
        | inr e ↦ subst (λ j. AllByRecursion (HasNumber numbers) (clause_symbols j.1)) e (all_numbers numbers (clause_symbols clause) known)
      ])

  pub adds_held : (IsAmong (map key_of kept) key → ⊥) → unnumbered numbers (clause_symbols clause) ≡ [] → AddsClause numbers key clause old new → AreLegal new → Hold numbers (kept ++ (key, clause) ∷ []) new
  adds_held apart known adds legal =
      hold_from numbers more_kept new
      (subst AreDistinct (sym (map-append key_of kept (last ∷ []))) (distinct_last (map key_of kept) key h.keys apart))
      h.numbering
      (more_numbered known)
      legal
      (more_entries adds)
