-- Where no two clauses have the same key, a posting is that of one entry.
use Rattle.std.proofs.Common.{◌≡◌, ◌≢◌, inl, inr, ℕ, List, [], ◌∷◌, ◌++◌, map, slice_get, sym, ap, ◌∙◌, subst}
use Rattle.std.proofs.lemmas.Option.{same_Some}
use Rattle.std.proofs.lemmas.List.{map-append}
use Rattle.si_defs.specs.Clauses.{Clause}
use Rattle.si_defs.specs.Entries.{Entry, entries}
use Rattle.si_defs.specs.Substitutions.{IsAmong, AreDistinct}
use Rattle.si_defs.proofs.ListLaws.{among_parts}
use Rattle.si_flat.proofs.RowLaws.{distinct_parts}
use Rattle.si_legal.specs.declared.Posting.{Posting}
use Rattle.si_legal.specs.KeptTrees.{IsPostingOf}
use Rattle.si_changes.proofs.RenamedTerms.{among_map}

abbrev pub key_of : ℕ × Clause → ℕ
key_of k = k.0

abbrev pub clause_of : ℕ × Clause → Clause
clause_of k = k.1

-- a key has one clause
pub one_clause : (kept : List (ℕ × Clause)) (key : ℕ) (c d : Clause) → AreDistinct (map key_of kept) → IsAmong kept (key, c) → IsAmong kept (key, d) → c ≡ d
one_clause [] key c d h a b = absurd a
one_clause (k ∷ kept) key c d h (inl e) (inl f) = ap clause_of (sym e ∙ f)
one_clause (k ∷ kept) key c d h (inl e) (inr b) = absurd (h.0 (subst (IsAmong (map key_of kept)) (sym (ap key_of e)) (among_map key_of kept (key, d) b)))
one_clause (k ∷ kept) key c d h (inr a) (inl f) = absurd (h.0 (subst (IsAmong (map key_of kept)) (sym (ap key_of f)) (among_map key_of kept (key, c) a)))
one_clause (k ∷ kept) key c d h (inr a) (inr b) = one_clause kept key c d h.1 a b

-- and no other has the key of one of them
pub other_keys : (before after : List (ℕ × Clause)) (k j : ℕ × Clause) → AreDistinct (map key_of (before ++ k ∷ after)) → IsAmong (before ++ after) j → j.0 ≢ k.0
other_keys before after k j h a e =
    let parts = distinct_parts (map key_of before) (map key_of (k ∷ after)) (subst AreDistinct (map-append key_of before (k ∷ after)) h) in
    elim (among_parts before after j a) as (λ _. ⊥) [
      | inl b ↦ parts.2 j.0 (among_map key_of before j b) (inl (sym e))
      | inr b ↦ parts.1.0 (subst (IsAmong (map key_of after)) e (among_map key_of after j b))
    ]

-- ---- a posting is that of one entry, in one clause
pub one_placed : (kept : List (ℕ × Clause)) (p : Posting) (e f : Entry) → AreDistinct (map key_of kept) → (h : IsPostingOf kept p e) (g : IsPostingOf kept p f) → (h.clause ≡ g.clause) × (h.placed ≡ g.placed)
one_placed kept p e f distinct h g =
    let same : h.clause ≡ g.clause = one_clause kept p.clause h.clause g.clause distinct h.is_kept g.is_kept in
    (same, same_Some h.placed g.placed (sym h.numbered ∙ ap (λ c. slice_get (entries c) p.entry) same ∙ g.numbered))

pub one_entry : (kept : List (ℕ × Clause)) (p : Posting) (e f : Entry) → AreDistinct (map key_of kept) → IsPostingOf kept p e → IsPostingOf kept p f → e ≡ f
one_entry kept p e f distinct h g = sym h.entry_is ∙ ap (λ x. x.entry) (one_placed kept p e f distinct h g).1 ∙ g.entry_is
