-- What two trees hold when a clause goes.
use Rattle.std.proofs.Common.{◌≡◌, ◌≢◌, inl, inr, ℕ, List, ◌∷◌, ◌++◌, map, sym, ap, subst}
use Rattle.std.proofs.lemmas.List.{map-append}
use Rattle.si_defs.specs.Symbols.{Numbering}
use Rattle.si_defs.specs.Substitutions.{IsAmong, AreDistinct}
use Rattle.si_defs.specs.Clauses.{Clause}
use Rattle.si_defs.proofs.ListLaws.{among_front, among_back, among_parts}
use Rattle.si_changes.proofs.PostingLaws.{among_without, distinct_without}
use Rattle.si_held.specs.TwoTrees.{TwoTrees, AreLegal, Hold, RemovesClause}
use Rattle.si_held.proofs.EntrySymbols.{all_of_kept, all_kept}
use Rattle.si_held.proofs.EntryNumbers.{HasNumber}
use Rattle.si_held.proofs.KeyLaws.{key_of, other_keys}
use Rattle.si_held.proofs.Holding.{HoldEntries, held, hold_from, entry_stays}

module _ (numbers : Numbering) (before after : List (ℕ × Clause)) (key : ℕ) (clause : Clause) (old new : TwoTrees) where
  abbrev whole : List (ℕ × Clause)
  whole = before ++ (key, clause) ∷ after

  abbrev others : List (ℕ × Clause)
  others = before ++ after

  other_stays : (k : ℕ × Clause) → k.0 ≢ key → IsAmong whole k → IsAmong others k
  other_stays k apart a =
      elim (among_parts before ((key, clause) ∷ after) k a) as (λ _. IsAmong others k) [
        | inl b ↦ among_front before after k b
        | inr (inl e) ↦ absurd (apart (sym (ap key_of e)))
        | inr (inr b) ↦ among_back before after k b
      ]

  other_entries : Hold numbers whole old → RemovesClause key old new → HoldEntries numbers others new
  other_entries h removes literals t p = (
    (λ u.
        let was = (removes literals t p).0 u in
        let e = (held numbers whole old h literals t p).0 was.0 in
        entry_stays numbers whole others literals t p e (other_stays (p.clause, e.1.clause) was.1 e.1.is_kept)),
    (λ e.
        let back = among_without before after (key, clause) (p.clause, e.1.clause) e.1.is_kept in
        (removes literals t p).1 (
          (held numbers whole old h literals t p).1 (entry_stays numbers others whole literals t p e back),
          other_keys before after (key, clause) (p.clause, e.1.clause) h.keys e.1.is_kept,
        )),
  )

  others_held : Hold numbers whole old → RemovesClause key old new → AreLegal new → Hold numbers others new
  others_held h removes legal =
      hold_from numbers others new
      (subst AreDistinct (sym (map-append key_of before after)) (distinct_without (map key_of before) (map key_of after) key (subst AreDistinct (map-append key_of before ((key, clause) ∷ after)) h.keys)))
      h.numbering
      (all_kept (HasNumber numbers) others (λ k a. all_of_kept (HasNumber numbers) whole h.numbered k (among_without before after (key, clause) k a)))
      legal
      (other_entries h removes)

pub removes_held : (numbers : Numbering) (kept before after : List (ℕ × Clause)) (key : ℕ) (clause : Clause) (old new : TwoTrees) → Hold numbers kept old → kept ≡ before ++ (key, clause) ∷ after → RemovesClause key old new → AreLegal new → Hold numbers (before ++ after) new
removes_held numbers kept before after key clause old new h is removes legal =
    others_held numbers before after key clause old new (subst (λ ks. Hold numbers ks old) is h) removes legal
