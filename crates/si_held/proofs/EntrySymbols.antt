-- What holds of the symbols of clauses holds of those of their entries.
use Rattle.std.proofs.Common.{◌≡◌, inl, inr, ℕ, ◌+◌, List, [], ◌∷◌, map, slice_get, refl, subst}
use Rattle.std.specs.Prelude.{Some}
use Rattle.std.specs.List.{AllByRecursion}
use Rattle.si_defs.specs.Terms as terms
use Rattle.si_defs.specs.Symbols.{Symbol}
use Rattle.si_defs.specs.Substitutions.{IsAmong}
use Rattle.si_defs.specs.Clauses.{Term, Terms, Literal, Clause}
use Rattle.si_defs.specs.Entries.{Placed, proper_occurrences, placed_term, literal_entries, entries_from, entries, literals_symbols, clause_symbols, state_symbols, whole_of}
use Rattle.si_defs.proofs.ListLaws.{all_at, all_from, all_append, all_front, all_back, all_got}
use Rattle.si_changes.proofs.RenamedTerms.{map_among}
use Rattle.si_held.proofs.KeyLaws.{clause_of}

all_map : {X Y : Type 0} (Q : Y → Type 0) (f : X → Y) (xs : List X) → AllByRecursion (λ x. Q (f x)) xs → AllByRecursion Q (map f xs)
all_map Q f xs h =
    all_from Q (map f xs) (λ y a. let x = map_among f xs y a in subst Q x.2 (all_at (λ z. Q (f z)) xs x.0 h x.1))

module _ (P : Symbol → Type 0) where
  -- ---- one clause
  abbrev HoldsBelow : List ℕ × Term → Type 0
  HoldsBelow o = AllByRecursion P (terms.symbols o.1)

  abbrev HoldsIn : Placed → Type 0
  HoldsIn placed = AllByRecursion P (terms.symbols (whole_of placed.entry))

  mutual
    all_below : (t : Term) → AllByRecursion P (terms.symbols t) → AllByRecursion HoldsBelow (terms.occurrences t)
    all_below (terms.var x) h = tt
    all_below (terms.app s ts) h = (h, all_in_row 1 ts h.1)

    all_in_row : (k : ℕ) (ts : Terms) → AllByRecursion P (terms.symbols_of_all ts) → AllByRecursion HoldsBelow (terms.occurrences_from k ts)
    all_in_row k terms.none h = tt
    all_in_row k (terms.more t ts) h =
        all_append HoldsBelow (map (terms.below k) (terms.occurrences t)) (terms.occurrences_from (1 + k) ts)
        (all_map HoldsBelow (terms.below k) (terms.occurrences t) (all_below t (all_front P (terms.symbols t) (terms.symbols_of_all ts) h)))
        (all_in_row (1 + k) ts (all_back P (terms.symbols t) (terms.symbols_of_all ts) h))

  all_proper : (t : Term) → AllByRecursion P (terms.symbols t) → AllByRecursion HoldsBelow (proper_occurrences t)
  all_proper (terms.var x) h = tt
  all_proper (terms.app s ts) h = all_in_row 1 ts h.1

  all_placed : (n : ℕ) (ls : List Literal) → AllByRecursion P (literals_symbols ls) → AllByRecursion HoldsIn (entries_from n ls)
  all_placed n [] h = tt
  all_placed n (l ∷ ls) h =
      let own = all_front P (terms.symbols l.atom) (literals_symbols ls) h in
      all_append HoldsIn (literal_entries n l) (entries_from (1 + n) ls)
      (own, all_map HoldsIn (placed_term n) (proper_occurrences l.atom) (all_proper l.atom own))
      (all_placed (1 + n) ls (all_back P (terms.symbols l.atom) (literals_symbols ls) h))

  pub all_of_entry : (c : Clause) (n : ℕ) (placed : Placed) → AllByRecursion P (clause_symbols c) → slice_get (entries c) n ≡ Some placed → AllByRecursion P (terms.symbols (whole_of placed.entry))
  all_of_entry c n placed h got = all_got HoldsIn (entries c) n placed (all_placed 1 c.literals h) got

  -- ---- clauses that are kept
  pub all_of_kept : (kept : List (ℕ × Clause)) → AllByRecursion P (state_symbols (map clause_of kept)) → (k : ℕ × Clause) → IsAmong kept k → AllByRecursion P (clause_symbols k.1)
  all_of_kept [] h k a = absurd a
  all_of_kept (j ∷ kept) h k (inl e) = subst (λ x. AllByRecursion P (clause_symbols x.1)) e (all_front P (clause_symbols j.1) (state_symbols (map clause_of kept)) h)
  all_of_kept (j ∷ kept) h k (inr a) = all_of_kept kept (all_back P (clause_symbols j.1) (state_symbols (map clause_of kept)) h) k a

  pub all_kept : (kept : List (ℕ × Clause)) → ((k : ℕ × Clause) → IsAmong kept k → AllByRecursion P (clause_symbols k.1)) → AllByRecursion P (state_symbols (map clause_of kept))
  all_kept [] give = tt
  all_kept (k ∷ kept) give = all_append P (clause_symbols k.1) (state_symbols (map clause_of kept)) (give k (inl refl)) (all_kept kept (λ j a. give j (inr a)))
