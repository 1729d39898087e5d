-- The hits among the entries of clauses are as many as stand in the relation.
use Rattle.std.proofs.Common.{◌≡◌, ℕ, ◌+◌, List, [], ◌∷◌, ◌++◌, length, map, inl, inr, sym, ap, subst, arith}
use Rattle.si_defs.specs.Clauses.{Clause, Pattern}
use Rattle.si_defs.specs.Entries.{Placed, entries, placed_in, state_entries}
use Rattle.si_defs.specs.declared.Relation.{Relation}
use Rattle.si_steps.specs.Steps.{CountsStanding}
use Rattle.si_index.specs.Finding.{AreHits, at_position, entries_from_position}

module _ (relation : Relation) (p : Pattern) where
  -- entries of one clause, and then others
  of_clause : (k : ℕ) (c : Clause) (es : List Placed) (others : List (ℕ × Placed)) (all : List (Clause × Placed))
      → ((hits : List (ℕ × Placed)) → AreHits relation p others hits → CountsStanding relation p all (length hits))
      → (hits : List (ℕ × Placed)) → AreHits relation p (map (at_position k) es ++ others) hits → CountsStanding relation p (map (placed_in c) es ++ all) (length hits)
  of_clause k c [] others all rest hits h = rest hits h
  of_clause k c (e ∷ es) others all rest hits (inl (stands, (more, are, is))) =
      let same : length hits ≡ length (at_position k e ∷ more) = ap length is in
      inl (stands, (length more, of_clause k c es others all rest more are, omega (arith, same)))
  of_clause k c (e ∷ es) others all rest hits (inr (none, are)) = inr (none, of_clause k c es others all rest hits are)

  of_clauses : (k : ℕ) (cs : List Clause) (hits : List (ℕ × Placed)) → AreHits relation p (entries_from_position k cs) hits → CountsStanding relation p (state_entries cs) (length hits)
  of_clauses k [] hits h = ap length h
  of_clauses k (c ∷ cs) hits h = of_clause k c (entries c) (entries_from_position (1 + k) cs) (state_entries cs) (of_clauses (1 + k) cs) hits h

pub hits_standing : (relation : Relation) (p : Pattern) (cs : List Clause) (hits : List (ℕ × Placed)) (n : ℕ) → AreHits relation p (entries_from_position 0 cs) hits → n ≡ length hits
    → CountsStanding relation p (state_entries cs) n
hits_standing relation p cs hits n h e = subst (CountsStanding relation p (state_entries cs)) (sym e) (of_clauses relation p 0 cs hits h)
