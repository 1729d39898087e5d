-- Names, entries and symbols of lists of clauses, where one goes or one more comes.
use Rattle.std.proofs.Common.{◌≡◌, inl, inr, ◌+◌, ◌≤◌, List, [], ◌∷◌, ◌++◌, length, map, refl, sym, subst, arith, length-append}
use Rattle.std.specs.List.{AllByRecursion}
use Rattle.std.proofs.lemmas.List.{length-map}
use Rattle.si_defs.specs.Symbols.{Symbol, times}
use Rattle.si_defs.specs.Clauses.{Name, Literal, Clause, IsSoundClause}
use Rattle.si_defs.specs.Entries.{entries, entries_from, placed_in, state_entries, clause_symbols, state_symbols}
use Rattle.si_defs.specs.declared.TheConstants.{MOST_OCCURRENCES}
use Rattle.si_state.specs.Acceptance.{IsTaken, HasDistinctNames}
use Rattle.si_sign.proofs.UsesOf.{times_append}
use Rattle.si_term.proofs.Alone.{entries_few}
use Rattle.si_term.proofs.EntryHeads.{length-symbols}

-- a sound clause has no more entries, and no more symbols, than may occur
pub few_entries : (c : Clause) → IsSoundClause c → length (entries c) ≤ MOST_OCCURRENCES
few_entries c s = omega (arith, entries_few 1 c.literals, s.sound.no_larger)

pub symbols_few : (c : Clause) → IsSoundClause c → length (clause_symbols c) ≤ MOST_OCCURRENCES
symbols_few c s = omega (arith, length-symbols c s, few_entries c s)

module _ (c : Clause) (after : List Clause) where
  -- ---- a clause between others
  pub entries_between : (before : List Clause) → length (state_entries (before ++ c ∷ after)) ≡ length (state_entries (before ++ after)) + length (entries c)
  entries_between [] = omega (arith, length-append (map (placed_in c) (entries c)) (state_entries after), length-map (entries c) (placed_in c))
  entries_between (d ∷ ds) =
      omega (
        arith,
        length-append (map (placed_in d) (entries d)) (state_entries (ds ++ c ∷ after)),
        length-append (map (placed_in d) (entries d)) (state_entries (ds ++ after)),
        entries_between ds,
      )

  pub symbols_between : (before : List Clause) → length (state_symbols (before ++ c ∷ after)) ≡ length (state_symbols (before ++ after)) + length (clause_symbols c)
  symbols_between [] = omega (arith, length-append (clause_symbols c) (state_symbols after))
  symbols_between (d ∷ ds) =
      omega (
        arith,
        length-append (clause_symbols d) (state_symbols (ds ++ c ∷ after)),
        length-append (clause_symbols d) (state_symbols (ds ++ after)),
        symbols_between ds,
      )

  pub times_between : (before : List Clause) (s : Symbol) → times s (state_symbols (before ++ c ∷ after)) ≡ times s (state_symbols (before ++ after)) + times s (clause_symbols c)
  times_between [] s = omega (arith, times_append s (clause_symbols c) (state_symbols after))
  times_between (d ∷ ds) s =
      omega (
        arith,
        times_append s (clause_symbols d) (state_symbols (ds ++ c ∷ after)),
        times_append s (clause_symbols d) (state_symbols (ds ++ after)),
        times_between ds s,
      )

  pub sound_between : (before : List Clause) → AllByRecursion IsSoundClause (before ++ c ∷ after) → IsSoundClause c × AllByRecursion IsSoundClause (before ++ after)
  sound_between [] all = (all.0, all.1)
  sound_between (d ∷ ds) all = let rest = sound_between ds all.1 in (rest.0, (all.0, rest.1))

  pub taken_own : (before : List Clause) → IsTaken (before ++ c ∷ after) c.name
  taken_own [] = inl refl
  taken_own (d ∷ ds) = inr (taken_own ds)

  pub taken_other : (before : List Clause) (n : Name) → IsTaken (before ++ after) n → IsTaken (before ++ c ∷ after) n
  taken_other [] n h = inr h
  taken_other (d ∷ ds) n (inl e) = inl e
  taken_other (d ∷ ds) n (inr h) = inr (taken_other ds n h)

  pub distinct_between : (before : List Clause) → HasDistinctNames (before ++ c ∷ after) → (IsTaken (before ++ after) c.name → ⊥) × HasDistinctNames (before ++ after)
  distinct_between [] d = d
  distinct_between (b ∷ bs) d = let rest = distinct_between bs d.1 in (by rest.0, (λ h. d.0 (taken_other bs b.name h), rest.1)) where
    by : (IsTaken (bs ++ after) c.name → ⊥) → IsTaken ((b ∷ bs) ++ after) c.name → ⊥
    by free (inl e) = d.0 (subst (IsTaken (bs ++ c ∷ after)) (sym e) (taken_own bs))
    by free (inr h) = free h

-- sound clauses have as many symbols as entries
pub as_many_symbols : (cs : List Clause) → AllByRecursion IsSoundClause cs → length (state_symbols cs) ≡ length (state_entries cs)
as_many_symbols [] all = refl
as_many_symbols (c ∷ cs) all =
    omega (
      arith,
      length-append (clause_symbols c) (state_symbols cs),
      length-append (map (placed_in c) (entries c)) (state_entries cs),
      length-map (entries c) (placed_in c),
      length-symbols c all.0,
      as_many_symbols cs all.1,
    )

-- there are no more clauses than entries
pub clauses_few : (cs : List Clause) → AllByRecursion IsSoundClause cs → length cs ≤ length (state_entries cs)
clauses_few [] all = omega arith
clauses_few (c ∷ cs) all = omega (arith, length-append (map (placed_in c) (entries c)) (state_entries cs), length-map (entries c) (placed_in c), some_entry c all.0, clauses_few cs all.1) where
  some_entry : (c : Clause) → IsSoundClause c → 1 ≤ length (entries c)
  some_entry c s = by c.literals refl where
    by : (ls : List Literal) → c.literals ≡ ls → 1 ≤ length (entries c)
    by [] e = absurd (s.some e)
    by (l ∷ ls) e = subst (λ ls. 1 ≤ length (entries_from 1 ls)) (sym e) (omega arith)
