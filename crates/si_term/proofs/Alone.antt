-- The entries of literals, without places, and their places alone.
use Rattle.std.proofs.Common.{◌≡◌, ℕ, ◌+◌, ◌≤◌, List, [], ◌∷◌, ◌++◌, length, map, reverse, refl, sym, ap, ◌∙◌, arith, length-append}
use Rattle.std.proofs.lemmas.List.{length-map, map-append, reverse-append}
use Rattle.si_defs.specs.Terms as terms
use Rattle.si_defs.specs.Clauses.{Term, Terms, Literal, Clause, literals_size, IsSoundClause}
use Rattle.si_defs.specs.Entries.{literal_entry, term_entry, Place, placed_term, proper_occurrences, literal_entries, entries_from, entries}
use Rattle.si_defs.specs.declared.TheConstants.{MOST_OCCURRENCES}
use Rattle.si_defs.specs.Terms.{arguments}
use Rattle.si_term.specs.Walks.{subterms, subterms_of_all, under, paths, paths_from, entries_alone}

-- ---- the terms of the occurrences
term_below : (k : ℕ) (os : List (List ℕ × Term)) → map (λ o. o.1) (map (terms.below k) os) ≡ map (λ o. o.1) os
term_below k [] = refl
term_below k (o ∷ os) = ap (λ l. o.1 ∷ l) (term_below k os)

mutual
  pub occurrences-alone : (t : Term) → map (λ o. o.1) (terms.occurrences t) ≡ subterms t
  occurrences-alone (terms.var x) = refl
  occurrences-alone (terms.app s ts) = ap (λ l. terms.app s ts ∷ l) (occurrences_from-alone 1 ts)

  pub occurrences_from-alone : (k : ℕ) (ts : Terms) → map (λ o. o.1) (terms.occurrences_from k ts) ≡ subterms_of_all ts
  occurrences_from-alone k terms.none = refl
  occurrences_from-alone k (terms.more t ts) =
      map-append (λ o. o.1) (map (terms.below k) (terms.occurrences t)) (terms.occurrences_from (1 + k) ts)
      ∙ ap (λ l. l ++ map (λ o. o.1) (terms.occurrences_from (1 + k) ts)) (term_below k (terms.occurrences t) ∙ occurrences-alone t)
      ∙ ap (λ l. subterms t ++ l) (occurrences_from-alone (1 + k) ts)

proper-alone : (t : Term) → map (λ o. o.1) (proper_occurrences t) ≡ subterms_of_all (arguments t)
proper-alone (terms.var x) = refl
proper-alone (terms.app s ts) = occurrences_from-alone 1 ts

-- ---- entries
entry_placed : (n : ℕ) (os : List (List ℕ × Term)) → map (λ p. p.entry) (map (placed_term n) os) ≡ map term_entry (map (λ o. o.1) os)
entry_placed n [] = refl
entry_placed n (o ∷ os) = ap (λ l. term_entry o.1 ∷ l) (entry_placed n os)

literal-alone : (n : ℕ) (l : Literal) → map (λ p. p.entry) (literal_entries n l) ≡ literal_entry l ∷ map term_entry (subterms_of_all (arguments l.atom))
literal-alone n l = ap (λ es. literal_entry l ∷ es) (entry_placed n (proper_occurrences l.atom) ∙ ap (map term_entry) (proper-alone l.atom))

pub entries-alone : (n : ℕ) (ls : List Literal) → map (λ p. p.entry) (entries_from n ls) ≡ entries_alone ls
entries-alone n [] = refl
entries-alone n (l ∷ ls) =
    map-append (λ p. p.entry) (literal_entries n l) (entries_from (1 + n) ls)
    ∙ ap (λ es. es ++ map (λ p. p.entry) (entries_from (1 + n) ls)) (literal-alone n l)
    ∙ ap (λ es. (literal_entry l ∷ map term_entry (subterms_of_all (arguments l.atom))) ++ es) (entries-alone (1 + n) ls)

-- as many
pub length-entries : (n : ℕ) (ls : List Literal) → length (entries_from n ls) ≡ length (entries_alone ls)
length-entries n ls = sym (length-map (entries_from n ls) (λ p. p.entry)) ∙ ap length (entries-alone n ls)

-- ---- paths
reverse_under : (k : ℕ) (ps : List (List ℕ)) → map reverse (map (under k) ps) ≡ map (λ p. k ∷ p) (map reverse ps)
reverse_under k [] = refl
reverse_under k (p ∷ ps) = λ i. reverse-append p (k ∷ []) i ∷ reverse_under k ps i

path_below : (k : ℕ) (os : List (List ℕ × Term)) → map (λ o. o.0) (map (terms.below k) os) ≡ map (λ p. k ∷ p) (map (λ o. o.0) os)
path_below k [] = refl
path_below k (o ∷ os) = ap (λ l. (k ∷ o.0) ∷ l) (path_below k os)

mutual
  pub occurrences-paths : (t : Term) → map (λ o. o.0) (terms.occurrences t) ≡ map reverse (paths t)
  occurrences-paths (terms.var x) = refl
  occurrences-paths (terms.app s ts) = ap (λ l. [] ∷ l) (occurrences_from-paths 1 ts)

  pub occurrences_from-paths : (k : ℕ) (ts : Terms) → map (λ o. o.0) (terms.occurrences_from k ts) ≡ map reverse (paths_from k ts)
  occurrences_from-paths k terms.none = refl
  occurrences_from-paths k (terms.more t ts) =
      map-append (λ o. o.0) (map (terms.below k) (terms.occurrences t)) (terms.occurrences_from (1 + k) ts)
      ∙ ap (λ l. l ++ map (λ o. o.0) (terms.occurrences_from (1 + k) ts))
      (path_below k (terms.occurrences t) ∙ ap (map (λ p. k ∷ p)) (occurrences-paths t) ∙ sym (reverse_under k (paths t)))
      ∙ ap (λ l. map reverse (map (under k) (paths t)) ++ l) (occurrences_from-paths (1 + k) ts)
      ∙ sym (map-append reverse (map (under k) (paths t)) (paths_from (1 + k) ts))

proper-paths : (t : Term) → map (λ o. o.0) (proper_occurrences t) ≡ map reverse (paths_from 1 (arguments t))
proper-paths (terms.var x) = refl
proper-paths (terms.app s ts) = occurrences_from-paths 1 ts

-- ---- places
-- a place in the literal with this number, from a path that is written from its end
abbrev pub placed_back : ℕ → List ℕ → Place
placed_back n path = record { literal = n; path = reverse path }

-- the places of the entries of literals, of which the first has the number n
abbrev pub places_alone : ℕ → List Literal → List Place
places_alone n [] = []
places_alone n (l ∷ ls) = record { literal = n; path = [] } ∷ map (placed_back n) (paths_from 1 (arguments l.atom)) ++ places_alone (1 + n) ls

place_placed : (n : ℕ) (os : List (List ℕ × Term)) → map (λ p. p.place) (map (placed_term n) os) ≡ map (λ path. record { literal = n; path = path }) (map (λ o. o.0) os)
place_placed n [] = refl
place_placed n (o ∷ os) = ap (λ l. record { literal = n; path = o.0 } ∷ l) (place_placed n os)

place_back : (n : ℕ) (ps : List (List ℕ)) → map (λ path. record { literal = n; path = path }) (map reverse ps) ≡ map (placed_back n) ps
place_back n [] = refl
place_back n (p ∷ ps) = ap (λ l. placed_back n p ∷ l) (place_back n ps)

literal-places : (n : ℕ) (l : Literal) → map (λ p. p.place) (literal_entries n l) ≡ record { literal = n; path = [] } ∷ map (placed_back n) (paths_from 1 (arguments l.atom))
literal-places n l =
    ap (λ ps. record { literal = n; path = [] } ∷ ps)
    (place_placed n (proper_occurrences l.atom) ∙ ap (map (λ path. record { literal = n; path = path })) (proper-paths l.atom) ∙ place_back n (paths_from 1 (arguments l.atom)))

pub entries-places : (n : ℕ) (ls : List Literal) → map (λ p. p.place) (entries_from n ls) ≡ places_alone n ls
entries-places n [] = refl
entries-places n (l ∷ ls) =
    map-append (λ p. p.place) (literal_entries n l) (entries_from (1 + n) ls)
    ∙ ap (λ ps. ps ++ map (λ p. p.place) (entries_from (1 + n) ls)) (literal-places n l)
    ∙ ap (λ ps. (record { literal = n; path = [] } ∷ map (placed_back n) (paths_from 1 (arguments l.atom))) ++ ps) (entries-places (1 + n) ls)

pub length-places : (n : ℕ) (ls : List Literal) → length (entries_from n ls) ≡ length (places_alone n ls)
length-places n ls = sym (length-map (entries_from n ls) (λ p. p.place)) ∙ ap length (entries-places n ls)

-- ---- there are no more entries than occurrences of symbols and variables
mutual
  subterms-few : (t : Term) → length (subterms t) ≤ terms.size t
  subterms-few (terms.var x) = omega arith
  subterms-few (terms.app s ts) = omega (arith, subterms_of_all-few ts)

  subterms_of_all-few : (ts : Terms) → length (subterms_of_all ts) ≤ terms.sizes ts
  subterms_of_all-few terms.none = omega arith
  subterms_of_all-few (terms.more t ts) = omega (arith, length-append (subterms t) (subterms_of_all ts), subterms-few t, subterms_of_all-few ts)

arguments-few : (t : Term) → 1 + length (subterms_of_all (arguments t)) ≤ terms.size t
arguments-few (terms.var x) = omega arith
arguments-few (terms.app s ts) = omega (arith, subterms_of_all-few ts)

alone-few : (ls : List Literal) → length (entries_alone ls) ≤ literals_size ls
alone-few [] = omega arith
alone-few (l ∷ ls) =
    omega (
      arith,
      length-append (map term_entry (subterms_of_all (arguments l.atom))) (entries_alone ls),
      length-map (subterms_of_all (arguments l.atom)) term_entry,
      arguments-few l.atom,
      alone-few ls,
    )

pub entries_few : (n : ℕ) (ls : List Literal) → length (entries_from n ls) ≤ literals_size ls
entries_few n ls = omega (arith, length-entries n ls, alone-few ls)

pub clause_few : (c : Clause) → IsSoundClause c → length (entries c) ≤ MOST_OCCURRENCES
clause_few c sound = omega (arith, entries_few 1 c.literals, sound.sound.no_larger)
