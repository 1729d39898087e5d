-- The answer to a pattern: the entries that stand in the relation, in order, each with its
-- canonical list (after MathWebSearch, a query over all subterms; order and text of the lines are
-- this project's profile).
use Rattle.std.specs.Prelude.{◌≡◌, ◌⊎◌, List, [], ◌∷◌, ◌++◌, codes}
use Rattle.si_defs.specs.Bytes.{Bytes}
use Rattle.si_defs.specs.Clauses.{Clause, Pattern, literal_pattern, term_pattern}
use Rattle.si_defs.specs.Entries.{Entry, literal_entry, term_entry, Placed}
use Rattle.si_defs.specs.declared.Relation.{Relation}
use Rattle.si_defs.specs.Relations.{Relates}
use Rattle.si_defs.specs.Solutions.{IsCanonical}
use Rattle.si_defs.specs.Variables.{Apart, same_variable, variable_text, pattern_term, entry_term, Solution}
use Rattle.si_defs.specs.Printing.{place_text, solution_text}

-- A literal is compared with literals of its sign, by their atoms, and a term with terms. R is
-- asked of the two terms.
abbrev pub Compares : (Apart → Apart → Type 0) → Pattern → Entry → Type 0
Compares R (literal_pattern l) (literal_entry k) = (l.positive ≡ k.positive)
    × R (pattern_term l.atom) (entry_term k.atom)
Compares R (term_pattern t) (term_entry u) = R (pattern_term t) (entry_term u)
Compares R (literal_pattern l) (term_entry u) = ⊥
Compares R (term_pattern t) (literal_entry k) = ⊥

-- the entry stands in the relation to the pattern
abbrev pub Stands : Relation → Pattern → Entry → Type 0
Stands relation pattern entry = Compares (Relates same_variable relation) pattern entry

-- the list is the entry's canonical list
abbrev pub Solves : Relation → Pattern → Entry → Solution → Type 0
Solves relation pattern entry solution =
    Compares (λ q e. IsCanonical same_variable relation q e solution) pattern entry

-- an entry that is answered: its clause, the entry at its place, and its solution list
pub record Hit : Type 0 where
  pub clause : Clause
  pub placed : Placed
  pub solution : Solution

-- Of these entries, in order, exactly those that stand in the relation are answered.
abbrev pub IsAnswer : Relation → Pattern → List (Clause × Placed) → List Hit → Type 0
IsAnswer relation pattern [] hits = hits ≡ []
IsAnswer relation pattern ((c, e) ∷ es) hits =
    (Stands relation pattern e.entry
    × ((solution : Solution) × (others : List Hit) × Solves relation pattern e.entry solution
    × IsAnswer relation pattern es others
    × (hits ≡ record { clause = c; placed = e; solution = solution } ∷ others)))
    ⊎ ((Stands relation pattern e.entry → ⊥) × IsAnswer relation pattern es hits)

-- the line of a hit: its place, a space and its list
abbrev pub hit_text : Hit → Bytes
hit_text h =
    place_text h.clause.name h.placed.place ++ codes " " ++ solution_text variable_text h.solution

abbrev pub hit_texts : List Hit → List Bytes
hit_texts [] = []
hit_texts (h ∷ hs) = hit_text h ∷ hit_texts hs
