-- Where a walk through the entries of a clause stands: what is left of it, and its place.
use Rattle.std.specs.Prelude.{◌≡◌, ℕ, suc, ◌+◌, ◌<◌, ◌≤◌, List, [], ◌∷◌, ◌++◌, Option, None, Some, length, map}
use Rattle.std.specs.Borrow.{Bor}
use Rattle.std.specs.List.{AllByRecursion}
use Rattle.si_defs.specs.Terms.{row, size, sizes, occurrences, occurrences_from}
use Rattle.si_defs.specs.Clauses.{Term, Terms, literals_size}
use Rattle.si_defs.specs.Entries.{Placed, Place, placed_term, entries_from, term_entry}
use Rattle.si_defs.specs.declared.TheConstants.{MOST_OCCURRENCES}
use Rattle.si_term.specs.Terms.{term_of}
use Rattle.si_term.specs.Meaning.{literal_of, entry_of}
use Rattle.si_term.specs.declared.term.Term as program
use Rattle.si_term.specs.declared.clause.Entry as program_entry
use Rattle.si_entries.specs.declared.walk.Row.{Row}
use Rattle.si_entries.specs.declared.walk.Entries.{Entries}

-- ---- the arguments that the walk is in
abbrev pub terms_left : Row → Terms
terms_left r = row (map term_of r.left.now)

-- the numbers of the arguments that lead to where it is
abbrev pub numbers : List Row → List ℕ
numbers rows = map (λ r. r.passed) rows

-- subterms of the literal with this number, by their paths from the end of this one
abbrev pub at : ℕ → List ℕ → List (List ℕ × Term) → List Placed
at number path [] = []
at number path (o ∷ os) = placed_term number (path ++ o.0, o.1) ∷ at number path os

abbrev pub row_left : ℕ → List ℕ → Row → List Placed
row_left number path r = at number path (occurrences_from (1 + r.passed) (terms_left r))

-- those of the inner rows come first; the first row is the outermost
abbrev pub rows_left : ℕ → List ℕ → List Row → List Placed
rows_left number path [] = []
rows_left number path (r ∷ rows) =
    rows_left number (path ++ r.passed ∷ []) rows ++ row_left number path r

abbrev pub rows_of : Entries → List Row
rows_of e = e.around.items ++ e.row ∷ []

-- the entries that are left in the literal, and those that are left of the clause
abbrev pub left_in_literal : Entries → List Placed
left_in_literal e = rows_left e.literal [] (rows_of e)

abbrev pub left_of : Entries → List Placed
left_of e = left_in_literal e ++ entries_from (1 + e.literal) (map literal_of e.literals.now)

-- where the entry stands that was given last
abbrev pub last_place : Entries → Place
last_place e = record { literal = e.literal; path = numbers e.around.items }

-- ---- bounds
-- so many arguments were passed, and their sizes together are no more than may occur
abbrev pub IsSmallRow : Row → Type 0
IsSmallRow r = r.passed + sizes (terms_left r) ≤ MOST_OCCURRENCES

pub record IsSmall (e : Entries) : Type 0 where
  pub around : AllByRecursion IsSmallRow e.around.items
  pub row : IsSmallRow e.row
  pub literals : e.literal + literals_size (map literal_of e.literals.now) ≤ MOST_OCCURRENCES

-- each step makes this smaller
abbrev pub weight_of : List Row → ℕ
weight_of [] = 0
weight_of (r ∷ rows) = suc (sizes (terms_left r) + weight_of rows)

abbrev pub weight : Entries → ℕ
weight e = weight_of (rows_of e)

-- ---- steps
pub record HasSameLiterals (old new : Entries) : Type 0 where
  pub literals : new.literals.now ≡ old.literals.now
  pub literal : new.literal ≡ old.literal

-- this argument is passed, and all in it is left out
pub record PassesTerm (t : Term) (old new : Entries) : Type 0 where
  pub left : left_in_literal old
      ≡ at new.literal (numbers (rows_of new)) (occurrences t) ++ left_in_literal new
  pub lighter : weight new < weight old
  pub few : size t ≤ MOST_OCCURRENCES

-- the walk is in these arguments of the term that it passed last
pub record EntersArguments (terms : List program.Term) (old new : Entries) : Type 0 where
  pub same : HasSameLiterals old new
  pub path : numbers new.around.items ≡ numbers (rows_of old)
  pub left : left_in_literal new
      ≡ at new.literal (numbers new.around.items) (occurrences_from 1 (row (map term_of terms)))
      ++ left_in_literal old

abbrev pub GivesTerm : Entries → Entries → Option (Bor program.Term) → Type 0
GivesTerm old new None = (left_in_literal old ≡ []) × (left_in_literal new ≡ [])
GivesTerm old new (Some t) =
    left_in_literal old
    ≡ record { entry = term_entry (term_of t.now); place = last_place new } ∷ left_in_literal new

abbrev pub GivesEntry : Entries → Entries → Option program_entry.Entry → Type 0
GivesEntry old new None = (left_of old ≡ []) × (left_of new ≡ [])
GivesEntry old new (Some e) =
    left_of old ≡ record { entry = entry_of e; place = last_place new } ∷ left_of new

-- the same after so many others
abbrev pub GivesAfter : ℕ → Entries → Entries → Option program_entry.Entry → Type 0
GivesAfter n old new None = (length (left_of old) ≤ n) × (left_of new ≡ [])
GivesAfter n old new (Some e) =
    (passed : List Placed) × (length passed ≡ n)
    × (left_of old
    ≡ passed ++ record { entry = entry_of e; place = last_place new } ∷ left_of new)
