-- Laws of what is left of a walk.
use Rattle.std.proofs.Common.{◌≡◌, ◌==◌, true, ℕ, ◌+◌, ◌<◌, ◌≤◌, List, [], ◌∷◌, ◌++◌, length, map, refl, sym, ◌∙◌, ap, arith, append_assoc, append-nil, length-append}
use Rattle.std.specs.Prelude.{Option, None, Some}
use Rattle.std.proofs.lemmas.List.{map-append}
use Rattle.std.proofs.lemmas.Bool.{eqb-true}
use Rattle.std.specs.List.{AllByRecursion}
use Rattle.si_defs.specs.Terms.{app, var, row, size, sizes, below, occurrences, occurrences_from, arguments}
use Rattle.si_defs.specs.Clauses.{Term}
use Rattle.si_defs.specs.Entries.{Placed, placed_term, proper_occurrences, literal_entry, entries_from}
use Rattle.si_defs.proofs.ListLaws.{all_front, all_back}
use Rattle.si_defs.specs.declared.TheConstants.{MOST_OCCURRENCES}
use Rattle.si_term.specs.Terms.{term_of}
use Rattle.si_term.specs.Meaning.{literal_of, entry_of}
use Rattle.si_term.specs.declared.term.Term as program
use Rattle.si_term.specs.declared.clause.Literal as program_literal
use Rattle.si_term.specs.declared.clause.Entry as program_entry
use Rattle.si_entries.specs.declared.walk.Row.{Row}
use Rattle.si_entries.specs.declared.walk.Entries.{Entries}
use Rattle.si_entries.specs.Walks.{terms_left, numbers, at, row_left, rows_left, left_of, last_place, weight_of, IsSmallRow, GivesEntry, GivesAfter}

-- ---- subterms by their paths
pub at_append : (n : ℕ) (p : List ℕ) (xs ys : List (List ℕ × Term)) → at n p (xs ++ ys) ≡ at n p xs ++ at n p ys
at_append n p [] ys = refl
at_append n p (x ∷ xs) ys = ap (λ l. placed_term n (p ++ x.0, x.1) ∷ l) (at_append n p xs ys)

pub at_below : (n : ℕ) (p : List ℕ) (k : ℕ) (os : List (List ℕ × Term)) → at n p (map (below k) os) ≡ at n (p ++ k ∷ []) os
at_below n p k [] = refl
at_below n p k (o ∷ os) = λ i. placed_term n (sym (append_assoc p (k ∷ []) o.0) i, o.1) ∷ at_below n p k os i

pub at_root : (n : ℕ) (os : List (List ℕ × Term)) → map (placed_term n) os ≡ at n [] os
at_root n [] = refl
at_root n ((p, t) ∷ os) = ap (λ l. placed_term n (p, t) ∷ l) (at_root n os)

pub proper_inside : (a : Term) → proper_occurrences a ≡ occurrences_from 1 (arguments a)
proper_inside (var x) = refl
proper_inside (app s ts) = refl

-- ---- rows
numbers_more : (rows : List Row) (r : Row) → numbers (rows ++ r ∷ []) ≡ numbers rows ++ r.passed ∷ []
numbers_more rows r = map-append (λ (q : Row). q.passed) rows (r ∷ [])

pub rows_more : (n : ℕ) (path : List ℕ) (rows : List Row) (r : Row) → rows_left n path (rows ++ r ∷ []) ≡ row_left n (path ++ numbers rows) r ++ rows_left n path rows
rows_more n path [] r = ap (λ p. row_left n p r) (sym (append-nil path)) ∙ sym (append-nil (row_left n (path ++ []) r))
rows_more n path (q ∷ rows) r =
    ap (λ l. l ++ row_left n path q) (rows_more n (path ++ q.passed ∷ []) rows r)
    ∙ append_assoc (row_left n ((path ++ q.passed ∷ []) ++ numbers rows) r) (rows_left n (path ++ q.passed ∷ []) rows) (row_left n path q)
    ∙ ap (λ p. row_left n p r ++ rows_left n path (q ∷ rows)) (append_assoc path (q.passed ∷ []) (numbers rows))

pub weight_more : (rows : List Row) (r : Row) → weight_of (rows ++ r ∷ []) ≡ weight_of rows + sizes (terms_left r) + 1
weight_more [] r = omega arith
weight_more (q ∷ rows) r = omega (arith, weight_more rows r)

-- rows of which none is left
pub row_done : (n : ℕ) (path : List ℕ) (r : Row) → r.left.now ≡ [] → row_left n path r ≡ []
row_done n path r done = ap (λ l. at n path (occurrences_from (1 + r.passed) (row (map term_of l)))) done

pub rows_climb : (n : ℕ) (rows : List Row) (q r : Row) → r.left.now ≡ [] → rows_left n [] ((rows ++ q ∷ []) ++ r ∷ []) ≡ rows_left n [] (rows ++ q ∷ [])
rows_climb n rows q r done =
    rows_more n [] (rows ++ q ∷ []) r ∙ ap (λ l. l ++ rows_left n [] (rows ++ q ∷ [])) (row_done n (numbers (rows ++ q ∷ [])) r done)

-- ---- one argument is passed
module _ (n : ℕ) (rows : List Row) (old new : Row) (t : program.Term) (ts : List program.Term) (first : old.left.now ≡ t ∷ ts) (rest : new.left.now ≡ ts)
    (next : new.passed ≡ old.passed + 1) where
  one_on : 1 + old.passed ≡ new.passed
  one_on = omega (arith, next)

  row_passed : (path : List ℕ) → row_left n path old ≡ at n (path ++ new.passed ∷ []) (occurrences (term_of t)) ++ row_left n path new
  row_passed path =
      ap (λ l. at n path (occurrences_from (1 + old.passed) (row (map term_of l)))) first
      ∙ ap (λ k. at n path (occurrences_from k (row (map term_of (t ∷ ts))))) one_on
      ∙ at_append n path (map (below new.passed) (occurrences (term_of t))) (occurrences_from (1 + new.passed) (row (map term_of ts)))
      ∙ ap (λ l. l ++ at n path (occurrences_from (1 + new.passed) (row (map term_of ts)))) (at_below n path new.passed (occurrences (term_of t)))
      ∙ ap (λ l. at n (path ++ new.passed ∷ []) (occurrences (term_of t)) ++ at n path (occurrences_from (1 + new.passed) (row (map term_of l)))) (sym rest)

  pub rows_passed : rows_left n [] (rows ++ old ∷ []) ≡ at n (numbers (rows ++ new ∷ [])) (occurrences (term_of t)) ++ rows_left n [] (rows ++ new ∷ [])
  rows_passed =
      rows_more n [] rows old
      ∙ ap (λ l. l ++ rows_left n [] rows) (row_passed (numbers rows))
      ∙ append_assoc (at n (numbers rows ++ new.passed ∷ []) (occurrences (term_of t))) (row_left n (numbers rows) new) (rows_left n [] rows)
      ∙ ap (λ l. at n (numbers rows ++ new.passed ∷ []) (occurrences (term_of t)) ++ l) (sym (rows_more n [] rows new))
      ∙ ap (λ p. at n p (occurrences (term_of t)) ++ rows_left n [] (rows ++ new ∷ [])) (sym (numbers_more rows new))

  sizes_passed : sizes (terms_left old) ≡ size (term_of t) + sizes (terms_left new)
  sizes_passed = ap (λ l. sizes (row (map term_of l))) first ∙ ap (λ l. size (term_of t) + sizes (row (map term_of l))) (sym rest)

  pub weight_passed : 1 ≤ size (term_of t) → weight_of (rows ++ new ∷ []) < weight_of (rows ++ old ∷ [])
  weight_passed some = omega (arith, some, sizes_passed, weight_more rows old, weight_more rows new)

  pub small_passed : 1 ≤ size (term_of t) → IsSmallRow old → IsSmallRow new
  small_passed some small = omega (arith, some, small, next, sizes_passed)

  pub few_passed : IsSmallRow old → size (term_of t) ≤ MOST_OCCURRENCES
  few_passed small = omega (arith, small, sizes_passed)

-- ---- the walk comes to a literal
pub literal_begun : (n : ℕ) (literals : List program_literal.Literal) (l : program_literal.Literal) (others : List program_literal.Literal) (before : List Placed) (r : Row) (around : List Row)
    → literals ≡ l ∷ others → before ≡ [] → around ≡ [] → r.passed ≡ 0 → row (map term_of r.left.now) ≡ arguments (literal_of l).atom
    → before ++ entries_from (1 + n) (map literal_of literals)
    ≡ record { entry = literal_entry (literal_of l); place = record { literal = n + 1; path = numbers around } }
    ∷ (rows_left (n + 1) [] (around ++ r ∷ []) ++ entries_from (1 + (n + 1)) (map literal_of others))
literal_begun n literals l others before r around is done none start seen =
    let k : 1 + n ≡ n + 1 = omega arith in
    ap (λ b. b ++ entries_from (1 + n) (map literal_of literals)) done
    ∙ ap (λ ls. entries_from (1 + n) (map literal_of ls)) is
    ∙ ap (λ m. entries_from m (map literal_of (l ∷ others))) k
    ∙ ap (λ os. record { entry = literal_entry (literal_of l); place = record { literal = n + 1; path = [] } } ∷ (os ++ entries_from (1 + (n + 1)) (map literal_of others)))
    (at_root (n + 1) (proper_occurrences (literal_of l).atom)
    ∙ ap (at (n + 1) []) (proper_inside (literal_of l).atom)
    ∙ ap (λ ts. at (n + 1) [] (occurrences_from 1 ts)) (sym seen)
    ∙ ap (λ p. at (n + 1) [] (occurrences_from (1 + p) (terms_left r))) (sym start))
    ∙ ap (λ (rs : List Row). record { entry = literal_entry (literal_of l); place = record { literal = n + 1; path = numbers rs } }
    ∷ (rows_left (n + 1) [] (rs ++ r ∷ []) ++ entries_from (1 + (n + 1)) (map literal_of others))) (sym none)

-- ---- small rows
pub climbs_small : (rows : List Row) (q : Row) → AllByRecursion IsSmallRow (rows ++ q ∷ []) → AllByRecursion IsSmallRow rows × IsSmallRow q
climbs_small rows q all = (all_front IsSmallRow rows (q ∷ []) all, (all_back IsSmallRow rows (q ∷ []) all).0)

-- ---- the walk goes into arguments
pub descended : (n : ℕ) (rows more : List Row) (outer r inner : Row) (ts : List program.Term) → more ≡ rows ++ outer ∷ [] → inner ≡ r → r.passed ≡ 0 → r.left.now ≡ ts
    → rows_left n [] (more ++ inner ∷ []) ≡ at n (numbers more) (occurrences_from 1 (row (map term_of ts))) ++ rows_left n [] (rows ++ outer ∷ [])
descended n rows more outer r inner ts items same start terms =
    rows_more n [] more inner
    ∙ ap (λ (q : Row). row_left n (numbers more) q ++ rows_left n [] more) same
    ∙ ap (λ p. at n (numbers more) (occurrences_from (1 + p) (terms_left r)) ++ rows_left n [] more) start
    ∙ ap (λ l. at n (numbers more) (occurrences_from 1 (row (map term_of l))) ++ rows_left n [] more) terms
    ∙ ap (λ l. at n (numbers more) (occurrences_from 1 (row (map term_of ts))) ++ rows_left n [] l) items

-- an empty slice
pub none_there : {A : Type 0} (xs : List A) → true ≡ (length xs == 0) → xs ≡ []
none_there [] none = refl
none_there (x ∷ xs) none = absurd (omega (arith, eqb-true (length (x ∷ xs)) 0 (sym none)))

-- ---- entries that were passed
pub record HasPassed (n : ℕ) (all now : List Placed) : Type 0 where
  pub passed : List Placed
  pub long : length passed ≡ n
  pub whole : all ≡ passed ++ now

pub passed_none : (all : List Placed) → HasPassed 0 all all
passed_none all = record { passed = []; long = refl; whole = refl }

pub passed_more : (n : ℕ) (old mid new : Entries) (e : program_entry.Entry) → HasPassed n (left_of old) (left_of mid) → GivesEntry mid new (Some e) → HasPassed (n + 1) (left_of old) (left_of new)
passed_more n old mid new e h given =
    let one : Placed = record { entry = entry_of e; place = last_place new } in
    record {
      passed = h.passed ++ one ∷ [];
      long = omega (arith, h.long, length-append h.passed (one ∷ []));
      whole = h.whole ∙ ap (λ l. h.passed ++ l) given ∙ sym (append_assoc h.passed (one ∷ []) (left_of new));
    }

pub passed_all : (n m : ℕ) (old mid new : Entries) → n ≤ m → HasPassed n (left_of old) (left_of mid) → GivesEntry mid new None
    → (length (left_of old) ≤ m) × (left_of new ≡ [])
passed_all n m old mid new few h none = (omega (arith, few, h.long, ap length h.whole, length-append h.passed (left_of mid), ap length none.0), none.1)

pub given_after : (n : ℕ) (old mid new : Entries) (o : Option program_entry.Entry) → HasPassed n (left_of old) (left_of mid) → GivesEntry mid new o → GivesAfter n old new o
given_after n old mid new None h none = passed_all n n old mid new (omega arith) h none
given_after n old mid new (Some e) h given = (h.passed, h.long, h.whole ∙ ap (λ l. h.passed ++ l) given)
