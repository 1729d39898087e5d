-- What is shown of a hit: its canonical list, and the names and symbols of its numbers.
use Rattle.std.specs.Prelude.{◌≡◌, ℕ, map, Some, slice_get}
use Rattle.std.specs.List.{AllByRecursion}
use Rattle.si_defs.specs.Terms.{firsts, symbols}
use Rattle.si_defs.specs.Symbols.{Numbering, same_symbol}
use Rattle.si_defs.specs.Clauses.{Pattern}
use Rattle.si_defs.specs.Entries.{Entry, Placed, distinct_variables, pattern_entry, whole_of}
use Rattle.si_defs.specs.Variables.{Solution}
use Rattle.si_defs.specs.declared.Relation.{Relation}
use Rattle.si_state.specs.Answers.{Solves}
use Rattle.si_term.specs.Terms.{symbol_of}
use Rattle.si_flat.specs.Numbered.{number_in}
use Rattle.si_flat.specs.Flattened.{unnumbered, query_numbers}
use Rattle.si_form.specs.Answers.{StandsForList}
use Rattle.si_form.specs.Numberings.{variable_by, list_by, symbols_of}
use Rattle.si_form.specs.SolutionParts.{IsBindingOf}
use Rattle.si_form.specs.TableNumbers.{HaveNumbers}
use Rattle.si_index.specs.Finding.{Finding}
use Rattle.si_index.specs.declared.found.Lent.{Lent}
use Rattle.si_index.specs.declared.found.Shown.{Shown}

-- The names are those of the variables, and the bindings stand for the canonical list, with the
-- numbers of the index and after them those of the symbols that it lacks. Nothing else stands in
-- the list, and all symbols have numbers.
pub record ShowsEntry (numbers : Numbering) (relation : Relation) (pattern : Pattern) (e : Entry)
    (s : Shown) : Type 0 where
  pub extra : map symbol_of s.extra
      ≡ firsts same_symbol (unnumbered numbers (symbols (whole_of (pattern_entry pattern))))
  pub query_names : s.query_names ≡ distinct_variables (pattern_entry pattern)
  pub entry_names : s.entry_names ≡ distinct_variables e
  pub solution : Solution
  pub solves : Solves relation pattern e solution
  pub parts : AllByRecursion (IsBindingOf (whole_of (pattern_entry pattern)) (whole_of e)) solution
  pub symbols : HaveNumbers (query_numbers numbers s.extra)
      (symbols_of (whole_of (pattern_entry pattern)) (whole_of e))
  pub list : StandsForList s.solution
      (list_by (number_in (query_numbers numbers s.extra))
      (variable_by s.query_names s.entry_names) solution)

-- what is lent, as what is shown
abbrev pub shown_of : Lent → Shown
shown_of l =
    record {
      solution = l.solution.now;
      query_names = l.query_names.now;
      entry_names = map (λ name. name.now) l.entry_names.now;
      extra = l.extra.now;
    }

-- the same of the hit with this number
abbrev pub ShowsHit : Finding → ℕ → Shown → Type 0
ShowsHit finding n s =
    (hit : ℕ × Placed) × (slice_get finding.hits n ≡ Some hit)
    × ShowsEntry finding.index.numbers finding.relation finding.pattern hit.1.entry s
