-- What is answered to the flat terms of a pattern and an entry, it says of the pattern and the
-- entry.
use Rattle.std.proofs.Common.{◌≡◌, ℕ, Bool, true, false, not, List, [], ◌∷◌, ◌++◌, map, inl, inr, refl, ap, sym, subst}
use Rattle.std.specs.Prelude.{Option, Some, None, bytes_eq}
use Rattle.std.specs.List.{AllByRecursion}
use Rattle.si_defs.specs.Bytes.{Bytes}
use Rattle.si_defs.specs.Terms.{symbols, variables, firsts}
use Rattle.si_defs.specs.Symbols.{Symbol, Numbering, IsNumbering}
use Rattle.si_defs.specs.Substitutions.{IsAmong}
use Rattle.si_defs.specs.Clauses.{Term, Pattern, literal_pattern, term_pattern, IsSoundPattern}
use Rattle.si_defs.specs.Entries.{Entry, literal_entry, term_entry, pattern_entry, distinct_variables, whole_of}
use Rattle.si_defs.specs.declared.Relation.{Relation}
use Rattle.si_defs.proofs.ListLaws.{among_front, among_parts, all_from}
use Rattle.si_defs.proofs.SymbolLaws.{text_is}
use Rattle.si_state.specs.Answers.{Stands}
use Rattle.si_term.specs.Terms.{symbol_of}
use Rattle.si_flat.specs.declared.Cell.{Cell}
use Rattle.si_flat.specs.declared.Owner.{Owner}
use Rattle.si_flat.specs.declared.flatten.FlatQuery.{FlatQuery}
use Rattle.si_flat.specs.Cells as cells
use Rattle.si_flat.specs.Numbered.{number_in, signed}
use Rattle.si_flat.specs.Flattened.{has_number, unnumbered, extra_numbers, query_numbers, IsFlatOf, IsQueryNumbering, FlattensPattern}
use Rattle.si_flat.specs.Flattening.{owners_variable}
use Rattle.si_flat.proofs.Numbers.{has-among, among-number}
use Rattle.si_flat.proofs.FirstPlaces.{among_firsts, filter_among}
use Rattle.si_unify.proofs.Reading.{one_term}
use Rattle.si_form.specs.declared.solution.Binding.{Binding}
use Rattle.si_form.specs.Answers.{IsNumbered, AreNumbered, AnswersTo, Answers}
use Rattle.si_form.specs.Numberings.{query_by, entry_by, variable_by, symbols_of, TellsApart, IsFor, AnswersToTexts}
use Rattle.si_form.specs.TableNumbers.{HaveNumbers}
use Rattle.si_form.proofs.NumberingLaws.{answers_are_kept}
use Rattle.si_form.proofs.SolutionLaws.{solutions_are_of_terms, atoms_are_answered}
use Rattle.si_form.proofs.TableLaws.{entries_need_the_table_alone}
use Rattle.si_index.specs.Searching.{AreCompared, IsKnownEntry, AnswersEntry}

-- ---- numbers
-- symbols that have numbers don't lack one, and the other way round
pub none_lacks : (numbers : Numbering) (ss : List Symbol) → HaveNumbers numbers ss → unnumbered numbers ss ≡ []
none_lacks numbers [] have = refl
none_lacks numbers (s ∷ ss) have =
    let n = have s (inl refl) in
    rw (has-among numbers s n.0 n.1) (none_lacks numbers ss (λ r a. have r (inr a)))

not_kept : (b : Bool) → not b ≡ true → b ≡ true → ⊥
not_kept true h k = cc
not_kept false h k = cc

pub all_numbered : (numbers : Numbering) (ss : List Symbol) → unnumbered numbers ss ≡ [] → HaveNumbers numbers ss
all_numbered numbers ss e s a = by (has_number numbers s) refl where
  by : (b : Bool) → has_number numbers s ≡ b → (n : ℕ) × IsAmong numbers (s, n)
  by true h = (number_in numbers s, among-number numbers s h)
  by false h = absurd (subst (λ l. IsAmong l s) e (filter_among (λ r. not (has_number numbers r)) ss s a (ap not h)))

pub tells_apart : (numbers : Numbering) (ss : List Symbol) → IsQueryNumbering numbers → HaveNumbers numbers ss → TellsApart (number_in numbers) ss
tells_apart numbers ss numbering have =
    let at : (s : Symbol) → IsAmong ss s → IsAmong numbers (s, number_in numbers s) = λ s a. among-number numbers s (has-among numbers s (have s a).0 (have s a).1) in
    record {
      one_symbol = λ s r a b e. numbering.one_symbol s r (number_in numbers s) (at s a) (subst (λ n. IsAmong numbers (r, n)) (sym e) (at r b));
      even = λ s a. numbering.even s (number_in numbers s) (at s a);
    }

pub more_numbers : (numbers others : Numbering) (ss : List Symbol) → HaveNumbers numbers ss → HaveNumbers (numbers ++ others) ss
more_numbers numbers others ss have s a = ((have s a).0, among_front numbers others (s, (have s a).0) (have s a).1)

pub both_numbered : (numbers : Numbering) (p u : Term) → HaveNumbers numbers (symbols p) → HaveNumbers numbers (symbols u) → HaveNumbers numbers (symbols_of p u)
both_numbered numbers p u of_p of_u s a =
    elim (among_parts (symbols p) (symbols u) s a) [
      | inl b ↦ of_p s b
      | inr b ↦ of_u s b
    ]

variables_placed : (xs : List Bytes) → AllByRecursion (IsAmong (firsts bytes_eq xs)) xs
variables_placed xs = all_from (IsAmong (firsts bytes_eq xs)) xs (λ x a. among_firsts bytes_eq text_is xs x a)

pub is_for : (numbers : Numbering) (p u : Term) → IsQueryNumbering numbers → HaveNumbers numbers (symbols p) → HaveNumbers numbers (symbols u) → IsFor p u (number_in numbers) (firsts bytes_eq (variables p)) (firsts bytes_eq (variables u))
is_for numbers p u numbering of_p of_u = record {
  symbols = tells_apart numbers (symbols_of p u) numbering (both_numbered numbers p u of_p of_u);
  pattern_variables = variables_placed (variables p);
  entry_variables = variables_placed (variables u);
}

-- ---- flat terms
pub flat_is_numbered : (numbers : Numbering) (owner : Owner) (e : Entry) (list : List Cell) → IsFlatOf numbers (owners_variable owner) e list → AreNumbered owner list
flat_is_numbered numbers owner e list flat t stands =
    subst (IsNumbered owner) (one_term list _ t flat.stands stands) flat.numbered

-- two terms and their numbers; the entry's are in the table
module _ (relation : Relation) (table extra : Numbering) (p u : Term) (positive : Bool) (numbering : IsQueryNumbering (table ++ extra)) (of_p : HaveNumbers (table ++ extra) (symbols p)) (of_u : HaveNumbers table (symbols u)) where
  answered : (answer : Option (List Binding))
      → AnswersTo relation (query_by (signed positive (number_in (table ++ extra))) (firsts bytes_eq (variables p)) p) (entry_by (signed positive (number_in table)) (firsts bytes_eq (variables u)) u) answer
      → AnswersToTexts relation p u (signed positive (number_in (table ++ extra))) (variable_by (firsts bytes_eq (variables p)) (firsts bytes_eq (variables u))) answer
  answered answer told =
      answers_are_kept relation p u (number_in (table ++ extra)) (firsts bytes_eq (variables p)) (firsts bytes_eq (variables u)) positive answer
      (is_for (table ++ extra) p u numbering of_p (more_numbers table extra (symbols u) of_u))
      (subst (λ t. AnswersTo relation (query_by (signed positive (number_in (table ++ extra))) (firsts bytes_eq (variables p)) p) t answer)
      (entries_need_the_table_alone table extra positive (firsts bytes_eq (variables u)) u of_u) told)

-- what the terms are answered, the pattern and the entry are
entry_answered : (relation : Relation) (numbers : Numbering) (p : Pattern) (e : Entry) (answer : Option (List Binding))
    → AreCompared p e
    → HaveNumbers numbers (symbols_of (whole_of (pattern_entry p)) (whole_of e))
    → AnswersToTexts relation (whole_of (pattern_entry p)) (whole_of e) (number_in numbers) (variable_by (distinct_variables (pattern_entry p)) (distinct_variables e)) answer
    → AnswersEntry relation numbers p e answer
entry_answered relation numbers (literal_pattern l) (literal_entry k) None alike have h = λ s. h s.1
entry_answered relation numbers (literal_pattern l) (literal_entry k) (Some bs) alike have h = record {
  stands = (alike, h.relates);
  solution = h.solution;
  solves = (alike, h.canonical);
  parts = solutions_are_of_terms relation l.atom k.atom h.solution h.canonical;
  symbols = have;
  list = h.stands;
}
entry_answered relation numbers (term_pattern t) (term_entry u) None alike have h = h
entry_answered relation numbers (term_pattern t) (term_entry u) (Some bs) alike have h = record {
  stands = h.relates;
  solution = h.solution;
  solves = h.canonical;
  parts = solutions_are_of_terms relation t u h.solution h.canonical;
  symbols = have;
  list = h.stands;
}
entry_answered relation numbers (literal_pattern l) (term_entry u) answer alike have h = absurd alike
entry_answered relation numbers (term_pattern t) (literal_entry k) answer alike have h = absurd alike

pub flat_answers : (relation : Relation) (table : Numbering) (p : Pattern) (q : FlatQuery) (e : Entry) (list : List Cell) (answer : Option (List Binding))
    → IsNumbering table
    → IsSoundPattern p
    → FlattensPattern table p q
    → IsKnownEntry table e
    → AreCompared p e
    → IsFlatOf table cells.entry e list
    → Answers relation q.flat list answer
    → AnswersEntry relation (query_numbers table q.extra) p e answer
flat_answers relation table (literal_pattern l) q (literal_entry k) list answer numbering sound query known alike flat told =
    let extra = extra_numbers (map symbol_of q.extra) in
    let of_p = all_numbered (query_numbers table q.extra) (symbols l.atom) query.complete in
    let same = subst (λ b. AnswersTo relation (query_by (signed b (number_in (table ++ extra))) (firsts bytes_eq (variables l.atom)) l.atom) (entry_by (signed k.positive (number_in table)) (firsts bytes_eq (variables k.atom)) k.atom) answer)
    alike (told _ _ query.flat.stands flat.stands) in
    entry_answered relation (query_numbers table q.extra) (literal_pattern l) (literal_entry k) answer alike
    (both_numbered (query_numbers table q.extra) l.atom k.atom of_p (more_numbers table extra (symbols k.atom) known.numbered))
    (atoms_are_answered relation l.atom k.atom (number_in (table ++ extra)) _ k.positive answer sound.0 known.sound.0
    (answered relation table extra l.atom k.atom k.positive (query.numbering numbering) of_p known.numbered answer same))
flat_answers relation table (term_pattern t) q (term_entry u) list answer numbering sound query known alike flat told =
    let extra = extra_numbers (map symbol_of q.extra) in
    let of_p = all_numbered (query_numbers table q.extra) (symbols t) query.complete in
    entry_answered relation (query_numbers table q.extra) (term_pattern t) (term_entry u) answer alike
    (both_numbered (query_numbers table q.extra) t u of_p (more_numbers table extra (symbols u) known.numbered))
    (answered relation table extra t u true (query.numbering numbering) of_p known.numbered answer (told _ _ query.flat.stands flat.stands))
flat_answers relation table (literal_pattern l) q (term_entry u) list answer numbering sound query known alike flat told = absurd alike
flat_answers relation table (term_pattern t) q (literal_entry k) list answer numbering sound query known alike flat told = absurd alike

-- what stands in the relation is alike
pub alike_standing : (relation : Relation) (p : Pattern) (e : Entry) → Stands relation p e → AreCompared p e
alike_standing relation (literal_pattern l) (literal_entry k) s = s.0
alike_standing relation (term_pattern t) (term_entry u) s = tt
alike_standing relation (literal_pattern l) (term_entry u) s = s
alike_standing relation (term_pattern t) (literal_entry k) s = s
