-- There is exactly one canonical list where there is one at all.
use Rattle.std.proofs.Common.{[], ◌∷◌, inl, inr, refl}
use Rattle.si_defs.specs.Clauses.{literal_pattern, term_pattern}
use Rattle.si_defs.specs.Entries.{literal_entry, term_entry}
use Rattle.si_defs.specs.Variables.{same_variable, pattern_term, entry_term}
use Rattle.si_defs.specs.declared.Relation.{Relation}
use Rattle.si_defs.specs.declared.Relation.TheVariants.{Variants, Instances, Generalizations, Unifiable}
use Rattle.si_defs.proofs.VariableLaws.{variable_is, variable_self}
use Rattle.si_form.proofs.CanonicalLaws.{one_match}
use Rattle.si_form.proofs.UnifierLaws.{one_unifier}
use Rattle.si_form.proofs.Vocabularies.{with_texts}
use Rattle.si_state.specs.Answers.{Stands}
use Rattle.si_exist.specs.OneList.{HasExactlyOneList, HasExactlyOneSolution, HasAnAnswer}
use Rattle.si_exist.proofs.NotAbsent.{there, and_then, either_way}
use Rattle.si_exist.proofs.MatchLists.{pattern_list, entry_list}
use Rattle.si_exist.proofs.FoldedLists.{canonical_list}

pub one_list : (relation : Relation) → HasExactlyOneList relation
one_list Variants p u h =
    let found = pattern_list p u h.0.0 h.0.1 in
    (found.0, (h, found.1), λ other k. one_match same_variable variable_is variable_self (pattern_term p) (entry_term u) other found.0 k.1 found.1)
one_list Instances p u h =
    let found = pattern_list p u h.0 h.1 in
    (found.0, found.1, λ other k. one_match same_variable variable_is variable_self (pattern_term p) (entry_term u) other found.0 k found.1)
one_list Generalizations p u h =
    let found = entry_list p u h.0 h.1 in
    (found.0, found.1, λ other k. one_match same_variable variable_is variable_self (entry_term u) (pattern_term p) other found.0 k found.1)
one_list Unifiable p u h =
    let found = canonical_list with_texts (pattern_term p) (entry_term u) h.0 h.1 in
    (found.0, found.1, λ other k. one_unifier same_variable variable_is variable_self (pattern_term p) (entry_term u) other found.0 k found.1)

-- literals are compared by their atoms, where their signs are the same
pub one_solution : (relation : Relation) → HasExactlyOneSolution relation
one_solution relation (literal_pattern l) (literal_entry k) h =
    let found = one_list relation l.atom k.atom h.1 in
    (found.0, (h.0, found.1), λ other i. found.2 other i.1)
one_solution relation (term_pattern t) (term_entry u) h = one_list relation t u h
one_solution relation (literal_pattern l) (term_entry u) h = absurd h
one_solution relation (term_pattern t) (literal_entry k) h = absurd h

-- each entry that stands in the relation has its hit
pub an_answer : (relation : Relation) → HasAnAnswer relation
an_answer relation pattern [] = there ([], refl)
an_answer relation pattern ((c, e) ∷ es) =
    and_then (an_answer relation pattern es)
    (λ rest.
    either_way (Stands relation pattern e.entry)
    (λ here.
    elim here [
      | inr gone ↦ there (rest.0, inr (gone, rest.1))
      | inl stands ↦
          (let found = one_solution relation pattern e.entry stands in
          there (record { clause = c; placed = e; solution = found.0 } ∷ rest.0, inl (stands, (found.0, rest.0, found.1, rest.1, refl))))
    ]))
