-- There is at most one answer: each hit has at most one canonical list. And there is at most one
-- number of entries that stand in a relation.
use Rattle.std.proofs.Common.{◌≡◌, ℕ, ◌+◌, inl, inr, List, [], ◌∷◌, length, sym, ap, ◌∙◌, arith}
use Rattle.si_defs.specs.Clauses.{Clause, Pattern, literal_pattern, term_pattern}
use Rattle.si_defs.specs.Entries.{Entry, literal_entry, term_entry, Placed}
use Rattle.si_defs.specs.Variables.{same_variable, Apart, Solution}
use Rattle.si_defs.specs.Solutions.{IsCanonical}
use Rattle.si_defs.specs.declared.Relation.{Relation}
use Rattle.si_defs.specs.declared.Relation.TheVariants.{Variants, Instances, Generalizations, Unifiable}
use Rattle.si_state.specs.Answers.{Hit, IsAnswer, Solves}
use Rattle.si_steps.specs.Steps.{CountsStanding}
use Rattle.si_defs.proofs.VariableLaws.{variable_is, variable_self}
use Rattle.si_form.proofs.CanonicalLaws.{one_match}
use Rattle.si_form.proofs.UnifierLaws.{one_unifier}

one_canonical : (relation : Relation) (q e : Apart) (bs cs : Solution) → IsCanonical same_variable relation q e bs → IsCanonical same_variable relation q e cs → bs ≡ cs
one_canonical Variants q e bs cs h k = one_match same_variable variable_is variable_self q e bs cs h.1 k.1
one_canonical Instances q e bs cs h k = one_match same_variable variable_is variable_self q e bs cs h k
one_canonical Generalizations q e bs cs h k = one_match same_variable variable_is variable_self e q bs cs h k
one_canonical Unifiable q e bs cs h k = one_unifier same_variable variable_is variable_self q e bs cs h k

one_solution : (relation : Relation) (p : Pattern) (e : Entry) (bs cs : Solution) → Solves relation p e bs → Solves relation p e cs → bs ≡ cs
one_solution relation (literal_pattern l) (literal_entry k) bs cs h i = one_canonical relation _ _ bs cs h.1 i.1
one_solution relation (term_pattern t) (term_entry u) bs cs h i = one_canonical relation _ _ bs cs h i
one_solution relation (literal_pattern l) (term_entry u) bs cs h i = absurd h
one_solution relation (term_pattern t) (literal_entry k) bs cs h i = absurd h

pub same_answer : (relation : Relation) (p : Pattern) (es : List (Clause × Placed)) (hits others : List Hit) → IsAnswer relation p es hits → IsAnswer relation p es others → hits ≡ others
same_answer relation p [] hits others h k = h ∙ sym k
same_answer relation p ((c, e) ∷ es) hits others (inl (stands, (bs, rest, solves, answer, whole))) (inl (stands_too, (cs, left, solves_too, answer_too, whole_too))) =
    let same = one_solution relation p e.entry bs cs solves solves_too in
    let after = same_answer relation p es rest left answer answer_too in
    whole ∙ (λ i. record { clause = c; placed = e; solution = same i } ∷ after i) ∙ sym whole_too
same_answer relation p ((c, e) ∷ es) hits others (inl h) (inr k) = absurd (k.0 h.0)
same_answer relation p ((c, e) ∷ es) hits others (inr h) (inl k) = absurd (h.0 k.0)
same_answer relation p ((c, e) ∷ es) hits others (inr h) (inr k) = same_answer relation p es hits others h.1 k.1

-- ---- how many there are
pub one_count : (relation : Relation) (p : Pattern) (es : List (Clause × Placed)) (m n : ℕ) → CountsStanding relation p es m → CountsStanding relation p es n → m ≡ n
one_count relation p [] m n h k = h ∙ sym k
one_count relation p ((c, e) ∷ es) m n (inl (stands, (i, counts, more))) (inl (stands_too, (j, counts_too, more_too))) = more ∙ ap (λ l. 1 + l) (one_count relation p es i j counts counts_too) ∙ sym more_too
one_count relation p ((c, e) ∷ es) m n (inl h) (inr k) = absurd (k.0 h.0)
one_count relation p ((c, e) ∷ es) m n (inr h) (inl k) = absurd (h.0 k.0)
one_count relation p ((c, e) ∷ es) m n (inr h) (inr k) = one_count relation p es m n h.1 k.1

answer_counts : (relation : Relation) (p : Pattern) (es : List (Clause × Placed)) (hits : List Hit) → IsAnswer relation p es hits → CountsStanding relation p es (length hits)
answer_counts relation p [] hits h = ap length h
answer_counts relation p ((c, e) ∷ es) hits (inl (stands, (bs, rest, solves, answer, whole))) = inl (stands, (length rest, answer_counts relation p es rest answer, omega (arith, ap length whole)))
answer_counts relation p ((c, e) ∷ es) hits (inr h) = inr (h.0, answer_counts relation p es hits h.1)

pub counts_hits : (relation : Relation) (p : Pattern) (es : List (Clause × Placed)) (n : ℕ) (hits : List Hit) → CountsStanding relation p es n → IsAnswer relation p es hits → n ≡ length hits
counts_hits relation p es n hits counts answer = one_count relation p es n (length hits) counts (answer_counts relation p es hits answer)
