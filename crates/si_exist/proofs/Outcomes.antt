-- Each command that is no load has a right outcome.
use Rattle.std.proofs.Common.{ℕ, ◌+◌, List, [], ◌∷◌, ◌++◌, length, ◌≡◌, inl, inr, refl}
use Rattle.si_defs.specs.Clauses.{Name, Clause, Literal, Pattern, literal_pattern, term_pattern}
use Rattle.si_defs.specs.Entries.{Entry, literal_entry, term_entry, Placed, pattern_entry, entries, state_entries, state_symbols}
use Rattle.si_defs.specs.Symbols.{same_symbol}
use Rattle.si_defs.specs.Terms.{firsts}
use Rattle.si_defs.specs.declared.Relation.{Relation}
use Rattle.si_defs.specs.declared.Relation.TheVariants.{Unifiable}
use Rattle.si_defs.proofs.SymbolLaws.{symbol_is, symbol_self}
use Rattle.si_flat.proofs.FirstPlaces.{among_firsts, firsts_among}
use Rattle.si_form.proofs.CanonicalLaws.{distinct_firsts}
use Rattle.si_sample.proofs.Lines.{sample_is_clauses}
use Rattle.si_state.specs.States.{State}
use Rattle.si_state.specs.Acceptance.{IsTaken}
use Rattle.si_state.specs.Answers.{Stands}
use Rattle.si_state.specs.Samples.{SumsAnswers}
use Rattle.si_steps.specs.Settings.{Setting}
use Rattle.si_steps.specs.Commands.{Command, add, remove, query, subsumers, subsumed, stats, tree, explain, sample}
use Rattle.si_steps.specs.Replies.{Reply, NodeCounts, refusal_line, unknown_line, ok_line, stats_line, answer_reply, mapped_reply, tree_reply, explain_line, sample_line}
use Rattle.si_steps.specs.Steps.{CountsStanding, Performs}
use Rattle.si_steps.proofs.OneSample.{some_text}
use Rattle.si_exist.specs.OneList.{IsNotAbsent}
use Rattle.si_exist.proofs.NotAbsent.{there, and_then, either_way}
use Rattle.si_exist.proofs.OneSolution.{an_answer}
use Rattle.si_exist.proofs.TriedClauses.{accepted_or_refused, all_or_first_refused, goes}
use Rattle.si_exist.proofs.LeastMaps.{subsuming, being_subsumed}

counted : (relation : Relation) (pattern : Pattern) (es : List (Clause × Placed)) → IsNotAbsent ((n : ℕ) × CountsStanding relation pattern es n)
counted relation pattern [] = there (0, refl)
counted relation pattern ((c, e) ∷ es) =
    and_then (counted relation pattern es)
    (λ rest.
    either_way (Stands relation pattern e.entry)
    (λ here.
    elim here [
      | inl stands ↦ there (1 + rest.0, inl (stands, (rest.0, rest.1, refl)))
      | inr gone ↦ there (rest.0, inr (gone, rest.1))
    ]))

as_pattern : (e : Entry) → (pattern : Pattern) × (pattern_entry pattern ≡ e)
as_pattern (literal_entry l) = (literal_pattern l, refl)
as_pattern (term_entry t) = (term_pattern t, refl)

summed : (all es : List (Clause × Placed)) → IsNotAbsent ((sum : ℕ) × SumsAnswers all es sum)
summed all [] = there (0, refl)
summed all ((c, e) ∷ es) =
    let pattern = as_pattern e.entry in
    and_then (an_answer Unifiable pattern.0 all)
    (λ answer.
    and_then (summed all es)
    (λ rest. there (length answer.0 + rest.0, (pattern.0, answer.0, rest.0, pattern.1, answer.1, rest.1, refl))))

module _ (setting : Setting) (state : State) where
  -- a reply and a state that are right
  abbrev pub HasOutcome : Command → Type 0
  HasOutcome command = IsNotAbsent ((reply : Reply) × (new : State) × Performs setting command state reply new)

  pub adds : (c : Clause) → HasOutcome (add c)
  adds c =
      and_then (accepted_or_refused setting.rules state.clauses c)
      (λ here.
      elim here [
        | inl a ↦ there (ok_line 1 (length (entries c)) ∷ [], record state { clauses = state.clauses ++ c ∷ [] }, inr (a, refl, refl))
        | inr r ↦ there (refusal_line setting.rules.entries c.name r.0 ∷ [], state, inl (r.0, r.1, refl, refl))
      ])

  pub removes : (name : Name) → HasOutcome (remove name)
  removes name =
      either_way (IsTaken state.clauses name)
      (λ here.
      elim here [
        | inl t ↦
            (let r = goes state.clauses name t in
            there (ok_line 1 (length (entries r.0)) ∷ [], record state { clauses = r.1 }, inr (r.0, r.2, refl, refl)))
        | inr free ↦ there (unknown_line name ∷ [], state, inl (free, refl, refl))
      ])

  pub answers : (relation : Relation) (pattern : Pattern) → HasOutcome (query relation pattern)
  answers relation pattern = and_then (an_answer relation pattern (state_entries state.clauses)) (λ a. there (answer_reply a.0, state, (a.0, a.1, refl, refl)))

  pub finds_subsumers : (formula : List Literal) → HasOutcome (subsumers formula)
  finds_subsumers formula = and_then (subsuming formula state.clauses) (λ m. there (mapped_reply m.0, state, (m.0, m.1, refl, refl)))

  pub finds_subsumed : (formula : List Literal) → HasOutcome (subsumed formula)
  finds_subsumed formula = and_then (being_subsumed formula state.clauses) (λ m. there (mapped_reply m.0, state, (m.0, m.1, refl, refl)))

  pub counts : HasOutcome stats
  counts =
      let symbols = state_symbols state.clauses in
      let each = firsts same_symbol symbols in
      there (
        stats_line (length state.clauses) (length (state_entries state.clauses)) (length each) ∷ [],
        state,
        (
          length each,
          (each, distinct_firsts same_symbol symbol_is symbol_self symbols, λ s. (λ a. firsts_among same_symbol symbols s a, λ a. among_firsts same_symbol symbol_is symbols s a), refl),
          refl,
          refl,
        ),
      )

  pub shows_trees : HasOutcome tree
  shows_trees =
      let none_at_all : NodeCounts = record { nodes = 0; leaves = 0; unmerged = 0 } in
      there (tree_reply none_at_all none_at_all, state, (none_at_all, none_at_all, refl, refl))

  pub explains : (relation : Relation) (pattern : Pattern) → HasOutcome (explain relation pattern)
  explains relation pattern =
      and_then (counted relation pattern (state_entries state.clauses))
      (λ n. there (explain_line 0 0 n.0 ∷ [], state, (0, 0, n.0, n.1, refl, refl)))

  pub samples : (start count : ℕ) → HasOutcome (sample start count)
  samples start count =
      let text = some_text start count in
      let drawn = sample_is_clauses start count text.0 text.1 in
      and_then (all_or_first_refused setting.rules state.clauses drawn.0)
      (λ here.
      elim here [
        | inr r ↦
            there (refusal_line setting.rules.entries r.0.name r.1 ∷ [], state, (drawn.0, (text.0, text.1, drawn.2), inl (r.0, r.1, r.2, refl, refl)))
        | inl all ↦
            and_then (summed (state_entries (state.clauses ++ drawn.0)) (state_entries drawn.0))
            (λ sum.
            there (
              sample_line (length drawn.0) (length (state_entries drawn.0)) sum.0 ∷ [],
              record state { clauses = state.clauses ++ drawn.0 },
              (drawn.0, (text.0, text.1, drawn.2), inr (sum.0, all, sum.1, refl, refl)),
            ))
      ])
