-- A command has at most one right outcome in a consistent state.
use Rattle.std.proofs.Common.{inl, inr, [], ◌∷◌, length, Option, Some, None, sym, ap, ◌∙◌, subst}
use Rattle.si_defs.specs.Bytes.{Bytes}
use Rattle.si_defs.specs.Clauses.{Clause}
use Rattle.si_defs.specs.Entries.{entries, state_entries}
use Rattle.si_state.specs.States.{State}
use Rattle.si_state.specs.Harvest.{Files, clauses_behind}
use Rattle.si_state.specs.Subsumption.{IsMap}
use Rattle.si_steps.specs.Settings.{Setting}
use Rattle.si_steps.specs.Commands.{Command, add, load, remove, query, subsumers, subsumed, stats, tree, explain, sample}
use Rattle.si_steps.specs.Loads.{Owed, load_bounds, owed_by, load_line, PerformsLoad}
use Rattle.si_steps.specs.Replies.{Reply, refusal_line, ok_line, stats_line, answer_reply, mapped_reply, explain_line}
use Rattle.si_steps.specs.Steps.{Performs, long, silent, foreign, wrong, performed, loaded}
use Rattle.si_laws.specs.OneReply.{IsConsistent, HasOneOutcome, LoadsToOneOutcome, StaysConsistent}
use Rattle.si_laws.proofs.RefusalLaws.{accepts_or_refuses, one_refusal}
use Rattle.si_laws.proofs.LoadLaws.{accepted_stay, harvest_stays, one_harvest}
use Rattle.si_laws.proofs.SubsumptionLaws.{same_mappings}
use Rattle.si_laws.proofs.AnswerLaws.{same_answer, one_count}
use Rattle.si_laws.proofs.SampleLaws.{one_sample, sample_stays}
use Rattle.si_laws.proofs.StateLaws.{same_removal, removes_taken, same_count, consistent_more, consistent_less}

-- ---- a command
pub one_outcome : (setting : Setting) (command : Command) (state : State) → IsConsistent state → HasOneOutcome setting command state
one_outcome setting (add c) state is reply other new behind (inl (why, refuses, said, stays)) (inl (because, refuses_too, said_too, stays_too)) = (
  said ∙ ap (λ r. refusal_line setting.rules.entries c.name r ∷ []) (one_refusal setting.rules state.clauses c is why because refuses refuses_too) ∙ sym said_too,
  stays ∙ sym stays_too,
)
one_outcome setting (add c) state is reply other new behind (inl h) (inr k) = absurd (accepts_or_refuses setting.rules state.clauses c behind.clauses h.0 k.0 h.1)
one_outcome setting (add c) state is reply other new behind (inr h) (inl k) = absurd (accepts_or_refuses setting.rules state.clauses c new.clauses k.0 h.0 k.1)
one_outcome setting (add c) state is reply other new behind (inr h) (inr k) = (
  h.1 ∙ sym k.1,
  h.2 ∙ ap (λ cs. record state { clauses = cs }) (h.0.added ∙ sym k.0.added) ∙ sym k.2,
)
one_outcome setting (load file) state is reply other new behind h k = absurd h
one_outcome setting (remove name) state is reply other new behind (inl h) (inl k) = (h.1 ∙ sym k.1, h.2 ∙ sym k.2)
one_outcome setting (remove name) state is reply other new behind (inl h) (inr k) = absurd (h.0 (removes_taken state.clauses name k.0 behind.clauses k.1))
one_outcome setting (remove name) state is reply other new behind (inr h) (inl k) = absurd (k.0 (removes_taken state.clauses name h.0 new.clauses h.1))
one_outcome setting (remove name) state is reply other new behind (inr h) (inr k) =
    let same = same_removal state.clauses name h.0 k.0 new.clauses behind.clauses is.distinct h.1 k.1 in
    (h.2 ∙ ap (λ (c : Clause). ok_line 1 (length (entries c)) ∷ []) same.0 ∙ sym k.2, h.3 ∙ ap (λ cs. record state { clauses = cs }) same.1 ∙ sym k.3)
one_outcome setting (query relation p) state is reply other new behind h k =
    (h.2 ∙ ap answer_reply (same_answer relation p (state_entries state.clauses) h.0 k.0 h.1 k.1) ∙ sym k.2, h.3 ∙ sym k.3)
one_outcome setting (subsumers formula) state is reply other new behind h k =
    (h.2 ∙ ap mapped_reply (same_mappings (λ ls. IsMap ls formula) state.clauses h.0 k.0 h.1 k.1) ∙ sym k.2, h.3 ∙ sym k.3)
one_outcome setting (subsumed formula) state is reply other new behind h k =
    (h.2 ∙ ap mapped_reply (same_mappings (IsMap formula) state.clauses h.0 k.0 h.1 k.1) ∙ sym k.2, h.3 ∙ sym k.3)
one_outcome setting (sample start count) state is reply other new behind h k = one_sample setting start count state is reply other new behind h k
one_outcome setting stats state is reply other new behind h k =
    (h.2 ∙ ap (λ n. stats_line (length state.clauses) (length (state_entries state.clauses)) n ∷ []) (same_count state.clauses h.0 k.0 h.1 k.1) ∙ sym k.2, h.3 ∙ sym k.3)
one_outcome setting tree state is reply other new behind (literals, terms, said, stays) (literals_too, terms_too, said_too, stays_too) =
    ((literals, terms, literals_too, terms_too, said, said_too), stays ∙ sym stays_too)
one_outcome setting (explain relation p) state is reply other new behind (passed, nodes, answers, counts, said, stays) (passed_too, nodes_too, answers_too, counts_too, said_too, stays_too) =
    let same = one_count relation p (state_entries state.clauses) answers_too answers counts_too counts in
    ((answers, passed, nodes, passed_too, nodes_too, said, said_too ∙ ap (λ n. explain_line passed_too nodes_too n ∷ []) same), stays ∙ sym stays_too)

pub one_load : (setting : Setting) (files : Files) (file : Bytes) (state : State) → IsConsistent state → LoadsToOneOutcome setting files file state
one_load setting files file state is reply other owed due new behind (events, fault, loads, said, owes, left) (others, cause, loads_too, said_too, owes_too, left_too) a b =
    let same =
    one_harvest files (load_bounds setting.limits) setting.rules [] [] 0 state.clauses file events others fault cause is loads loads_too (sym (ap (λ (o : Owed). o.failures) owes) ∙ a) (sym (ap (λ (o : Owed). o.failures) owes_too) ∙ b) in (
      said ∙ (λ i. load_line setting.rules.entries (same.0 i) (same.1 i) ∷ []) ∙ sym said_too,
      owes ∙ (λ i. owed_by (same.0 i) (same.1 i)) ∙ sym owes_too,
      left ∙ (λ i. record state { clauses = clauses_behind state.clauses (same.0 i) (same.1 i) }) ∙ sym left_too,
    )

-- ---- consistent lists
performs_stays : (setting : Setting) (command : Command) (state : State) (reply : Reply) (new : State) → IsConsistent state → Performs setting command state reply new → IsConsistent new
performs_stays setting (add c) state reply new is (inl h) = subst IsConsistent (sym h.3) is
performs_stays setting (add c) state reply new is (inr h) = consistent_more setting.rules state.clauses c new.clauses is h.0
performs_stays setting (load file) state reply new is h = absurd h
performs_stays setting (remove name) state reply new is (inl h) = subst IsConsistent (sym h.2) is
performs_stays setting (remove name) state reply new is (inr h) = consistent_less state.clauses name h.0 new.clauses is h.1
performs_stays setting (query relation p) state reply new is h = subst IsConsistent (sym h.3) is
performs_stays setting (subsumers formula) state reply new is h = subst IsConsistent (sym h.3) is
performs_stays setting (subsumed formula) state reply new is h = subst IsConsistent (sym h.3) is
performs_stays setting (sample start count) state reply new is h = sample_stays setting start count state reply new is h
performs_stays setting stats state reply new is h = subst IsConsistent (sym h.3) is
performs_stays setting tree state reply new is h = subst IsConsistent (sym h.3) is
performs_stays setting (explain relation p) state reply new is h = subst IsConsistent (sym h.5) is

pub load_stays : (setting : Setting) (told : Option Files) (file : Bytes) (state : State) (reply : Reply) (owed : Owed) (new : State) → IsConsistent state
    → PerformsLoad setting told file state reply owed new → IsConsistent new
load_stays setting (Some files) file state reply owed new is (events, None, loads, said, owes, left) =
    subst IsConsistent (sym left) (harvest_stays files (load_bounds setting.limits) setting.rules [] [] 0 state.clauses file events is loads)
load_stays setting (Some files) file state reply owed new is (events, Some fault, loads, said, owes, left) = subst IsConsistent (sym left) is
load_stays setting None file state reply owed new is (may, some, inl (gained, accepted, said, owes, left)) = subst IsConsistent (sym left) (accepted_stay setting.rules state.clauses gained is accepted)
load_stays setting None file state reply owed new is (may, some, inr (fault, said, owes, left)) = subst IsConsistent (sym left) is

pub step_stays : (setting : Setting) (told : Option Files) (state : State) (line : Bytes) → StaysConsistent setting told state line
step_stays setting told state line reply owed new is (long h said owes stays) = subst IsConsistent (sym stays) is
step_stays setting told state line reply owed new is (silent h said owes stays) = subst IsConsistent (sym stays) is
step_stays setting told state line reply owed new is (foreign g h n said owes stays) = subst IsConsistent (sym stays) is
step_stays setting told state line reply owed new is (wrong g h f n said owes stays) = subst IsConsistent (sym stays) is
step_stays setting told state line reply owed new is (performed g command means performs owes) = performs_stays setting command state reply new is performs
step_stays setting told state line reply owed new is (loaded g file means performs) = load_stays setting told file state reply owed new is performs
