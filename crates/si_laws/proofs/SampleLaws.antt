-- A sample has at most one right outcome: its clauses are those of one text, they are accepted or one is
-- the first that is refused, and one sum belongs to them.
use Rattle.std.proofs.Common.{◌≡◌, inl, inr, ℕ, ◌+◌, List, [], ◌∷◌, ◌++◌, length, refl, sym, ap, ◌∙◌, subst, append_assoc, append-nil}
use Rattle.si_defs.specs.Bytes.{Bytes}
use Rattle.si_defs.specs.Clauses.{Clause, Pattern, literal_pattern, term_pattern}
use Rattle.si_defs.specs.Entries.{Placed, pattern_entry, state_entries}
use Rattle.si_defs.specs.Grammar.{clause_item}
use Rattle.si_defs.specs.declared.Relation.TheVariants.{Unifiable}
use Rattle.si_defs.proofs.ListLaws.{same_first, same_tail}
use Rattle.si_state.specs.States.{State, Rules}
use Rattle.si_state.specs.Acceptance.{Refusal, Refuses}
use Rattle.si_state.specs.Answers.{IsAnswer}
use Rattle.si_state.specs.Harvest.{AreClauses, AreAccepted, IsFirstRefused}
use Rattle.si_state.specs.Samples.{AreDrawn, SumsAnswers}
use Rattle.si_steps.specs.Settings.{Setting}
use Rattle.si_steps.specs.Commands.{sample}
use Rattle.si_steps.specs.Replies.{Reply, refusal_line, sample_line}
use Rattle.si_steps.specs.Steps.{Performs}
use Rattle.si_laws.specs.OneReply.{IsConsistent, HasOneOutcome}
use Rattle.si_laws.proofs.ItemLaws.{one_item, item_is}
use Rattle.si_laws.proofs.RefusalLaws.{accepts_or_refuses, one_refusal}
use Rattle.si_laws.proofs.StateLaws.{AreConsistent, consistent_more}
use Rattle.si_laws.proofs.LoadLaws.{accepted_stay}
use Rattle.si_laws.proofs.AnswerLaws.{same_answer}
use Rattle.si_steps.proofs.OneSample.{no_other_text}
use Rattle.si_parse.proofs.GrammarStops.{no_item_in_blanks}

-- ---- what is drawn
one_list : (cs ds : List Clause) (bytes : Bytes) → AreClauses cs bytes → AreClauses ds bytes → cs ≡ ds
one_list [] [] bytes h k = refl
one_list [] (d ∷ ds) bytes h (after, begins, more) = absurd (no_item_in_blanks bytes (clause_item d) after h begins)
one_list (c ∷ cs) [] bytes (after, begins, more) k = absurd (no_item_in_blanks bytes (clause_item c) after k begins)
one_list (c ∷ cs) (d ∷ ds) bytes (after, begins, more) (left, starts, others) =
    let same = one_item bytes (clause_item c) (clause_item d) after left begins starts in
    let clause : c ≡ d = item_is c d same.0 in
    let rest = one_list cs ds after more (subst (AreClauses ds) (sym same.1) others) in
    λ i. clause i ∷ rest i

one_drawn : (start count : ℕ) (cs ds : List Clause) → AreDrawn start count cs → AreDrawn start count ds → cs ≡ ds
one_drawn start count cs ds (text, h, are) (other, k, are_too) =
    one_list cs ds text are (subst (AreClauses ds) (no_other_text start count text other h k) are_too)

-- ---- the first that is refused
module _ (rules : Rules) where
  -- none is, where all are accepted
  none_refused : (state clauses front back : List Clause) (c : Clause) (why : Refusal) → clauses ≡ front ++ c ∷ back → AreAccepted rules state clauses
      → Refuses rules (state ++ front) c why → ⊥
  none_refused state clauses [] back c why e h k =
      let all : AreAccepted rules state (c ∷ back) = subst (AreAccepted rules state) e h in
      accepts_or_refuses rules state c (state ++ c ∷ []) why all.0 (subst (λ s. Refuses rules s c why) (append-nil state) k)
  none_refused state clauses (x ∷ front) back c why e h k =
      let all : AreAccepted rules state (x ∷ (front ++ c ∷ back)) = subst (AreAccepted rules state) e h in
      none_refused (state ++ x ∷ []) (front ++ c ∷ back) front back c why refl all.1 (subst (λ s. Refuses rules s c why) (sym (append_assoc state (x ∷ []) front)) k)

  pub all_or_first : (state clauses : List Clause) (c : Clause) (why : Refusal) → AreAccepted rules state clauses → IsFirstRefused rules state clauses c why → ⊥
  all_or_first state clauses c why h f = none_refused state clauses f.before f.after c why f.splits h f.refused

  first_same : (state front begin back end : List Clause) (c d : Clause) (why because : Refusal) → AreConsistent state → front ++ c ∷ back ≡ begin ++ d ∷ end
      → AreAccepted rules state front → AreAccepted rules state begin → Refuses rules (state ++ front) c why → Refuses rules (state ++ begin) d because
      → (c ≡ d) × (why ≡ because)
  first_same state [] [] back end c d why because is e h k r q =
      let same = same_first e in (
        same,
        one_refusal rules state c is why because (subst (λ s. Refuses rules s c why) (append-nil state) r)
            (subst (λ x. Refuses rules state x because) (sym same) (subst (λ s. Refuses rules s d because) (append-nil state) q)),
      )
  first_same state [] (y ∷ begin) back end c d why because is e h k r q =
      let same = same_first e in
      absurd (accepts_or_refuses rules state y (state ++ y ∷ []) why k.0 (subst (λ x. Refuses rules state x why) same (subst (λ s. Refuses rules s c why) (append-nil state) r)))
  first_same state (x ∷ front) [] back end c d why because is e h k r q =
      let same = same_first e in
      absurd (accepts_or_refuses rules state x (state ++ x ∷ []) because h.0
      (subst (λ z. Refuses rules state z because) (sym same) (subst (λ s. Refuses rules s d because) (append-nil state) q)))
  first_same state (x ∷ front) (y ∷ begin) back end c d why because is e h k r q =
      let same = same_first e in
      first_same (state ++ x ∷ []) front begin back end c d why because (consistent_more rules state x (state ++ x ∷ []) is h.0)
      (same_tail e) h.1 (subst (λ z. AreAccepted rules (state ++ z ∷ []) begin) (sym same) k.1)
      (subst (λ s. Refuses rules s c why) (sym (append_assoc state (x ∷ []) front)) r)
      (subst (λ s. Refuses rules s d because) (sym (append_assoc state (x ∷ []) begin)) (subst (λ z. Refuses rules (state ++ z ∷ begin) d because) (sym same) q))

  pub one_first : (state clauses : List Clause) (c d : Clause) (why because : Refusal) → AreConsistent state → IsFirstRefused rules state clauses c why
      → IsFirstRefused rules state clauses d because → (c ≡ d) × (why ≡ because)
  one_first state clauses c d why because is f g =
      first_same state f.before g.before f.after g.after c d why because is (sym f.splits ∙ g.splits) f.earlier g.earlier f.refused g.refused

-- ---- the sum
pattern_is : (p q : Pattern) → pattern_entry p ≡ pattern_entry q → p ≡ q
pattern_is (literal_pattern l) (literal_pattern k) e = let same : l ≡ k = cc in ap literal_pattern same
pattern_is (term_pattern t) (term_pattern u) e = let same : t ≡ u = cc in ap term_pattern same
pattern_is (literal_pattern l) (term_pattern u) e = cc
pattern_is (term_pattern t) (literal_pattern k) e = cc

one_sum : (all es : List (Clause × Placed)) (m n : ℕ) → SumsAnswers all es m → SumsAnswers all es n → m ≡ n
one_sum all [] m n h k = h ∙ sym k
one_sum all ((c, e) ∷ es) m n (p, hits, others, of, answer, sums, whole) (q, found, rest, of_too, answer_too, sums_too, parts) =
    let pattern = pattern_is p q (of ∙ sym of_too) in
    let same = same_answer Unifiable p all hits found answer (subst (λ x. IsAnswer Unifiable x all found) (sym pattern) answer_too) in
    let more = one_sum all es others rest sums sums_too in
    whole ∙ (λ i. length (same i) + more i) ∙ sym parts

-- ---- the command
pub one_sample : (setting : Setting) (start count : ℕ) (state : State) → IsConsistent state → HasOneOutcome setting (sample start count) state
one_sample setting start count state is reply other new behind (cs, drawn, inl (c, why, first, said, stays)) (ds, drawn_too, inl (d, because, first_too, said_too, stays_too)) =
    let clauses = one_drawn start count cs ds drawn drawn_too in
    let same = one_first setting.rules state.clauses cs c d why because is first (subst (λ l. IsFirstRefused setting.rules state.clauses l d because) (sym clauses) first_too) in
    (said ∙ (λ i. refusal_line setting.rules.entries (same.0 i).name (same.1 i) ∷ []) ∙ sym said_too, stays ∙ sym stays_too)
one_sample setting start count state is reply other new behind (cs, drawn, inl (c, why, first, said, stays)) (ds, drawn_too, inr (n, accepted, sums, said_too, left)) =
    absurd (all_or_first setting.rules state.clauses cs c why (subst (AreAccepted setting.rules state.clauses) (sym (one_drawn start count cs ds drawn drawn_too)) accepted) first)
one_sample setting start count state is reply other new behind (cs, drawn, inr (m, accepted, sums, said, left)) (ds, drawn_too, inl (d, because, first, said_too, stays)) =
    absurd (all_or_first setting.rules state.clauses ds d because (subst (AreAccepted setting.rules state.clauses) (one_drawn start count cs ds drawn drawn_too) accepted) first)
one_sample setting start count state is reply other new behind (cs, drawn, inr (m, accepted, sums, said, left)) (ds, drawn_too, inr (n, accepted_too, sums_too, said_too, left_too)) =
    let clauses = one_drawn start count cs ds drawn drawn_too in
    let states : new ≡ behind = left ∙ ap (λ l. record state { clauses = state.clauses ++ l }) clauses ∙ sym left_too in
    let sum =
    one_sum (state_entries new.clauses) (state_entries cs) m n sums
    (subst (λ (s : State). SumsAnswers (state_entries s.clauses) (state_entries cs) n) (sym states) (subst (λ l. SumsAnswers (state_entries behind.clauses) (state_entries l) n) (sym clauses) sums_too)) in
    (said ∙ (λ i. sample_line (length (clauses i)) (length (state_entries (clauses i))) (sum i) ∷ []) ∙ sym said_too, states)

pub sample_stays : (setting : Setting) (start count : ℕ) (state : State) (reply : Reply) (new : State) → IsConsistent state
    → Performs setting (sample start count) state reply new → IsConsistent new
sample_stays setting start count state reply new is (cs, drawn, inl h) = subst IsConsistent (sym h.4) is
sample_stays setting start count state reply new is (cs, drawn, inr h) = subst IsConsistent (sym h.4) (accepted_stay setting.rules state.clauses cs is h.1)
