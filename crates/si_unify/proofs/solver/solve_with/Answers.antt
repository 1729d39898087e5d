use Rattle.std.proofs.Common.{◌≡◌, ◌∙◌, true, false, take, sym, ap, subst}
use Rattle.si_unify.specs.Solving.{Pairs, AreHandedIn, HasSolved}
use Rattle.si_unify.specs.declared.spots.Question.{Question}
use Rattle.si_unify.specs.Spots.{HasAnswered}
use Rattle.si_unify.proofs.Answering.{front_of, solved_of, unsolved_of}
use Rattle.si_unify.proofs.Comparing.{ok_told, err_told}
use Rattle.si_unify.proofs.Pieces.{handed_still}
use Rattle.si_unify.proofs.solver.solve_with.Goals.{in-Ok-true, in-Ok-false, in-Err}
use Rattle.si_unify.proofs.solver.solve_with.Goals as goal

pub returns-clause-solved : goal.returns-clause-solved
returns-clause-solved c =
    let q : Question = record { slots = c.args.slots.now; left = c.args.s; right = c.args.t } in
    let old : Pairs = c.args.trail.now.pairs in
    let now : Pairs = c.match-answer.trail.pairs in
    elim c.match-answer.branch [
      | in-Ok-true w ↦
          ok_told c.match-answer.result true (HasSolved q.slots old now q.left.now q.right.now) w.result-is
          (
          subst (λ t. HasSolved q.slots old t.pairs q.left.now q.right.now true) (sym w.trail-is)
          (
          solved_of q old c.attempt-answer.new.trail.pairs true c.attempt-answer.ensures.grows
          (subst (HasAnswered q old c.attempt-answer.new.trail.pairs) w.in-Ok-true.field-0-test w.in-Ok-true.ensures.answered)
          )
          )
      | in-Ok-false w ↦
          ok_told c.match-answer.result false (HasSolved q.slots old now q.left.now q.right.now) w.result-is
          (unsolved_of q old c.attempt-answer.new.trail.pairs now
          (subst (HasAnswered q old c.attempt-answer.new.trail.pairs) w.in-Ok-false.field-0-test w.in-Ok-false.ensures.answered))
      | in-Err w ↦ err_told c.match-answer.result _ (HasSolved q.slots old now q.left.now q.right.now) w.result-is
    ]

pub returns-clause-handed_in : goal.returns-clause-handed_in
returns-clause-handed_in c =
    let q : Question = record { slots = c.args.slots.now; left = c.args.s; right = c.args.t } in
    let old : Pairs = c.args.trail.now.pairs in
    let undone : take c.mark-mark.result c.attempt-answer.new.trail.pairs ≡ old =
    ap (λ n. take n c.attempt-answer.new.trail.pairs) c.mark-mark.ensures.number ∙ front_of old c.attempt-answer.new.trail.pairs c.attempt-answer.ensures.grows in
    let still : (pairs : Pairs) → pairs ≡ old → AreHandedIn old pairs q.left.now q.right.now =
    λ pairs e. subst (λ l. AreHandedIn old l q.left.now q.right.now) (sym e) (handed_still old q.left.now q.right.now) in
    elim c.match-answer.branch [
      | in-Ok-true w ↦
          subst (λ t. AreHandedIn old t.pairs q.left.now q.right.now) (sym w.trail-is)
          (subst (HasAnswered q old c.attempt-answer.new.trail.pairs) w.in-Ok-true.field-0-test w.in-Ok-true.ensures.answered).5
      | in-Ok-false w ↦ still c.match-answer.trail.pairs (ap (λ t. t.pairs) w.trail-is ∙ w.undo.ensures.pairs ∙ undone)
      | in-Err w ↦ still c.match-answer.trail.pairs (ap (λ t. t.pairs) w.trail-is ∙ w.undo-in-Err.ensures.pairs ∙ undone)
    ]
