use Rattle.std.proofs.Common.{◌≡◌, ℕ, ◌+◌, ◌*◌, ◌≤◌, true, false, take, sym, ap, ◌∙◌, subst, arith}
use Rattle.std.proofs.lemmas.Result.{IfOk-weaker, on_err_weaker}
use Rattle.std.specs.Prelude.{vec_capacity}
use Rattle.si_term.proofs.Results.{on_err}
use Rattle.si_unify.specs.Solving.{slot_count, IsAcyclic, IsBinding}
use Rattle.std.specs.List.{AllByRecursion}
use Rattle.si_unify.specs.Circles.{SaysTriangular}
use Rattle.si_unify.specs.Spots.{left_spot, right_spot}
use Rattle.si_unify.specs.Unifying.{HasRoomToUnify, MakesMeet, MakesClosed}
use Rattle.si_unify.proofs.Comparing.{grows_on}
use Rattle.si_unify.proofs.Answering.{front_of, front_within, answered, answered_unclosed, answered_unmet}
use Rattle.si_unify.proofs.Underway.{goes_further, underway_still, room_still, closed_by}
use Rattle.si_unify.proofs.Pieces.{handed_on, all_within}
use Rattle.si_unify.proofs.unifier.Unifier.solve.Goals as goal

pub returns-then-not-branch-clause-answered : goal.returns-then-not-branch-clause-answered
returns-then-not-branch-clause-answered c =
    answered_unmet c.args.self.now.question c.args.self.now.trail.now.pairs c.meet_terms.new.self.trail.now.pairs c.args.self.now.keys.now.keys c.meet_terms.new.self.keys.now.keys
    c.requires.no_keys c.requires.underway.legal c.meet_terms.new.self.trail.now.pairs
    (
    subst
    (MakesMeet c.args.self.now c.meet_terms.new.self (left_spot c.args.self.now.question) (right_spot c.args.self.now.question))
    c.if-not-branch.true
    c.in_ok-meet_terms.ensures.met
    )

pub close-requires : goal.close-requires
close-requires c = record {
  underway =
      underway_still c.args.self.now c.meet_terms.new.self c.in_ok-meet_terms.ensures.keeps_question c.requires.underway
      (
      subst
      (MakesMeet c.args.self.now c.meet_terms.new.self (left_spot c.args.self.now.question) (right_spot c.args.self.now.question))
      c.if-not-branch.false
      c.in_ok-meet_terms.ensures.met
      ).0;
}

pub returns-in_err-close-clause-grows : goal.returns-in_err-close-clause-grows
returns-in_err-close-clause-grows c = grows_on _ _ _ c.in_ok-meet_terms.ensures.grows c.in_err-close.ensures.grows

pub returns-in_err-close-clause-keeps_question : goal.returns-in_err-close-clause-keeps_question
returns-in_err-close-clause-keeps_question c = goes_further _ _ _ c.in_ok-meet_terms.ensures.keeps_question c.in_err-close.ensures.keeps_question

pub returns-then-not-branch-2-clause-answered : goal.returns-then-not-branch-2-clause-answered
returns-then-not-branch-2-clause-answered c =
    answered_unclosed c.args.self.now.question c.args.self.now.trail.now.pairs c.meet_terms.new.self.trail.now.pairs c.args.self.now.keys.now.keys c.meet_terms.new.self.keys.now.keys
    c.requires.no_keys c.requires.underway.legal
    (
    subst
    (MakesMeet c.args.self.now c.meet_terms.new.self (left_spot c.args.self.now.question) (right_spot c.args.self.now.question))
    c.if-not-branch.false
    c.in_ok-meet_terms.ensures.met
    )
    c.close.new.self.trail.now.pairs
    (
    closed_by c.args.self.now c.meet_terms.new.self c.in_ok-meet_terms.ensures.keeps_question c.close.new.self false
    (subst (MakesClosed c.meet_terms.new.self c.close.new.self) c.if-not-branch-2.true c.in_ok-close.ensures.closed)
    )

pub returns-then-not-branch-2-clause-grows : goal.returns-then-not-branch-2-clause-grows
returns-then-not-branch-2-clause-grows c = grows_on _ _ _ c.in_ok-meet_terms.ensures.grows c.in_ok-close.ensures.grows

pub returns-then-not-branch-2-clause-keeps_question : goal.returns-then-not-branch-2-clause-keeps_question
returns-then-not-branch-2-clause-keeps_question c = goes_further _ _ _ c.in_ok-meet_terms.ensures.keeps_question c.in_ok-close.ensures.keeps_question

pub is_triangular-requires-clause-bindings : goal.is_triangular-requires-clause-bindings
is_triangular-requires-clause-bindings c =
    let goes = goes_further c.args.self.now c.meet_terms.new.self c.close.new.self c.in_ok-meet_terms.ensures.keeps_question c.in_ok-close.ensures.keeps_question in
    let closed =
    closed_by c.args.self.now c.meet_terms.new.self c.in_ok-meet_terms.ensures.keeps_question c.close.new.self true
    (subst (MakesClosed c.meet_terms.new.self c.close.new.self) c.if-not-branch-2.false c.in_ok-close.ensures.closed) in
    subst (λ q. AllByRecursion (IsBinding q.slots) c.close.new.self.trail.now.pairs) (sym goes.question) closed.0.bindings

pub is_triangular-requires-clause-before : goal.is_triangular-requires-clause-before
is_triangular-requires-clause-before c =
    let goes = goes_further c.args.self.now c.meet_terms.new.self c.close.new.self c.in_ok-meet_terms.ensures.keeps_question c.in_ok-close.ensures.keeps_question in
    let grows = grows_on c.args.self.now.trail.now.pairs c.meet_terms.new.self.trail.now.pairs c.close.new.self.trail.now.pairs c.in_ok-meet_terms.ensures.grows c.in_ok-close.ensures.grows in
    subst (λ q. IsAcyclic q.slots (take c.mark-mark.result c.close.new.self.trail.now.pairs)) (sym goes.question)
    (
    subst (IsAcyclic c.args.self.now.question.slots)
    (sym (ap (λ n. take n c.close.new.self.trail.now.pairs) c.mark-mark.ensures.number ∙ front_of c.args.self.now.trail.now.pairs c.close.new.self.trail.now.pairs grows))
    c.requires.triangular
    )

pub is_triangular-requires-clause-within : goal.is_triangular-requires-clause-within
is_triangular-requires-clause-within c =
    let grows = grows_on c.args.self.now.trail.now.pairs c.meet_terms.new.self.trail.now.pairs c.close.new.self.trail.now.pairs c.in_ok-meet_terms.ensures.grows c.in_ok-close.ensures.grows in
    let within = front_within c.args.self.now.trail.now.pairs c.close.new.self.trail.now.pairs grows in
    omega (arith, c.mark-mark.ensures.number, within)

pub returns-clause-answered : goal.returns-clause-answered
returns-clause-answered c =
    let goes = goes_further c.args.self.now c.meet_terms.new.self c.close.new.self c.in_ok-meet_terms.ensures.keeps_question c.in_ok-close.ensures.keeps_question in
    IfOk-weaker c.is_triangular.result _ _
    (λ b told.
    answered c.args.self.now.question c.args.self.now.trail.now.pairs c.meet_terms.new.self.trail.now.pairs c.args.self.now.keys.now.keys c.meet_terms.new.self.keys.now.keys
    c.requires.no_keys c.requires.underway.legal
    (
    subst
    (MakesMeet c.args.self.now c.meet_terms.new.self (left_spot c.args.self.now.question) (right_spot c.args.self.now.question))
    c.if-not-branch.false
    c.in_ok-meet_terms.ensures.met
    )
    c.close.new.self.trail.now.pairs c.in_ok-close.ensures.grows
    (
    closed_by c.args.self.now c.meet_terms.new.self c.in_ok-meet_terms.ensures.keeps_question c.close.new.self true
    (subst (MakesClosed c.meet_terms.new.self c.close.new.self) c.if-not-branch-2.false c.in_ok-close.ensures.closed)
    )
    b (subst (λ q. SaysTriangular q.slots c.close.new.self.trail.now.pairs b) goes.question told))
    c.is_triangular.ensures.triangular

pub returns-clause-grows : goal.returns-clause-grows
returns-clause-grows c = grows_on _ _ _ c.in_ok-meet_terms.ensures.grows c.in_ok-close.ensures.grows

pub returns-clause-keeps_question : goal.returns-clause-keeps_question
returns-clause-keeps_question c = goes_further _ _ _ c.in_ok-meet_terms.ensures.keeps_question c.in_ok-close.ensures.keeps_question

pub returns-in_err-meet_terms-clause-full : goal.returns-in_err-meet_terms-clause-full
returns-in_err-meet_terms-clause-full c =
    let refused : (n : ℕ) → HasRoomToUnify n c.args.self.now → slot_count c.args.self.now.question.slots ≤ c.args.states.now.room → slot_count c.args.self.now.question.slots * (n + 2) ≤ vec_capacity c.args.visits.now → ⊥ = λ n room states visits. c.in_err-meet_terms.ensures.full n room in
    on_err _ refused

pub returns-in_err-close-clause-full : goal.returns-in_err-close-clause-full
returns-in_err-close-clause-full c =
    let met =
    subst
    (MakesMeet c.args.self.now c.meet_terms.new.self (left_spot c.args.self.now.question) (right_spot c.args.self.now.question))
    c.if-not-branch.false
    c.in_ok-meet_terms.ensures.met in
    let refused : (n : ℕ) → HasRoomToUnify n c.args.self.now → slot_count c.args.self.now.question.slots ≤ c.args.states.now.room → slot_count c.args.self.now.question.slots * (n + 2) ≤ vec_capacity c.args.visits.now → ⊥ =
    λ n room states visits. c.in_err-close.ensures.full n (room_still c.args.self.now c.meet_terms.new.self c.in_ok-meet_terms.ensures.keeps_question n room met.0) in
    on_err _ refused

pub returns-clause-full : goal.returns-clause-full
returns-clause-full c =
    let goes = goes_further c.args.self.now c.meet_terms.new.self c.close.new.self c.in_ok-meet_terms.ensures.keeps_question c.in_ok-close.ensures.keeps_question in
    let met =
    subst
    (MakesMeet c.args.self.now c.meet_terms.new.self (left_spot c.args.self.now.question) (right_spot c.args.self.now.question))
    c.if-not-branch.false
    c.in_ok-meet_terms.ensures.met in
    let closed =
    closed_by c.args.self.now c.meet_terms.new.self c.in_ok-meet_terms.ensures.keeps_question c.close.new.self true
    (subst (MakesClosed c.meet_terms.new.self c.close.new.self) c.if-not-branch-2.false c.in_ok-close.ensures.closed) in
    let handed = handed_on c.args.self.now.trail.now.pairs c.meet_terms.new.self.trail.now.pairs c.close.new.self.trail.now.pairs c.args.self.now.question.left.now c.args.self.now.question.right.now met.0.handed_in closed.3 in
    let count : slot_count c.close.new.self.question.slots ≡ slot_count c.args.self.now.question.slots = ap (λ q. slot_count q.slots) goes.question in
    on_err_weaker c.is_triangular.result
    (λ lacks n room states visits.
    lacks n
    (all_within n c.args.self.now.question.left.now c.args.self.now.question.right.now room.left room.right c.args.self.now.trail.now.pairs room.values c.close.new.self.trail.now.pairs handed)
    (omega (arith, count, states))
    (subst (λ k. k * (n + 2) ≤ vec_capacity c.args.visits.now) (sym count) visits))
    c.is_triangular.ensures.full
