use Rattle.std.proofs.Common.{◌≡◌, ◌+◌, [], ◌∷◌, length, reverse, true, refl, sym, ◌∙◌, ap, subst, arith, length-append}
use Rattle.std.proofs.lemmas.List.{reverse-append}
use Rattle.std.specs.Prelude.{vec_capacity}
use Rattle.si_term.proofs.Results.{on_err}
use Rattle.si_unify.specs.Circles.{VisitsLackRoom, IsSearching, HasDone}
use Rattle.si_unify.proofs.Searching.{search_starts, search_goes_on}
use Rattle.si_unify.proofs.circles.search.Goals as goal

pub loop-visit-init : goal.loop-visit-init
loop-visit-init c = record {
  searched_so_far = search_starts _ _ _ _ c.requires;
  no_more_so_far = λ n within. omega arith;
  room_so_far = omega arith;
  states_room = refl;
}

pub step-requires : goal.step-requires
step-requires c =
    let front : reverse c.loop-visit.visits.items ≡ c.in-Some.visit ∷ reverse c.pop.new.self.items =
    ap reverse c.in-Some.ensures.items ∙ reverse-append c.pop.new.self.items (c.in-Some.visit ∷ []) in
    subst (IsSearching c.args.slots.now c.args.trail.now.pairs c.loop-visit.states.items) front c.loop-visit.invariant.searched_so_far.searching

pub loop-visit-preserved : goal.loop-visit-preserved
loop-visit-preserved c =
    let front : reverse c.loop-visit.visits.items ≡ c.in-Some.visit ∷ reverse c.pop.new.self.items =
    ap reverse c.in-Some.ensures.items ∙ reverse-append c.pop.new.self.items (c.in-Some.visit ∷ []) in
    let popped : length c.loop-visit.visits.items ≡ length c.pop.new.self.items + 1 =
    ap length c.in-Some.ensures.items ∙ length-append c.pop.new.self.items (c.in-Some.visit ∷ []) in
    let done : HasDone c.args.slots.now c.args.trail.now.pairs c.loop-visit.states.items c.step.new.states.items (reverse c.loop-visit.visits.items) (reverse c.step.new.visits.items) true =
    subst (λ l. HasDone c.args.slots.now c.args.trail.now.pairs c.loop-visit.states.items c.step.new.states.items l (reverse c.step.new.visits.items) true) (sym front)
    (subst (HasDone c.args.slots.now c.args.trail.now.pairs c.loop-visit.states.items c.step.new.states.items (c.in-Some.visit ∷ reverse c.pop.new.self.items) (reverse c.step.new.visits.items)) c.if-not-branch.false c.in_ok-step.ensures.done) in
    record {
      searched_so_far = search_goes_on _ _ _ _ _ _ _ _ c.loop-visit.invariant.searched_so_far done;
      no_more_so_far = λ n within. omega (arith, c.loop-visit.invariant.no_more_so_far n within, c.in_ok-step.ensures.no_more n within, popped);
      room_so_far = omega (arith, c.loop-visit.invariant.room_so_far, c.pop.ensures.capacity, c.in_ok-step.ensures.keeps);
      states_room = c.in_ok-step.ensures.keeps_states ∙ c.loop-visit.invariant.states_room;
    }

pub returns-in_err-step-clause-full : goal.returns-in_err-step-clause-full
returns-in_err-step-clause-full c =
    let popped : length c.loop-visit.visits.items ≡ length c.pop.new.self.items + 1 =
    ap length c.in-Some.ensures.items ∙ length-append c.pop.new.self.items (c.in-Some.visit ∷ []) in
    let refused : VisitsLackRoom c.args.slots.now c.args.trail.now.pairs c.args.states.now.items (length c.args.visits.now.items) (vec_capacity c.args.visits.now) =
    λ n within. omega (arith, c.loop-visit.invariant.no_more_so_far n within, c.in_err-step.ensures.full n within, popped, c.loop-visit.invariant.room_so_far, c.pop.ensures.capacity) in
    on_err _ refused

pub returns-in_err-step-clause-keeps : goal.returns-in_err-step-clause-keeps
returns-in_err-step-clause-keeps c = omega (arith, c.loop-visit.invariant.room_so_far, c.pop.ensures.capacity, c.in_err-step.ensures.keeps)

pub returns-in_err-step-clause-keeps_states : goal.returns-in_err-step-clause-keeps_states
returns-in_err-step-clause-keeps_states c = c.in_err-step.ensures.keeps_states ∙ c.loop-visit.invariant.states_room

pub returns-then-not-branch-clause-searched : goal.returns-then-not-branch-clause-searched
returns-then-not-branch-clause-searched c =
    subst (HasDone c.args.slots.now c.args.trail.now.pairs c.loop-visit.states.items c.step.new.states.items (c.in-Some.visit ∷ reverse c.pop.new.self.items) (reverse c.step.new.visits.items)) c.if-not-branch.true c.in_ok-step.ensures.done

pub returns-then-not-branch-clause-keeps : goal.returns-then-not-branch-clause-keeps
returns-then-not-branch-clause-keeps c = omega (arith, c.loop-visit.invariant.room_so_far, c.pop.ensures.capacity, c.in_ok-step.ensures.keeps)

pub returns-then-not-branch-clause-keeps_states : goal.returns-then-not-branch-clause-keeps_states
returns-then-not-branch-clause-keeps_states c = c.in_ok-step.ensures.keeps_states ∙ c.loop-visit.invariant.states_room

pub returns-clause-keeps : goal.returns-clause-keeps
returns-clause-keeps c = omega (arith, c.loop-visit.invariant.room_so_far, c.pop.ensures.capacity)

pub returns-clause-keeps_states : goal.returns-clause-keeps_states
returns-clause-keeps_states c = c.loop-visit.invariant.states_room
