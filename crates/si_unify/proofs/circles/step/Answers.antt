use Rattle.std.proofs.Common.{◌≡◌, ◌+◌, ◌<◌, [], ◌∷◌, ◌++◌, length, reverse, refl, sym, ◌∙◌, ap, subst, arith, length-append}
use Rattle.std.proofs.Math.ListN.{set}
use Rattle.std.specs.Prelude.{vec_capacity}
use Rattle.si_term.proofs.Results.{on_err}
use Rattle.si_unify.specs.Solving.{slot_count}
use Rattle.si_unify.specs.declared.states.State.TheVariants.{Open}
use Rattle.si_unify.specs.Circles.{visits_of, HasMadeVisit, AreNoMore, VisitsLackRoom}
use Rattle.std.proofs.lemmas.List.{reverse-append, length-reverse}
use Rattle.si_unify.specs.declared.circles.Visit.TheVariants.{Leave}
use Rattle.si_unify.proofs.VisitLaws.{entered_below, none_more, left_more, opened_more, leave_refused, entries_refused}
use Rattle.si_unify.proofs.Searching.{left_told, done_told, circle_told, open_told}
use Rattle.si_unify.proofs.circles.step.Goals as goal

pub returns-in-Leave-clause-done : goal.returns-in-Leave-clause-done
returns-in-Leave-clause-done c =
    subst (λ states. HasMadeVisit c.args.slots.now c.args.trail.now.pairs c.args.states.now.items states (c.args.visit ∷ reverse c.args.visits.now.items) (reverse c.args.visits.now.items))
    (sym c.change.ensures.items)
    (left_told _ _ _ _ _ _ c.in-Leave.is c.requires)

pub returns-in-Done-clause-done : goal.returns-in-Done-clause-done
returns-in-Done-clause-done c = done_told _ _ _ _ _ _ c.in-Enter.is c.requires c.in-Done.ensures

pub returns-in-Open-clause-done : goal.returns-in-Open-clause-done
returns-in-Open-clause-done c =
    circle_told _ _ _ c.args.states.now.items _ _ _ (reverse c.args.visits.now.items) c.in-Enter.is c.requires c.in-Open.ensures

pub returns-in_ok-enter_all-in-New-clause-done : goal.returns-in_ok-enter_all-in-New-clause-done
returns-in_ok-enter_all-in-New-clause-done c =
    let few = c.enter_all.new.visits.small in
    subst (λ states. HasMadeVisit c.args.slots.now c.args.trail.now.pairs c.args.states.now.items states (c.args.visit ∷ reverse c.args.visits.now.items) (reverse c.enter_all.new.visits.items))
    (sym c.change-in-New.ensures.items)
    (
    open_told _ _ _ _ _ _ _ c.in-Enter.is c.requires c.in-New.ensures
    (
    c.in_ok-enter_all-in-New.ensures.entered
    ∙ ap (λ l. visits_of c.args.slots.now c.args.trail.now.pairs c.in-Enter.slot ++ l)
    (ap reverse c.in_ok-push-in-New.ensures.items ∙ reverse-append c.args.visits.now.items (Leave c.in-Enter.slot ∷ []))
    )
    (omega (arith, length-reverse c.enter_all.new.visits.items, few))
    )

pub returns-in-Leave-clause-no_more : goal.returns-in-Leave-clause-no_more
returns-in-Leave-clause-no_more c =
    subst (λ states. AreNoMore c.args.slots.now c.args.trail.now.pairs c.args.states.now.items states (length c.args.visits.now.items + 1) (length c.args.visits.now.items))
    (sym c.change.ensures.items)
    (left_more c.args.slots.now c.args.trail.now.pairs c.args.states.now.items c.in-Leave.slot _ _ refl)

pub returns-in-Done-clause-no_more : goal.returns-in-Done-clause-no_more
returns-in-Done-clause-no_more c = none_more c.args.slots.now c.args.trail.now.pairs c.args.states.now.items (length c.args.visits.now.items) _ refl

pub returns-in-Open-clause-no_more : goal.returns-in-Open-clause-no_more
returns-in-Open-clause-no_more c = none_more c.args.slots.now c.args.trail.now.pairs c.args.states.now.items (length c.args.visits.now.items) _ refl

pub returns-in_ok-enter_all-in-New-clause-no_more : goal.returns-in_ok-enter_all-in-New-clause-no_more
returns-in_ok-enter_all-in-New-clause-no_more c =
    let slots = c.args.slots.now in
    let pairs = c.args.trail.now.pairs in
    let old = c.args.states.now.items in
    let below : c.in-Enter.slot < slot_count slots = entered_below slots pairs old c.in-Enter.slot c.args.visit _ c.in-Enter.is c.requires in
    subst (λ states. AreNoMore slots pairs old states (length c.args.visits.now.items + 1) (length c.enter_all.new.visits.items)) (sym c.change-in-New.ensures.items)
    (
    subst (AreNoMore slots pairs old (set old c.in-Enter.slot Open) (length c.args.visits.now.items + 1)) (length-reverse c.enter_all.new.visits.items)
    (
    opened_more slots pairs old c.in-Enter.slot below c.in-New.ensures (length c.args.visits.now.items) (reverse c.push.new.self.items) (reverse c.enter_all.new.visits.items)
    (length-reverse c.push.new.self.items ∙ ap length c.in_ok-push-in-New.ensures.items ∙ length-append c.args.visits.now.items (Leave c.in-Enter.slot ∷ []))
    c.in_ok-enter_all-in-New.ensures.entered
    )
    )

pub returns-in_err-push-in-New-clause-full : goal.returns-in_err-push-in-New-clause-full
returns-in_err-push-in-New-clause-full c =
    let slots = c.args.slots.now in
    let pairs = c.args.trail.now.pairs in
    let old = c.args.states.now.items in
    let below : c.in-Enter.slot < slot_count slots = entered_below slots pairs old c.in-Enter.slot c.args.visit _ c.in-Enter.is c.requires in
    let refused : VisitsLackRoom slots pairs old (length c.args.visits.now.items + 1) (vec_capacity c.args.visits.now) =
    leave_refused slots pairs old c.in-Enter.slot below c.in-New.ensures (length c.args.visits.now.items) (vec_capacity c.args.visits.now) (omega (arith, c.in_err-push-in-New.ensures.full, c.args.visits.now.ok)) in
    on_err _ refused

pub returns-in_err-enter_all-in-New-clause-full : goal.returns-in_err-enter_all-in-New-clause-full
returns-in_err-enter_all-in-New-clause-full c =
    let slots = c.args.slots.now in
    let pairs = c.args.trail.now.pairs in
    let old = c.args.states.now.items in
    let below : c.in-Enter.slot < slot_count slots = entered_below slots pairs old c.in-Enter.slot c.args.visit _ c.in-Enter.is c.requires in
    let one_more : length c.push.new.self.items ≡ length c.args.visits.now.items + 1 =
    ap length c.in_ok-push-in-New.ensures.items ∙ length-append c.args.visits.now.items (Leave c.in-Enter.slot ∷ []) in
    let refused : VisitsLackRoom slots pairs old (length c.args.visits.now.items + 1) (vec_capacity c.args.visits.now) =
    entries_refused slots pairs old c.in-Enter.slot below c.in-New.ensures (length c.args.visits.now.items) (vec_capacity c.args.visits.now) (vec_capacity c.push.new.self)
    (omega (arith, c.in_ok-push-in-New.ensures.capacity))
    (λ n within. omega (arith, c.in_err-enter_all-in-New.ensures.full n within, one_more)) in
    on_err _ refused
