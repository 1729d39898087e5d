use Rattle.std.proofs.Common.{◌≡◌, true, false, sym, ◌∙◌, subst, arith}
use Rattle.si_flat.proofs.Subterms.{some_cell}
use Rattle.si_unify.specs.Solving.{IsBinding}
use Rattle.si_unify.proofs.Places.{value_holds}
use Rattle.si_fit.specs.declared.meeting.Met.TheVariants.{Equal, Clash, Unknown}
use Rattle.si_fit.proofs.WalkLaws.{walk_starts, left_inside, walk_descends, heads_differ, other_some, left_within, part_walkable, walk_goes_on, walk_clashes, walk_stops, walk_ends}
use Rattle.si_fit.proofs.WalkedLaws.{no_step, left_walkable, right_walkable, left_walked, right_walked, left_value_walked, right_value_walked}
use Rattle.si_fit.proofs.MeetLaws.{IsVariable, variable_at, variable_met, slot_met, heads_clash, fixed_free, other_free}
use Rattle.si_fit.proofs.walking.+walking.Goals as goal

pub follow-walk-requires : goal.follow-walk-requires
follow-walk-requires t c = (omega (arith, c.decreases, c.if-budget-eq0.false), c.requires.terms)

pub meet-bounds-right-0 : goal.meet-bounds-right-0
meet-bounds-right-0 t c =
    some_cell c.args.right.now c.requires.terms.right

pub meet-meet_fixed-requires : goal.meet-meet_fixed-requires
meet-meet_fixed-requires t c = (omega (arith, c.decreases), (c.requires.terms, (c.requires.differ, sym c.in_default.ensures)))

pub meet-follow-requires : goal.meet-follow-requires
meet-follow-requires t c =
    let value = value_holds (IsBinding c.args.slots.now) c.args.trail.now.pairs c.in-Some.slot c.in-Some-value_at.value c.requires.terms.ready.bindings (sym c.in-Some-value_at.ensures) in (
      omega (arith, c.decreases),
      record { left = c.requires.terms.left; right = value.whole; left_range = c.requires.terms.left_range; right_range = value.in_range; ready = c.requires.terms.ready },
    )

pub meet-meet_unbound-requires : goal.meet-meet_unbound-requires
meet-meet_unbound-requires t c = (omega (arith, c.decreases), (c.requires.terms, (sym c.in-Some.ensures, sym c.in_default-value_at.ensures)))

pub meet_fixed-bounds-left-0 : goal.meet_fixed-bounds-left-0
meet_fixed-bounds-left-0 t c =
    some_cell c.args.left.now c.requires.terms.left

pub meet_fixed-follow-requires : goal.meet_fixed-follow-requires
meet_fixed-follow-requires t c =
    let value = value_holds (IsBinding c.args.slots.now) c.args.trail.now.pairs c.in-Some.slot c.in-Some-value_at.value c.requires.terms.ready.bindings (sym c.in-Some-value_at.ensures) in (
      omega (arith, c.decreases),
      record { left = value.whole; right = c.requires.terms.right; left_range = value.in_range; right_range = c.requires.terms.right_range; ready = c.requires.terms.ready },
    )

pub meet_unbound-bounds-left-0 : goal.meet_unbound-bounds-left-0
meet_unbound-bounds-left-0 t c =
    some_cell c.args.left.now c.requires.terms.left

pub meet_unbound-follow-requires : goal.meet_unbound-follow-requires
meet_unbound-follow-requires t c =
    let value = value_holds (IsBinding c.args.slots.now) c.args.trail.now.pairs c.in-Some.own c.in-Some-value_at.value c.requires.terms.ready.bindings (sym c.in-Some-value_at.ensures) in (
      omega (arith, c.decreases),
      record { left = value.whole; right = c.requires.terms.right; left_range = value.in_range; right_range = c.requires.terms.right_range; ready = c.requires.terms.ready },
    )

pub meet_fixed-bounds-right-0 : goal.meet_fixed-bounds-right-0
meet_fixed-bounds-right-0 t c =
    some_cell c.args.right.now c.requires.terms.right

pub meet_fixed-bind-requires-clause-slot : goal.meet_fixed-bind-requires-clause-slot
meet_fixed-bind-requires-clause-slot t c =
    (variable_at c.args.slots.now c.in-Some.slot c.args.left.now c.requires.terms.left c.requires.terms.left_range (sym c.in-Some.ensures)).slot_open

pub meet_fixed-bind-requires-clause-unbound : goal.meet_fixed-bind-requires-clause-unbound
meet_fixed-bind-requires-clause-unbound t c =
    sym c.in_default-value_at.ensures

pub meet_fixed-bind-requires-clause-first : goal.meet_fixed-bind-requires-clause-first
meet_fixed-bind-requires-clause-first t c =
    fixed_free c.args.slots.now c.args.trail.now.pairs c.in-Some.slot _ c.requires.fixed

pub meet_unbound-bind-requires-clause-slot : goal.meet_unbound-bind-requires-clause-slot
meet_unbound-bind-requires-clause-slot t c =
    (variable_at c.args.slots.now c.args.slot c.args.right.now c.requires.terms.right c.requires.terms.right_range c.requires.variable).slot_open

pub meet_unbound-bind-requires-clause-unbound : goal.meet_unbound-bind-requires-clause-unbound
meet_unbound-bind-requires-clause-unbound t c =
    c.requires.unbound

pub meet_unbound-bind-requires-clause-first : goal.meet_unbound-bind-requires-clause-first
meet_unbound-bind-requires-clause-first t c =
    fixed_free c.args.slots.now c.args.trail.now.pairs c.args.slot _ (sym c.in_default.ensures)

pub meet_unbound-bind-requires-then-is_newer-clause-slot : goal.meet_unbound-bind-requires-then-is_newer-clause-slot
meet_unbound-bind-requires-then-is_newer-clause-slot t c =
    (variable_at c.args.slots.now c.in-Some.own c.args.left.now c.requires.terms.left c.requires.terms.left_range (sym c.in-Some.ensures)).slot_open

pub meet_unbound-bind-requires-then-is_newer-clause-unbound : goal.meet_unbound-bind-requires-then-is_newer-clause-unbound
meet_unbound-bind-requires-then-is_newer-clause-unbound t c =
    sym c.in_default-value_at.ensures

pub meet_unbound-bind-requires-then-is_newer-clause-first : goal.meet_unbound-bind-requires-then-is_newer-clause-first
meet_unbound-bind-requires-then-is_newer-clause-first t c =
    other_free c.args.slots.now c.args.trail.now.pairs c.in-Some.own c.args.slot _ c.requires.variable (λ e. c.if-own-slot.false (sym e)) c.requires.unbound

pub walk-loop-j-init : goal.walk-loop-j-init
walk-loop-j-init t c =
    record {
      is_walking = walk_starts _ _ _ _ c.requires.terms;
      left_within = omega arith;
      fewer = omega arith;
    }

pub walk-bounds-left-i : goal.walk-bounds-left-i
walk-bounds-left-i t c =
    left_inside _ _ _ _ _ _ _ c.loop-j.invariant.is_walking c.loop-j-test.true

pub walk-overflow_add-i : goal.walk-overflow_add-i
walk-overflow_add-i t c =
    omega (arith, c.well_formed.1.1.0.0, left_inside _ _ _ _ _ _ _ c.loop-j.invariant.is_walking c.loop-j-test.true)

pub walk-loop-j-preserved-then-have_same_symbol : goal.walk-loop-j-preserved-then-have_same_symbol
walk-loop-j-preserved-then-have_same_symbol t c =
    record {
      is_walking = walk_descends _ _ _ _ _ _ _ c.loop-j.invariant.is_walking c.loop-j-test.true (sym c.have_same_symbol.ensures ∙ c.if-have_same_symbol.true);
      left_within = omega (arith, left_inside _ _ _ _ _ _ _ c.loop-j.invariant.is_walking c.loop-j-test.true);
      fewer = c.loop-j.invariant.fewer;
    }

pub walk-sub-one-requires-clause-inside : goal.walk-sub-one-requires-clause-inside
walk-sub-one-requires-clause-inside t c =
    left_inside _ _ _ _ _ _ _ c.loop-j.invariant.is_walking c.loop-j-test.true

pub walk-meet-requires : goal.walk-meet-requires
walk-meet-requires t c = (
  omega (arith, c.decreases, c.loop-j.invariant.fewer),
  (
    part_walkable _ _ _ _ _ _ _ _ _ c.loop-j.invariant.is_walking c.loop-j-test.true c.sub-one.ensures.place c.sub-other.ensures.place c.sub-one.ensures.whole c.sub-other.ensures.whole c.requires.terms,
    heads_differ _ _ _ _ _ _ _ _ _ c.loop-j.invariant.is_walking c.loop-j-test.true c.sub-one.ensures.place c.sub-other.ensures.place c.sub-one.ensures.whole c.sub-other.ensures.whole (sym c.have_same_symbol.ensures ∙ c.if-have_same_symbol.false),
  ),
)

pub walk-loop-j-smaller : goal.walk-loop-j-smaller
walk-loop-j-smaller t c =
    omega (arith, c.loop-j-test.true, other_some _ _ _ _ _ _ _ _ _ c.loop-j.invariant.is_walking c.loop-j-test.true c.sub-one.ensures.place c.sub-other.ensures.place c.sub-one.ensures.whole c.sub-other.ensures.whole)

pub walk-loop-j-preserved : goal.walk-loop-j-preserved
walk-loop-j-preserved t c =
    record {
      is_walking = walk_goes_on _ _ _ _ _ _ _ _ _ c.loop-j.invariant.is_walking c.loop-j-test.true c.sub-one.ensures.place c.sub-other.ensures.place c.sub-one.ensures.whole c.sub-other.ensures.whole c.meet.new.trail c.in-Equal.ensures.walked;
      left_within = left_within _ _ _ _ _ _ _ _ _ c.loop-j.invariant.is_walking c.loop-j-test.true c.sub-one.ensures.place c.sub-other.ensures.place c.sub-one.ensures.whole c.sub-other.ensures.whole;
      fewer = omega (arith, c.meet.ensures.fewer, c.loop-j.invariant.fewer);
    }

pub walk-returns-in-Clash-clause-walked : goal.walk-returns-in-Clash-clause-walked
walk-returns-in-Clash-clause-walked t c =
    walk_clashes _ _ _ _ _ _ _ _ _ c.loop-j.invariant.is_walking c.loop-j-test.true c.sub-one.ensures.place c.sub-other.ensures.place c.sub-one.ensures.whole c.sub-other.ensures.whole c.meet.new.trail c.in-Clash.ensures.walked

pub walk-returns-in-Unknown-clause-walked : goal.walk-returns-in-Unknown-clause-walked
walk-returns-in-Unknown-clause-walked t c =
    walk_stops _ _ _ _ _ _ _ _ _ c.loop-j.invariant.is_walking c.loop-j-test.true c.sub-one.ensures.place c.sub-other.ensures.place c.sub-one.ensures.whole c.sub-other.ensures.whole c.meet.new.trail c.in-Unknown.ensures.walked

pub walk-returns-clause-walked : goal.walk-returns-clause-walked
walk-returns-clause-walked t c =
    walk_ends _ _ _ _ _ _ _ c.loop-j.invariant.is_walking (omega (arith, c.loop-j-test.false))

pub follow-returns-then-budget-eq0-clause-walked : goal.follow-returns-then-budget-eq0-clause-walked
follow-returns-then-budget-eq0-clause-walked t c =
    no_step c.args.slots.now c.args.trail.now c.args.left.now c.args.right.now Unknown c.requires.terms.ready tt

pub meet-returns-in-Some-value_at-clause-walked : goal.meet-returns-in-Some-value_at-clause-walked
meet-returns-in-Some-value_at-clause-walked t c =
    right_value_walked c.args.slots.now c.args.trail.now c.in-Some.slot c.args.left.now c.args.right.now c.follow.new.trail c.follow.result c.in-Some-value_at.value c.requires.terms.ready.bindings (sym c.in-Some-value_at.ensures)
    (variable_at c.args.slots.now c.in-Some.slot c.args.right.now c.requires.terms.right c.requires.terms.right_range (sym c.in-Some.ensures))
    c.follow.ensures.walked

pub meet_fixed-returns-in-Some-value_at-clause-walked : goal.meet_fixed-returns-in-Some-value_at-clause-walked
meet_fixed-returns-in-Some-value_at-clause-walked t c =
    left_value_walked c.args.slots.now c.args.trail.now c.in-Some.slot c.args.left.now c.args.right.now c.follow.new.trail c.follow.result c.in-Some-value_at.value c.requires.terms.ready.bindings (sym c.in-Some-value_at.ensures)
    (variable_at c.args.slots.now c.in-Some.slot c.args.left.now c.requires.terms.left c.requires.terms.left_range (sym c.in-Some.ensures))
    c.follow.ensures.walked

pub meet_unbound-returns-in-Some-value_at-clause-walked : goal.meet_unbound-returns-in-Some-value_at-clause-walked
meet_unbound-returns-in-Some-value_at-clause-walked t c =
    left_value_walked c.args.slots.now c.args.trail.now c.in-Some.own c.args.left.now c.args.right.now c.follow.new.trail c.follow.result c.in-Some-value_at.value c.requires.terms.ready.bindings (sym c.in-Some-value_at.ensures)
    (variable_at c.args.slots.now c.in-Some.own c.args.left.now c.requires.terms.left c.requires.terms.left_range (sym c.in-Some.ensures))
    c.follow.ensures.walked

pub meet_fixed-returns-then-is_same_variable-clause-walked : goal.meet_fixed-returns-then-is_same_variable-clause-walked
meet_fixed-returns-then-is_same_variable-clause-walked t c =
    no_step c.args.slots.now c.args.trail.now c.args.left.now c.args.right.now Equal c.requires.terms.ready
    (variable_met c.args.slots.now c.args.trail.now.pairs c.args.left.now c.args.right.now c.requires.terms.left c.requires.terms.right (c.is_same_variable.ensures.0 c.if-is_same_variable.true))

pub meet_fixed-returns-in_default-clause-walked : goal.meet_fixed-returns-in_default-clause-walked
meet_fixed-returns-in_default-clause-walked t c =
    no_step c.args.slots.now c.args.trail.now c.args.left.now c.args.right.now Clash c.requires.terms.ready
    (
    heads_clash c.args.slots.now c.args.trail.now.pairs c.args.trail.now.pairs c.args.left.now c.args.right.now c.requires.terms.left c.requires.terms.right
    (λ e. (let bad : true ≡ false = sym (c.is_same_variable.ensures.1 e) ∙ c.if-is_same_variable.false in cc))
    (sym c.in_default.ensures) c.requires.fixed c.requires.differ
    )

pub meet_fixed-bind-requires-clause-terms : goal.meet_fixed-bind-requires-clause-terms
meet_fixed-bind-requires-clause-terms t c =
    left_walkable c.args.slots.now c.args.trail.now c.in-Some.slot c.args.left.now c.args.right.now (variable_at c.args.slots.now c.in-Some.slot c.args.left.now c.requires.terms.left c.requires.terms.left_range (sym c.in-Some.ensures)) c.requires.terms

pub meet_fixed-returns-clause-walked : goal.meet_fixed-returns-clause-walked
meet_fixed-returns-clause-walked t c =
    left_walked c.args.slots.now c.args.trail.now c.in-Some.slot c.args.left.now c.args.right.now c.bind.new.trail c.bind.result (variable_at c.args.slots.now c.in-Some.slot c.args.left.now c.requires.terms.left c.requires.terms.left_range (sym c.in-Some.ensures)) c.bind.ensures.walked

pub meet_unbound-bind-requires-clause-terms : goal.meet_unbound-bind-requires-clause-terms
meet_unbound-bind-requires-clause-terms t c =
    right_walkable c.args.slots.now c.args.trail.now c.args.slot c.args.left.now c.args.right.now (variable_at c.args.slots.now c.args.slot c.args.right.now c.requires.terms.right c.requires.terms.right_range c.requires.variable) c.requires.terms

pub meet_unbound-returns-in_default-clause-walked : goal.meet_unbound-returns-in_default-clause-walked
meet_unbound-returns-in_default-clause-walked t c =
    right_walked c.args.slots.now c.args.trail.now c.args.slot c.args.left.now c.args.right.now c.bind.new.trail c.bind.result (variable_at c.args.slots.now c.args.slot c.args.right.now c.requires.terms.right c.requires.terms.right_range c.requires.variable) c.bind.ensures.walked

pub meet_unbound-returns-then-own-slot-clause-walked : goal.meet_unbound-returns-then-own-slot-clause-walked
meet_unbound-returns-then-own-slot-clause-walked t c =
    no_step c.args.slots.now c.args.trail.now c.args.left.now c.args.right.now Equal c.requires.terms.ready
    (
    slot_met c.args.slots.now c.args.trail.now.pairs c.args.slot c.args.left.now c.args.right.now
    (subst (λ n. IsVariable c.args.slots.now n c.args.left.now) c.if-own-slot.true (variable_at c.args.slots.now c.in-Some.own c.args.left.now c.requires.terms.left c.requires.terms.left_range (sym c.in-Some.ensures)))
    (variable_at c.args.slots.now c.args.slot c.args.right.now c.requires.terms.right c.requires.terms.right_range c.requires.variable)
    )

pub meet_unbound-bind-requires-then-is_newer-clause-terms : goal.meet_unbound-bind-requires-then-is_newer-clause-terms
meet_unbound-bind-requires-then-is_newer-clause-terms t c =
    left_walkable c.args.slots.now c.args.trail.now c.in-Some.own c.args.left.now c.args.right.now (variable_at c.args.slots.now c.in-Some.own c.args.left.now c.requires.terms.left c.requires.terms.left_range (sym c.in-Some.ensures)) c.requires.terms

pub meet_unbound-returns-then-is_newer-clause-walked : goal.meet_unbound-returns-then-is_newer-clause-walked
meet_unbound-returns-then-is_newer-clause-walked t c =
    left_walked c.args.slots.now c.args.trail.now c.in-Some.own c.args.left.now c.args.right.now c.bind-then-is_newer.new.trail c.bind-then-is_newer.result (variable_at c.args.slots.now c.in-Some.own c.args.left.now c.requires.terms.left c.requires.terms.left_range (sym c.in-Some.ensures)) c.bind-then-is_newer.ensures.walked

pub meet_unbound-bind-requires-2-clause-terms : goal.meet_unbound-bind-requires-2-clause-terms
meet_unbound-bind-requires-2-clause-terms t c =
    right_walkable c.args.slots.now c.args.trail.now c.args.slot c.args.left.now c.args.right.now (variable_at c.args.slots.now c.args.slot c.args.right.now c.requires.terms.right c.requires.terms.right_range c.requires.variable) c.requires.terms

pub meet_unbound-returns-clause-walked : goal.meet_unbound-returns-clause-walked
meet_unbound-returns-clause-walked t c =
    right_walked c.args.slots.now c.args.trail.now c.args.slot c.args.left.now c.args.right.now c.bind-2.new.trail c.bind-2.result (variable_at c.args.slots.now c.args.slot c.args.right.now c.requires.terms.right c.requires.terms.right_range c.requires.variable) c.bind-2.ensures.walked
