use Rattle.std.proofs.Common.{◌≡◌, append-nil, ap, sym, ◌∙◌, subst, arith}
use Rattle.std.specs.Prelude.{min, vec_capacity}
use Rattle.si_unify.specs.States.{AreMet, HasRoomForSlots}
use Rattle.si_unify.proofs.StateLaws.{met_popped, popped_inside, none_met, room_after_pop}
use Rattle.si_unify.proofs.states.States.reset.Goals as goal

pub loop-slot-init : goal.loop-slot-init
loop-slot-init c = record { met = c.self.invariant.0; room = c.self.invariant.1; same = ap (λ s. s.room) c.self.view_is }

pub loop-slot-preserved : goal.loop-slot-preserved
loop-slot-preserved c = record {
  met = met_popped _ _ _ _ c.in-Some.ensures.items c.loop-slot.invariant.met;
  room =
      subst (HasRoomForSlots _ _) (sym c.pop.ensures.capacity)
      (room_after_pop _ _ _ _ _ c.in-Some.ensures.items c.loop-slot.invariant.room (popped_inside _ _ _ _ c.in-Some.ensures.items c.loop-slot.invariant.met));
  same = ap (min (vec_capacity c.loop-slot.self-inside.states)) c.pop.ensures.capacity ∙ c.loop-slot.invariant.same;
}

pub returns-clause-items : goal.returns-clause-items
returns-clause-items c = none_met _ _ (omega (arith, c.in_default.ensures.cases.0, c.loop-slot.self-inside.met.ok)) c.loop-slot.invariant.met

pub invariant_of-self : goal.invariant_of-self
invariant_of-self c =
    let same : c.pop.new.self.items ≡ c.loop-slot.self-inside.met.items = sym (c.in_default.ensures.items ∙ append-nil c.pop.new.self.items) in (
      subst (AreMet c.loop-slot.self-inside.states.items) (sym same) c.loop-slot.invariant.met,
      subst (λ l. HasRoomForSlots c.loop-slot.self-inside.states.items l (vec_capacity c.pop.new.self)) (sym same)
          (subst (HasRoomForSlots c.loop-slot.self-inside.states.items c.loop-slot.self-inside.met.items) (sym c.pop.ensures.capacity) c.loop-slot.invariant.room),
    )
