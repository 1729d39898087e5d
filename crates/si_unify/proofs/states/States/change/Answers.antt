use Rattle.std.proofs.Common.{◌≡◌, ◌<◌, length, sym, ap, ◌∙◌, subst, arith}
use Rattle.std.proofs.Math.ListN.{set}
use Rattle.std.specs.Prelude.{vec_capacity}
use Rattle.si_unify.specs.States.{HasRoomForSlots}
use Rattle.si_unify.proofs.StateLaws.{new_changed, other_changed, room_for_one, room_after_one, room_as_before}
use Rattle.si_unify.proofs.states.States.change.Goals.{in-New, in_default}
use Rattle.si_unify.proofs.states.States.change.Goals as goal

pub push_reserved-requires : goal.push_reserved-requires
push_reserved-requires c =
    let less : c.args.slot < length c.self.inside.states.items = subst (λ s. c.args.slot < length s.items) (sym c.self.view_is) c.requires.slot in
    omega (arith, room_for_one _ _ _ c.args.slot c.index.result.now c.self.invariant.1 less c.in-New.is c.index.ensures, c.self.inside.met.ok)

pub invariant_of-self : goal.invariant_of-self
invariant_of-self c =
    let states = c.self.inside.states.items in
    let now = c.match-index.self-inside.states.items in
    let met = c.self.inside.met.items in
    let now_met = c.match-index.self-inside.met.items in
    let less : c.args.slot < length c.self.inside.states.items = subst (λ s. c.args.slot < length s.items) (sym c.self.view_is) c.requires.slot in
    elim c.match-index.branch [
      | in-New w ↦
          let states_are : now ≡ states = ap (λ i. i.states.items) w.self-inside-is in
          let met_are = ap (λ i. i.met.items) w.self-inside-is ∙ w.push_reserved.ensures.items in
          let capacity : vec_capacity c.match-index.self-inside.met ≡ vec_capacity c.self.inside.met = ap (λ i. vec_capacity i.met) w.self-inside-is ∙ w.push_reserved.ensures.capacity in (
            new_changed states now met now_met c.args.slot c.args.state states_are met_are c.self.invariant.0 less,
            subst (HasRoomForSlots (set now c.args.slot c.args.state) now_met) (sym capacity)
                (room_after_one states now met now_met _ c.args.slot c.args.state c.index.result.now states_are met_are c.self.invariant.1 less w.in-New.is c.index.ensures c.requires.state),
          )
      | in_default w ↦
          let states_are : now ≡ states = ap (λ i. i.states.items) w.self-inside-is in
          let met_are : now_met ≡ met = ap (λ i. i.met.items) w.self-inside-is in
          let capacity : vec_capacity c.match-index.self-inside.met ≡ vec_capacity c.self.inside.met = ap (λ i. vec_capacity i.met) w.self-inside-is in (
            other_changed states now met now_met c.args.slot c.args.state c.index.result.now states_are met_are c.self.invariant.0 less w.in_default.not-New c.index.ensures,
            subst (HasRoomForSlots (set now c.args.slot c.args.state) now_met) (sym capacity)
                (room_as_before states now met now_met _ c.args.slot c.args.state states_are met_are c.self.invariant.1 less c.requires.state),
          )
    ]
