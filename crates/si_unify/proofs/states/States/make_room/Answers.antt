use Rattle.std.proofs.Common.{◌≡◌, ◌<◌, length, sym, ap, ◌∙◌, subst, arith}
use Rattle.std.specs.Result.{is_ok}
use Rattle.si_term.proofs.Results.{on_err}
use Rattle.si_unify.specs.States.{AreNew}
use Rattle.si_unify.proofs.StateLaws.{none_noted, room_at_first, new_still, met_none, fits_still}
use Rattle.si_unify.proofs.states.States.make_room.Goals as goal

pub returns-in_err-reserve-clause-full : goal.returns-in_err-reserve-clause-full
returns-in_err-reserve-clause-full c =
    let new : AreNew c.self.inside.states.items = subst (λ s. AreNew s.items) (sym c.self.view_is) c.requires in
    let none = none_noted _ _ _ new c.self.invariant.1 in
    let short : c.args.self.now.room < c.args.count = omega (arith, none, c.in_err-reserve.ensures.full, ap (λ s. s.room) c.self.view_is, c.self.inside.met.ok) in
    on_err _ short

pub invariant_of-self-in-Continue-branch-2 : goal.invariant_of-self-in-Continue-branch-2
invariant_of-self-in-Continue-branch-2 c =
    let new : AreNew c.self.inside.states.items = subst (λ s. AreNew s.items) (sym c.self.view_is) c.requires in
    let none : length c.self.inside.met.items ≡ 0 = none_noted _ _ _ new c.self.invariant.1 in
    let still : length c.reserve.new.self.items ≡ 0 = ap length c.in_ok-reserve.ensures.items ∙ none in
    let now = new_still (is_ok c.resize.result) _ _ c.self.inside.states.items c.resize.new.self.items new c.resize.ensures.items in (
      met_none _ _ now still,
      room_at_first _ _ _ still
          (
          fits_still (is_ok c.resize.result) _ _ _ _ (sym c.resize.new.self.ok.0 ∙ c.resize.ensures.len)
          (omega (arith, c.in_ok-reserve.ensures.ok))
          (omega (arith, c.self.invariant.1.fits, c.in_ok-reserve.ensures.capacity, c.self.inside.states.ok))
          ),
    )

pub returns-in_ok-resize-clause-fresh : goal.returns-in_ok-resize-clause-fresh
returns-in_ok-resize-clause-fresh c =
    new_still (is_ok c.resize.result) _ _ c.self.inside.states.items c.resize.new.self.items (subst (λ s. AreNew s.items) (sym c.self.view_is) c.requires) c.resize.ensures.items
