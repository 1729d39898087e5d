use Rattle.std.proofs.Common.{◌≡◌, ◌+◌, ◌-◌, ◌∷◌, [], List, ℕ, false, length, sym, ap, subst, arith, length-append}
use Rattle.std.specs.Prelude.{slice_set}
use Rattle.si_defs.specs.Substitutions.{IsAmong, AreDistinct, Grows}
use Rattle.si_insert.specs.declared.open.Opened.{Opened}
use Rattle.si_insert.specs.Opened.{numbers, AreListedFrom}
use Rattle.si_insert.proofs.OpenedLaws.{at_grown, at_pushed, distinct_pushed}
use Rattle.si_insert.proofs.open.Openings.open.Goals as goal

stay : (old new : List ℕ) (all : List Opened) → Grows old new → AreListedFrom old 0 all → AreListedFrom new 0 all
stay old new all grows h = subst (λ l. AreListedFrom l 0 all) (sym grows.1) (at_grown old grows.0 0 all h)

pub invariant_of-self : goal.invariant_of-self
invariant_of-self c = (stay _ _ _ c.reach.ensures.grows c.self.invariant.0, c.self.invariant.1)

pub invariant_of-self-in_err-push : goal.invariant_of-self-in_err-push
invariant_of-self-in_err-push c = (
  subst (AreListedFrom c.reach.new.places.items 0) (sym c.in_err-push.ensures.items) (stay _ _ _ c.reach.ensures.grows c.self.invariant.0),
  subst (λ l. AreDistinct (numbers l)) (sym c.in_err-push.ensures.items) c.self.invariant.1,
)

pub invariant_of-self-2 : goal.invariant_of-self-2
invariant_of-self-2 c =
    let one : Opened = record { indicator = c.args.indicator; at = c.args.at; bound = false } in
    let new : IsAmong (numbers c.self.inside.opened.items) c.args.indicator → ⊥ = subst (λ l. IsAmong (numbers l) c.args.indicator → ⊥) (sym c.self.view_is) c.requires in
    let here : c.len.result - 1 ≡ 0 + length c.self.inside.opened.items = omega (arith, c.len.ensures, c.push.new.self.ok, ap length c.in_ok-push.ensures.items, length-append c.self.inside.opened.items (one ∷ [])) in (
      subst
          (AreListedFrom (slice_set c.reach.new.places.items c.args.indicator (c.len.result - 1)) 0)
          (sym c.in_ok-push.ensures.items)
          (at_pushed c.reach.new.places.items 0 (c.len.result - 1) c.self.inside.opened.items one (stay _ _ _ c.reach.ensures.grows c.self.invariant.0) new c.in_ok-reach.ensures.ok here),
      subst (λ l. AreDistinct (numbers l)) (sym c.in_ok-push.ensures.items) (distinct_pushed c.self.inside.opened.items one c.self.invariant.1 new),
    )
