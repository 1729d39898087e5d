use Rattle.std.proofs.Common.{◌≡◌, length, arith, subst, sym}
use Rattle.std.proofs.Math.ListN.{set}
use Rattle.std.specs.Prelude.{vec_capacity}
use Rattle.si_trail.specs.Bound.{IsTableOf}
use Rattle.si_trail.proofs.BoundLaws.{table_pushed, has_room}
use Rattle.si_trail.proofs.Trail.bind.Goals as goal

pub overflow_cast-len : goal.overflow_cast-len
overflow_cast-len g c =
    omega (arith, has_room _ _ _ c.args.slot c.args.value _ _ c.self.invariant c.self.view_is c.requires.in_range c.requires.unbound, c.self.invariant.small, c.len.ensures, c.self.inside.bound.ok)

pub push_reserved-requires : goal.push_reserved-requires
push_reserved-requires g c =
    omega (arith, has_room _ _ _ c.args.slot c.args.value _ _ c.self.invariant c.self.view_is c.requires.in_range c.requires.unbound, c.self.invariant.room, c.self.inside.bound.ok)

pub invariant_of-self : goal.invariant_of-self
invariant_of-self g c =
    let counted : c.len.result ≡ length c.self.inside.bound.items = omega (arith, c.len.ensures, c.self.inside.bound.ok) in
    subst (λ n. IsTableOf (set c.self.inside.places.items c.args.slot n) c.self.inside.slots (vec_capacity c.push_reserved.new.self) c.push_reserved.new.self.items) (sym counted)
    (table_pushed c.self.inside.places.items _ _ _ c.args.slot c.args.value _ _ _ c.self.invariant c.self.view_is c.requires.in_range c.requires.unbound c.push_reserved.ensures.capacity c.push_reserved.ensures.items)
