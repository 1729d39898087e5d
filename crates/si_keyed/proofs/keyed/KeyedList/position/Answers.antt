use Rattle.std.proofs.Common.{sym, ap, subst, arith}
use Rattle.si_keyed.specs.Keyed.{HasKey, HasKeyAt}
use Rattle.si_keyed.proofs.IndexedLaws.{is_known, place_within, total_bound, position_there}
use Rattle.si_keyed.proofs.keyed.KeyedList.position.Goals as goal

pub index-requires : goal.index-requires
index-requires g c =
    is_known c.self.inside.slots.items _ c.args.key c.self.invariant.0.linked (subst (λ l. HasKey l c.args.key) (sym (ap (λ l. l.items) c.self.view_is)) c.requires)

pub before-requires-clause-inside : goal.before-requires-clause-inside
before-requires-clause-inside g c =
    omega (arith, place_within c.self.inside.slots.items c.self.inside.ranks _ c.args.key _ c.self.invariant.0.linked c.self.invariant.0.counted c.index.ensures)

pub before-requires-clause-small : goal.before-requires-clause-small
before-requires-clause-small g c =
    omega (arith, total_bound c.self.inside.slots.items c.self.inside.ranks c.self.invariant.0.counted, c.self.inside.slots.ok, c.self.inside.slots.small)

pub returns : goal.returns
returns g c =
    subst
    (λ l. HasKeyAt l c.before-2.result c.args.key)
    (ap (λ l. l.items) c.self.view_is)
    (position_there c.self.inside.slots.items c.self.inside.ranks _ c.args.key _ _ c.self.invariant.0.linked c.self.invariant.0.counted c.index.ensures c.before-2.ensures)
