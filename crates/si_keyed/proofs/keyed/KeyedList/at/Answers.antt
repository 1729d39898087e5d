use Rattle.std.proofs.Common.{arith}
use Rattle.si_keyed.proofs.IndexedLaws.{total_bound}
use Rattle.si_keyed.proofs.keyed.KeyedList.at.Goals as goal

pub kept_at-kept-requires-clause-small : goal.kept_at-kept-requires-clause-small
kept_at-kept-requires-clause-small g c =
    omega (arith, total_bound c.self.inside.slots.items c.self.inside.ranks c.self.invariant.0.counted, c.self.inside.slots.ok, c.self.inside.slots.small)
