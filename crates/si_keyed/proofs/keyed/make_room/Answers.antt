use Rattle.std.proofs.Common.{arith}
use Rattle.si_keyed.proofs.IndexedLaws.{total_bound}
use Rattle.si_keyed.proofs.keyed.make_room.Goals as goal

pub push-requires : goal.push-requires
push-requires g c =
    let n = total_bound c.args.slots.now.items c.args.ranks.now c.requires.counted in
    omega (arith, n, c.args.slots.now.ok, c.reserve.ensures.len, c.in_ok-reserve.ensures.ok, c.reserve.new.self.ok, c.reserve.new.self.small)
