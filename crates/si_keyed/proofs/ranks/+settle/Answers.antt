use Rattle.std.proofs.Common.{◌≡◌, length, ◌∙◌, ap, arith}
use Rattle.si_keyed.specs.Halves.{halves, sum_of}
use Rattle.si_keyed.proofs.SumLaws.{leaves_room}
use Rattle.si_keyed.proofs.HalfLaws.{sum_halves, fewer_halves}
use Rattle.si_keyed.proofs.ranks.+settle.Goals as goal

pub Ranks::sum_up-settle-requires : goal.Ranks::sum_up-settle-requires
Ranks::sum_up-settle-requires t c =
    let sums : c.as_slice.result.now ≡ halves c.args.below.now = c.as_slice.ensures.value ∙ c.put_halves.ensures in (
      omega (arith, c.decreases, ap length sums, fewer_halves c.args.below.now c.requires.some),
      (
        leaves_room c.self.inside.counts.items c.as_slice.result.now c.self.inside.above c.self.invariant (omega (arith, ap length sums, c.requires.room, ap length c.self.view_is)),
        omega (arith, ap sum_of sums, sum_halves c.args.below.now, c.requires.small),
      ),
    )
