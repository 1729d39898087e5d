use Rattle.std.proofs.Common.{length, ◌∙◌, ap, arith}
use Rattle.si_keyed.specs.Halves.{sum_of}
use Rattle.si_keyed.proofs.HalfLaws.{total_ones}
use Rattle.si_keyed.proofs.PutLaws.{ones_length}
use Rattle.si_keyed.proofs.SumLaws.{leaves_room}
use Rattle.si_keyed.proofs.ranks.Ranks.refill.Goals as goal

pub settle-requires-clause-room : goal.settle-requires-clause-room
settle-requires-clause-room c =
    leaves_room c.self.inside.counts.items c.as_slice.result.now c.self.inside.above c.self.invariant
    (omega (arith, ones_length _ _ (c.as_slice.ensures.value ∙ c.put_ones.ensures), c.requires, ap length c.self.view_is))

pub settle-requires-clause-small : goal.settle-requires-clause-small
settle-requires-clause-small c = omega (arith, ap sum_of (c.as_slice.ensures.value ∙ c.put_ones.ensures), total_ones c.args.places, c.ranges.places.fits)
