use Rattle.std.proofs.Common.{[], ◌∷◌, ◌++◌, if◌then◌else◌, ◌∙◌, ap, arith}
use Rattle.std.specs.Prelude.{is_ok}
use Rattle.si_keyed.proofs.PutLaws.{put_none, put_next, put_room, put_all}
use Rattle.si_keyed.proofs.ranks.put_halves.Goals as goal

pub loop-sum-init : goal.loop-sum-init
loop-sum-init c = put_none c.args.counts.now _ _ _ c.clear.ensures.items (omega (arith, c.clear.ensures.capacity))

pub next_sum-requires : goal.next_sum-requires
next_sum-requires c = omega (arith, c.loop-sum.invariant.small, c.requires.small)

pub unwrap-requires : goal.unwrap-requires
unwrap-requires c =
    c.push.ensures.succeeds
    (omega (arith, c.loop-sum.sums.ok, put_room _ _ _ c.in-Some.others.now _ _ _ c.loop-sum.invariant c.in-Some.ensures.some c.requires.room))

pub loop-sum-smaller : goal.loop-sum-smaller
loop-sum-smaller c = c.in-Some.ensures.fewer

pub loop-sum-preserved : goal.loop-sum-preserved
loop-sum-preserved c =
    put_next
    _ _ _ _ _ _ _ _ _
    c.loop-sum.invariant
    c.in-Some.ensures.some
    c.in-Some.ensures.small
    (c.push.ensures.items ∙ ap (λ r. if is_ok r then c.loop-sum.sums.items ++ c.in-Some.sum ∷ [] else c.loop-sum.sums.items) c.unwrap.ensures)
    c.push.ensures.capacity

pub returns : goal.returns
returns c = put_all _ _ _ _ _ c.loop-sum.invariant c.in_default.ensures.none
