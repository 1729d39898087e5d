use Rattle.std.proofs.Common.{◌≡◌, suc, ◌<◌, ◌+◌, length, take, subst, arith}
use Rattle.std.specs.List.{AllByRecursion}
use Rattle.si_subsume.specs.Parts.{BelongToParts, owner_in}
use Rattle.si_subsume.proofs.PartLaws.{apart_more, all_taken_more}
use Rattle.si_subsume.proofs.parts.are_parts.Goals as goal

pub loop-i-preserved : goal.loop-i-preserved
loop-i-preserved c =
    let next : suc c.loop-i.i ≡ c.loop-i.i + 1 = omega arith in
    let owner = owner_in c.args.owners.now c.args.labels.now in
    subst (λ n. BelongToParts c.args.slots.now owner (take n c.args.labels.now) (take n c.args.literals.now) × AllByRecursion (λ k. k < length c.args.literals.now) (take n c.args.labels.now)) next (
      apart_more c.args.slots.now owner c.args.labels.now c.args.literals.now _ _ c.loop-i.i c.requires c.loop-i-test.true c.loop-i.invariant.0 (c.all_belong.ensures.0 c.if-not-all_belong.false),
      all_taken_more (λ k. k < length c.args.literals.now) c.args.labels.now _ c.loop-i.i (omega (arith, c.loop-i-test.true, c.requires)) c.loop-i.invariant.1 c.if-literals-label.false,
    )
