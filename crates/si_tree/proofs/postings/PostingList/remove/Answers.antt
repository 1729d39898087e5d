use Rattle.std.proofs.Common.{subst, arith}
use Rattle.si_tree.specs.Slots.{HasPostingAt}
use Rattle.si_tree.proofs.StandingLaws.{one_fewer}
use Rattle.si_tree.proofs.postings.PostingList.remove.Goals as goal

pub invariant_of-self : goal.invariant_of-self
invariant_of-self c =
    let there = subst (λ ss. HasPostingAt ss c.place_of-place.result c.args.posting) c.as_slice-2.ensures.value c.place_of-place.ensures in
    omega (arith, c.self.invariant, one_fewer _ _ c.args.posting (c.empty.ensures c.args.posting there))
