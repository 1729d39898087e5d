use Rattle.std.proofs.Common.{◌≡◌, ◌<◌, IfSome, length, sym, ◌∙◌, ap, subst}
use Rattle.std.specs.List.{swap_remove}
use Rattle.std.proofs.lemmas.Option.{get_or_from_slice_get}
use Rattle.si_defs.proofs.ListLaws.{get_some}
use Rattle.si_tree.specs.HashedHeads.{heads_seen, AreVariablesBelow}
use Rattle.si_tree.proofs.HeadBounds.{below_less}
use Rattle.si_tree.proofs.hashed.HashedHeads.swap_remove.Goals as goal

pub invariant_of-self : goal.invariant_of-self
invariant_of-self c =
    let heads = c.self.inside.set.keys in
    let less = subst (λ hs. c.args.place < length hs) (sym (ap heads_seen c.self.view_is)) c.requires in
    let there = get_some heads c.args.place less in
    let gone = subst (λ r. IfSome r (λ h. c.swap_remove_index.new.self.keys ≡ swap_remove heads c.args.place h)) (c.swap_remove_index.ensures.key ∙ there.1) c.swap_remove_index.ensures.keys in (
      subst (AreVariablesBelow c.self.inside.vars) (sym gone)
          (below_less c.self.inside.vars c.args.place heads there.0 less (sym (get_or_from_slice_get heads c.args.place there.0 there.0 there.1)) c.self.invariant.0),
      c.self.invariant.1,
    )
