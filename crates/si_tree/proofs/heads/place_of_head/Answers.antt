use Rattle.std.proofs.Common.{inl, inr, sym, ◌∙◌, subst}
use Rattle.std.proofs.lemmas.List.{take_more}
use Rattle.si_defs.specs.Substitutions.{IsAmong}
use Rattle.si_defs.proofs.ListLaws.{among_either}
use Rattle.si_tree.proofs.HeadPlaces.{not_equal}
use Rattle.si_tree.proofs.heads.place_of_head.Goals as goal

pub loop-place-preserved : goal.loop-place-preserved
loop-place-preserved c among =
    elim (among_either _ _ _ (subst (λ hs. IsAmong hs c.args.head) (take_more c.args.heads.now c.loop-place.place _ c.loop-place-test.true) among)) [
      | inl before ↦ c.loop-place.invariant before
      | inr same ↦ absurd (not_equal _ _ same (sym c.eq.ensures ∙ c.if-eq.false))
    ]
