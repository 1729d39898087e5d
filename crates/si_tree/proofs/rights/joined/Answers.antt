use Rattle.std.proofs.Common.{◌++◌, sym, ◌∙◌, ap, subst}
use Rattle.si_defs.specs.Substitutions.{IsAmong}
use Rattle.si_flat.specs.Rows.{left_sides}
use Rattle.si_tree.proofs.RightLaws.{next_unbound}
use Rattle.si_tree.proofs.rights.joined.Goals as goal

pub push-requires-clause-new : goal.push-requires-clause-new
push-requires-clause-new c among =
    next_unbound c.loop-pair.both c.next.new.self (c.args.first ++ c.args.second.now) c.in-Some.pair
    (sym (ap (λ bs. c.loop-pair.both ++ bs) c.in-Some.ensures.steps) ∙ c.loop-pair.invariant) c.requires
    (subst (IsAmong (left_sides c.loop-pair.both)) c.left.ensures among)
