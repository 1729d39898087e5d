use Rattle.std.proofs.lemmas.Result.{IfOk-weaker}
use Rattle.si_unify.proofs.Comparing.{end_of, met_through}
use Rattle.si_unify.proofs.unifier.Unifier.meet.Goals as goal

pub meet_ends-requires-clause-left_end : goal.meet_ends-requires-clause-left_end
meet_ends-requires-clause-left_end c = end_of _ _ _ _ (c.requires.left.term, c.requires.left.stands) c.follow-left_end.ensures.comes

pub meet_ends-requires-clause-right_end : goal.meet_ends-requires-clause-right_end
meet_ends-requires-clause-right_end c = end_of _ _ _ _ (c.requires.right.term, c.requires.right.stands) c.follow-right_end.ensures.comes

pub returns-clause-met : goal.returns-clause-met
returns-clause-met c =
    IfOk-weaker c.meet_ends.result _ _
    (λ b h. met_through _ _ _ _ _ _ _ _ _ b c.follow-left_end.ensures.comes c.follow-right_end.ensures.comes h)
    c.meet_ends.ensures.met
