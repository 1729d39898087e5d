use Rattle.std.proofs.lemmas.Option.{IfSome_then}
use Rattle.std.proofs.Common.{arith}
use Rattle.si_tree.proofs.ChildLaws.{none_weaker}
use Rattle.si_descend.proofs.AttemptLaws.{head_here, none_here, here_has_head}
use Rattle.si_descend.proofs.attempts.child_by_head.Goals as goal

pub head_at-requires : goal.head_at-requires
head_at-requires c = omega (arith, c.requires.attempts.places, c.requires.within)

pub returns-in_default-clause-none : goal.returns-in_default-clause-none
returns-in_default-clause-none c child tried =
    absurd (none_here c.args.search.now c.args.node c.args.heads c.args.place c.head_at.result c.head_at.ensures child c.in_default.is tried)

pub child-requires : goal.child-requires
child-requires c = c.requires.node

pub returns-clause-some : goal.returns-clause-some
returns-clause-some c =
    IfSome_then c.child.result c.child.ensures.some (λ child by. head_here c.args.search.now c.args.node c.args.heads c.args.place c.head_at.result c.head_at.ensures c.in-Some.head child c.in-Some.is by)

pub returns-clause-none : goal.returns-clause-none
returns-clause-none c =
    none_weaker c.child.result (λ none child tried. absurd (none child (here_has_head c.args.search.now c.args.node c.args.heads c.args.place c.head_at.result c.head_at.ensures c.in-Some.head child c.in-Some.is tried))) c.child.ensures.none
