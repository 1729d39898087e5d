use Rattle.std.proofs.Common.{sym, subst}
use Rattle.si_descend.specs.Heads.{SplitsBy}
use Rattle.si_descend.proofs.AttemptLaws.{all_in_order, by_heads}
use Rattle.si_descend.proofs.attempts.attempts_at.Goals as goal

pub children-children-requires : goal.children-children-requires
children-children-requires c = c.requires.node

pub returns-then-children-le-FEW_CHILDREN-clause-attempts : goal.returns-then-children-le-FEW_CHILDREN-clause-attempts
returns-then-children-le-FEW_CHILDREN-clause-attempts c = all_in_order c.args.search.now c.requires.ready c.args.node c.requires.node.0 c.requires.node.1 c.children-children.result c.heads-heads.result c.args.wanted c.children-children.ensures c.heads-heads.ensures c.requires.splits

pub returns-in_default-clause-attempts : goal.returns-in_default-clause-attempts
returns-in_default-clause-attempts c = all_in_order c.args.search.now c.requires.ready c.args.node c.requires.node.0 c.requires.node.1 c.children-children.result c.heads-heads.result c.args.wanted c.children-children.ensures c.heads-heads.ensures c.requires.splits

pub returns-in_default-heads_for-clause-attempts : goal.returns-in_default-heads_for-clause-attempts
returns-in_default-heads_for-clause-attempts c = all_in_order c.args.search.now c.requires.ready c.args.node c.requires.node.0 c.requires.node.1 c.children-children.result c.heads-heads.result c.args.wanted c.children-children.ensures c.heads-heads.ensures c.requires.splits

pub returns-then-children-end-clause-attempts : goal.returns-then-children-end-clause-attempts
returns-then-children-end-clause-attempts c = all_in_order c.args.search.now c.requires.ready c.args.node c.requires.node.0 c.requires.node.1 c.children-children.result c.heads-heads.result c.args.wanted c.children-children.ensures c.heads-heads.ensures c.requires.splits

pub returns-clause-wanted : goal.returns-clause-wanted
returns-clause-wanted c = sym c.in-Some.is

pub returns-clause-attempts : goal.returns-clause-attempts
returns-clause-attempts c =
    by_heads c.args.search.now c.requires.ready c.args.node c.requires.node.0 c.requires.node.1 c.in-Some.asked c.head_vars-vars.result c.in-Some-heads_for.end c.head_vars-vars.ensures.few c.head_vars-vars.ensures.below (subst (SplitsBy c.args.search.now c.args.node) c.in-Some.is c.requires.splits) c.in-Some-heads_for.ensures
