use Rattle.std.proofs.Common.{arith}
use Rattle.std.proofs.lemmas.Result.{IfOk-weaker}
use Rattle.si_unify.proofs.Chains.{head_inside, head_is}
use Rattle.si_unify.proofs.Meeting.{apart_at, symbols_told}
use Rattle.si_unify.proofs.Comparing.{compared_met}
use Rattle.si_unify.proofs.Answering.{left_subterm, right_subterm, met_at}
use Rattle.si_unify.proofs.unifier.Unifier.meet_terms.Goals as goal

pub bounds-left-0 : goal.bounds-left-0
bounds-left-0 c = head_inside _ _ _ (left_subterm _ _ _ c.count-count.ensures.count c.requires.underway.legal)

pub bounds-right-0 : goal.bounds-right-0
bounds-right-0 c = head_inside _ _ _ (right_subterm _ _ _ c.count-count.ensures.count c.requires.underway.legal)

pub compare-requires-clause-apart : goal.compare-requires-clause-apart
compare-requires-clause-apart c =
    let left = left_subterm _ _ _ c.count-count.ensures.count c.requires.underway.legal in
    let right = right_subterm _ _ _ c.count-count.ensures.count c.requires.underway.legal in
    apart_at _ _ _ _ (left.term, left.stands) (right.term, right.stands)
    (symbols_told _ _ _ _ _ (head_is _ _ _ left) (head_is _ _ _ right) c.if-have_same_symbol.ensures)

pub compare-requires-clause-left : goal.compare-requires-clause-left
compare-requires-clause-left c = left_subterm _ _ _ c.count-count.ensures.count c.requires.underway.legal

pub compare-requires-clause-right : goal.compare-requires-clause-right
compare-requires-clause-right c = right_subterm _ _ _ c.count-count.ensures.count c.requires.underway.legal

pub compare-requires-clause-left_small : goal.compare-requires-clause-left_small
compare-requires-clause-left_small c = omega (arith, c.requires.left_small)

pub compare-requires-clause-right_small : goal.compare-requires-clause-right_small
compare-requires-clause-right_small c = omega (arith, c.requires.right_small)

pub returns-then-have_same_symbol-clause-met : goal.returns-then-have_same_symbol-clause-met
returns-then-have_same_symbol-clause-met c =
    IfOk-weaker c.compare.result _ _
    (λ b h. met_at _ _ _ _ _ _ b c.count-count.ensures.count (compared_met _ _ _ _ _ _ b c.requires.none h))
    c.compare.ensures.compared

pub meet-requires-clause-left : goal.meet-requires-clause-left
meet-requires-clause-left c = left_subterm _ _ _ c.count-count.ensures.count c.requires.underway.legal

pub meet-requires-clause-right : goal.meet-requires-clause-right
meet-requires-clause-right c = right_subterm _ _ _ c.count-count.ensures.count c.requires.underway.legal

pub returns-clause-met : goal.returns-clause-met
returns-clause-met c = IfOk-weaker c.meet.result _ _ (λ b h. met_at _ _ _ _ _ _ b c.count-count.ensures.count h) c.meet.ensures.met
