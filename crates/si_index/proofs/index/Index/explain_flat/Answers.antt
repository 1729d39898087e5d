use Rattle.std.proofs.Common.{◌∙◌, ap, subst, arith}
use Rattle.si_legal.specs.Counts.{node_count}
use Rattle.si_held.specs.TwoTrees.{tree_for}
use Rattle.si_descend.specs.Counting.{CountsAnswers}
use Rattle.si_index.proofs.StandingLaws.{is_orderly}
use Rattle.si_index.proofs.CountLaws.{explained}
use Rattle.si_index.proofs.index.Index.explain_flat.Goals as goal

pub returns : goal.returns
returns c p h =
    let k = c.args.self.now in
    let literal = c.args.literal in
    let orderly =
    is_orderly k c.signature.result.now c.stats.ensures.keyed c.stats.ensures.numbering c.signature.ensures.numbers c.signature.ensures.signature c.stats.ensures.stored.sound in
    explained k c.args.relation p c.args.query.now literal c.in_ok-counted.counted c.counts.result.nodes orderly h.sound c.trees-trees.ensures.hold
    (omega (arith, c.stats.ensures.stored.few, c.stats.ensures.small)) h.flat h.asks
    (subst (λ trees. CountsAnswers (tree_for literal trees) c.args.relation c.args.query.now.flat c.in_ok-counted.counted) c.trees-trees.ensures.trees c.in_ok-counted.ensures)
    (ap (λ counts. counts.nodes) c.counts.ensures ∙ ap node_count c.tree.ensures.tree ∙ ap (λ trees. node_count (tree_for literal trees)) c.trees-trees.ensures.trees)
