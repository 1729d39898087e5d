use Rattle.std.proofs.Common.{sym, ◌∙◌, ap}
use Rattle.si_tree.specs.Reading.{counts_of}
use Rattle.si_tree.proofs.CountLaws.{nodes_counted}
use Rattle.si_tree.proofs.tree.Tree.counts.Goals as goal

pub returns : goal.returns
returns c =
    let nodes = c.len.ensures ∙ sym (nodes_counted c.self.inside.nodes.slots) in
    (λ i. record { nodes = nodes i; leaves = c.self.invariant.leaves i; unmerged = c.self.invariant.unmerged i })
    ∙ ap counts_of c.self.view_is
