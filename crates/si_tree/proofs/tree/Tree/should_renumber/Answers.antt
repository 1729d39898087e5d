use Rattle.std.proofs.Common.{◌+◌, ◌<◌, sym, ◌∙◌, subst, arith}
use Rattle.std.proofs.lemmas.Bool.{ltb-true}
use Rattle.si_legal.specs.Counts.{node_count}
use Rattle.si_tree.proofs.CountLaws.{nodes_counted}
use Rattle.si_tree.proofs.tree.Tree.should_renumber.Goals as goal

pub returns : goal.returns
returns c due =
    let nodes = c.len.ensures ∙ sym (nodes_counted c.self.inside.nodes.slots) in
    subst (λ t. node_count t + 256 < t.next) c.self.view_is (omega (arith, nodes, c.saturating_add.ensures, ltb-true _ _ due))
