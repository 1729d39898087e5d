use Rattle.std.proofs.Common.{sym, subst}
use Rattle.si_term.proofs.Results.{on_err}
use Rattle.si_tree.specs.KeptNodes.{tree_of, IsKept}
use Rattle.si_tree.specs.Renumbers.{Renumbers}
use Rattle.si_tree.proofs.RenumberSteps.{renumbered_inside, kept_still, are_keys, kept_then, renumbers}
use Rattle.si_tree.proofs.tree.Tree.renumber.Goals as goal

pub invariant_of-self : goal.invariant_of-self
invariant_of-self c = kept_still c.self.inside c.self.inside.next c.self.invariant

pub returns-in_err-nodes-clause-err : goal.returns-in_err-nodes-clause-err
returns-in_err-nodes-clause-err c = on_err _ c.self.view_is

pub exchange-requires : goal.exchange-requires
exchange-requires c = are_keys c.self.inside c.self.invariant c.in_ok-nodes.field-0 c.in_ok-nodes.ensures

pub invariant_of-self-2 : goal.invariant_of-self-2
invariant_of-self-2 c =
    subst (λ nodes. IsKept (record (renumbered_inside c.self.inside c.in_ok-nodes.field-0) { nodes = nodes; renumbered_next = c.max-self-inside.result }))
    (sym c.exchange.ensures)
    (kept_still (renumbered_inside c.self.inside c.in_ok-nodes.field-0) c.max-self-inside.result (kept_then c.self.inside c.self.invariant c.in_ok-nodes.field-0 c.in_ok-nodes.ensures))

pub returns-clause-ok : goal.returns-clause-ok
returns-clause-ok c =
    subst (λ nodes. Renumbers c.args.self.now (tree_of (record (renumbered_inside c.self.inside c.in_ok-nodes.field-0) { nodes = nodes })))
    (sym c.exchange.ensures)
    (subst (λ t. Renumbers t (tree_of (renumbered_inside c.self.inside c.in_ok-nodes.field-0))) c.self.view_is (renumbers c.self.inside c.self.invariant c.in_ok-nodes.field-0 c.in_ok-nodes.ensures))
