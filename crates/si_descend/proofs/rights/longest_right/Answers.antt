use Rattle.std.proofs.Common.{[], ◌∷◌, ◌++◌, ap, ◌∙◌, arith}
use Rattle.std.proofs.lemmas.List.{nil_from_length}
use Rattle.si_descend.proofs.LongestLaws.{measuring_starts, measuring_more, measuring_ends, measuring_full, next_node}
use Rattle.si_descend.proofs.rights.longest_right.Goals as goal

pub loop-init : goal.loop-init
loop-init c =
    measuring_starts c.args.tree.now c.root.ensures.legal c.root.result 0 c.push.new.self.items c.root.ensures.root (c.in_ok-push.ensures.items ∙ ap (λ l. l ++ c.root.result ∷ []) c.new-left.ensures.items)

pub bindings-requires : goal.bindings-requires
bindings-requires c = next_node c.args.tree.now c.pop.new.self.items c.loop.left.items c.in-Some.node c.loop.counter c.loop.longest c.in-Some.ensures.items c.loop.invariant

pub push_children-requires : goal.push_children-requires
push_children-requires c = next_node c.args.tree.now c.pop.new.self.items c.loop.left.items c.in-Some.node c.loop.counter c.loop.longest c.in-Some.ensures.items c.loop.invariant

pub loop-preserved : goal.loop-preserved
loop-preserved c =
    let node = next_node c.args.tree.now c.pop.new.self.items c.loop.left.items c.in-Some.node c.loop.counter c.loop.longest c.in-Some.ensures.items c.loop.invariant in
    measuring_more c.args.tree.now c.root.ensures.legal c.pop.new.self.items c.loop.left.items c.push_children.new.left.items c.in-Some.node c.loop.counter c.longest_of-own.result c.loop.longest c.max-longest.result c.bindings.result.now node.0 node.1 c.in-Some.ensures.items (c.in_ok-push_children.ensures node.0 node.1) (c.bindings.ensures node.0 node.1) c.longest_of-own.ensures c.max-longest.ensures c.loop.invariant

pub returns-in_default : goal.returns-in_default
returns-in_default c =
    measuring_ends c.args.tree.now c.root.ensures.legal c.loop.left.items c.loop.counter c.loop.longest (nil_from_length c.loop.left.items (omega (arith, c.in_default.ensures.cases.0, c.loop.left.ok))) c.loop.invariant

pub returns : goal.returns
returns c =
    measuring_full c.args.tree.now c.root.ensures.legal c.loop.left.items c.loop.counter c.loop.longest (omega (arith, c.loop-test.false, ap (λ k. k.nodes) c.counts-end.ensures)) c.loop.invariant
