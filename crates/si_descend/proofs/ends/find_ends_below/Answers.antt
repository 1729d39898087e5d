use Rattle.std.proofs.Common.{sym}
use Rattle.si_descend.proofs.Entering.{rows_in_range}
use Rattle.si_descend.proofs.EndTurns.{down_starts, down_more, down_at_leaf}
use Rattle.si_descend.proofs.Walking.{child_at}
use Rattle.si_descend.proofs.ends.find_ends_below.Goals as goal

pub loop-init : goal.loop-init
loop-init c = down_starts c.args.search.now.slots c.args.trail.now.pairs c.args.search.now.tree.now c.args.node c.args.ends.now c.requires.none c.requires.node

pub returns-then-is_none : goal.returns-then-is_none
returns-then-is_none c t = (
  c.loop.invariant.ns,
  down_at_leaf c.args.search.now.slots c.args.trail.now.pairs c.args.search.now.tree.now c.args.node c.requires.ready.legal c.loop.at c.loop.ends c.split.result c.loop.invariant c.split.ensures c.if-is_none.ensures,
  c.loop.invariant.are,
)

pub bindings-requires : goal.bindings-requires
bindings-requires c =
    let at = c.loop.invariant.is_node in
    let is = child_at c.args.search.now c.requires.ready c.loop.at at.0 at.1 c.children.result.now (c.children.ensures at.0 at.1) 0 c.in-Some.child.now (sym c.in-Some.ensures.value) in
    (is.0, is.1)

pub add_ends-requires-clause-range : goal.add_ends-requires-clause-range
add_ends-requires-clause-range c =
    let at = c.loop.invariant.is_node in
    let is = child_at c.args.search.now c.requires.ready c.loop.at at.0 at.1 c.children.result.now (c.children.ensures at.0 at.1) 0 c.in-Some.child.now (sym c.in-Some.ensures.value) in
    rows_in_range c.args.search.now.slots c.bindings.result.now is.0.bindings (c.bindings.ensures is.0 is.1) (c.requires.ready.room.nodes c.in-Some.child.now is.0 is.1)

pub loop-preserved : goal.loop-preserved
loop-preserved c =
    let at = c.loop.invariant.is_node in
    let is = child_at c.args.search.now c.requires.ready c.loop.at at.0 at.1 c.children.result.now (c.children.ensures at.0 at.1) 0 c.in-Some.child.now (sym c.in-Some.ensures.value) in
    down_more c.args.search.now.slots c.args.trail.now.pairs c.args.search.now.tree.now c.args.node c.requires.ready.legal c.loop.at c.in-Some.child.now c.loop.ends c.add_ends.new.ends c.bindings.result.now c.loop.invariant is (c.bindings.ensures is.0 is.1) (c.add_ends.ensures c.if-not-add_ends.false)
