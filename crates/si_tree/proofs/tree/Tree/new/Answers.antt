use Rattle.std.proofs.Common.{refl, arith}
use Rattle.si_tree.specs.declared.tree.Tree.TheInside.{Inside}
use Rattle.si_tree.proofs.NewLaws.{IsFirst, alone, new_kept}
use Rattle.si_tree.proofs.tree.Tree.new.Goals as goal

abbrev made : goal.After-insert_reserved-root → Inside
made c = record { alloc = c.args.alloc; nodes = c.insert_reserved-root.new.self; root = c.insert_reserved-root.result; next = 1; vars = 0; leaves = 0; unmerged = 0; renumbered_next = 1 }

is_first : (c : goal.After-insert_reserved-root) → IsFirst (made c) c.in_ok-node.node
is_first c = record {
  old = c.in_ok-nodes.nodes;
  empty = c.in_ok-nodes.ensures.empty;
  updates = c.insert_reserved-root.ensures.updates;
  parent = c.in_ok-node.ensures.parent;
  bindings = c.in_ok-node.ensures.binds;
  content = c.in_ok-node.ensures.content;
  heads = c.in_ok-node.ensures.heads;
  next = refl;
  vars = refl;
  leaves = refl;
  unmerged = refl;
}

pub overflow_cast-result : goal.overflow_cast-result
overflow_cast-result c = omega (arith, c.insert_reserved-root.ensures.key, c.in_ok-nodes.ensures.first_key)

pub invariant_of-result : goal.invariant_of-result
invariant_of-result c = new_kept _ _ (is_first c)

pub returns : goal.returns
returns c = alone _ _ (is_first c)
