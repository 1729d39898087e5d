use Rattle.std.proofs.Common.{◌≡◌, ◌++◌, drop}
use Rattle.si_tree.specs.Renumbers.{visits}
use Rattle.si_tree.proofs.renumber.stack.Given as goal

abbrev pub invariant-loop-child : goal.invariant-loop-child
invariant-loop-child l = l.left.items ++ visits l.opened (drop l.child-index l.children) ≡ l.fn.left.items ++ visits l.opened l.children
