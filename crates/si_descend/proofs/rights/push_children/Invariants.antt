use Rattle.std.proofs.Common.{◌≡◌, ◌++◌, take}
use Rattle.si_descend.proofs.rights.push_children.Given as goal

abbrev pub invariant-loop-child : goal.invariant-loop-child
invariant-loop-child l = l.left.items ≡ l.fn.left.items ++ take l.child-index l.child-items
