-- What a fork has, as its model tells it.
use Rattle.std.specs.Prelude.{ℕ, List}
use Rattle.si_tree.specs.declared.node.Head.{Head}

-- the split, the heads, and the children
abbrev pub Forked : Type 0
Forked = ℕ × List Head × List ℕ

abbrev pub fork_split : Forked → ℕ
fork_split f = f.0

abbrev pub fork_heads : Forked → List Head
fork_heads f = f.1

abbrev pub fork_children : Forked → List ℕ
fork_children f = f.2
