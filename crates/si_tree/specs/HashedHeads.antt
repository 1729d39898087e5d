-- What hashed heads show, and variables among heads.
use Rattle.std.specs.Prelude.{ℕ, ◌<◌, List}
use Rattle.si_defs.specs.Substitutions.{IsAmong}
use Rattle.si_tree.specs.declared.node.Head.{Head}
use Rattle.si_tree.specs.declared.node.Head.TheVariants.{Var}

-- the heads, in order
abbrev pub heads_seen : List Head × ℕ → List Head
heads_seen h = h.0

-- for how many more there is room
abbrev pub room_seen : List Head × ℕ → ℕ
room_seen h = h.1

-- the number is above that of each variable among the heads
abbrev pub AreVariablesBelow : ℕ → List Head → Type 0
AreVariablesBelow bound heads = (number : ℕ) → IsAmong heads (Var number) → number < bound
