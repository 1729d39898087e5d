-- The heads of a node's children as they are kept.
use Rattle.std.specs.Prelude.{◌<◌, List, length, vec_capacity}
use Rattle.si_tree.specs.declared.heads.Heads.{Heads}
use Rattle.si_tree.specs.declared.heads.Heads.TheVariants.{Few, Many}
use Rattle.si_tree.specs.declared.node.Head.{Head}
use Rattle.si_tree.specs.HashedHeads.{heads_seen, room_seen}

-- the heads, in order
abbrev pub heads_in : Heads → List Head
heads_in (Few heads) = heads.items
heads_in (Many heads) = heads_seen heads.value

-- there is room for one more
abbrev pub HasRoomForHead : Heads → Type 0
HasRoomForHead (Few heads) = length heads.items < vec_capacity heads
HasRoomForHead (Many heads) = 0 < room_seen heads.value
