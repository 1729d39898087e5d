-- What is gathered in memory that is kept, and how much fits in it.
use Rattle.std.specs.Prelude.{ℕ, ◌+◌, ◌≤◌, List, length}
use Rattle.si_defs.specs.Bytes.{Bytes}

-- names, and how many more fit
pub record GatheredNames : Type 0 where
  pub items : List Bytes
  pub spare : ℕ

-- how many fit in all
abbrev pub names_room : GatheredNames → ℕ
names_room n = length n.items + n.spare

-- how many cells, names of variables, and symbols outside a table fit
pub record Room : Type 0 where
  pub cells : ℕ
  pub names : ℕ
  pub symbols : ℕ

-- as much fits as before
pub record IsNoLess (old new : Room) : Type 0 where
  pub cells : old.cells ≤ new.cells
  pub names : old.names ≤ new.names
  pub symbols : old.symbols ≤ new.symbols
