-- The order in which entries are sorted.
use Rattle.std.proofs.Common.{Ordering, nat_cmp}
use Rattle.std.specs.Prelude.{List}
use Rattle.std.specs.List.Sorted.{IsSorted}
use Rattle.std.specs.Ordering.{ordering_then}
use Rattle.si_index.specs.declared.wanted.Wanted.{Wanted}

abbrev pub compares : Wanted → Wanted → Ordering
compares a b =
    ordering_then (nat_cmp a.slot b.slot)
    (ordering_then (nat_cmp a.entry b.entry) (nat_cmp a.leaf b.leaf))

abbrev pub AreSorted : List Wanted → Type 0
AreSorted ws = IsSorted compares ws
