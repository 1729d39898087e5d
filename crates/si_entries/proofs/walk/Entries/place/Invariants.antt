use Rattle.std.proofs.Common.{◌≡◌, take}
use Rattle.si_entries.specs.Walks.{numbers}
use Rattle.si_entries.proofs.walk.Entries.place.Given as goal

abbrev pub invariant-loop-row : goal.invariant-loop-row
invariant-loop-row l = l.path ≡ numbers (take l.row-index l.self.around.items)
