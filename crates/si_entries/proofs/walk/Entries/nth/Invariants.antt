use Rattle.std.proofs.Common.{◌≤◌}
use Rattle.si_entries.specs.Walks.{IsSmall, left_of}
use Rattle.si_entries.proofs.WalkLaws.{HasPassed}
use Rattle.si_entries.proofs.walk.Entries.nth.Given as goal

-- so many were passed
abbrev pub invariant-loop : goal.invariant-loop
invariant-loop l = IsSmall l.self × HasPassed l.counter (left_of l.fn.self) (left_of l.self) × (l.counter ≤ l.count)
