use Rattle.std.proofs.Common.{◌≡◌, ◌≤◌, ◌-◌, length, drop}
use Rattle.si_entries.specs.FlatWalks.{from_symbol}
use Rattle.si_entries.proofs.flat.next_symbol.Given as goal

-- no symbol was passed
abbrev pub invariant-loop-at : goal.invariant-loop-at
invariant-loop-at l = (l.at ≤ length l.cells) × (from_symbol (drop l.at l.cells) ≡ from_symbol (drop l.fn.from l.cells))

abbrev pub decreases-loop-at : goal.decreases-loop-at
decreases-loop-at l = length l.cells - l.at
