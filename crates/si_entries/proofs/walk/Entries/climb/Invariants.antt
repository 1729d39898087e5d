use Rattle.std.proofs.Common.{◌≡◌, ◌≤◌, length}
use Rattle.si_entries.specs.Walks.{IsSmall, HasSameLiterals, left_in_literal, weight}
use Rattle.si_entries.proofs.walk.Entries.climb.Given as goal

-- nothing that is left was lost
abbrev pub invariant-loop-self : goal.invariant-loop-self
invariant-loop-self l =
    IsSmall l.self × HasSameLiterals l.fn.self l.self × (left_in_literal l.self ≡ left_in_literal l.fn.self) × (weight l.self ≤ weight l.fn.self)

abbrev pub decreases-loop-self : goal.decreases-loop-self
decreases-loop-self l = length l.self.around.items
