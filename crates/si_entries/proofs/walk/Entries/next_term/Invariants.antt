use Rattle.std.proofs.Common.{◌≡◌}
use Rattle.si_entries.specs.Walks.{IsSmall, HasSameLiterals, left_in_literal, weight}
use Rattle.si_entries.proofs.walk.Entries.next_term.Given as goal

-- only variables were passed
abbrev pub invariant-loop-term : goal.invariant-loop-term
invariant-loop-term l = IsSmall l.self × HasSameLiterals l.fn.self l.self × (left_in_literal l.self ≡ left_in_literal l.fn.self)

abbrev pub decreases-loop-term : goal.decreases-loop-term
decreases-loop-term l = weight l.self
