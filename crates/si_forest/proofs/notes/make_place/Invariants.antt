use Rattle.std.proofs.Common.{◌≡◌, ℕ, ◌+◌, ◌-◌, length}
use Rattle.si_forest.specs.Notes.{keyed_span}
use Rattle.si_forest.proofs.notes.make_place.Given as goal

abbrev pub invariant-loop-spans : goal.invariant-loop-spans
invariant-loop-spans l = (other : ℕ) → keyed_span l.spans.items other ≡ keyed_span l.fn.spans.items other

abbrev pub decreases-loop-spans : goal.decreases-loop-spans
decreases-loop-spans l = l.key + 1 - length l.spans.items
