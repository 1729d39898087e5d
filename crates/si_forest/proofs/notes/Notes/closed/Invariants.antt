use Rattle.std.proofs.Common.{◌≡◌, length}
use Rattle.si_forest.proofs.NoteLaws.{AreWritten}
use Rattle.si_forest.proofs.notes.Notes.closed.Given as goal

abbrev pub invariant-loop-key : goal.invariant-loop-key
invariant-loop-key l = AreWritten l.self.locations.items l.self.spans.items l.locations.items l.spans.items × (length l.spans.items ≡ l.key)
