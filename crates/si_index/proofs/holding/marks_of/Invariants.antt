use Rattle.std.proofs.Common.{◌≡◌, length, take}
use Rattle.si_index.specs.Holding.{MarksAll}
use Rattle.si_index.proofs.holding.marks_of.Given as goal

-- each slot has a mark, and those of the postings before this one are marked
abbrev pub invariant-loop-i : goal.invariant-loop-i
invariant-loop-i l = (length l.marks.items ≡ l.slots) × MarksAll l.places (take l.i l.postings) l.marks.items
