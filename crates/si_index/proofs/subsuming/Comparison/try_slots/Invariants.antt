use Rattle.std.proofs.Common.{List, [], drop, map}
use Rattle.si_term.specs.Meaning.{literal_of}
use Rattle.si_index.specs.Subsuming.{IsMapIn, TriesSlots}
use Rattle.si_index.specs.declared.subsuming.Mapped.{Mapped}
use Rattle.si_index.proofs.subsuming.Comparison.try_slots.Given as goal

-- what the slots that are left come to, all come to
abbrev pub invariant-loop-i : goal.invariant-loop-i
invariant-loop-i l =
    (new : List Mapped)
    → TriesSlots (IsMapIn l.self.direction (map literal_of l.self.formula.now)) l.places (drop l.i l.slots) l.mappeds new
    → TriesSlots (IsMapIn l.self.direction (map literal_of l.self.formula.now)) l.places l.slots [] new
