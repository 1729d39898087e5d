use Rattle.std.proofs.Common.{map, take}
use Rattle.si_state.specs.Acceptance.{IsTaken}
use Rattle.si_term.specs.Meaning.{clause_of, name_of}
use Rattle.si_sign.proofs.plain.position.Given as goal

abbrev pub invariant-loop-i : goal.invariant-loop-i
invariant-loop-i l = IsTaken (map clause_of (take l.i l.clauses)) (name_of l.name) → ⊥
