-- Lists of clauses that are kept, and why a clause isn't.
use Rattle.std.specs.Prelude.{◌≡◌, ◌≤◌, List, [], length}
use Rattle.std.specs.List.{AllByRecursion}
use Rattle.si_defs.specs.Symbols.{Symbol}
use Rattle.si_defs.specs.Clauses.{Clause, IsSoundClause}
use Rattle.si_defs.specs.Entries.{state_entries, state_symbols}
use Rattle.si_state.specs.States.{Rules}
use Rattle.si_state.specs.Acceptance.{HasDistinctNames, AllAgree, Refuses, taken, misused, full}
use Rattle.si_sign.specs.Shapes.{HasShapes}
use Rattle.si_sign.specs.declared.faults.AddFault.{AddFault}
use Rattle.si_sign.specs.declared.faults.AddFault.TheVariants as add_fault

-- the names are distinct, each symbol has one side and one arity, each clause is sound, and there
-- are no more entries than the rules allow
pub record IsStored (rules : Rules) (clauses : List Clause) : Type 0 where
  pub distinct : HasDistinctNames clauses
  pub agree : AllAgree [] (state_symbols clauses)
  pub sound : AllByRecursion IsSoundClause clauses
  pub few : length (state_entries clauses) ≤ rules.entries

-- the clause is refused for this reason, or memory ran out
abbrev pub Rejects : Rules → List Clause → Clause → AddFault → Type 0
Rejects rules clauses clause add_fault.Taken = Refuses rules clauses clause taken
Rejects rules clauses clause (add_fault.Clash c) =
    (found : Symbol) × (kept : Symbol) × Refuses rules clauses clause (misused c.occurrence found kept)
    × HasShapes c found kept
Rejects rules clauses clause (add_fault.Full n most) =
    Refuses rules clauses clause (full n) × (most ≡ rules.entries)
Rejects rules clauses clause add_fault.Memory = Unit {0}
