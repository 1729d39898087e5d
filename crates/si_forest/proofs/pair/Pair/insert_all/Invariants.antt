use Rattle.std.proofs.Common.{◌≡◌, ◌-◌, length}
use Rattle.std.specs.Prelude.{vec_capacity}
use Rattle.si_term.specs.Meaning.{clause_of}
use Rattle.si_term.specs.Walks.{entries_alone}
use Rattle.si_forest.specs.Pairs.{two_of}
use Rattle.si_forest.proofs.UnderwayLaws.{IsUnderway}
use Rattle.si_forest.proofs.pair.Pair.insert_all.Given as goal

abbrev pub invariant-loop-entries : goal.invariant-loop-entries
invariant-loop-entries g l =
    IsUnderway (g.T.SymTable.pairs l.table) l.key (entries_alone (clause_of l.clause).literals) l.entries l.locations.items (two_of l.fn.self) (two_of l.self)
    × (vec_capacity l.locations ≡ vec_capacity l.fn.locations)

abbrev pub decreases-loop-entries : goal.decreases-loop-entries
decreases-loop-entries g l = length (entries_alone (clause_of l.clause).literals) - length l.locations.items
