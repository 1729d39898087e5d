use Rattle.std.proofs.Common.{drop, map}
use Rattle.si_defs.specs.Entries.{entries, placed_in, state_entries}
use Rattle.si_term.specs.Meaning.{clause_of}
use Rattle.si_session.specs.Sums.{SumsTo}
use Rattle.si_session.proofs.sample.sum_clause.Given as goal

abbrev pub invariant-loop-number : goal.invariant-loop-number
invariant-loop-number l =
    let whole = map (placed_in (clause_of l.clause)) (entries (clause_of l.clause)) in
    SumsTo (state_entries l.index.clauses) whole (drop l.number whole) l.sum
