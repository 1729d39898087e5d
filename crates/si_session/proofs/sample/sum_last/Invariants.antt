use Rattle.std.proofs.Common.{◌-◌, length, drop}
use Rattle.si_defs.specs.Entries.{state_entries}
use Rattle.si_session.specs.Sums.{SumsTo}
use Rattle.si_session.proofs.sample.sum_last.Given as goal

abbrev pub invariant-loop-at : goal.invariant-loop-at
invariant-loop-at l =
    let cs = l.index.clauses in
    SumsTo (state_entries cs) (state_entries (drop (length cs - l.count) cs)) (state_entries (drop l.at cs)) l.sum
