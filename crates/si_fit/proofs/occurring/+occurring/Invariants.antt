use Rattle.std.proofs.Common.{◌+◌, ◌*◌, ◌≤◌, take}
use Rattle.si_fit.specs.Occurring.{Avoids}
use Rattle.si_fit.proofs.occurring.+occurring.Given as goal

abbrev pub decreases-search_deep : goal.decreases-search_deep
decreases-search_deep l = 2 * l.budget.now + 1

abbrev pub decreases-search_cell : goal.decreases-search_cell
decreases-search_cell l = 2 * l.budget.now

pub record Invariant (ahead few : Type 0) : Type 0 where
  pub avoids : ahead
  pub fewer : few

abbrev pub invariant-search_deep-loop-cell : goal.invariant-search_deep-loop-cell
invariant-search_deep-loop-cell l =
    Invariant (Avoids l.slots l.trail.pairs l.slot (take l.cell-index l.cells)) (l.budget ≤ l.fn.budget)
