use Rattle.std.proofs.Common.{◌≡◌, ◌-◌, ◌++◌, take, drop}
use Rattle.si_mscg.specs.Generalising.{respanned}
use Rattle.si_mscg.proofs.spans.set_spans.Given as goal

abbrev pub invariant-loop-done : goal.invariant-loop-done
invariant-loop-done l =
    l.cells.items ≡ take (l.count - l.done) l.fn.cells.items ++ respanned (drop (l.count - l.done) l.fn.cells.items)
