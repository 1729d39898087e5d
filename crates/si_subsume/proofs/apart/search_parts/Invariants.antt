use Rattle.std.proofs.Common.{◌≡◌, ℕ, ◌-◌, ◌<◌, ◌≤◌, [], length, drop}
use Rattle.si_state.specs.Subsumption.{IsLeast}
use Rattle.si_subsume.specs.Parts.{select, parts_from}
use Rattle.si_unify.specs.Solving.{AllowsSolving}
use Rattle.si_subsume.specs.Search.{CanEnd}
use Rattle.si_subsume.proofs.apart.search_parts.Given as goal

abbrev pub invariant-loop-label : goal.invariant-loop-label
invariant-loop-label l =
    (drop (length l.grouped - l.left) l.grouped ≡ parts_from l.chains l.label (length l.task.literals.now - l.label) l.task.literals.now)
    × (l.left ≤ length l.grouped)
    × AllowsSolving l.task.slots l.trail.pairs l.trail.slots
    × (l.trail.pairs ≡ [])
    × (length l.numbers.items ≡ length l.chains)
    × ((q : ℕ) → q < l.label → IsLeast (CanEnd l.task.slots l.task.targets.now [] (select l.chains q l.task.literals.now)) (select l.chains q l.numbers.items))
