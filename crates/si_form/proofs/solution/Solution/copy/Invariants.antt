use Rattle.std.proofs.Common.{◌≡◌, take}
use Rattle.si_form.proofs.solution.Solution.copy.Given as goal

-- the bindings before this one were copied
abbrev pub invariant-loop-binding : goal.invariant-loop-binding
invariant-loop-binding l = l.copy ≡ take l.binding-index l.fn.self
