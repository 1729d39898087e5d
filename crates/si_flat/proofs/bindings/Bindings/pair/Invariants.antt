use Rattle.std.proofs.Common.{◌≡◌, drop}
use Rattle.si_flat.proofs.bindings.Bindings.pair.Given as goal

abbrev pub invariant-loop : goal.invariant-loop
invariant-loop l = l.left ≡ drop l.counter l.self
