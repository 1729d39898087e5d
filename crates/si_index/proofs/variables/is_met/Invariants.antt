use Rattle.std.specs.Prelude.{bytes_eq}
use Rattle.si_flat.proofs.NameLaws.{IsLeft}
use Rattle.si_index.proofs.variables.is_met.Given as goal

-- it isn't one of those before this one
abbrev pub invariant-loop-i : goal.invariant-loop-i
invariant-loop-i l = IsLeft (λ other. bytes_eq l.name other.now) l.met l.i
