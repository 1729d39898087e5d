use Rattle.std.specs.Prelude.{bytes_eq}
use Rattle.si_flat.proofs.NameLaws.{IsLeft}
use Rattle.si_flat.proofs.names.place_among.Given as goal

abbrev pub invariant-loop-i : goal.invariant-loop-i
invariant-loop-i l = IsLeft (λ other. bytes_eq l.name other.now) l.names l.i
