-- A name is told by its kind and its text.
use Rattle.std.proofs.Common.{◌≡◌}
use Rattle.si_defs.specs.Clauses.{Name}

pub name_is : (m n : Name) → m.kind ≡ n.kind → m.text ≡ n.text → m ≡ n
name_is m n k t = λ i. record { kind = k i; text = t i }
