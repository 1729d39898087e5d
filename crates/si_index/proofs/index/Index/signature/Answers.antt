use Rattle.std.proofs.Common.{subst}
use Rattle.si_defs.specs.Symbols.{IsNumbering}
use Rattle.si_index.specs.Kept.{Kept}
use Rattle.si_index.proofs.index.Index.signature.Goals as goal

pub returns-clause-numbering : goal.returns-clause-numbering
returns-clause-numbering c = subst (λ (k : Kept). IsNumbering k.numbers) c.self.view_is c.self.invariant.0.registered.signature.numbered
