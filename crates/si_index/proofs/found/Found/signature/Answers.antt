use Rattle.std.proofs.Common.{◌≡◌, subst}
use Rattle.si_defs.specs.Symbols.{IsNumbering}
use Rattle.si_state.specs.Signatures.{IsSignatureOf, numbering}
use Rattle.si_index.specs.Finding.{Finding}
use Rattle.si_index.proofs.found.Found.signature.Goals as goal

pub returns-clause-signature : goal.returns-clause-signature
returns-clause-signature c = subst (λ (f : Finding). IsSignatureOf f.index.clauses c.signature.result.now) c.self.view_is c.signature.ensures.signature

pub returns-clause-numbers : goal.returns-clause-numbers
returns-clause-numbers c = subst (λ (f : Finding). numbering c.signature.result.now ≡ f.index.numbers) c.self.view_is c.signature.ensures.numbers

pub returns-clause-numbering : goal.returns-clause-numbering
returns-clause-numbering c = subst (λ (f : Finding). IsNumbering f.index.numbers) c.self.view_is c.signature.ensures.numbering
