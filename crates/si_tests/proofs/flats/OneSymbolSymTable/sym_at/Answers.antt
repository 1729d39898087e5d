use Rattle.si_term.specs.Terms.{symbol_of}
use Rattle.si_tests.proofs.OneSymbol.{only}
use Rattle.si_tests.proofs.flats.OneSymbolSymTable.sym_at.Goals as goal

pub returns-then-id-eq4-clause-numbering : goal.returns-then-id-eq4-clause-numbering
returns-then-id-eq4-clause-numbering c = only (symbol_of c.args.self.now.symbol)

pub returns-else-id-eq4-clause-numbering : goal.returns-else-id-eq4-clause-numbering
returns-else-id-eq4-clause-numbering c = only (symbol_of c.args.self.now.symbol)
