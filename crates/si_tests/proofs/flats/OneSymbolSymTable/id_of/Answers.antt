use Rattle.si_term.specs.Terms.{symbol_of}
use Rattle.si_tests.proofs.OneSymbol.{only}
use Rattle.si_tests.proofs.flats.OneSymbolSymTable.id_of.Goals as goal

pub returns-then-is-clause-numbering : goal.returns-then-is-clause-numbering
returns-then-is-clause-numbering c = only (symbol_of c.args.self.now.symbol)

pub returns-else-is-clause-numbering : goal.returns-else-is-clause-numbering
returns-else-is-clause-numbering c = only (symbol_of c.args.self.now.symbol)
