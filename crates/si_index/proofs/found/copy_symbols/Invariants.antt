use Rattle.std.proofs.Common.{◌≡◌, take, map}
use Rattle.si_term.specs.Terms.{symbol_of}
use Rattle.si_index.proofs.found.copy_symbols.Given as goal

abbrev pub invariant-loop-symbol : goal.invariant-loop-symbol
invariant-loop-symbol l = map symbol_of l.copies ≡ map symbol_of (take l.symbol-index l.symbols)
