use Rattle.std.proofs.Common.{◌≡◌, take, map}
use Rattle.si_term.specs.Terms.{symbol_of}
use Rattle.si_flat.specs.Flattening.{symbol_of_key}
use Rattle.si_flat.proofs.met.Met.extra_symbols.Given as goal

abbrev pub invariant-loop-key : goal.invariant-loop-key
invariant-loop-key l = map symbol_of l.symbols ≡ map symbol_of_key (take l.key-index l.self.extra.keys)
