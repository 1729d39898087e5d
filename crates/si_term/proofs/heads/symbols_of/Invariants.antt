use Rattle.std.proofs.Common.{◌≡◌, ◌++◌, map}
use Rattle.si_defs.specs.Entries.{literals_symbols}
use Rattle.si_term.specs.Terms.{symbol_of}
use Rattle.si_term.specs.Meaning.{literal_of}
use Rattle.si_term.proofs.Literals.{later}
use Rattle.si_term.proofs.heads.symbols_of.Given as goal

abbrev pub invariant-loop-i : goal.invariant-loop-i
invariant-loop-i l = map (λ s. symbol_of s.now) l.symbols.items ++ literals_symbols (later l.literals l.i) ≡ literals_symbols (map literal_of l.literals)
