use Rattle.std.proofs.Common.{List, [], map}
use Rattle.si_defs.specs.Symbols.{Symbol}
use Rattle.si_defs.specs.Entries.{literals_symbols}
use Rattle.si_term.specs.Meaning.{literal_of}
use Rattle.si_term.proofs.Literals.{later}
use Rattle.si_screen.specs.Walks.{MeetsSymbols}
use Rattle.si_screen.proofs.extra.Extra.of.Given as goal

-- what is met from here, with the literals that are left, is met from none
abbrev pub invariant-loop-i : goal.invariant-loop-i
invariant-loop-i g l =
    (new : List Symbol)
    → MeetsSymbols (g.T.SymTable.pairs l.table) (literals_symbols (later l.literals l.i)) l.extra new
    → MeetsSymbols (g.T.SymTable.pairs l.table) (literals_symbols (map literal_of l.literals)) [] new
