use Rattle.std.proofs.Common.{List, ◌+◌, ◌*◌, map}
use Rattle.si_defs.specs.Symbols.{Symbol}
use Rattle.si_defs.specs.Terms.{row, size, sizes, symbols_of_all}
use Rattle.si_term.specs.Terms.{term_of}
use Rattle.si_term.proofs.Rows.{from}
use Rattle.si_screen.specs.Walks.{MeetsSymbols}
use Rattle.si_screen.proofs.extra.+meet.Given as goal

-- what is met from here, with the terms that are left, is met from the start
abbrev pub invariant-meet_terms-loop-i : goal.invariant-meet_terms-loop-i
invariant-meet_terms-loop-i g l =
    (new : List Symbol)
    → MeetsSymbols (g.T.SymTable.pairs l.table) (symbols_of_all (from l.terms l.i)) l.extra new
    → MeetsSymbols (g.T.SymTable.pairs l.table) (symbols_of_all (row (map term_of l.terms))) l.fn.extra new

abbrev pub decreases-meet_term : goal.decreases-meet_term
decreases-meet_term g l = 2 * size (term_of l.term.now)

abbrev pub decreases-meet_terms : goal.decreases-meet_terms
decreases-meet_terms g l = 2 * sizes (row (map term_of l.terms.now)) + 1
