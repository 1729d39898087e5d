use Rattle.std.proofs.Common.{ℕ, List, ◌+◌, ◌*◌, map}
use Rattle.si_defs.specs.Terms.{row, size, sizes, symbols_of_all}
use Rattle.si_term.specs.Terms.{term_of}
use Rattle.si_term.proofs.Rows.{from}
use Rattle.si_flat.specs.Numbered.{number_in}
use Rattle.si_screen.specs.ClauseRows.{with_extra}
use Rattle.si_screen.specs.Walks.{AddsNumbers}
use Rattle.si_screen.proofs.rows.+add.Given as goal

-- what the terms that are left add from here, all add from the start
abbrev pub invariant-add_terms-loop-i : goal.invariant-add_terms-loop-i
invariant-add_terms-loop-i g l =
    (new : List ℕ)
    → AddsNumbers (map (number_in (with_extra (g.T.SymTable.pairs l.table) l.extra)) (symbols_of_all (from l.terms l.i))) l.bits new
    → AddsNumbers (map (number_in (with_extra (g.T.SymTable.pairs l.table) l.extra)) (symbols_of_all (row (map term_of l.terms)))) l.fn.bits new

abbrev pub decreases-add_term : goal.decreases-add_term
decreases-add_term g l = 2 * size (term_of l.term.now)

abbrev pub decreases-add_terms : goal.decreases-add_terms
decreases-add_terms g l = 2 * sizes (row (map term_of l.terms.now)) + 1
