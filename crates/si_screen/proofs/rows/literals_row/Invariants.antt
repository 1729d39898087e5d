use Rattle.std.proofs.Common.{ℕ, List, map}
use Rattle.si_term.specs.Meaning.{literal_of}
use Rattle.si_term.proofs.Literals.{later}
use Rattle.si_flat.specs.Numbered.{number_in}
use Rattle.si_screen.specs.ClauseRows.{with_extra}
use Rattle.si_screen.specs.Walks.{AddsNumbers, literals_numbers}
use Rattle.si_screen.proofs.RowLaws.{no_bits}
use Rattle.si_screen.proofs.rows.literals_row.Given as goal

-- what the literals that are left add from here, all add to the empty row
abbrev pub invariant-loop-i : goal.invariant-loop-i
invariant-loop-i g l =
    (new : List ℕ)
    → AddsNumbers (literals_numbers (number_in (with_extra (g.T.SymTable.pairs l.table) l.extra)) (later l.literals l.i)) l.bits new
    → AddsNumbers (literals_numbers (number_in (with_extra (g.T.SymTable.pairs l.table) l.extra)) (map literal_of l.literals)) no_bits new
