use Rattle.std.proofs.Common.{◌≡◌, ◌+◌, ◌*◌, ◌++◌, map}
use Rattle.si_defs.specs.Terms.{row, size, sizes, symbols_of_all}
use Rattle.si_term.specs.Terms.{symbol_of, term_of}
use Rattle.si_term.proofs.Rows.{from}
use Rattle.si_term.proofs.heads.+list.Given as goal

abbrev pub invariant-list_terms-loop-i : goal.invariant-list_terms-loop-i
invariant-list_terms-loop-i l =
    map (λ s. symbol_of s.now) l.listed.items ++ symbols_of_all (from l.terms l.i)
    ≡ map (λ s. symbol_of s.now) l.fn.listed.items ++ symbols_of_all (row (map term_of l.terms))

abbrev pub decreases-list_term : goal.decreases-list_term
decreases-list_term l = 2 * size (term_of l.term.now)

abbrev pub decreases-list_terms : goal.decreases-list_terms
decreases-list_terms l = 2 * sizes (row (map term_of l.terms.now)) + 1
