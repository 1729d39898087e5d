use Rattle.std.proofs.Common.{◌≡◌, ◌+◌, ◌*◌, map}
use Rattle.std.specs.Prelude.{bytes_eq}
use Rattle.indexmap.specs.IndexSet.{insert_all}
use Rattle.si_defs.specs.Terms.{row, size, sizes, variables_of_all}
use Rattle.si_term.specs.Terms.{term_of}
use Rattle.si_term.proofs.Rows.{from}
use Rattle.si_index.proofs.variables.+meeting.Given as goal

abbrev pub invariant-meet_all-loop-i : goal.invariant-meet_all-loop-i
invariant-meet_all-loop-i l =
    insert_all bytes_eq (map (λ t. t.now) l.met.items) (variables_of_all (from l.terms l.i)) ≡ insert_all bytes_eq (map (λ t. t.now) l.fn.met.items) (variables_of_all (row (map term_of l.terms)))

abbrev pub decreases-meet_term : goal.decreases-meet_term
decreases-meet_term l = 2 * size (term_of l.term.now)

abbrev pub decreases-meet_all : goal.decreases-meet_all
decreases-meet_all l = 2 * sizes (row (map term_of l.terms.now)) + 1
