use Rattle.std.proofs.Common.{◌+◌, ◌*◌, map}
use Rattle.std.specs.Prelude.{vec_capacity}
use Rattle.si_defs.specs.Terms.{row, size, sizes}
use Rattle.si_term.specs.Terms.{term_of}
use Rattle.si_term.proofs.Rows.{from}
use Rattle.si_flat.specs.Rooms.{IsNoLess}
use Rattle.si_flat.specs.Flattening.{WalkState, walk_state, room_of, MayMeet, Flattens, FitsRoom, terms_piece}
use Rattle.si_flat.proofs.walk.+write.Given as goal

-- what follows from here, with what is left, follows from the start
abbrev pub invariant-write_terms-loop-i : goal.invariant-write_terms-loop-i
invariant-write_terms-loop-i g l =
    ((new : WalkState)
    → Flattens (g.T.SymTable.pairs l.table) l.scheme (walk_state l.met l.cells.items) new (terms_piece (from l.terms l.i))
    → Flattens (g.T.SymTable.pairs l.table) l.scheme (walk_state l.fn.met l.fn.cells.items) new (terms_piece (row (map term_of l.terms))))
    × MayMeet l.scheme l.met (sizes (from l.terms l.i))
    × IsNoLess (room_of l.fn.met (vec_capacity l.fn.cells)) (room_of l.met (vec_capacity l.cells))
    × (FitsRoom (g.T.SymTable.pairs l.table) (room_of l.fn.met (vec_capacity l.fn.cells)) (walk_state l.fn.met l.fn.cells.items) (terms_piece (row (map term_of l.terms))) (sizes (row (map term_of l.terms)))
    → FitsRoom (g.T.SymTable.pairs l.table) (room_of l.met (vec_capacity l.cells)) (walk_state l.met l.cells.items) (terms_piece (from l.terms l.i)) (sizes (from l.terms l.i)))

abbrev pub decreases-write_term : goal.decreases-write_term
decreases-write_term g l = 2 * size (term_of l.term.now)

abbrev pub decreases-write_terms : goal.decreases-write_terms
decreases-write_terms g l = 2 * sizes (row (map term_of l.terms.now)) + 1
