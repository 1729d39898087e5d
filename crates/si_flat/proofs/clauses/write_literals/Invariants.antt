use Rattle.std.proofs.Common.{map}
use Rattle.std.specs.Prelude.{vec_capacity}
use Rattle.si_defs.specs.Clauses.{literals_size}
use Rattle.si_term.specs.Meaning.{literal_of}
use Rattle.si_term.proofs.Literals.{later}
use Rattle.si_flat.specs.Flattening.{WalkState, walk_state, room_of, MayMeet, Flattens, FitsRoom}
use Rattle.si_flat.specs.Rooms.{IsNoLess}
use Rattle.si_flat.specs.FlatClauses.{clause_scheme, literals_piece}
use Rattle.si_flat.proofs.clauses.write_literals.Given as goal

-- what follows from here, with what is left, follows from the start
abbrev pub invariant-loop-i : goal.invariant-loop-i
invariant-loop-i g l =
    ((new : WalkState)
    → Flattens (g.T.SymTable.pairs l.table) (clause_scheme l.owner l.first) (walk_state l.met l.cells.items) new (literals_piece (later l.literals l.i))
    → Flattens (g.T.SymTable.pairs l.table) (clause_scheme l.owner l.first) (walk_state l.fn.met l.fn.cells.items) new (literals_piece (map literal_of l.literals)))
    × MayMeet (clause_scheme l.owner l.first) l.met (literals_size (later l.literals l.i))
    × IsNoLess (room_of l.fn.met (vec_capacity l.fn.cells)) (room_of l.met (vec_capacity l.cells))
    × (FitsRoom (g.T.SymTable.pairs l.table) (room_of l.fn.met (vec_capacity l.fn.cells)) (walk_state l.fn.met l.fn.cells.items) (literals_piece (map literal_of l.literals)) (literals_size (map literal_of l.literals))
    → FitsRoom (g.T.SymTable.pairs l.table) (room_of l.met (vec_capacity l.cells)) (walk_state l.met l.cells.items) (literals_piece (later l.literals l.i)) (literals_size (later l.literals l.i)))
