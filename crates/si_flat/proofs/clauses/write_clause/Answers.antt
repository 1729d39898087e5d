use Rattle.std.proofs.Common.{◌+◌, ◌-◌, [], ◌∷◌, ◌++◌, length, map, refl, ap, sym, ◌∙◌, arith, length-append}
use Rattle.std.specs.Prelude.{vec_capacity}
use Rattle.si_defs.specs.Clauses.{literals_size}
use Rattle.si_term.proofs.Results.{on_err}
use Rattle.std.proofs.lemmas.List.{length-map}
use Rattle.si_term.specs.Meaning.{literal_of}
use Rattle.si_term.proofs.Literals.{length-literals_size}
use Rattle.si_flat.specs.Flattening.{walk_state, room_of, FitsRoom}
use Rattle.si_flat.specs.Rooms.{IsNoLess}
use Rattle.si_flat.specs.FlatClauses.{clause_piece}
use Rattle.si_flat.proofs.ClauseRooms.{fits_atoms}
use Rattle.si_flat.specs.declared.Cell.TheVariants as cell
use Rattle.si_flat.proofs.ClauseWalks.{clause_length, clause_closed}
use Rattle.si_flat.proofs.clauses.write_clause.Goals as goal

pub overflow_cast-literals : goal.overflow_cast-literals
overflow_cast-literals g c = omega (arith, c.requires.room.names, length-literals_size c.args.literals.now)

pub close-requires-clause-inside : goal.close-requires-clause-inside
close-requires-clause-inside g c =
    let long = clause_length (g.T.SymTable.pairs c.args.table.now) c.args.owner c.args.first (walk_state c.args.met.now c.push.new.self.items) (walk_state c.write_literals.new.met c.write_literals.new.cells.items) (cell.App 4294967295 0 1) (map literal_of c.args.literals.now) (c.in_ok-push.ensures.items ∙ λ i. c.requires.empty i ++ cell.App 4294967295 0 1 ∷ []) c.in_ok-write_literals.ensures.flat in
    omega (arith, long)

pub close-requires-clause-short : goal.close-requires-clause-short
close-requires-clause-short g c =
    let long = clause_length (g.T.SymTable.pairs c.args.table.now) c.args.owner c.args.first (walk_state c.args.met.now c.push.new.self.items) (walk_state c.write_literals.new.met c.write_literals.new.cells.items) (cell.App 4294967295 0 1) (map literal_of c.args.literals.now) (c.in_ok-push.ensures.items ∙ λ i. c.requires.empty i ++ cell.App 4294967295 0 1 ∷ []) c.in_ok-write_literals.ensures.flat in
    omega (arith, long, c.requires.room.names)

pub returns-clause-flat : goal.returns-clause-flat
returns-clause-flat g c =
    clause_closed (g.T.SymTable.pairs c.args.table.now) c.args.owner c.args.first (walk_state c.args.met.now c.push.new.self.items) (walk_state c.write_literals.new.met c.write_literals.new.cells.items) (cell.App 4294967295 0 1) (map literal_of c.args.literals.now) (c.in_ok-push.ensures.items ∙ λ i. c.requires.empty i ++ cell.App 4294967295 0 1 ∷ []) c.in_ok-write_literals.ensures.flat
    (walk_state c.args.met.now []) (length c.args.literals.now) (length c.write_literals.new.cells.items - 0) c.close.new.cells.items refl refl refl (sym (length-map c.args.literals.now literal_of)) refl c.close.ensures.cells

pub returns-in_err-push-clause-full : goal.returns-in_err-push-clause-full
returns-in_err-push-clause-full g c =
    let refused : FitsRoom (g.T.SymTable.pairs c.args.table.now) (room_of c.args.met.now (vec_capacity c.args.cells.now)) (walk_state c.args.met.now []) (clause_piece (map literal_of c.args.literals.now)) (1 + literals_size (map literal_of c.args.literals.now)) → ⊥ = λ fits.
    omega (arith, fits.cells, c.in_err-push.ensures.full, ap length c.requires.empty, c.args.cells.now.ok) in
    on_err _ refused

pub returns-in_err-write_literals-clause-full : goal.returns-in_err-write_literals-clause-full
returns-in_err-write_literals-clause-full g c =
    let pairs = g.T.SymTable.pairs c.args.table.now in
    let ls = map literal_of c.args.literals.now in
    let old = room_of c.args.met.now (vec_capacity c.args.cells.now) in
    let more = room_of c.args.met.now (vec_capacity c.push.new.self) in
    let no_less : IsNoLess old more = record { cells = c.in_ok-push.ensures.capacity; names = omega arith; symbols = omega arith } in
    let long = ap length c.in_ok-push.ensures.items ∙ length-append c.args.cells.now.items (cell.App 4294967295 0 1 ∷ []) ∙ ap (λ l. length l + 1) c.requires.empty in
    let refused : FitsRoom pairs old (walk_state c.args.met.now []) (clause_piece ls) (1 + literals_size ls) → ⊥ = λ fits.
    c.in_err-write_literals.ensures.full (fits_atoms pairs old more (walk_state c.args.met.now []) (walk_state c.args.met.now c.push.new.self.items) ls refl refl long no_less fits) in
    on_err _ refused
