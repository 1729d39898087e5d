use Rattle.std.proofs.Common.{◌^◌, [], length, map, refl, ap, arith}
use Rattle.std.specs.Prelude.{vec_capacity}
use Rattle.std.proofs.lemmas.Result.{on_ok_weaker, on_err_weaker}
use Rattle.si_term.specs.Meaning.{literal_of}
use Rattle.si_flat.specs.Flattening.{walk_state, room_of}
use Rattle.si_flat.proofs.ClauseLaws.{clause_by_table}
use Rattle.si_flat.proofs.ClauseRooms.{enough_fits_clause, written_is_enough_clause}
use Rattle.si_flat.proofs.walk.WrittenEntry.write_clause.Goals as goal

pub write_clause-requires : goal.write_clause-requires
write_clause-requires g c = record {
  empty = c.clear.ensures.cells;
  room = record {
    names = omega (arith, ap length c.clear.ensures.names, c.requires.no_larger);
    extra = omega (arith, ap length c.clear.ensures.extra, c.requires.no_larger);
  };
}

pub returns-clause-flat : goal.returns-clause-flat
returns-clause-flat g c =
    on_ok_weaker c.write_clause.result
    (λ walked. clause_by_table (g.T.SymTable.pairs c.args.table.now) (2 ^ 31) c.args.owner (walk_state c.clear.new.self.met []) (walk_state c.write_clause.new.met c.write_clause.new.cells.items) (map literal_of c.args.literals.now) c.clear.ensures.names refl walked c.clear.ensures.extra c.requires)
    c.write_clause.ensures.flat

pub returns-clause-full : goal.returns-clause-full
returns-clause-full g c =
    let old = room_of c.args.self.now.met (vec_capacity c.args.self.now.cells) in
    let more = room_of c.clear.new.self.met (vec_capacity c.clear.new.self.cells) in
    on_err_weaker c.write_clause.result
    (λ lacks enough.
    lacks
    (enough_fits_clause (g.T.SymTable.pairs c.args.table.now) old more (walk_state c.clear.new.self.met []) (map literal_of c.args.literals.now) c.clear.ensures.names c.clear.ensures.extra refl c.clear.ensures.keeps enough))
    c.write_clause.ensures.full

pub returns-clause-enough : goal.returns-clause-enough
returns-clause-enough g c =
    on_ok_weaker c.write_clause.result
    (λ walked.
    written_is_enough_clause (g.T.SymTable.pairs c.args.table.now) c.args.owner (2 ^ 31) (walk_state c.clear.new.self.met []) c.write_clause.new.met c.write_clause.new.cells.items (vec_capacity c.write_clause.new.cells) (map literal_of c.args.literals.now)
    c.clear.ensures.names c.clear.ensures.extra refl (omega (arith, c.write_clause.new.cells.ok)) walked)
    c.write_clause.ensures.flat
