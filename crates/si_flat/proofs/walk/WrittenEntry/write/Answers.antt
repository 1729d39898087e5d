use Rattle.std.proofs.Common.{◌≡◌, ◌^◌, [], length, ap, subst, sym, ◌∙◌, arith}
use Rattle.std.specs.Prelude.{vec_capacity}
use Rattle.std.proofs.lemmas.Result.{on_ok_weaker, on_err_weaker}
use Rattle.si_defs.specs.Terms.{size}
use Rattle.si_term.specs.Terms.{term_of}
use Rattle.si_term.specs.Meaning.{entry_of}
use Rattle.si_term.proofs.Results.{on_err}
use Rattle.si_flat.specs.Rooms.{IsNoLess}
use Rattle.si_flat.specs.declared.walk.WrittenEntry.{WrittenEntry}
use Rattle.si_defs.specs.Entries.{whole_of}
use Rattle.si_flat.specs.Flattened.{IsEnoughFor}
use Rattle.si_flat.specs.Flattening.{room_of, walk_state, term_piece, FitsRoom}
use Rattle.si_flat.proofs.EntryRooms.{enough_fits, written_is_enough, entry_walked}
use Rattle.si_flat.proofs.walk.WrittenEntry.write.Goals as goal

pub write_term-requires : goal.write_term-requires
write_term-requires g c =
    let is : size (term_of c.whole.result.now) ≡ size (whole_of (entry_of c.args.entry)) = ap size c.whole.ensures in
    record {
      room = record {
        names = omega (arith, ap length c.clear.ensures.names, is, c.requires);
        extra = omega (arith, ap length c.clear.ensures.extra, is, c.requires);
      };
    }

pub returns-in_err-reserve-clause-full : goal.returns-in_err-reserve-clause-full
returns-in_err-reserve-clause-full g c =
    let refused : IsEnoughFor (g.T.SymTable.pairs c.args.table.now) (entry_of c.args.entry) (room_of c.args.self.now.met (vec_capacity c.args.self.now.cells)) → ⊥ = λ enough.
    omega (arith, enough.few, c.clear.ensures.keeps.cells, c.in_err-reserve.ensures.full, ap length c.clear.ensures.cells, c.clear.new.self.cells.ok) in
    on_err _ refused

pub returns-clause-flat : goal.returns-clause-flat
returns-clause-flat g c =
    on_ok_weaker _ (λ walked.
    entry_walked (g.T.SymTable.pairs c.args.table.now) c.args.owner (entry_of c.args.entry) (record { positive = c.is_positive.result; owner = c.args.owner; first = 2 ^ 31 }) (walk_state c.clear.new.self.met c.reserve.new.self.items) (record { met = c.write_term.new.met; cells = c.write_term.new.cells }) (term_of c.whole.result.now)
    (λ i. record { positive = c.is_positive.ensures i; owner = c.args.owner; first = 2 ^ 31 })
    (λ i. record { names = c.clear.ensures.names i; extra = c.clear.ensures.extra i; cells = (c.in_ok-reserve.ensures.items ∙ c.clear.ensures.cells) i })
    c.whole.ensures walked) c.write_term.ensures.flat

pub returns-clause-full : goal.returns-clause-full
returns-clause-full g c =
    let pairs = g.T.SymTable.pairs c.args.table.now in
    let e = entry_of c.args.entry in
    let old = room_of c.args.self.now.met (vec_capacity c.args.self.now.cells) in
    let start = walk_state c.clear.new.self.met c.reserve.new.self.items in
    let more = room_of c.clear.new.self.met (vec_capacity c.reserve.new.self) in
    let no_less : IsNoLess old more = record {
      cells = omega (arith, c.clear.ensures.keeps.cells, c.reserve.ensures.capacity);
      names = c.clear.ensures.keeps.names;
      symbols = c.clear.ensures.keeps.symbols;
    } in
    let none : c.reserve.new.self.items ≡ [] = c.in_ok-reserve.ensures.items ∙ c.clear.ensures.cells in
    let fits : IsEnoughFor pairs e old → FitsRoom pairs more start (term_piece (term_of c.whole.result.now)) (size (term_of c.whole.result.now)) = λ enough.
    subst (λ t. FitsRoom pairs more start (term_piece t) (size t)) (sym c.whole.ensures)
    (enough_fits pairs e old more start c.clear.ensures.names c.clear.ensures.extra none no_less enough) in
    let weaker : (FitsRoom pairs more start (term_piece (term_of c.whole.result.now)) (size (term_of c.whole.result.now)) → ⊥) → (IsEnoughFor pairs e old → ⊥) = λ refused enough. refused (fits enough) in
    on_err_weaker _ weaker c.write_term.ensures.full

pub returns-clause-enough : goal.returns-clause-enough
returns-clause-enough g c =
    let w : WrittenEntry = record { met = c.write_term.new.met; cells = c.write_term.new.cells } in
    on_ok_weaker _ (λ written.
    written_is_enough (g.T.SymTable.pairs c.args.table.now) c.args.owner (entry_of c.args.entry) w (vec_capacity c.write_term.new.cells)
    (omega (arith, c.in_ok-reserve.ensures.ok, c.write_term.ensures.keeps.cells))
    (omega (arith, c.write_term.new.cells.ok))
    written) (returns-clause-flat g c)
