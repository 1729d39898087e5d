use Rattle.std.proofs.Common.{◌+◌, ◌-◌, length, map, ap, subst, sym, refl, ◌∙◌, arith}
use Rattle.si_defs.specs.Terms.{row, size, sizes}
use Rattle.si_term.specs.Terms.{symbol_of, term_of}
use Rattle.si_term.proofs.Rows.{from, from-read, from-end, size-read, app-term}
use Rattle.si_flat.specs.declared.Cell.TheVariants as cell
use Rattle.std.specs.Prelude.{vec_capacity}
use Rattle.si_term.proofs.Results.{on_err}
use Rattle.si_flat.specs.Flattening.{walk_state, room_of, MayMeet, Flattens, FitsRoom, terms_piece}
use Rattle.si_flat.proofs.RoomLaws.{no_less_then, fits_head, fits_rest, symbol_refused}
use Rattle.si_flat.proofs.Walking.{room_after, room_symbol, flattens_none, flattens_more, flattens_app, length_behind}
use Rattle.si_flat.proofs.walk.+write.Goals as goal

pub write_term-write_terms-requires : goal.write_term-write_terms-requires
write_term-write_terms-requires g t c =
    let e = ap size (app-term c.args.term.now c.in-App.symbol c.in-App.arguments c.as_slice.result.now c.in-App.is c.as_slice.ensures) in
    let pairs = g.T.SymTable.pairs c.args.table.now in
    let room = room_symbol pairs c.args.scheme c.args.met.now c.symbol.new.self (symbol_of c.in-App.symbol) (sizes (row (map term_of c.as_slice.result.now))) (subst (MayMeet c.args.scheme c.args.met.now) e c.requires.room) c.in_ok-number-in-App.ensures.names c.in_ok-number-in-App.ensures.extra in
    λ κs h. (omega arith, (h, room))

pub write_term-close-requires-clause-inside : goal.write_term-close-requires-clause-inside
write_term-close-requires-clause-inside g t c =
    let pairs = g.T.SymTable.pairs c.args.table.now in
    let inside = walk_state c.symbol.new.self c.push-in-App.new.self.items in
    let after = walk_state c.write_terms.new.met c.write_terms.new.cells.items in
    let first = cell.App c.in_ok-number-in-App.number c.in-App.symbol.arity 1 in
    let n = length_behind pairs c.args.scheme c.args.cells.now.items first inside after (row (map term_of c.as_slice.result.now)) c.in_ok-push-in-App.ensures.items c.in_ok-write_terms-in-App.ensures.flat in
    omega (arith, n, c.len-at.ensures)

pub write_term-close-requires-clause-short : goal.write_term-close-requires-clause-short
write_term-close-requires-clause-short g t c =
    let pairs = g.T.SymTable.pairs c.args.table.now in
    let inside = walk_state c.symbol.new.self c.push-in-App.new.self.items in
    let after = walk_state c.write_terms.new.met c.write_terms.new.cells.items in
    let first = cell.App c.in_ok-number-in-App.number c.in-App.symbol.arity 1 in
    let n = length_behind pairs c.args.scheme c.args.cells.now.items first inside after (row (map term_of c.as_slice.result.now)) c.in_ok-push-in-App.ensures.items c.in_ok-write_terms-in-App.ensures.flat in
    let e = ap size (app-term c.args.term.now c.in-App.symbol c.in-App.arguments c.as_slice.result.now c.in-App.is c.as_slice.ensures) in
    omega (arith, n, c.len-at.ensures, e, c.requires.room.names)

pub write_term-returns-in_ok-write_terms-in-App-clause-flat : goal.write_term-returns-in_ok-write_terms-in-App-clause-flat
write_term-returns-in_ok-write_terms-in-App-clause-flat g t c =
    let pairs = g.T.SymTable.pairs c.args.table.now in
    let start = walk_state c.args.met.now c.args.cells.now.items in
    let inside = walk_state c.symbol.new.self c.push-in-App.new.self.items in
    let after = walk_state c.write_terms.new.met c.write_terms.new.cells.items in
    let us = row (map term_of c.as_slice.result.now) in
    let is = app-term c.args.term.now c.in-App.symbol c.in-App.arguments c.as_slice.result.now c.in-App.is c.as_slice.ensures in
    let n = c.in_ok-number-in-App.number in
    let m = length c.write_terms.new.cells.items - c.len-at.result in
    flattens_app pairs c.args.scheme start inside after (symbol_of c.in-App.symbol) us (cell.App n c.in-App.symbol.arity 1) n c.len-at.result m c.in_ok-number-in-App.ensures.names c.in_ok-number-in-App.ensures.extra c.in_ok-number-in-App.ensures.number c.in_ok-push-in-App.ensures.items c.in_ok-write_terms-in-App.ensures.flat (c.len-at.ensures ∙ c.args.cells.now.ok.0) refl (term_of c.args.term.now) c.close.new.cells.items is c.close.ensures.cells

pub write_terms-write_term-requires : goal.write_terms-write_term-requires
write_terms-write_term-requires g t c =
    let e = size-read c.args.terms.now c.loop-i.i c.index-terms-i.result c.loop-i-test.true c.index-terms-i.is in
    let split = from-read c.args.terms.now c.loop-i.i c.index-terms-i.result c.loop-i-test.true c.index-terms-i.is in
    let left : MayMeet c.args.scheme c.loop-i.met (size (term_of c.index-terms-i.result) + sizes (from c.args.terms.now (c.loop-i.i + 1))) = subst (λ us. MayMeet c.args.scheme c.loop-i.met (sizes us)) split c.loop-i.invariant.1 in
    λ κs h. (omega arith, (h, record { names = omega (arith, left.names); extra = omega (arith, left.extra) }))

pub write_terms-loop-i-preserved : goal.write_terms-loop-i-preserved
write_terms-loop-i-preserved g t c =
    let pairs = g.T.SymTable.pairs c.args.table.now in
    let ts = c.args.terms.now in
    let i = c.loop-i.i in
    let one = c.index-terms-i.result in
    let split = from-read ts i one c.loop-i-test.true c.index-terms-i.is in
    let here = walk_state c.loop-i.met c.loop-i.cells.items in
    let next = walk_state c.write_term.new.met c.write_term.new.cells.items in
    let old = room_of c.loop-i.met (vec_capacity c.loop-i.cells) in
    let new = room_of c.write_term.new.met (vec_capacity c.write_term.new.cells) in
    let room : MayMeet c.args.scheme c.loop-i.met (size (term_of one) + sizes (from ts (i + 1))) = subst (λ us. MayMeet c.args.scheme c.loop-i.met (sizes us)) split c.loop-i.invariant.1 in (
      λ new rest. c.loop-i.invariant.0 new (subst (λ us. Flattens pairs c.args.scheme here new (terms_piece us)) (sym split) (flattens_more pairs c.args.scheme here next new (term_of one) (from ts (i + 1)) c.in_ok-write_term.ensures.flat rest)),
      room_after pairs c.args.scheme c.loop-i.met c.write_term.new.met c.loop-i.cells.items c.write_term.new.cells.items (term_of one) (sizes (from ts (i + 1))) room c.in_ok-write_term.ensures.flat,
      no_less_then (room_of c.args.met.now (vec_capacity c.args.cells.now)) old new c.loop-i.invariant.2 c.in_ok-write_term.ensures.keeps,
      λ fits. fits_rest pairs c.args.scheme old new here next (term_of one) (from ts (i + 1)) c.in_ok-write_term.ensures.flat c.in_ok-write_term.ensures.keeps
          (subst (λ us. FitsRoom pairs old here (terms_piece us) (sizes us)) split (c.loop-i.invariant.3 fits)),
    )

pub write_terms-returns-clause-flat : goal.write_terms-returns-clause-flat
write_terms-returns-clause-flat g t c =
    let pairs = g.T.SymTable.pairs c.args.table.now in
    let here = walk_state c.loop-i.met c.loop-i.cells.items in
    c.loop-i.invariant.0 here (subst (λ us. Flattens pairs c.args.scheme here here (terms_piece us)) (sym (from-end c.args.terms.now c.loop-i.i c.loop-i-test.false)) (flattens_none pairs c.args.scheme here))

pub write_term-returns-in_err-number-in-App-clause-full : goal.write_term-returns-in_err-number-in-App-clause-full
write_term-returns-in_err-number-in-App-clause-full g t c =
    on_err _ (symbol_refused (g.T.SymTable.pairs c.args.table.now) (room_of c.args.met.now (vec_capacity c.args.cells.now)) (walk_state c.args.met.now c.args.cells.now.items) (symbol_of c.in-App.symbol) (row c.in-App.arguments) (term_of c.args.term.now) (ap term_of c.in-App.is) c.in_err-number-in-App.ensures.full)

pub write_terms-returns-in_err-write_term-clause-full : goal.write_terms-returns-in_err-write_term-clause-full
write_terms-returns-in_err-write_term-clause-full g t c =
    let pairs = g.T.SymTable.pairs c.args.table.now in
    let ts = c.args.terms.now in
    let i = c.loop-i.i in
    let one = c.index-terms-i.result in
    let split = from-read ts i one c.loop-i-test.true c.index-terms-i.is in
    let here = walk_state c.loop-i.met c.loop-i.cells.items in
    let old = room_of c.loop-i.met (vec_capacity c.loop-i.cells) in
    let refused : FitsRoom pairs (room_of c.args.met.now (vec_capacity c.args.cells.now)) (walk_state c.args.met.now c.args.cells.now.items) (terms_piece (row (map term_of ts))) (sizes (row (map term_of ts))) → ⊥ = λ fits.
    c.in_err-write_term.ensures.full (fits_head pairs old here (term_of one) (from ts (i + 1)) (subst (λ us. FitsRoom pairs old here (terms_piece us) (sizes us)) split (c.loop-i.invariant.3 fits))) in
    on_err _ refused
