use Rattle.std.proofs.Common.{◌+◌, map, subst, sym}
use Rattle.std.specs.Prelude.{vec_capacity}
use Rattle.si_term.proofs.Results.{on_err}
use Rattle.si_defs.specs.Clauses.{literals_size, literal_size}
use Rattle.si_term.specs.Meaning.{literal_of}
use Rattle.si_term.proofs.Literals.{later, later-read, later-end}
use Rattle.si_flat.specs.Flattening.{walk_state, room_of, MayMeet, Flattens, FitsRoom}
use Rattle.si_flat.proofs.RoomLaws.{no_less_same, no_less_then}
use Rattle.si_flat.proofs.ClauseRooms.{fits_literal, fits_literals}
use Rattle.si_flat.specs.FlatClauses.{clause_scheme, literals_piece}
use Rattle.si_flat.proofs.ClauseWalks.{literals_none, literals_more, literal_room, room_left}
use Rattle.si_flat.proofs.clauses.write_literals.Goals as goal

pub loop-i-init : goal.loop-i-init
loop-i-init g c = (λ new h. h, c.requires.room, no_less_same (room_of c.args.met.now (vec_capacity c.args.cells.now)), λ fits. fits)

pub write_term-requires : goal.write_term-requires
write_term-requires g c =
    let l = literal_of c.index-literals-i.result in
    let split = later-read c.args.literals.now c.loop-i.i c.index-literals-i.result c.loop-i-test.true c.index-literals-i.is in
    let room : MayMeet (clause_scheme c.args.owner c.args.first) c.loop-i.met (literal_size l + literals_size (later c.args.literals.now (c.loop-i.i + 1))) = subst (λ ls. MayMeet (clause_scheme c.args.owner c.args.first) c.loop-i.met (literals_size ls)) split c.loop-i.invariant.1 in
    record { room = literal_room (g.T.SymTable.pairs c.args.table.now) c.args.owner c.args.first c.loop-i.met l (literals_size (later c.args.literals.now (c.loop-i.i + 1))) room }

pub loop-i-preserved : goal.loop-i-preserved
loop-i-preserved g c =
    let l = literal_of c.index-literals-i.result in
    let rest = later c.args.literals.now (c.loop-i.i + 1) in
    let split = later-read c.args.literals.now c.loop-i.i c.index-literals-i.result c.loop-i-test.true c.index-literals-i.is in
    let here = walk_state c.loop-i.met c.loop-i.cells.items in
    let next = walk_state c.write_term.new.met c.write_term.new.cells.items in
    let pairs = g.T.SymTable.pairs c.args.table.now in
    let old = room_of c.loop-i.met (vec_capacity c.loop-i.cells) in
    let more = room_of c.write_term.new.met (vec_capacity c.write_term.new.cells) in
    let room : MayMeet (clause_scheme c.args.owner c.args.first) c.loop-i.met (literal_size l + literals_size rest) = subst (λ ls. MayMeet (clause_scheme c.args.owner c.args.first) c.loop-i.met (literals_size ls)) split c.loop-i.invariant.1 in (
      λ new h. c.loop-i.invariant.0 new (subst (λ ls. Flattens (g.T.SymTable.pairs c.args.table.now) (clause_scheme c.args.owner c.args.first) here new (literals_piece ls)) (sym split) (literals_more (g.T.SymTable.pairs c.args.table.now) c.args.owner c.args.first here next new l rest c.in_ok-write_term.ensures.flat h)),
      room_left (g.T.SymTable.pairs c.args.table.now) c.args.owner c.args.first c.loop-i.met c.write_term.new.met c.loop-i.cells.items c.write_term.new.cells.items l (literals_size rest) room c.in_ok-write_term.ensures.flat,
      no_less_then (room_of c.args.met.now (vec_capacity c.args.cells.now)) old more c.loop-i.invariant.2 c.in_ok-write_term.ensures.keeps,
      λ fits. fits_literals pairs c.args.owner c.args.first old more here next l rest c.in_ok-write_term.ensures.flat c.in_ok-write_term.ensures.keeps
          (subst (λ ls. FitsRoom pairs old here (literals_piece ls) (literals_size ls)) split (c.loop-i.invariant.3 fits)),
    )

pub returns-clause-flat : goal.returns-clause-flat
returns-clause-flat g c =
    let here = walk_state c.loop-i.met c.loop-i.cells.items in
    c.loop-i.invariant.0 here (subst (λ ls. Flattens (g.T.SymTable.pairs c.args.table.now) (clause_scheme c.args.owner c.args.first) here here (literals_piece ls)) (sym (later-end c.args.literals.now c.loop-i.i c.loop-i-test.false)) (literals_none (g.T.SymTable.pairs c.args.table.now) c.args.owner c.args.first here))

pub returns-clause-keeps : goal.returns-clause-keeps
returns-clause-keeps g c = c.loop-i.invariant.2

pub returns-in_err-write_term-clause-keeps : goal.returns-in_err-write_term-clause-keeps
returns-in_err-write_term-clause-keeps g c =
    no_less_then (room_of c.args.met.now (vec_capacity c.args.cells.now)) (room_of c.loop-i.met (vec_capacity c.loop-i.cells)) (room_of c.write_term.new.met (vec_capacity c.write_term.new.cells)) c.loop-i.invariant.2 c.in_err-write_term.ensures.keeps

pub returns-in_err-write_term-clause-full : goal.returns-in_err-write_term-clause-full
returns-in_err-write_term-clause-full g c =
    let pairs = g.T.SymTable.pairs c.args.table.now in
    let l = literal_of c.index-literals-i.result in
    let rest = later c.args.literals.now (c.loop-i.i + 1) in
    let split = later-read c.args.literals.now c.loop-i.i c.index-literals-i.result c.loop-i-test.true c.index-literals-i.is in
    let here = walk_state c.loop-i.met c.loop-i.cells.items in
    let old = room_of c.loop-i.met (vec_capacity c.loop-i.cells) in
    let refused : FitsRoom pairs (room_of c.args.met.now (vec_capacity c.args.cells.now)) (walk_state c.args.met.now c.args.cells.now.items) (literals_piece (map literal_of c.args.literals.now)) (literals_size (map literal_of c.args.literals.now)) → ⊥ = λ fits.
    c.in_err-write_term.ensures.full (fits_literal pairs old here l rest (subst (λ ls. FitsRoom pairs old here (literals_piece ls) (literals_size ls)) split (c.loop-i.invariant.3 fits))) in
    on_err _ refused
