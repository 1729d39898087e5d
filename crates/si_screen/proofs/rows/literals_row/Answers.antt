use Rattle.std.proofs.Common.{◌+◌, map, subst, sym}
use Rattle.si_term.specs.Meaning.{literal_of}
use Rattle.si_term.proofs.Literals.{later, later-read, later-end}
use Rattle.si_flat.specs.Numbered.{number_in}
use Rattle.si_screen.specs.ClauseRows.{with_extra}
use Rattle.si_screen.specs.Walks.{AddsNumbers, literals_numbers}
use Rattle.si_screen.proofs.RowLaws.{adds_none, adds_literal, row_made}
use Rattle.si_screen.proofs.rows.literals_row.Goals as goal

pub loop-i-init : goal.loop-i-init
loop-i-init g c = λ new h. h

pub loop-i-preserved : goal.loop-i-preserved
loop-i-preserved g c =
    let number = number_in (with_extra (g.T.SymTable.pairs c.args.table.now) c.args.extra.now) in
    let l = literal_of c.index-literals-i.result in
    let split = later-read c.args.literals.now c.loop-i.i c.index-literals-i.result c.loop-i-test.true c.index-literals-i.is in
    λ new rest.
    c.loop-i.invariant new
    (subst (λ ls. AddsNumbers (literals_numbers number ls) c.loop-i.bits new) (sym split)
    (adds_literal number l (later c.args.literals.now (c.loop-i.i + 1)) c.loop-i.bits c.add_literal.new.bits new c.add_literal.ensures rest))

pub returns : goal.returns
returns g c =
    let number = number_in (with_extra (g.T.SymTable.pairs c.args.table.now) c.args.extra.now) in
    row_made number (map literal_of c.args.literals.now) c.loop-i.bits
    (c.loop-i.invariant c.loop-i.bits
    (subst (λ ls. AddsNumbers (literals_numbers number ls) c.loop-i.bits c.loop-i.bits) (sym (later-end c.args.literals.now c.loop-i.i c.loop-i-test.false)) (adds_none c.loop-i.bits)))
