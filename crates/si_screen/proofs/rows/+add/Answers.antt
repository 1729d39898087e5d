use Rattle.std.proofs.Common.{◌+◌, map, ap, subst, sym, arith}
use Rattle.si_defs.specs.Terms.{size, symbols_of_all}
use Rattle.si_term.specs.Terms.{term_of}
use Rattle.si_term.proofs.Rows.{from, from-read, from-end, size-read, app-term}
use Rattle.si_flat.specs.Numbered.{number_in}
use Rattle.si_screen.specs.ClauseRows.{with_extra}
use Rattle.si_screen.specs.Walks.{AddsNumbers}
use Rattle.si_screen.proofs.RowLaws.{adds_none, adds_more}
use Rattle.si_screen.proofs.rows.+add.Goals as goal

pub add_term-add_terms-requires : goal.add_term-add_terms-requires
add_term-add_terms-requires g t c =
    let e = ap size (app-term c.args.term.now c.in-App.symbol c.in-App.arguments c.as_slice.result.now c.in-App.is c.as_slice.ensures) in
    λ κs h. (omega (arith, e), (h, c.requires.few))

pub add_terms-add_term-requires : goal.add_terms-add_term-requires
add_terms-add_term-requires g t c =
    let e = size-read c.args.terms.now c.loop-i.i c.index-terms-i.result c.loop-i-test.true c.index-terms-i.is in
    λ κs h. (omega (arith, e), (h, c.requires.few))

pub add_terms-loop-i-preserved : goal.add_terms-loop-i-preserved
add_terms-loop-i-preserved g t c =
    let number = number_in (with_extra (g.T.SymTable.pairs c.args.table.now) c.args.extra.now) in
    let one = c.index-terms-i.result in
    let split = from-read c.args.terms.now c.loop-i.i one c.loop-i-test.true c.index-terms-i.is in
    λ new rest.
    c.loop-i.invariant new
    (subst (λ us. AddsNumbers (map number (symbols_of_all us)) c.loop-i.bits new) (sym split)
    (adds_more number (term_of one) (from c.args.terms.now (c.loop-i.i + 1)) c.loop-i.bits c.add_term.new.bits new c.add_term.ensures rest))

pub add_terms-returns : goal.add_terms-returns
add_terms-returns g t c =
    let number = number_in (with_extra (g.T.SymTable.pairs c.args.table.now) c.args.extra.now) in
    c.loop-i.invariant c.loop-i.bits
    (subst (λ us. AddsNumbers (map number (symbols_of_all us)) c.loop-i.bits c.loop-i.bits) (sym (from-end c.args.terms.now c.loop-i.i c.loop-i-test.false)) (adds_none c.loop-i.bits))
