use Rattle.std.proofs.Common.{◌∷◌, [], ◌+◌, map, ap, subst, sym, refl, arith}
use Rattle.std.proofs.lemmas.Result.{on_ok_weaker}
use Rattle.indexmap.specs.IndexSet.{insert_all}
use Rattle.si_defs.specs.Terms.{row, size, symbols, symbols_of_all}
use Rattle.si_defs.specs.Symbols.{same_symbol}
use Rattle.si_term.specs.Terms.{symbol_of, term_of}
use Rattle.si_term.proofs.Rows.{from, from-read, from-end, size-read, app-term}
use Rattle.si_flat.specs.Flattened.{unnumbered}
use Rattle.si_screen.specs.Walks.{MeetsSymbols}
use Rattle.si_screen.proofs.ExtraLaws.{meets_then}
use Rattle.si_screen.proofs.extra.+meet.Goals as goal

pub meet_term-meet_terms-requires : goal.meet_term-meet_terms-requires
meet_term-meet_terms-requires g t c =
    let e = ap size (app-term c.args.term.now c.in-App.symbol c.in-App.arguments c.as_slice.result.now c.in-App.is c.as_slice.ensures) in
    λ κs h. (omega (arith, e), h)

pub meet_term-returns-in-Var : goal.meet_term-returns-in-Var
meet_term-returns-in-Var g t c =
    ap (λ u. insert_all same_symbol c.args.extra.now (unnumbered (g.T.SymTable.pairs c.args.table.now) (symbols (term_of u)))) (sym c.in-Var.is)

pub meet_term-returns-in_ok-meet_symbol-in-App : goal.meet_term-returns-in_ok-meet_symbol-in-App
meet_term-returns-in_ok-meet_symbol-in-App g t c =
    let pairs = g.T.SymTable.pairs c.args.table.now in
    let us = row (map term_of c.as_slice.result.now) in
    let is = app-term c.args.term.now c.in-App.symbol c.in-App.arguments c.as_slice.result.now c.in-App.is c.as_slice.ensures in
    on_ok_weaker c.meet_terms.result
    (λ rest.
    subst (λ u. MeetsSymbols pairs (symbols u) c.args.extra.now c.meet_terms.new.extra) (sym is)
    (meets_then pairs (symbol_of c.in-App.symbol ∷ []) (symbols_of_all us) c.args.extra.now c.meet_symbol.new.extra c.meet_terms.new.extra c.in_ok-meet_symbol-in-App.ensures rest))
    c.meet_terms.ensures

pub meet_terms-meet_term-requires : goal.meet_terms-meet_term-requires
meet_terms-meet_term-requires g t c =
    let e = size-read c.args.terms.now c.loop-i.i c.index-terms-i.result c.loop-i-test.true c.index-terms-i.is in
    λ κs h. (omega (arith, e), h)

pub meet_terms-loop-i-init : goal.meet_terms-loop-i-init
meet_terms-loop-i-init g t c = λ new h. h

pub meet_terms-loop-i-preserved : goal.meet_terms-loop-i-preserved
meet_terms-loop-i-preserved g t c =
    let pairs = g.T.SymTable.pairs c.args.table.now in
    let one = c.index-terms-i.result in
    let left = from c.args.terms.now (c.loop-i.i + 1) in
    let split = from-read c.args.terms.now c.loop-i.i one c.loop-i-test.true c.index-terms-i.is in
    λ new rest.
    c.loop-i.invariant new
    (subst (λ us. MeetsSymbols pairs (symbols_of_all us) c.loop-i.extra new) (sym split)
    (meets_then pairs (symbols (term_of one)) (symbols_of_all left) c.loop-i.extra c.meet_term.new.extra new c.in_ok-meet_term.ensures rest))

pub meet_terms-returns : goal.meet_terms-returns
meet_terms-returns g t c =
    let pairs = g.T.SymTable.pairs c.args.table.now in
    c.loop-i.invariant c.loop-i.extra
    (subst (λ us. MeetsSymbols pairs (symbols_of_all us) c.loop-i.extra c.loop-i.extra) (sym (from-end c.args.terms.now c.loop-i.i c.loop-i-test.false)) refl)
