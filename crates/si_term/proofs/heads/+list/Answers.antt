use Rattle.std.proofs.Common.{◌+◌, ◌++◌, map, ap, sym, ◌∙◌, refl, arith, append_assoc, append-nil}
use Rattle.si_defs.specs.Terms.{size, symbols, symbols_of_all}
use Rattle.si_term.specs.Terms.{symbol_of, term_of}
use Rattle.si_term.proofs.Rows.{from, from-read, from-end, size-read, app-term}
use Rattle.si_term.proofs.heads.+list.Goals as goal

pub list_term-list_terms-requires : goal.list_term-list_terms-requires
list_term-list_terms-requires t c = omega (arith, ap size (app-term c.args.term.now c.in-App.symbol c.in-App.arguments c.as_slice.result.now c.in-App.is c.as_slice.ensures))

pub list_terms-list_term-requires : goal.list_terms-list_term-requires
list_terms-list_term-requires t c = omega (arith, size-read c.args.terms.now c.loop-i.i c.index-terms-i.result c.loop-i-test.true c.index-terms-i.is)

pub list_terms-loop-i-init : goal.list_terms-loop-i-init
list_terms-loop-i-init t c = refl

pub list_terms-loop-i-preserved : goal.list_terms-loop-i-preserved
list_terms-loop-i-preserved t c =
    let ts = c.args.terms.now in
    let i = c.loop-i.i in
    let one = c.index-terms-i.result in
    let shown = map (λ s. symbol_of s.now) c.loop-i.listed.items in
    let split = ap symbols_of_all (from-read ts i one c.loop-i-test.true c.index-terms-i.is) in
    ap (λ l. l ++ symbols_of_all (from ts (i + 1))) c.in_ok-list_term.ensures
    ∙ append_assoc shown (symbols (term_of one)) (symbols_of_all (from ts (i + 1)))
    ∙ ap (λ l. shown ++ l) (sym split)
    ∙ c.loop-i.invariant

pub list_terms-returns : goal.list_terms-returns
list_terms-returns t c =
    let shown = map (λ s. symbol_of s.now) c.loop-i.listed.items in
    sym (append-nil shown)
    ∙ ap (λ us. shown ++ symbols_of_all us) (sym (from-end c.args.terms.now c.loop-i.i c.loop-i-test.false))
    ∙ c.loop-i.invariant
