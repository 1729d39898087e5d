use Rattle.std.proofs.Common.{◌≡◌, ◌-◌, ◌/◌, Some, sym, subst, arith}
use Rattle.std.specs.Prelude.{slice_get}
use Rattle.si_term.specs.Terms.{symbol_of}
use Rattle.si_reply.specs.NamedLists.{ShowsSymbol}
use Rattle.si_reply.proofs.NamingLaws.{is_extra, is_known}
use Rattle.si_reply.proofs.solution.symbol_at.Goals as goal

pub overflow_sub-number : goal.overflow_sub-number
overflow_sub-number g c =
    let s = c.requires.known.0 in
    let x = is_extra _ _ _ _ c.args.number s (subst (λ n. ShowsSymbol n c.args.number s) (sym c.naming.view_is) c.requires.known.1) c.in-None.ensures.none in
    omega (arith, x.place)

pub at-requires : goal.at-requires
at-requires g c =
    let s = c.requires.known.0 in
    let x = is_extra _ _ _ _ c.args.number s (subst (λ n. ShowsSymbol n c.args.number s) (sym c.naming.view_is) c.requires.known.1) c.in-None.ensures.none in
    omega (arith, x.place, x.inside)

pub returns-in-Some : goal.returns-in-Some
returns-in-Some g c = λ s h.
    is_known _ _ _ _ c.args.number s (subst (λ n. ShowsSymbol n c.args.number s) (sym c.naming.view_is) h) c.sym_at.ensures.numbering
    (symbol_of c.in-Some.symbol.now) c.in-Some.ensures.found

pub returns-in-None : goal.returns-in-None
returns-in-None g c = λ s h.
    let x =
    is_extra _ _ _ _ c.args.number s (subst (λ n. ShowsSymbol n c.args.number s) (sym c.naming.view_is) h) c.in-None.ensures.none in
    let index : (c.args.number - 2147483648) / 2 ≡ x.index = omega (arith, x.place) in
    x.found c.at.result.now (subst (λ i. slice_get c.naming.inside.extra.now i ≡ Some c.at.result.now) index c.at.ensures)
