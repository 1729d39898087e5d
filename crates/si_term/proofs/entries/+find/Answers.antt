use Rattle.std.proofs.Common.{◌+◌, ap, arith}
use Rattle.si_defs.specs.Terms.{size}
use Rattle.si_term.specs.Terms.{term_of}
use Rattle.si_term.specs.Walks.{subterms, subterms_of_all}
use Rattle.si_term.proofs.Rows.{from, from-read, from-end, size-read, app-term}
use Rattle.si_term.proofs.Progress.{begins, passes, finds, ends}
use Rattle.si_term.proofs.entries.+find.Goals as goal

pub find_term-find_in-requires : goal.find_term-find_in-requires
find_term-find_in-requires t c = omega (arith, ap size (app-term c.args.term.now c.in-App.field-0 c.in-App.arguments c.as_slice.result.now c.in-App.is c.as_slice.ensures))

pub find_in-find_term-requires : goal.find_in-find_term-requires
find_in-find_term-requires t c = omega (arith, size-read c.args.terms.now c.loop-i.i c.index-terms-i.result c.loop-i-test.true c.index-terms-i.is)

pub find_in-loop-i-init : goal.find_in-loop-i-init
find_in-loop-i-init t c = begins _ _

pub find_in-returns-in-At : goal.find_in-returns-in-At
find_in-returns-in-At t c =
    let ts = c.args.terms.now in
    let i = c.loop-i.i in
    let one = c.index-terms-i.result in
    let split = ap subterms_of_all (from-read ts i one c.loop-i-test.true c.index-terms-i.is) in
    finds _ _ (subterms (term_of one)) (subterms_of_all (from ts (i + 1))) _ _ _ split c.loop-i.invariant c.in-At.ensures

pub find_in-loop-i-preserved : goal.find_in-loop-i-preserved
find_in-loop-i-preserved t c =
    let ts = c.args.terms.now in
    let i = c.loop-i.i in
    let one = c.index-terms-i.result in
    let split = ap subterms_of_all (from-read ts i one c.loop-i-test.true c.index-terms-i.is) in
    passes _ _ (subterms (term_of one)) (subterms_of_all (from ts (i + 1))) _ _ _ split c.loop-i.invariant c.in-Past.ensures

pub find_in-returns : goal.find_in-returns
find_in-returns t c = ends _ _ _ _ (ap subterms_of_all (from-end c.args.terms.now c.loop-i.i c.loop-i-test.false)) c.loop-i.invariant
