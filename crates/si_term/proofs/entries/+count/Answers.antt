use Rattle.std.proofs.Common.{◌+◌, length, ap, arith, length-append}
use Rattle.si_defs.specs.Terms.{size}
use Rattle.si_term.specs.Terms.{term_of}
use Rattle.si_term.specs.Walks.{subterms, subterms_of_all}
use Rattle.si_term.proofs.Rows.{from, from-read, from-end, size-read, app-term}
use Rattle.si_term.proofs.entries.+count.Goals as goal

pub count_term-count_all-requires : goal.count_term-count_all-requires
count_term-count_all-requires t c =
    let e = app-term c.args.term.now c.in-App.field-0 c.in-App.arguments c.as_slice.result.now c.in-App.is c.as_slice.ensures in
    (omega (arith, ap size e), omega (arith, ap (λ u. length (subterms u)) e))

pub count_all-count_term-count-requires : goal.count_all-count_term-count-requires
count_all-count_term-count-requires t c =
    let ts = c.args.terms.now in
    let i = c.loop-i.i in
    let one = c.index-terms-i.result in
    let e = ap subterms_of_all (from-read ts i one c.loop-i-test.true c.index-terms-i.is) in
    (omega (arith, size-read ts i one c.loop-i-test.true c.index-terms-i.is), omega (arith, ap length e, length-append (subterms (term_of one)) (subterms_of_all (from ts (i + 1)))))

pub count_all-loop-i-init : goal.count_all-loop-i-init
count_all-loop-i-init t c = omega arith

pub count_all-loop-i-preserved : goal.count_all-loop-i-preserved
count_all-loop-i-preserved t c =
    let ts = c.args.terms.now in
    let i = c.loop-i.i in
    let one = c.index-terms-i.result in
    let e = ap subterms_of_all (from-read ts i one c.loop-i-test.true c.index-terms-i.is) in
    omega (arith, ap length e, length-append (subterms (term_of one)) (subterms_of_all (from ts (i + 1))))

pub count_all-returns : goal.count_all-returns
count_all-returns t c = omega (arith, ap (λ ts. length (subterms_of_all ts)) (from-end c.args.terms.now c.loop-i.i c.loop-i-test.false))
