use Rattle.std.proofs.Common.{◌≡◌, ◌+◌, ◌++◌, length, map, refl, sym, ap, subst, ◌∙◌, arith}
use Rattle.std.proofs.lemmas.Result.{on_ok_weaker, IfOk-weaker}
use Rattle.si_defs.specs.Terms.{row, size, sizes}
use Rattle.si_defs.specs.Entries.{term_entry}
use Rattle.si_term.specs.Terms.{term_of}
use Rattle.si_term.specs.Walks.{subterms, subterms_of_all}
use Rattle.si_term.specs.declared.term.Term as program
use Rattle.si_term.proofs.Rows.{from, size-read, app-term}
use Rattle.si_index.proofs.EntryLaws.{known_argument, known_arguments, known_sub}
use Rattle.si_scan.specs.Scans.{Wants, numbers_of, posted, AddsWanted}
use Rattle.si_scan.proofs.ScanLaws.{adds_none, so_far_start, so_far_more, so_far_end, terms_step, terms_count, terms_end, terms_none, application_added, inside_count}
use Rattle.si_scan.proofs.scan.+scanning.Goals as goal

pub scan_terms-scan_term-requires : goal.scan_terms-scan_term-requires
scan_terms-scan_term-requires t c =
    let ts = c.args.terms.now in
    let smaller = size-read ts c.loop-i.i c.index-terms-i.result c.loop-i-test.true c.index-terms-i.is in (
      omega (arith, smaller, c.decreases),
      (
        c.requires.ready,
        (
          known_argument (numbers_of c.args.question.now) ts c.loop-i.i c.index-terms-i.result c.loop-i-test.true c.index-terms-i.is c.requires.known,
          omega (arith, c.loop-i.invariant.count, terms_count ts c.loop-i.i c.index-terms-i.result c.loop-i-test.true c.index-terms-i.is, c.requires.few),
        ),
      ),
    )

pub scan_terms-loop-i-init : goal.scan_terms-loop-i-init
scan_terms-loop-i-init t c = record { count = refl; so_far = so_far_start (Wants c.args.question.now) _ c.args.gathered.now.found.items }

pub scan_terms-loop-i-preserved : goal.scan_terms-loop-i-preserved
scan_terms-loop-i-preserved t c =
    let ts = c.args.terms.now in
    let i = c.loop-i.i in
    let one = c.index-terms-i.result in
    let own = posted c.args.key c.loop-i.next (map term_entry (subterms (term_of one))) in
    let step = terms_step c.args.key c.loop-i.next ts i one c.loop-i-test.true c.index-terms-i.is
    ∙ ap (λ n. own ++ posted c.args.key n (map term_entry (subterms_of_all (from ts (i + 1))))) (sym c.in_ok-next.ensures.next) in
    record {
      count = omega (arith, c.loop-i.invariant.count, terms_count ts i one c.loop-i-test.true c.index-terms-i.is, c.in_ok-next.ensures.next);
      so_far = so_far_more (Wants c.args.question.now) _ _ _ _ _ _ _ step c.loop-i.invariant.so_far c.in_ok-next.ensures.adds;
    }

pub scan_terms-returns-clause-next : goal.scan_terms-returns-clause-next
scan_terms-returns-clause-next t c = omega (arith, c.loop-i.invariant.count, terms_none c.args.terms.now c.loop-i.i c.loop-i-test.false)

pub scan_terms-returns-clause-adds : goal.scan_terms-returns-clause-adds
scan_terms-returns-clause-adds t c =
    so_far_end (Wants c.args.question.now) _ _ _ _ (terms_end c.args.key c.loop-i.next c.args.terms.now c.loop-i.i c.loop-i-test.false) c.loop-i.invariant.so_far

pub scan_term-returns-in_default-clause-next : goal.scan_term-returns-in_default-clause-next
scan_term-returns-in_default-clause-next t c = omega (arith, ap (λ (u : program.Term). length (subterms (term_of u))) c.in_default.is)

pub scan_term-returns-in_default-clause-adds : goal.scan_term-returns-in_default-clause-adds
scan_term-returns-in_default-clause-adds t c =
    let old = c.args.gathered.now.found.items in
    subst (λ (u : program.Term). AddsWanted (Wants c.args.question.now) (posted c.args.key c.args.number (map term_entry (subterms (term_of u)))) old old) (sym c.in_default.is) (adds_none (Wants c.args.question.now) old)

pub scan_term-try_entry-requires-clause-known : goal.scan_term-try_entry-requires-clause-known
scan_term-try_entry-requires-clause-known t c = known_sub (numbers_of c.args.question.now) (term_of c.args.term.now) c.requires.known

pub scan_term-overflow_add-number : goal.scan_term-overflow_add-number
scan_term-overflow_add-number t c = omega (arith, c.requires.few, ap (λ (u : program.Term). length (subterms (term_of u))) c.in-App.is)

pub scan_term-scan_terms-requires : goal.scan_term-scan_terms-requires
scan_term-scan_terms-requires t c =
    let us = c.as_slice.result.now in
    let small : size (term_of c.args.term.now) ≡ 1 + sizes (row (map term_of us)) = ap size (app-term c.args.term.now c.in-App.field-0 c.in-App.arguments us c.in-App.is c.as_slice.ensures) in (
      omega (arith, small, c.decreases),
      (
        c.requires.ready,
        (
          known_arguments (numbers_of c.args.question.now) c.args.term.now c.in-App.field-0 c.in-App.arguments us c.in-App.is c.as_slice.ensures c.requires.known,
          omega (arith, c.requires.few, inside_count c.args.term.now c.in-App.field-0 c.in-App.arguments us c.in-App.is c.as_slice.ensures),
        ),
      ),
    )

pub scan_term-returns-clause-next : goal.scan_term-returns-clause-next
scan_term-returns-clause-next t c =
    let count = inside_count c.args.term.now c.in-App.field-0 c.in-App.arguments c.as_slice.result.now c.in-App.is c.as_slice.ensures in
    IfOk-weaker c.scan_terms.result _ _ (λ n is. omega (arith, is, count)) c.scan_terms.ensures.next

pub scan_term-returns-clause-adds : goal.scan_term-returns-clause-adds
scan_term-returns-clause-adds t c =
    on_ok_weaker c.scan_terms.result
    (application_added (Wants c.args.question.now) c.args.key c.args.number c.args.term.now c.in-App.field-0 c.in-App.arguments c.as_slice.result.now
    c.args.gathered.now.found.items c.try_entry.new.gathered.found.items c.scan_terms.new.gathered.found.items c.in-App.is c.as_slice.ensures c.in_ok-try_entry.ensures)
    c.scan_terms.ensures.adds
