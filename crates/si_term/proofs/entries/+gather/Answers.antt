use Rattle.std.proofs.Common.{◌+◌, ap, sym, ◌∙◌, refl, arith}
use Rattle.std.specs.Prelude.{bytes_eq}
use Rattle.indexmap.specs.IndexSet.{insert_key, insert_all}
use Rattle.si_defs.specs.Terms.{size, variables, variables_of_all}
use Rattle.si_term.specs.Terms.{term_of}
use Rattle.si_term.proofs.Rows.{from, from-read, from-end, size-read, app-term}
use Rattle.si_term.proofs.Inserted.{inserted-append, key-shown, lent_eq, shown}
use Rattle.si_term.proofs.entries.+gather.Goals as goal

pub gather_term-gather_all-requires : goal.gather_term-gather_all-requires
gather_term-gather_all-requires t c =
    omega (arith, ap size (app-term c.args.term.now c.in-App.field-0 c.in-App.arguments c.as_slice.result.now c.in-App.is c.as_slice.ensures))

pub gather_all-gather_term-requires : goal.gather_all-gather_term-requires
gather_all-gather_term-requires t c = omega (arith, size-read c.args.terms.now c.loop-i.i c.index-terms-i.result c.loop-i-test.true c.index-terms-i.is)

pub gather_term-returns-in_ok-insert-in-Var : goal.gather_term-returns-in_ok-insert-in-Var
gather_term-returns-in_ok-insert-in-Var t c =
    let known = c.args.seen.now.keys in
    ap shown c.in_ok-insert-in-Var.ensures.keys
    ∙ key-shown (λ k. k.now) lent_eq bytes_eq (λ k l. refl) known c.as_bytes.result
    ∙ ap (λ x. insert_key bytes_eq (shown known) x) c.as_bytes.ensures
    ∙ ap (λ u. insert_all bytes_eq (shown known) (variables (term_of u))) (sym c.in-Var.is)

pub gather_all-loop-i-init : goal.gather_all-loop-i-init
gather_all-loop-i-init t c = refl

pub gather_all-loop-i-preserved : goal.gather_all-loop-i-preserved
gather_all-loop-i-preserved t c =
    let ts = c.args.terms.now in
    let i = c.loop-i.i in
    let one = c.index-terms-i.result in
    let known = shown c.loop-i.seen.keys in
    let split = ap (λ us. insert_all bytes_eq known (variables_of_all us)) (from-read ts i one c.loop-i-test.true c.index-terms-i.is) in
    ap (λ l. insert_all bytes_eq l (variables_of_all (from ts (i + 1)))) c.in_ok-gather_term.ensures
    ∙ sym (inserted-append bytes_eq known (variables (term_of one)) (variables_of_all (from ts (i + 1))))
    ∙ sym split
    ∙ c.loop-i.invariant

pub gather_all-returns : goal.gather_all-returns
gather_all-returns t c =
    ap (λ us. insert_all bytes_eq (shown c.loop-i.seen.keys) (variables_of_all us)) (sym (from-end c.args.terms.now c.loop-i.i c.loop-i-test.false)) ∙ c.loop-i.invariant
