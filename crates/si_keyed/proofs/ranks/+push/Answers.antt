use Rattle.std.proofs.Common.{◌≡◌, [], ◌∷◌, length, sym, ◌∙◌, ap, arith, length-append}
use Rattle.si_keyed.specs.Halves.{halves, sum_of}
use Rattle.si_keyed.proofs.SumLaws.{where_summed}
use Rattle.si_keyed.proofs.HalfLaws.{sum_halves, fewer_halves, pushed_even, pushed_odd, half_of_odd}
use Rattle.std.specs.Box.{with_value}
use Rattle.std.proofs.lemmas.Result.{on_ok_weaker, on_err_weaker}
use Rattle.si_keyed.specs.declared.ranks.Above.TheVariants.{Sums}
use Rattle.si_keyed.proofs.ranks.+push.Goals as goal

pub grow-push-requires : goal.grow-push-requires
grow-push-requires t c =
    let h = where_summed _ c.requires.summed _ c.in-Sums.is in
    let sums : c.deref_mut.result.now ≡ halves c.args.counts.now = c.deref_mut.ensures.value ∙ h.1 in (
      omega (arith, c.decreases, ap length sums, fewer_halves c.args.counts.now h.0),
      omega (arith, c.requires.small, ap sum_of sums, sum_halves c.args.counts.now),
    )

pub grow-raise-requires-clause-inside : goal.grow-raise-requires-clause-inside
grow-raise-requires-clause-inside t c =
    let h = where_summed _ c.requires.summed _ c.in-Sums.is in
    let sums : c.deref_mut-in-Sums-2.result.now ≡ halves c.args.counts.now = c.deref_mut-in-Sums-2.ensures.value ∙ h.1 in
    omega (arith, ap length sums, half_of_odd c.args.counts.now c.if-counts-eq0.false)

pub grow-raise-requires-clause-small : goal.grow-raise-requires-clause-small
grow-raise-requires-clause-small t c =
    let h = where_summed _ c.requires.summed _ c.in-Sums.is in
    let sums : c.deref_mut-in-Sums-2.result.now ≡ halves c.args.counts.now = c.deref_mut-in-Sums-2.ensures.value ∙ h.1 in
    omega (arith, c.requires.small, ap sum_of sums, sum_halves c.args.counts.now)

pub grow-returns-in-Sums-clause-ok : goal.grow-returns-in-Sums-clause-ok
grow-returns-in-Sums-clause-ok t c =
    let h = where_summed _ c.requires.summed _ c.in-Sums.is in
    let sums : c.deref_mut.result.now ≡ halves c.args.counts.now = c.deref_mut.ensures.value ∙ h.1 in
    on_ok_weaker
    c.push.result
    (λ pushed. (
      omega (arith, h.0, length-append c.args.counts.now (1 ∷ [])),
      pushed_even c.args.counts.now c.deref_mut.result.now c.push.new.self sums c.if-counts-eq0.true pushed,
    ))
    c.push.ensures.ok

pub grow-returns-in-Sums-clause-err : goal.grow-returns-in-Sums-clause-err
grow-returns-in-Sums-clause-err t c =
    on_err_weaker
    c.push.result
    (λ same. ap (λ v. Sums (with_value c.in-Sums.sums v)) (same ∙ c.deref_mut.ensures.value) ∙ sym c.in-Sums.is)
    c.push.ensures.err

pub grow-returns-in-Sums-2-clause-ok : goal.grow-returns-in-Sums-2-clause-ok
grow-returns-in-Sums-2-clause-ok t c =
    let h = where_summed _ c.requires.summed _ c.in-Sums.is in
    let sums : c.deref_mut-in-Sums-2.result.now ≡ halves c.args.counts.now = c.deref_mut-in-Sums-2.ensures.value ∙ h.1 in (
      omega (arith, h.0, length-append c.args.counts.now (1 ∷ [])),
      pushed_odd c.args.counts.now c.deref_mut-in-Sums-2.result.now c.raise.new.self sums c.if-counts-eq0.false c.raise.ensures,
    )
