use Rattle.std.proofs.Common.{◌≡◌, ◌<◌, ◌≤◌, ◌-◌, length, take, slice_index_or, ◌/◌, sym, ◌∙◌, ap, subst, arith}
use Rattle.si_keyed.specs.Halves.{halves, sum_of}
use Rattle.si_keyed.proofs.SumLaws.{where_summed}
use Rattle.si_keyed.proofs.HalfLaws.{sum_halves, half_within, fewer_halves, front_at_even, front_at_odd, total_front, at_any}
use Rattle.si_keyed.proofs.ranks.Ranks.+before.Goals as goal

pub before-pairs-requires : goal.before-pairs-requires
before-pairs-requires t c =
    let h = where_summed _ c.self.invariant _ c.in-Sums.is in
    let sums : c.deref.result.now ≡ halves c.args.self.now = c.deref.ensures ∙ h.1 ∙ ap halves c.self.view_is in
    let two : 2 ≤ length c.args.self.now = subst (λ l. 2 ≤ length l) c.self.view_is h.0 in (
      omega (arith, c.decreases, ap length sums, fewer_halves c.args.self.now two),
      (
        omega (arith, c.requires.inside, ap length sums, half_within c.args.self.now c.args.place c.requires.inside),
        omega (arith, c.requires.small, ap sum_of sums, sum_halves c.args.self.now),
      ),
    )

pub returns-then-place-eq0-2 : goal.returns-then-place-eq0-2
returns-then-place-eq0-2 t c =
    let h = where_summed _ c.self.invariant _ c.in-Sums.is in
    let sums : c.deref.result.now ≡ halves c.args.self.now = c.deref.ensures ∙ h.1 ∙ ap halves c.self.view_is in
    c.before-pairs.ensures ∙ ap (λ l. sum_of (take (c.args.place / 2) l)) sums ∙ sym (front_at_even c.args.self.now c.args.place c.if-place-eq0-2.true)

pub returns-else-place-eq0-2 : goal.returns-else-place-eq0-2
returns-else-place-eq0-2 t c =
    let h = where_summed _ c.self.invariant _ c.in-Sums.is in
    let sums : c.deref.result.now ≡ halves c.args.self.now = c.deref.ensures ∙ h.1 ∙ ap halves c.self.view_is in
    let pairs : c.before-pairs.result ≡ sum_of (take (c.args.place / 2) (halves c.args.self.now)) = c.before-pairs.ensures ∙ ap (λ l. sum_of (take (c.args.place / 2) l)) sums in
    let inside : c.args.place - 1 < length c.args.self.now = omega (arith, c.requires.inside, c.if-place-eq0-2.false) in
    let there : c.index-else-place-eq0-2.result.now ≡ slice_index_or c.args.self.now (c.args.place - 1) 0 =
    c.index-else-place-eq0-2.ensures
    ∙ ap (λ l. slice_index_or l (c.args.place - 1) c.index-else-place-eq0-2.result.now) c.self.view_is
    ∙ at_any c.args.self.now (c.args.place - 1) c.index-else-place-eq0-2.result.now inside in
    omega (arith, pairs, there, front_at_odd c.args.self.now c.args.place c.if-place-eq0-2.false c.requires.inside)

pub overflow_add-result : goal.overflow_add-result
overflow_add-result t c =
    omega (arith, c.requires.small, total_front c.args.self.now c.args.place, returns-else-place-eq0-2 t c)
