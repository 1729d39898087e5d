use Rattle.std.proofs.Common.{◌≡◌, ◌<◌, ◌≤◌, ◌+◌, ◌-◌, ◌*◌, length, take, slice_index_or, sym, ◌∙◌, ap, subst, arith}
use Rattle.si_keyed.specs.Halves.{halves, sum_of}
use Rattle.si_keyed.proofs.SumLaws.{where_summed}
use Rattle.si_keyed.proofs.HalfLaws.{sum_halves, fewer_halves, found_above, at_any, first_before, second_before, second_there}
use Rattle.si_keyed.proofs.ranks.Ranks.+find.Goals as goal

pub find-pair-requires : goal.find-pair-requires
find-pair-requires t c =
    let h = where_summed _ c.self.invariant _ c.in-Sums.is in
    let sums : c.deref.result.now ≡ halves c.args.self.now = c.deref.ensures ∙ h.1 ∙ ap halves c.self.view_is in
    let two : 2 ≤ length c.args.self.now = subst (λ l. 2 ≤ length l) c.self.view_is h.0 in (
      omega (arith, c.decreases, ap length sums, fewer_halves c.args.self.now two),
      (
        omega (arith, c.requires.inside, ap sum_of sums, sum_halves c.args.self.now),
        omega (arith, c.requires.small, ap sum_of sums, sum_halves c.args.self.now),
      ),
    )

pub index-first-requires : goal.index-first-requires
index-first-requires t c =
    let sums : c.deref.result.now ≡ halves c.args.self.now = c.deref.ensures ∙ (where_summed _ c.self.invariant _ c.in-Sums.is).1 ∙ ap halves c.self.view_is in
    let found = found_above c.args.self.now c.deref.result.now _ _ _ sums c.find-pair.ensures.before c.find-pair.ensures.there in
    omega (arith, found.2, ap length c.self.view_is)

pub returns-then-rest-first-clause-before : goal.returns-then-rest-first-clause-before
returns-then-rest-first-clause-before t c =
    let sums : c.deref.result.now ≡ halves c.args.self.now = c.deref.ensures ∙ (where_summed _ c.self.invariant _ c.in-Sums.is).1 ∙ ap halves c.self.view_is in
    let found = found_above c.args.self.now c.deref.result.now _ _ _ sums c.find-pair.ensures.before c.find-pair.ensures.there in
    first_before c.args.self.now c.find-pair.result.0 c.find-pair.result.1 c.args.number found.0

pub returns-then-rest-first-clause-there : goal.returns-then-rest-first-clause-there
returns-then-rest-first-clause-there t c =
    let sums : c.deref.result.now ≡ halves c.args.self.now = c.deref.ensures ∙ (where_summed _ c.self.invariant _ c.in-Sums.is).1 ∙ ap halves c.self.view_is in
    let found = found_above c.args.self.now c.deref.result.now _ _ _ sums c.find-pair.ensures.before c.find-pair.ensures.there in
    let inside : 2 * c.find-pair.result.0 < length c.args.self.now = omega (arith, found.2) in
    let first : c.index-first.result.now ≡ slice_index_or c.args.self.now (2 * c.find-pair.result.0) 0 =
    c.index-first.ensures
    ∙ ap (λ l. slice_index_or l (2 * c.find-pair.result.0) c.index-first.result.now) c.self.view_is
    ∙ at_any c.args.self.now (2 * c.find-pair.result.0) c.index-first.result.now inside in
    omega (arith, first, c.if-rest-first.true)

pub returns-else-rest-first-clause-before : goal.returns-else-rest-first-clause-before
returns-else-rest-first-clause-before t c =
    let sums : c.deref.result.now ≡ halves c.args.self.now = c.deref.ensures ∙ (where_summed _ c.self.invariant _ c.in-Sums.is).1 ∙ ap halves c.self.view_is in
    let found = found_above c.args.self.now c.deref.result.now _ _ _ sums c.find-pair.ensures.before c.find-pair.ensures.there in
    let inside : 2 * c.find-pair.result.0 < length c.args.self.now = omega (arith, found.2) in
    let first : c.index-first.result.now ≡ slice_index_or c.args.self.now (2 * c.find-pair.result.0) 0 =
    c.index-first.ensures
    ∙ ap (λ l. slice_index_or l (2 * c.find-pair.result.0) c.index-first.result.now) c.self.view_is
    ∙ at_any c.args.self.now (2 * c.find-pair.result.0) c.index-first.result.now inside in
    let rest : slice_index_or c.args.self.now (2 * c.find-pair.result.0) 0 ≤ c.find-pair.result.1 = omega (arith, first, c.if-rest-first.false) in
    subst
    (λ n. sum_of (take (2 * c.find-pair.result.0 + 1) c.args.self.now) + (c.find-pair.result.1 - n) ≡ c.args.number)
    (sym first)
    (second_before c.args.self.now c.find-pair.result.0 c.find-pair.result.1 c.args.number found.2 found.0 rest)

pub returns-else-rest-first-clause-there : goal.returns-else-rest-first-clause-there
returns-else-rest-first-clause-there t c =
    let sums : c.deref.result.now ≡ halves c.args.self.now = c.deref.ensures ∙ (where_summed _ c.self.invariant _ c.in-Sums.is).1 ∙ ap halves c.self.view_is in
    let found = found_above c.args.self.now c.deref.result.now _ _ _ sums c.find-pair.ensures.before c.find-pair.ensures.there in
    let inside : 2 * c.find-pair.result.0 < length c.args.self.now = omega (arith, found.2) in
    let first : c.index-first.result.now ≡ slice_index_or c.args.self.now (2 * c.find-pair.result.0) 0 =
    c.index-first.ensures
    ∙ ap (λ l. slice_index_or l (2 * c.find-pair.result.0) c.index-first.result.now) c.self.view_is
    ∙ at_any c.args.self.now (2 * c.find-pair.result.0) c.index-first.result.now inside in
    let rest : slice_index_or c.args.self.now (2 * c.find-pair.result.0) 0 ≤ c.find-pair.result.1 = omega (arith, first, c.if-rest-first.false) in
    subst
    (λ n. c.find-pair.result.1 - n < slice_index_or c.args.self.now (2 * c.find-pair.result.0 + 1) 0)
    (sym first)
    (second_there c.args.self.now c.find-pair.result.0 c.find-pair.result.1 found.1 rest)
