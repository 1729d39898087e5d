use Rattle.std.proofs.Common.{◌≡◌, ◌<◌, ◌≤◌, ◌-◌, ◌/◌, length, slice_index_or, slice_set, sym, ◌∙◌, ap, subst, arith}
use Rattle.std.proofs.lemmas.List.{length-set}
use Rattle.si_keyed.specs.Halves.{halves}
use Rattle.si_keyed.specs.Ranks.{IsSummed}
use Rattle.si_keyed.specs.contracts.ranks.Ranks.{the_invariant}
use Rattle.si_keyed.proofs.SumLaws.{where_summed, where_single}
use Rattle.si_keyed.proofs.HalfLaws.{fewer_halves, half_inside, half_some, lowered_above}
use Rattle.si_keyed.proofs.ranks.Ranks.+lower.Goals as goal
use Rattle.si_keyed.proofs.ranks.Ranks.+lower.Goals.{in-Sums, in_default}

pub lower-requires : goal.lower-requires
lower-requires t c =
    let h = where_summed _ c.self.invariant _ c.in-Sums.is in
    let sums : c.deref_mut.result.now ≡ halves c.args.self.now = c.deref_mut.ensures.value ∙ h.1 ∙ ap halves c.self.view_is in
    let two : 2 ≤ length c.args.self.now = subst (λ l. 2 ≤ length l) c.self.view_is h.0 in (
      omega (arith, c.decreases, ap length sums, fewer_halves c.args.self.now two),
      (
        omega (arith, ap length sums, half_inside c.args.self.now c.args.place c.requires.inside),
        subst (λ l. 0 < slice_index_or l (c.args.place / 2) 0) (sym sums) (half_some c.args.self.now c.args.place c.requires.some),
      ),
    )

pub invariant_of-self : goal.invariant_of-self
invariant_of-self t c =
    let items = c.self.inside.counts.items in
    let inside : c.args.place < length items = subst (λ l. c.args.place < length l) (sym c.self.view_is) c.requires.inside in
    let some : 0 < slice_index_or items c.args.place 0 = subst (λ l. 0 < slice_index_or l c.args.place 0) (sym c.self.view_is) c.requires.some in
    elim c.match-self.branch [
      | in-Sums w ↦
          let h = where_summed _ c.self.invariant _ w.in-Sums.is in
          subst
          the_invariant
          (sym w.self-inside-is) (
            omega (arith, h.0, length-set items c.args.place (c.index_mut.result.now - 1)),
            lowered_above items w.deref_mut.result.now _ c.args.place c.index_mut.result.now inside some (w.deref_mut.ensures.value ∙ h.1) c.index_mut.ensures.value w.lower.ensures,
          )
      | in_default w ↦
          let single : length items ≤ 1 = where_single _ c.self.invariant w.in_default.is in
          subst
          the_invariant
          (sym w.self-inside-is)
          (subst (λ a. IsSummed (slice_set items c.args.place (c.index_mut.result.now - 1)) a) (sym w.in_default.is) (omega (arith, single, length-set items c.args.place (c.index_mut.result.now - 1))))
    ]
