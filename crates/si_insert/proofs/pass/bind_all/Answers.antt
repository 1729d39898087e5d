use Rattle.std.proofs.Common.{◌≡◌, sym, ap, subst, ◌∙◌}
use Rattle.std.specs.List.{AllByRecursion}
use Rattle.si_defs.specs.Substitutions.{IsAmong}
use Rattle.si_flat.specs.Rows.{left_sides}
use Rattle.si_insert.specs.Opened.{numbers, with_bound}
use Rattle.si_insert.specs.Passing.{IsBoundBy}
use Rattle.si_insert.proofs.OpenedLaws.{numbers-bound}
use Rattle.si_insert.proofs.pass.bind_all.Goals as goal

pub loop-pair-preserved : goal.loop-pair-preserved
loop-pair-preserved c =
    let bound : c.bind.new.self ≡ with_bound c.in-Some.pair.0 c.loop-pair.openings = c.bind.ensures ∙ ap (λ n. with_bound n c.loop-pair.openings) c.left.ensures in
    let same : numbers c.bind.new.self ≡ numbers c.loop-pair.openings = ap numbers bound ∙ numbers-bound c.in-Some.pair.0 c.loop-pair.openings in
    let among = subst (λ ps. AllByRecursion (IsAmong (numbers c.loop-pair.openings)) (left_sides ps)) c.in-Some.ensures.steps c.loop-pair.invariant.2 in (
      tt,
      tt,
      subst (λ ns. AllByRecursion (IsAmong ns) (left_sides c.next.new.self)) (sym same) among.1,
      λ end by. c.loop-pair.invariant.3 end (subst (λ ps. IsBoundBy (left_sides ps) c.loop-pair.openings end) (sym c.in-Some.ensures.steps) (subst (λ now. IsBoundBy (left_sides c.next.new.self) now end) bound by)),
    )
