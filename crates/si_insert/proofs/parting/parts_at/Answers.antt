use Rattle.std.proofs.Common.{◌∷◌, ◌++◌, [], sym, ap, subst, ◌∙◌}
use Rattle.si_defs.specs.Substitutions.{IsAmong}
use Rattle.si_flat.specs.Rows.{left_sides}
use Rattle.si_insert.specs.Opened.{numbers, BeginsAtPlace}
use Rattle.si_insert.proofs.PartLaws.{LeftToGive, give_start, give_end, give_next, given_more, opened_next, next_within}
use Rattle.si_insert.proofs.parting.parts_at.Goals as goal

pub loop-pair-init : goal.loop-pair-init
loop-pair-init c = (
  tt,
  tt,
  λ there bs may. subst (λ ps. LeftToGive c.args.cells.now c.args.openings.now there bs ps c.in_ok-new.new) (sym (c.into_iter-pair-iterator.ensures.into_iter_gives ∙ c.pairs-pair-items.ensures)) (subst (LeftToGive c.args.cells.now c.args.openings.now there bs c.args.bindings.now) (sym c.in_ok-new.ensures) (give_start c.args.cells.now c.args.openings.now c.args.bindings.now there bs may)),
)

pub at-at-requires : goal.at-at-requires
at-at-requires c =
    let may = c.requires.can_pass.2 in
    let n = give_next c.args.cells.now c.args.openings.now c.args.bindings.now c.requires.can_pass.0 c.requires.can_pass.1 c.in-Some.pair c.next.new.self c.loop-pair.new c.requires.distinct may (subst (λ ps. LeftToGive c.args.cells.now c.args.openings.now c.requires.can_pass.0 c.requires.can_pass.1 ps c.loop-pair.new) c.in-Some.ensures.steps (c.loop-pair.invariant.2 c.requires.can_pass.0 c.requires.can_pass.1 may)) in
    subst (IsAmong (numbers c.args.openings.now)) (sym c.left.ensures) (opened_next c.args.cells.now c.args.openings.now c.args.bindings.now c.requires.can_pass.0 c.requires.can_pass.1 c.in-Some.pair c.next.new.self c.loop-pair.new may n)

pub sub-requires-clause-inside : goal.sub-requires-clause-inside
sub-requires-clause-inside c = next_within c.args.cells.now c.args.openings.now c.args.bindings.now c.requires.can_pass.0 c.requires.can_pass.1 c.left.result c.at-at.result c.requires.can_pass.2 c.at-at.ensures

pub push-requires-clause-new : goal.push-requires-clause-new
push-requires-clause-new c =
    let may = c.requires.can_pass.2 in
    let n = give_next c.args.cells.now c.args.openings.now c.args.bindings.now c.requires.can_pass.0 c.requires.can_pass.1 c.in-Some.pair c.next.new.self c.loop-pair.new c.requires.distinct may (subst (λ ps. LeftToGive c.args.cells.now c.args.openings.now c.requires.can_pass.0 c.requires.can_pass.1 ps c.loop-pair.new) c.in-Some.ensures.steps (c.loop-pair.invariant.2 c.requires.can_pass.0 c.requires.can_pass.1 may)) in
    λ a. n.unbound (subst (IsAmong (left_sides c.loop-pair.new)) c.left-in-loop-pair.ensures a)

pub loop-pair-preserved : goal.loop-pair-preserved
loop-pair-preserved c = (
  tt,
  tt,
  λ there bs may.
      let n = give_next c.args.cells.now c.args.openings.now c.args.bindings.now there bs c.in-Some.pair c.next.new.self c.loop-pair.new c.requires.distinct may (subst (λ ps. LeftToGive c.args.cells.now c.args.openings.now there bs ps c.loop-pair.new) c.in-Some.ensures.steps (c.loop-pair.invariant.2 there bs may)) in
      let place : BeginsAtPlace c.args.openings.now c.in-Some.pair.0 c.at-at.result = subst (λ k. BeginsAtPlace c.args.openings.now k c.at-at.result) c.left.ensures c.at-at.ensures in
      given_more c.args.cells.now c.args.openings.now c.args.bindings.now there bs c.in-Some.pair c.next.new.self c.loop-pair.new c.push.new.self c.at-at.result c.sub.result.now may n place c.sub.ensures.place c.sub.ensures.whole (c.in_ok-push.ensures.ok ∙ ap (λ k. c.loop-pair.new ++ (k, c.sub.result.now) ∷ []) c.left-in-loop-pair.ensures),
)

pub returns : goal.returns
returns c = λ there bs may. give_end c.args.cells.now c.args.openings.now there bs c.loop-pair.new (subst (λ ps. LeftToGive c.args.cells.now c.args.openings.now there bs ps c.loop-pair.new) c.in-None.ensures.steps.0 (c.loop-pair.invariant.2 there bs may))
