use Rattle.std.proofs.Common.{◌<◌, length, reverse, [], ◌∷◌, sym, ap, ◌∙◌, subst, arith, length-append}
use Rattle.std.proofs.lemmas.List.{reverse-append}
use Rattle.std.specs.Prelude.{vec_capacity}
use Rattle.si_term.proofs.Results.{on_err}
use Rattle.si_unify.specs.declared.circles.Visit.TheVariants.{Enter}
use Rattle.si_unify.specs.Circles.{AreEntries}
use Rattle.si_unify.proofs.Triangular.{entries_none, entries_more}
use Rattle.si_unify.proofs.circles.enter_bound.Goals as goal

pub loop-n-init : goal.loop-n-init
loop-n-init c = record {
  entered_so_far = subst (λ l. AreEntries c.args.trail.now.pairs c.args.mark c.args.mark (reverse l)) (sym c.requires.none) (entries_none _ _ c.mark-n-end.ensures.distinct);
  still_within = c.requires.within;
  few_so_far = omega (arith, ap length c.requires.none);
  room_so_far = omega arith;
}

pub loop-n-preserved : goal.loop-n-preserved
loop-n-preserved c = record {
  entered_so_far =
      entries_more _ _ _ c.slot.result _ _ c.loop-n.invariant.entered_so_far c.slot.ensures
      (ap reverse c.in_ok-push.ensures.items ∙ reverse-append c.loop-n.visits.items (Enter c.slot.result ∷ []));
  still_within = omega (arith, c.loop-n-test.true, c.mark-n-end.ensures.number);
  few_so_far = omega (arith, c.loop-n.invariant.few_so_far, ap length c.in_ok-push.ensures.items, length-append c.loop-n.visits.items (Enter c.slot.result ∷ []));
  room_so_far = omega (arith, c.loop-n.invariant.room_so_far, c.in_ok-push.ensures.capacity);
}

pub returns-in_err-push-clause-full : goal.returns-in_err-push-clause-full
returns-in_err-push-clause-full c =
    let full : vec_capacity c.args.visits.now < length c.args.trail.now.pairs =
    omega (arith, c.in_err-push.ensures.full, c.loop-n.invariant.few_so_far, c.loop-n.invariant.room_so_far, c.loop-n-test.true, c.mark-n-end.ensures.number, c.loop-n.visits.ok) in
    on_err _ full

pub returns-in_err-push-clause-keeps : goal.returns-in_err-push-clause-keeps
returns-in_err-push-clause-keeps c = omega (arith, c.loop-n.invariant.room_so_far, c.in_err-push.ensures.capacity)

pub returns-clause-few : goal.returns-clause-few
returns-clause-few c = omega (arith, c.loop-n.invariant.few_so_far, c.loop-n.invariant.still_within)

pub returns-clause-keeps : goal.returns-clause-keeps
returns-clause-keeps c = c.loop-n.invariant.room_so_far
