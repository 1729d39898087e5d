use Rattle.std.proofs.Common.{sym, ap, ◌∙◌, subst, arith}
use Rattle.si_unify.specs.Spots.{cell_slot, IsUnbound}
use Rattle.si_unify.proofs.Chains.{head_inside, head_is, chain_starts, chain_goes_on, chain_ends, chain_full, value_subterm}
use Rattle.si_unify.proofs.unifier.Unifier.follow.Goals as goal

pub loop-init : goal.loop-init
loop-init c = record {
  on_chain = chain_starts _ _ _ c.requires.underway.legal (c.requires.subterm.term, c.requires.subterm.stands);
  still_subterm = c.requires.subterm;
}

pub bounds-reached-0 : goal.bounds-reached-0
bounds-reached-0 c = head_inside _ _ _ c.loop.invariant.still_subterm

pub returns-in_default-clause-comes : goal.returns-in_default-clause-comes
returns-in_default-clause-comes c =
    chain_ends _ _ _ _ _ c.loop.invariant.on_chain
    (
    subst (IsUnbound c.args.self.now.trail.now.pairs)
    (c.in_default.ensures ∙ ap (cell_slot c.args.self.now.question.slots) (head_is _ _ _ c.loop.invariant.still_subterm))
    tt
    )

pub returns-in_default-clause-subterm : goal.returns-in_default-clause-subterm
returns-in_default-clause-subterm c = c.loop.invariant.still_subterm

pub returns-in-None-clause-comes : goal.returns-in-None-clause-comes
returns-in-None-clause-comes c =
    chain_ends _ _ _ _ _ c.loop.invariant.on_chain
    (
    subst (IsUnbound c.args.self.now.trail.now.pairs)
    (c.in-Some.ensures ∙ ap (cell_slot c.args.self.now.question.slots) (head_is _ _ _ c.loop.invariant.still_subterm))
    (sym c.in-None.ensures)
    )

pub returns-in-None-clause-subterm : goal.returns-in-None-clause-subterm
returns-in-None-clause-subterm c = c.loop.invariant.still_subterm

pub loop-preserved : goal.loop-preserved
loop-preserved c = record {
  on_chain =
      chain_goes_on _ _ _ _ _ _ c.in-Some-get.value.now c.loop.invariant.on_chain
      (sym (c.in-Some.ensures ∙ ap (cell_slot c.args.self.now.question.slots) (head_is _ _ _ c.loop.invariant.still_subterm)))
      (sym c.in-Some-get.ensures);
  still_subterm = value_subterm _ _ _ _ c.requires.underway.legal (sym c.in-Some-get.ensures);
}

pub returns-clause-comes : goal.returns-clause-comes
returns-clause-comes c =
    chain_ends _ _ _ _ _ c.loop.invariant.on_chain
    (chain_full _ _ _ _ _ c.loop.invariant.on_chain (omega (arith, c.loop-test.false, c.mark-end.ensures.number)))

pub returns-clause-subterm : goal.returns-clause-subterm
returns-clause-subterm c = c.loop.invariant.still_subterm
