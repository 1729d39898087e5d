use Rattle.std.proofs.Common.{◌∷◌, [], ◌++◌, sym, ◌∙◌, ap, subst}
use Rattle.si_flat.specs.Cells.{ind}
use Rattle.si_flat.proofs.Subterms.{some_cell}
use Rattle.si_trail.specs.Trails.{value_at}
use Rattle.si_unify.specs.Solving.{slot_of, CellIsInRange, AllowsSolving}
use Rattle.si_unify.specs.Spots.{free_slot}
use Rattle.si_unify.proofs.Places.{in_range-at}
use Rattle.si_fit.specs.Meeting.{slot_cells, HasMet}
use Rattle.si_fit.specs.declared.meeting.Met.TheVariants.{Equal}
use Rattle.si_fit.proofs.EndLaws.{no_cell}
use Rattle.si_fit.proofs.LengthLaws.{bound_within}
use Rattle.si_fit.proofs.MeetLaws.{variable_at, right_met, end_met}
use Rattle.si_fit.proofs.FreshLaws.{end_still_lacks, slot_unbound, fresh_ready, pair_met}
use Rattle.si_fit.proofs.filling.fill_one.Goals as goal

pub bounds-right-0 : goal.bounds-right-0
bounds-right-0 c = some_cell c.args.right.now c.requires.terms.right

pub bind-requires-clause-unbound : goal.bind-requires-clause-unbound
bind-requires-clause-unbound c =
    let ends = c.end_of-end.ensures.ends in
    let fresh = c.requires.fresh c.in-Ind.number c.in-Ind.is in
    ap (value_at c.args.trail.now.pairs) c.indicator_slot.ensures
    ∙ slot_unbound c.args.slots.now c.args.trail.now.pairs c.in-Ind.number c.args.trail.now.slots c.end_of-end.result c.requires.terms.ready
    (subst (CellIsInRange c.args.slots.now) c.in-Ind.is (in_range-at c.args.slots.now c.args.right.now 0 no_cell c.requires.terms.right_range (some_cell c.args.right.now c.requires.terms.right)))
    fresh.0 (ends.last, ends.last_stands) c.end_of-end.ensures.range
    (end_still_lacks c.args.slots.now c.args.trail.now.pairs c.args.left.now c.end_of-end.result.now c.in-Ind.number c.args.trail.now.slots c.requires.terms.ready c.mark.ensures.distinct fresh.0 ends fresh.1)

pub returns-in-Ind : goal.returns-in-Ind
returns-in-Ind c = record {
  outcome =
      end_met c.args.slots.now c.args.trail.now.pairs c.bind.new.self.pairs c.args.left.now c.end_of-end.result.now c.args.right.now Equal c.end_of-end.ensures.ends
      (right_met c.args.slots.now c.args.trail.now.pairs c.bind.new.self.pairs (slot_of c.args.slots.now (ind c.in-Ind.number)) c.end_of-end.result.now c.args.right.now Equal
      (variable_at c.args.slots.now (slot_of c.args.slots.now (ind c.in-Ind.number)) c.args.right.now c.requires.terms.right c.requires.terms.right_range (ap (free_slot c.args.slots.now) c.in-Ind.is))
      (subst (λ l. HasMet c.args.slots.now c.args.trail.now.pairs l (slot_cells c.args.slots.now (slot_of c.args.slots.now (ind c.in-Ind.number))) c.end_of-end.result.now Equal) (sym (c.bind.ensures.pairs ∙ ap (λ k. c.args.trail.now.pairs ++ (k, c.end_of-end.result) ∷ []) c.indicator_slot.ensures)) (pair_met c.args.slots.now c.args.trail.now.pairs (slot_of c.args.slots.now (ind c.in-Ind.number)) c.end_of-end.result)));
  trail = record {
    grows = (_, c.bind.ensures.pairs);
    ready =
        let ends = c.end_of-end.ensures.ends in
        let fresh = c.requires.fresh c.in-Ind.number c.in-Ind.is in
        subst (AllowsSolving c.args.slots.now c.bind.new.self.pairs) (sym c.bind.ensures.slots)
        (subst (λ l. AllowsSolving c.args.slots.now l c.args.trail.now.slots) (sym (c.bind.ensures.pairs ∙ ap (λ k. c.args.trail.now.pairs ++ (k, c.end_of-end.result) ∷ []) c.indicator_slot.ensures))
        (fresh_ready c.args.slots.now c.args.trail.now.pairs c.in-Ind.number c.args.trail.now.slots c.end_of-end.result c.requires.terms.ready
        (subst (CellIsInRange c.args.slots.now) c.in-Ind.is (in_range-at c.args.slots.now c.args.right.now 0 no_cell c.requires.terms.right_range (some_cell c.args.right.now c.requires.terms.right)))
        fresh.0 (ends.last, ends.last_stands) c.end_of-end.ensures.range
        (end_still_lacks c.args.slots.now c.args.trail.now.pairs c.args.left.now c.end_of-end.result.now c.in-Ind.number c.args.trail.now.slots c.requires.terms.ready c.mark.ensures.distinct fresh.0 ends fresh.1)));
    count = c.bind.ensures.slots;
  };
  within = λ n values left right.
      bound_within c.args.trail.now.pairs c.bind.new.self.pairs (slot_of c.args.slots.now (ind c.in-Ind.number)) c.end_of-end.result (c.bind.ensures.pairs ∙ ap (λ k. c.args.trail.now.pairs ++ (k, c.end_of-end.result) ∷ []) c.indicator_slot.ensures) n values (c.end_of-end.ensures.within n values left);
}
