use Rattle.std.proofs.Common.{sym, subst}
use Rattle.si_flat.proofs.Subterms.{some_cell}
use Rattle.si_unify.specs.Solving.{AllowsSolving}
use Rattle.si_fit.specs.Meeting.{slot_cells, HasMet}
use Rattle.si_fit.specs.declared.meeting.Met.TheVariants.{Equal, Clash, Unknown}
use Rattle.si_fit.proofs.BindLaws.{bound_met, bound_ready}
use Rattle.si_fit.proofs.LengthLaws.{bound_within}
use Rattle.si_fit.proofs.MeetLaws.{occurs_clash}
use Rattle.si_fit.proofs.WalkedLaws.{no_step}
use Rattle.si_fit.proofs.meeting.bind.Goals as goal

pub bounds-term-0 : goal.bounds-term-0
bounds-term-0 c = some_cell c.args.term.now c.requires.terms.right

pub returns-in-Absent-clause-walked : goal.returns-in-Absent-clause-walked
returns-in-Absent-clause-walked c = record {
  outcome =
      subst (λ l. HasMet c.args.slots.now c.args.trail.now.pairs l (slot_cells c.args.slots.now c.args.slot) c.args.term.now Equal) (sym c.bind.ensures.pairs)
      (bound_met c.args.slots.now c.args.trail.now.pairs c.args.slot c.args.trail.now.slots c.args.term c.requires.terms.ready c.mark.ensures.distinct c.requires.slot c.requires.unbound c.requires.terms.right c.requires.terms.right_range c.in-Absent.ensures.found c.requires.first);
  trail = record {
    grows = (_, c.bind.ensures.pairs);
    ready = subst (AllowsSolving c.args.slots.now c.bind.new.self.pairs) (sym c.bind.ensures.slots) (subst (λ l. AllowsSolving c.args.slots.now l c.args.trail.now.slots) (sym c.bind.ensures.pairs) (bound_ready c.args.slots.now c.args.trail.now.pairs c.args.slot c.args.trail.now.slots c.args.term c.requires.terms.ready c.mark.ensures.distinct c.requires.slot c.requires.unbound c.requires.terms.right c.requires.terms.right_range c.in-Absent.ensures.found c.requires.first));
    count = c.bind.ensures.slots;
  };
  within = λ n values one few. bound_within c.args.trail.now.pairs c.bind.new.self.pairs c.args.slot c.args.term c.bind.ensures.pairs n values few;
}

pub returns-in-App-clause-walked : goal.returns-in-App-clause-walked
returns-in-App-clause-walked c =
    no_step c.args.slots.now c.args.trail.now (slot_cells c.args.slots.now c.args.slot) c.args.term.now Clash c.requires.terms.ready
    (occurs_clash c.args.slots.now c.args.trail.now.pairs c.args.trail.now.pairs c.args.slot c.args.term.now c.in-App.sym c.in-App.arity c.in-App.len c.requires.terms.right c.in-App.is c.in-Present.ensures.found)

pub returns-in_default-clause-walked : goal.returns-in_default-clause-walked
returns-in_default-clause-walked c =
    no_step c.args.slots.now c.args.trail.now (slot_cells c.args.slots.now c.args.slot) c.args.term.now Unknown c.requires.terms.ready tt

pub returns-in-Unknown-clause-walked : goal.returns-in-Unknown-clause-walked
returns-in-Unknown-clause-walked c =
    no_step c.args.slots.now c.args.trail.now (slot_cells c.args.slots.now c.args.slot) c.args.term.now Unknown c.requires.terms.ready tt
