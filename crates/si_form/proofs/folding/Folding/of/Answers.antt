use Rattle.std.proofs.Common.{length, sym, ◌∙◌, ap, subst}
use Rattle.si_form.specs.Folding.{sizes_of, LeadClasses, AreSizes}
use Rattle.si_form.proofs.folding.Folding.of.Goals as goal

pub invariant_of-result : goal.invariant_of-result
invariant_of-result c =
    let nodes = c.args.classes.nodes.keys in
    let of_slots = c.args.classes.of_slots.items in
    let same = c.in_ok-written.ensures.leaders ∙ c.deref.ensures.value in
    record {
      terms = c.requires.terms;
      long = ap length same ∙ c.in_ok-leaders.ensures.long;
      leads = λ slots. subst (LeadClasses slots nodes of_slots (length of_slots)) (sym same) (c.in_ok-leaders.ensures.leads slots);
      sized = subst (λ l. AreSizes nodes l (length nodes) (sizes_of c.in_ok-written.written.items)) (sym c.in_ok-written.ensures.leaders) c.in_ok-written.ensures.sizes;
    }
