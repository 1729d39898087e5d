use Rattle.std.proofs.Common.{IfSome, sym, subst}
use Rattle.si_prune.specs.Pruning.{AreInLeftOrder}
use Rattle.si_prune.proofs.FindLaws.{if_found, if_nowhere}
use Rattle.si_prune.proofs.finding.bound_to.Goals as goal

pub returns-in-Some-clause-some : goal.returns-in-Some-clause-some
returns-in-Some-clause-some c =
    let order : AreInLeftOrder c.args.bindings.now c.in-Some.pairs.items = subst (λ o. IfSome o (λ pairs. AreInLeftOrder c.args.bindings.now pairs.items)) c.in-Some.is c.requires in
    if_found c.args.bindings.now c.as_slice.result.now c.args.number c.found_in.result (subst (AreInLeftOrder c.args.bindings.now) (sym c.as_slice.ensures.value) order) c.found_in.ensures.some

pub returns-in-Some-clause-none : goal.returns-in-Some-clause-none
returns-in-Some-clause-none c =
    let order : AreInLeftOrder c.args.bindings.now c.in-Some.pairs.items = subst (λ o. IfSome o (λ pairs. AreInLeftOrder c.args.bindings.now pairs.items)) c.in-Some.is c.requires in
    if_nowhere c.args.bindings.now c.as_slice.result.now c.args.number c.found_in.result (subst (AreInLeftOrder c.args.bindings.now) (sym c.as_slice.ensures.value) order) c.found_in.ensures.none
