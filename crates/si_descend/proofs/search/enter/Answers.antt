use Rattle.si_term.proofs.Results.{on_err}
use Rattle.si_descend.specs.Lending.{IsEnoughForTree}
use Rattle.std.proofs.Common.{ℕ, subst, arith}
use Rattle.si_fit.specs.Fitting.{HasFitted}
use Rattle.si_descend.proofs.EnoughLaws.{rows_short}
use Rattle.si_descend.proofs.Entering.{entered_range, never_entered}
use Rattle.si_descend.proofs.Opening.{entered_fresh}
use Rattle.si_descend.proofs.Entered.{entered_plain, entered_variants, known_taken, notes_new, plain_notes, room_taken, instances_differ, generalizations_differ, unifiable_differ}
use Rattle.si_descend.proofs.search.enter.Goals as goal

pub fit-requires-clause-range : goal.fit-requires-clause-range
fit-requires-clause-range c =
    let node = c.requires.above.node in
    entered_range c.args.search.now c.requires.above.searching.ready c.args.node node.0 node.1 c.bindings.result.now (c.bindings.ensures node.0 node.1) c.args.trail.now.pairs (c.requires.above.above node.0 node.1)

pub fit-requires-clause-fresh : goal.fit-requires-clause-fresh
fit-requires-clause-fresh c =
    let node = c.requires.above.node in
    entered_fresh c.args.search.now c.requires.above.searching.ready c.args.node node.0 node.1 c.bindings.result.now (c.bindings.ensures node.0 node.1) c.args.trail.now.pairs (c.requires.above.above node.0 node.1)

pub fit-requires-clause-solution : goal.fit-requires-clause-solution
fit-requires-clause-solution c = (c.requires.above.above c.requires.above.node.0 c.requires.above.node.1).solution

pub returns-then-not-branch-clause-enters : goal.returns-then-not-branch-clause-enters
returns-then-not-branch-clause-enters c =
    let node = c.requires.above.node in
    never_entered c.args.search.now c.requires.above.searching.ready c.args.node node.0 node.1 c.bindings.result.now (c.bindings.ensures node.0 node.1) c.args.trail.now.pairs (c.requires.above.above node.0 node.1) c.fit.new.trail.pairs
    (subst (HasFitted c.args.search.now.slots c.args.trail.now.pairs c.fit.new.trail.pairs c.bindings.result.now) c.if-not-branch.true c.in_ok-fit.ensures.fits)

pub returns-in-Instances-clause-enters : goal.returns-in-Instances-clause-enters
returns-in-Instances-clause-enters c =
    let node = c.requires.above.node in
    entered_plain c.args.search.now c.requires.above.searching.ready c.args.node node.0 node.1 c.bindings.result.now (c.bindings.ensures node.0 node.1) c.args.trail.now.pairs (c.requires.above.above node.0 node.1) c.fit.new.trail.pairs c.in_ok-fit.field-0 c.in_ok-fit.ensures.fits c.if-not-branch.false (instances_differ c.args.search.now.relation c.in-Instances.is)

pub returns-in-Generalizations-clause-enters : goal.returns-in-Generalizations-clause-enters
returns-in-Generalizations-clause-enters c =
    let node = c.requires.above.node in
    entered_plain c.args.search.now c.requires.above.searching.ready c.args.node node.0 node.1 c.bindings.result.now (c.bindings.ensures node.0 node.1) c.args.trail.now.pairs (c.requires.above.above node.0 node.1) c.fit.new.trail.pairs c.in_ok-fit.field-0 c.in_ok-fit.ensures.fits c.if-not-branch.false (generalizations_differ c.args.search.now.relation c.in-Generalizations.is)

pub returns-in-Unifiable-clause-enters : goal.returns-in-Unifiable-clause-enters
returns-in-Unifiable-clause-enters c =
    let node = c.requires.above.node in
    entered_plain c.args.search.now c.requires.above.searching.ready c.args.node node.0 node.1 c.bindings.result.now (c.bindings.ensures node.0 node.1) c.args.trail.now.pairs (c.requires.above.above node.0 node.1) c.fit.new.trail.pairs c.in_ok-fit.field-0 c.in_ok-fit.ensures.fits c.if-not-branch.false (unifiable_differ c.args.search.now.relation c.in-Unifiable.is)

pub returns-in-Variants-clause-enters : goal.returns-in-Variants-clause-enters
returns-in-Variants-clause-enters c =
    let node = c.requires.above.node in
    entered_variants c.args.search.now c.requires.above.searching.ready c.args.node node.0 node.1 c.bindings.result.now (c.bindings.ensures node.0 node.1) c.args.trail.now.pairs (c.requires.above.above node.0 node.1) c.fit.new.trail.pairs c.in-Variants.is c.fit.new.trail.slots c.in_ok-fit.ensures.ready c.is_renaming.ensures.distinct c.in_ok-fit.field-0 c.is_renaming.result c.in_ok-fit.ensures.fits c.if-not-branch.false c.is_renaming.ensures.renaming

pub returns-in-Instances-clause-taken : goal.returns-in-Instances-clause-taken
returns-in-Instances-clause-taken c told =
    plain_notes c.args.search.now.relation c.args.search.now.slots c.fit.new.trail.pairs c.args.taken.now (instances_differ c.args.search.now.relation c.in-Instances.is)

pub returns-in-Generalizations-clause-taken : goal.returns-in-Generalizations-clause-taken
returns-in-Generalizations-clause-taken c told =
    plain_notes c.args.search.now.relation c.args.search.now.slots c.fit.new.trail.pairs c.args.taken.now (generalizations_differ c.args.search.now.relation c.in-Generalizations.is)

pub returns-in-Unifiable-clause-taken : goal.returns-in-Unifiable-clause-taken
returns-in-Unifiable-clause-taken c told =
    plain_notes c.args.search.now.relation c.args.search.now.slots c.fit.new.trail.pairs c.args.taken.now (unifiable_differ c.args.search.now.relation c.in-Unifiable.is)

pub is_renaming-requires-clause-taken : goal.is_renaming-requires-clause-taken
is_renaming-requires-clause-taken c =
    let node = c.requires.above.node in
    known_taken c.args.search.now c.requires.above.searching.ready c.args.node node.0 node.1 c.bindings.result.now (c.bindings.ensures node.0 node.1) c.args.trail.now.pairs (c.requires.above.above node.0 node.1) c.fit.new.trail.pairs c.mark-known.result c.in_ok-fit.field-0 c.args.taken.now c.in_ok-fit.ensures.fits c.if-not-branch.false c.in-Variants.is c.mark-known.ensures.number c.fit.ensures.grows c.requires.above.searching.noted

pub is_renaming-requires-clause-room : goal.is_renaming-requires-clause-room
is_renaming-requires-clause-room c = room_taken c.args.search.now.relation c.args.search.now.slots c.args.trail.now.pairs c.args.taken.now c.in-Variants.is c.requires.above.searching.noted

pub returns-in-Variants-clause-taken : goal.returns-in-Variants-clause-taken
returns-in-Variants-clause-taken c told =
    notes_new c.args.search.now.relation c.args.search.now.slots c.fit.new.trail.pairs c.is_renaming.new.taken c.in-Variants.is (c.is_renaming.ensures.taken told)
    (omega (arith, c.is_renaming.ensures.slots, room_taken c.args.search.now.relation c.args.search.now.slots c.args.trail.now.pairs c.args.taken.now c.in-Variants.is c.requires.above.searching.noted))

pub returns-in_err-fit-clause-full : goal.returns-in_err-fit-clause-full
returns-in_err-fit-clause-full c =
    let node = c.requires.above.node in
    let lack : (n : ℕ) → IsEnoughForTree n c.args.search.now.tree.now c.args.search.now.slots c.args.trail.now.pairs c.args.scratch.now → ⊥ = λ n enough. c.in_err-fit.ensures.full n enough.values (rows_short n c.bindings.result.now node.0.bindings (c.bindings.ensures node.0 node.1) (enough.rights c.args.node node.0 node.1)) enough.solver in
    on_err _ lack

pub returns-then-not-branch-clause-within : goal.returns-then-not-branch-clause-within
returns-then-not-branch-clause-within c n enough =
    let node = c.requires.above.node in
    c.fit.ensures.within n enough.values (rows_short n c.bindings.result.now node.0.bindings (c.bindings.ensures node.0 node.1) (enough.rights c.args.node node.0 node.1))

pub returns-in-Variants-clause-within : goal.returns-in-Variants-clause-within
returns-in-Variants-clause-within c n enough =
    let node = c.requires.above.node in
    c.fit.ensures.within n enough.values (rows_short n c.bindings.result.now node.0.bindings (c.bindings.ensures node.0 node.1) (enough.rights c.args.node node.0 node.1))

pub returns-in-Instances-clause-within : goal.returns-in-Instances-clause-within
returns-in-Instances-clause-within c n enough =
    let node = c.requires.above.node in
    c.fit.ensures.within n enough.values (rows_short n c.bindings.result.now node.0.bindings (c.bindings.ensures node.0 node.1) (enough.rights c.args.node node.0 node.1))

pub returns-in-Generalizations-clause-within : goal.returns-in-Generalizations-clause-within
returns-in-Generalizations-clause-within c n enough =
    let node = c.requires.above.node in
    c.fit.ensures.within n enough.values (rows_short n c.bindings.result.now node.0.bindings (c.bindings.ensures node.0 node.1) (enough.rights c.args.node node.0 node.1))

pub returns-in-Unifiable-clause-within : goal.returns-in-Unifiable-clause-within
returns-in-Unifiable-clause-within c n enough =
    let node = c.requires.above.node in
    c.fit.ensures.within n enough.values (rows_short n c.bindings.result.now node.0.bindings (c.bindings.ensures node.0 node.1) (enough.rights c.args.node node.0 node.1))
