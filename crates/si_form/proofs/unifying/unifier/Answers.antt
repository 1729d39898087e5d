use Rattle.std.proofs.Common.{[], sym, ap, subst}
use Rattle.si_unify.specs.Solving.{IsAcyclic, AreHandedIn, HasSolved}
use Rattle.si_form.proofs.SolvedLaws.{none_bound, query_in_range, entry_in_range, refused, answered}
use Rattle.si_form.proofs.SideLengths.{unifier_within}
use Rattle.si_form.proofs.TrailLaws.{has_general}
use Rattle.si_form.proofs.unifying.unifier.Goals as goal

pub solve_with-requires-clause-left_range : goal.solve_with-requires-clause-left_range
solve_with-requires-clause-left_range c =
    query_in_range c.args.slots.now c.args.query.now c.args.entry.now c.requires.slots c.requires.whole_query

pub solve_with-requires-clause-right_range : goal.solve_with-requires-clause-right_range
solve_with-requires-clause-right_range c =
    entry_in_range c.args.slots.now c.args.query.now c.args.entry.now c.requires.slots c.requires.whole_entry

pub solve_with-requires-clause-triangular : goal.solve_with-requires-clause-triangular
solve_with-requires-clause-triangular c = subst (IsAcyclic c.args.slots.now) (sym (ap (λ t. t.pairs) c.in_ok-trail.ensures)) (none_bound c.args.slots.now)

pub returns-then-not-branch-clause-answers : goal.returns-then-not-branch-clause-answers
returns-then-not-branch-clause-answers c =
    refused c.args.slots.now c.args.query.now c.args.entry.now c.requires.slots
    (
    subst (HasSolved c.args.slots.now [] c.solve_with.new.trail.pairs c.args.query.now c.args.entry.now) c.if-not-branch.true
    (subst (λ old. HasSolved c.args.slots.now old c.solve_with.new.trail.pairs c.args.query.now c.args.entry.now c.in_ok-solve_with.field-0) (ap (λ t. t.pairs) c.in_ok-trail.ensures) c.in_ok-solve_with.ensures.solved)
    )

pub returns-clause-answers : goal.returns-clause-answers
returns-clause-answers c =
    answered c.args.slots.now c.args.query.now c.args.entry.now c.requires.slots c.solve_with.new.trail.pairs c.solve_with.ensures.bindings c.whole_list.ensures.distinct c.solve_with.ensures.triangular c.in_ok-solution.solution
    (
    subst (HasSolved c.args.slots.now [] c.solve_with.new.trail.pairs c.args.query.now c.args.entry.now) c.if-not-branch.false
    (subst (λ old. HasSolved c.args.slots.now old c.solve_with.new.trail.pairs c.args.query.now c.args.entry.now c.in_ok-solve_with.field-0) (ap (λ t. t.pairs) c.in_ok-trail.ensures) c.in_ok-solve_with.ensures.solved)
    )
    c.in_ok-solution.ensures.all

pub returns-then-not-branch-clause-short : goal.returns-then-not-branch-clause-short
returns-then-not-branch-clause-short c = tt

pub returns-clause-short : goal.returns-clause-short
returns-clause-short c =
    unifier_within c.args.slots.now c.args.query.now c.args.entry.now c.solve_with.new.trail.pairs c.in_ok-solution.solution
    c.requires.whole_query c.solve_with.ensures.bindings c.solve_with.ensures.triangular
    (subst (λ old. AreHandedIn old c.solve_with.new.trail.pairs c.args.query.now c.args.entry.now) (ap (λ t. t.pairs) c.in_ok-trail.ensures) c.solve_with.ensures.handed_in)
    (has_general c.args.slots.now c.requires.slots.free.query c.requires.slots.free.entry c.solve_with.new.trail.pairs c.solve_with.ensures.bindings c.whole_list.ensures.distinct c.solve_with.ensures.triangular)
    c.in_ok-solution.ensures.all
