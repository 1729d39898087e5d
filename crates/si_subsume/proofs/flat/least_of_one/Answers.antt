use Rattle.std.proofs.Common.{◌<◌, ◌-◌, ◌^◌, List, length, sym, subst, arith}
use Rattle.std.specs.List.{AllByRecursion}
use Rattle.std.specs.Borrow.{Bor}
use Rattle.si_defs.proofs.ListLaws.{all_weaker}
use Rattle.si_flat.specs.declared.Cell.{Cell}
use Rattle.si_trail.specs.Trails.{Trail}
use Rattle.si_subsume.specs.declared.search.Choice.{Choice}
use Rattle.si_unify.specs.Solving.{AllowsSolving}
use Rattle.si_subsume.specs.Search.{AnswersSearch}
use Rattle.si_subsume.proofs.flat.least_of_one.Goals as goal

pub search-requires-clause-ready : goal.search-requires-clause-ready
search-requires-clause-ready c =
    subst (λ (t : Trail (Bor (List Cell))). AllowsSolving c.args.task.now.slots t.pairs t.slots) (sym c.in_ok-trail.ensures)
    (record { room = omega (arith, c.count.ensures.count); bindings = tt; triangular = (λ slot. 0, tt) })

pub numbers-requires : goal.numbers-requires
numbers-requires c =
    subst (AllByRecursion (λ (choice : Choice). choice.number < 2 ^ 32 - 1)) (sym c.deref.ensures.value)
    (all_weaker (λ choice. choice.number < length c.args.task.now.targets.now) (λ choice. choice.number < 2 ^ 32 - 1) c.in-Some.choices.items (λ choice below. omega (arith, below, c.requires.few))
    (subst (AnswersSearch c.args.task.now.slots c.args.task.now.literals.now c.args.task.now.targets.now) c.in-Some.is c.in_ok-choices.ensures.finds).inside)
