use Rattle.std.proofs.Common.{[], ◌∷◌}
use Rattle.si_flat.specs.Cells.{cells_of}
use Rattle.si_base_tests.proofs.Vectors as made
use Rattle.si_base_tests.proofs.generalizations.with_a.Goals as goal

pub push-requires-clause-new : goal.push-requires-clause-new
push-requires-clause-new c = made.none_left c.new-bindings.result 1 c.new-bindings.ensures

pub push-requires-clause-whole : goal.push-requires-clause-whole
push-requires-clause-whole c = made.whole_constant 6

pub push-requires-2-clause-new : goal.push-requires-2-clause-new
push-requires-2-clause-new c = made.two_left c.push.new.self (cells_of made.a) (made.pushed [] c.new-bindings.result c.push.new.self (1, cells_of made.a) c.new-bindings.ensures c.in_ok-push.ensures.ok)

pub returns : goal.returns
returns c =
    made.pushed ((1, cells_of made.a) ∷ []) c.push.new.self c.push-2.new.self (2, c.args.right.now)
    (made.pushed [] c.new-bindings.result c.push.new.self (1, cells_of made.a) c.new-bindings.ensures c.in_ok-push.ensures.ok) c.in_ok-push-2.ensures.ok
