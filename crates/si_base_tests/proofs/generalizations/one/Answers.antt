use Rattle.std.proofs.Common.{[]}
use Rattle.si_base_tests.proofs.Vectors as made
use Rattle.si_base_tests.proofs.generalizations.one.Goals as goal

pub push-requires-clause-new : goal.push-requires-clause-new
push-requires-clause-new c = made.none_left c.new-bindings.result c.args.left c.new-bindings.ensures

pub returns : goal.returns
returns c = made.pushed [] c.new-bindings.result c.push.new.self (c.args.left, c.args.right.now) c.new-bindings.ensures c.in_ok-push.ensures.ok
