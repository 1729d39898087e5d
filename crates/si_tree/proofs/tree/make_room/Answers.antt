use Rattle.std.proofs.Common.{ap}
use Rattle.si_tree.proofs.tree.make_room.Goals as goal

pub returns-clause-same : goal.returns-clause-same
returns-clause-same c = record {
  before = c.index_mut-node.result.now;
  after = c.reserve_child.new.self;
  had = c.index_mut-node.ensures.value;
  slots = ap (λ s. s.slots) c.reserve_nodes.ensures.rest_kept;
  same = c.reserve_child.ensures.same;
}
