use Rattle.si_descend.proofs.CountLaws.{counted_closed}
use Rattle.si_descend.proofs.RenameLaws.{untrue}
use Rattle.si_descend.proofs.Starting.{comes_to, closed_above}
use Rattle.si_descend.proofs.descent.count_below.Goals as goal

pub returns-then-not-keeps_apart : goal.returns-then-not-keeps_apart
returns-then-not-keeps_apart c =
    let node = c.requires.node in
    counted_closed c.args.search.now c.requires.ready c.args.node node
    (closed_above c.args.search.now c.requires.ready c.args.node node.0 node.1 c.args.trail.now.pairs c.args.trail.now.slots c.requires.solving c.mark.ensures.distinct c.requires.above
    (untrue c.keeps_apart.result c.keeps_apart.ensures.apart c.if-not-keeps_apart.true))

pub count_all-requires-clause-above : goal.count_all-requires-clause-above
count_all-requires-clause-above c = record {
  node = c.requires.node;
  searching = record {
    ready = c.requires.ready;
    solving = c.requires.solving;
    noted = c.keeps_apart.ensures.taken c.if-not-keeps_apart.false;
  };
  above = λ node has. comes_to c.args.search.now c.requires.ready c.args.node node has c.args.trail.now.pairs c.args.trail.now.slots c.requires.solving c.mark.ensures.distinct c.requires.above (c.keeps_apart.ensures.apart.0 c.if-not-keeps_apart.false);
}
