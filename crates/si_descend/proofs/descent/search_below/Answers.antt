use Rattle.si_unify.proofs.RoomLaws.{same_room}
use Rattle.si_descend.proofs.RenameLaws.{untrue}
use Rattle.si_descend.proofs.Starting.{comes_to, closed_above}
use Rattle.si_descend.proofs.Turns.{found_closed}
use Rattle.si_descend.proofs.descent.search_below.Goals as goal

pub returns-then-not-keeps_apart-clause-found : goal.returns-then-not-keeps_apart-clause-found
returns-then-not-keeps_apart-clause-found c =
    let node = c.requires.node in
    found_closed c.args.search.now c.requires.ready c.args.node node c.args.out.now.items
    (closed_above c.args.search.now c.requires.ready c.args.node node.0 node.1 c.args.trail.now.pairs c.args.trail.now.slots c.requires.solving c.requires.distinct c.requires.above
    (untrue c.keeps_apart.result c.keeps_apart.ensures.apart c.if-not-keeps_apart.true))

pub visit_all-requires-clause-above : goal.visit_all-requires-clause-above
visit_all-requires-clause-above c = record {
  node = c.requires.node;
  searching = record {
    ready = c.requires.ready;
    solving = c.requires.solving;
    noted = c.keeps_apart.ensures.taken c.if-not-keeps_apart.false;
  };
  above = λ node has. comes_to c.args.search.now c.requires.ready c.args.node node has c.args.trail.now.pairs c.args.trail.now.slots c.requires.solving c.requires.distinct c.requires.above (c.keeps_apart.ensures.apart.0 c.if-not-keeps_apart.false);
}

pub returns-then-not-keeps_apart-clause-keeps : goal.returns-then-not-keeps_apart-clause-keeps
returns-then-not-keeps_apart-clause-keeps c = same_room c.args.scratch.now
