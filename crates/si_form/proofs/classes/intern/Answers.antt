use Rattle.si_form.proofs.NodeLaws.{interned}
use Rattle.si_form.proofs.classes.intern.Goals as goal

pub returns : goal.returns
returns c = interned c.args.nodes.now.keys c.insert_full.new.self.keys c.args.node c.in_ok-number.number c.in_ok-number.ensures.keys c.in_ok-number.ensures.index
