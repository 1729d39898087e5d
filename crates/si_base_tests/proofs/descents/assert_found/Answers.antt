use Rattle.si_base_tests.proofs.Nodes.{same_trail}
use Rattle.si_base_tests.proofs.descents.assert_found.Goals as goal

pub returns : goal.returns
returns g c = record { same = same_trail c.args.trail.now c.descend.new.trail c.descend.ensures.pairs c.descend.ensures.slots }
