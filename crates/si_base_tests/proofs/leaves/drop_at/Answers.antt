use Rattle.si_base_tests.proofs.Drops.{may_go, node_stays}
use Rattle.si_base_tests.proofs.leaves.drop_at.Goals as goal

pub drop_posting-requires : goal.drop_posting-requires
drop_posting-requires g c =
    may_go c.args.tree.now c.args.leaf _ c.args.place c.at-posting.result c.requires c.postings-postings.ensures c.at-posting.ensures

pub returns : goal.returns
returns g c = node_stays _ _ _ _ c.drop_posting.ensures
