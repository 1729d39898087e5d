use Rattle.si_tree_tests.proofs.seen.SeenTree.+read_below.Given as goal

abbrev pub decreases-read_below : goal.decreases-read_below
decreases-read_below l = l.deep
