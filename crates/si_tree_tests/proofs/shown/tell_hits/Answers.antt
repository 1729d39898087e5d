use Rattle.si_term.specs.Meaning.{pattern_of}
use Rattle.si_index.proofs.StandingLaws.{trees_stand}
use Rattle.si_tree_tests.proofs.shown.tell_hits.Goals as goal

pub find-requires-clause-standing : goal.find-requires-clause-standing
find-requires-clause-standing c = trees_stand c.args.index.now c.trees.result.now c.args.relation (pattern_of c.args.pattern.now) c.trees.ensures.answer c.trees.ensures.trees c.requires
