use Rattle.si_defs.specs.declared.Relation.TheVariants.{Instances}
use Rattle.si_term.specs.Meaning.{pattern_of}
use Rattle.si_index.proofs.StandingLaws.{trees_stand}
use Rattle.si_first.proofs.answer.Goals as goal

pub find-requires-clause-standing : goal.find-requires-clause-standing
find-requires-clause-standing g c = trees_stand c.args.index.now c.trees.result.now Instances (pattern_of c.args.pattern.now) c.trees.ensures.answer c.trees.ensures.trees c.requires
