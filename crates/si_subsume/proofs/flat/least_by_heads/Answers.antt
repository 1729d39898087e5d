use Rattle.std.proofs.Common.{◌<◌, length}
use Rattle.si_defs.proofs.ListLaws.{all_weaker}
use Rattle.si_flat.proofs.Subterms.{some_cell}
use Rattle.si_subsume.specs.Search.{IsFlatLiteral}
use Rattle.si_subsume.proofs.flat.least_by_heads.Goals as goal

pub of-requires : goal.of-requires
of-requires c = all_weaker (λ b. IsFlatLiteral c.args.slots b.now) (λ b. 0 < length b.now) c.args.targets.now (λ b term. some_cell b.now term.whole) c.requires.targets

pub least-requires-clause-searchable : goal.least-requires-clause-searchable
least-requires-clause-searchable c = record {
  literals = c.requires.literals;
  targets = c.requires.targets;
  index = c.in_ok-heads.ensures;
}
