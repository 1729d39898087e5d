use Rattle.si_examples.proofs.OneStep.{too_long, too_long_blank, no_memory}
use Rattle.si_examples.proofs.steps.long_lines.Goals as goal

pub returns-clause-too_long : goal.returns-clause-too_long
returns-clause-too_long c = too_long

pub returns-clause-too_long_blank : goal.returns-clause-too_long_blank
returns-clause-too_long_blank c = too_long_blank

pub returns-clause-no_memory_where_too_long : goal.returns-clause-no_memory_where_too_long
returns-clause-no_memory_where_too_long c = no_memory
