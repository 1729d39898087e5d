use Rattle.si_examples.proofs.OneStep.{silent_line, silent_comment, silent_only, open_comment_line}
use Rattle.si_examples.proofs.steps.silent_lines.Goals as goal

pub returns-clause-silent_line : goal.returns-clause-silent_line
returns-clause-silent_line c = silent_line

pub returns-clause-silent_comment : goal.returns-clause-silent_comment
returns-clause-silent_comment c = silent_comment

pub returns-clause-silent_only : goal.returns-clause-silent_only
returns-clause-silent_only c = silent_only

pub returns-clause-open_comment : goal.returns-clause-open_comment
returns-clause-open_comment c = open_comment_line
