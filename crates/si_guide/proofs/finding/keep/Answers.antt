use Rattle.si_term.specs.Meaning.{clause_of}
use Rattle.si_guide.proofs.Refused.{refused}
use Rattle.si_guide.proofs.finding.keep.Goals as goal

pub returns-in_default-clause-keeps : goal.returns-in_default-clause-keeps
returns-in_default-clause-keeps c =
    (refused c.args.index.now.rules c.args.index.now.clauses (clause_of c.args.clause) c.in-Err.rejected.why c.in-Err.ensures.rejected c.in_default.not-Memory, c.in-Err.ensures.err)
