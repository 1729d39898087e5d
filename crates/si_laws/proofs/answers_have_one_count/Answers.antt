use Rattle.si_laws.proofs.AnswerLaws.{one_count, counts_hits}
use Rattle.si_laws.proofs.answers_have_one_count.Goals as goal

pub returns-clause-count : goal.returns-clause-count
returns-clause-count c = one_count

pub returns-clause-hits : goal.returns-clause-hits
returns-clause-hits c = counts_hits
