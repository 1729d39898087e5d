use Rattle.si_term.specs.Meaning.{clause_of}
use Rattle.si_term.proofs.Alone.{clause_few}
use Rattle.si_tests.proofs.terms.write_entries.Goals as goal

pub entry_count-count-requires : goal.entry_count-count-requires
entry_count-count-requires c = clause_few (clause_of c.args.clause.now) c.requires

pub entry_at-entry-requires-clause-few : goal.entry_at-entry-requires-clause-few
entry_at-entry-requires-clause-few c = clause_few (clause_of c.args.clause.now) c.requires
