use Rattle.std.proofs.Common.{sym, subst}
use Rattle.si_defs.specs.Clauses.{IsSoundClause}
use Rattle.si_tests.proofs.terms.write_copy.Goals as goal

pub write_entries-requires : goal.write_entries-requires
write_entries-requires c = subst IsSoundClause (sym c.in_ok-copy.ensures) c.requires
