use Rattle.std.proofs.Common.{sym, ◌∙◌}
use Rattle.si_term.specs.Meaning.{clause_of, name_of}
use Rattle.si_term.proofs.Alone.{clause_few}
use Rattle.si_sign.proofs.PlainLaws.{taken_if_some}
use Rattle.si_sign.proofs.plain.try_clause.Goals as goal

pub returns-then-is_some-clause-rejected : goal.returns-then-is_some-clause-rejected
returns-then-is_some-clause-rejected c =
    taken_if_some c.args.clauses.now (name_of c.args.clause.now.name) c.position.result c.position.ensures.found (sym c.is_some.ensures ∙ c.if-is_some.true)

pub entry_count-gained-requires : goal.entry_count-gained-requires
entry_count-gained-requires c = clause_few (clause_of c.args.clause.now) c.requires.sound
