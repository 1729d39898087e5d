use Rattle.std.proofs.Common.{subst, ◌∙◌}
use Rattle.si_defs.specs.Entries.{pattern_entry}
use Rattle.si_term.specs.Meaning.{entry_of, pattern_of}
use Rattle.si_flat.specs.declared.Owner.TheVariants.{Query}
use Rattle.si_flat.specs.Flattening.{WritesEntry}
use Rattle.si_flat.proofs.FlattenLaws.{names_written, pattern_whole, pattern_written}
use Rattle.si_flat.proofs.flatten.flatten_with_names.Goals as goal

pub into_query-requires : goal.into_query-requires
into_query-requires g c =
    pattern_whole (g.T.SymTable.pairs c.args.table.now) (pattern_of c.args.pattern.now) (entry_of c.as_entry.result) c.write.new.self c.as_entry.ensures c.requires c.in_ok-write.ensures.flat

pub returns-clause-query : goal.returns-clause-query
returns-clause-query g c =
    pattern_written (g.T.SymTable.pairs c.args.table.now) (pattern_of c.args.pattern.now) (entry_of c.as_entry.result) c.write.new.self c.as_entry.ensures c.requires c.in_ok-write.ensures.flat c.in_ok-query.query c.in_ok-query.ensures.0 c.in_ok-query.ensures.1

pub returns-clause-names : goal.returns-clause-names
returns-clause-names g c =
    c.in_ok-names.ensures ∙ c.names.ensures
    ∙ names_written (g.T.SymTable.pairs c.args.table.now) Query (pattern_entry (pattern_of c.args.pattern.now)) c.write.new.self (subst (λ e. WritesEntry (g.T.SymTable.pairs c.args.table.now) Query e c.write.new.self) c.as_entry.ensures c.in_ok-write.ensures.flat)
