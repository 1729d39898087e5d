use Rattle.std.proofs.Common.{subst}
use Rattle.std.specs.Prelude.{Some}
use Rattle.si_defs.specs.Entries.{pattern_entry}
use Rattle.si_term.specs.Meaning.{pattern_of, entry_of}
use Rattle.si_flat.specs.declared.Owner.TheVariants.{Query, Entry}
use Rattle.si_flat.specs.Flattened.{FlattensEntry, query_numbers}
use Rattle.si_index.proofs.FlatLaws.{flat_is_numbered}
use Rattle.si_guide.proofs.flattening.flatten_both.Goals as goal

pub returns-clause-numbered : goal.returns-clause-numbered
returns-clause-numbered g c =
    let pairs = g.T.SymTable.pairs c.args.table.now in
    let flat : FlattensEntry pairs (entry_of c.args.entry) (Some c.in-Some.flat) =
    subst (FlattensEntry pairs (entry_of c.args.entry)) c.in-Some.is c.in_ok-flat.ensures in (
      flat_is_numbered (query_numbers pairs c.in_ok-query.query.extra) Query (pattern_entry (pattern_of c.args.pattern.now)) c.in_ok-query.query.flat c.in_ok-query.ensures.flat,
      flat_is_numbered pairs Entry (entry_of c.args.entry) c.in-Some.flat flat.1,
    )
