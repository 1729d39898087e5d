use Rattle.std.proofs.lemmas.Result.{IfOk-weaker}
use Rattle.si_term.specs.Meaning.{entry_of, pattern_of}
use Rattle.si_flat.proofs.FlattenLaws.{pattern_whole, pattern_written}
use Rattle.si_flat.proofs.flatten.flatten_pattern.Goals as goal

pub into_query-requires : goal.into_query-requires
into_query-requires g c =
    pattern_whole (g.T.SymTable.pairs c.args.table.now) (pattern_of c.args.pattern.now) (entry_of c.as_entry.result) c.write.new.self c.as_entry.ensures c.requires c.in_ok-write.ensures.flat

pub returns : goal.returns
returns g c =
    IfOk-weaker c.into_query.result _ _
    (λ q h. pattern_written (g.T.SymTable.pairs c.args.table.now) (pattern_of c.args.pattern.now) (entry_of c.as_entry.result) c.write.new.self c.as_entry.ensures c.requires c.in_ok-write.ensures.flat q h.0 h.1)
    c.into_query.ensures
