use Rattle.si_term.specs.Meaning.{entry_of}
use Rattle.si_flat.proofs.FlattenLaws.{entry_filled}
use Rattle.si_flat.proofs.flatten.EntryBuffer.fill.Goals as goal

pub returns-in-Ok-clause-filled : goal.returns-in-Ok-clause-filled
returns-in-Ok-clause-filled g c =
    entry_filled (g.T.SymTable.pairs c.args.table.now) (entry_of c.args.entry) c.write.new.self c.has_extra.result c.requires c.in-Ok.ensures.flat c.has_extra.ensures
