use Rattle.std.proofs.Common.{refl}
use Rattle.si_defs.proofs.ListLaws.{all_got}
use Rattle.si_term.specs.Meaning.{clause_of}
use Rattle.si_session.specs.MappedClauses.{IsKeptAt, mapped_line}
use Rattle.si_session.proofs.subsumption.MapsLines.put_line.Goals as goal

pub clause-requires : goal.clause-requires
clause-requires g c =
    let maps = c.args.self.now in
    all_got (IsKeptAt maps.index.now.clauses) maps.found.now c.args.n c.at-mapped.result.now maps.kept c.at-mapped.ensures

pub returns : goal.returns
returns g c =
    let m = c.at-mapped.result.now in
    let kept = clause_of c.clause.result.now in
    (mapped_line kept.name m.map, (m, kept, c.at-mapped.ensures, c.clause.ensures, refl), c.put_mapped.ensures)
