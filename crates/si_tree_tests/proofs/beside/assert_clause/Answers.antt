use Rattle.std.proofs.Common.{subst}
use Rattle.si_defs.specs.Clauses.{IsSoundClause}
use Rattle.si_defs.specs.Entries.{entries}
use Rattle.si_defs.proofs.ListLaws.{all_got}
use Rattle.si_term.specs.Meaning.{clause_of, entry_of}
use Rattle.si_term.proofs.Alone.{clause_few}
use Rattle.si_flat.specs.Flattened.{IsSoundEntry}
use Rattle.si_index.specs.Searching.{IsKnownClause}
use Rattle.si_index.proofs.EntryLaws.{known_entry}
use Rattle.si_index.proofs.StandingLaws.{is_orderly}
use Rattle.si_scan.proofs.PostedLaws.{got_placed}
use Rattle.si_tree_tests.proofs.beside.assert_clause.Goals as goal

pub entry_count-number-end-requires : goal.entry_count-number-end-requires
entry_count-number-end-requires g c =
    let clause = clause_of c.clause-clause.result.now in
    clause_few clause (all_got IsSoundClause c.args.index.now.clauses c.args.at clause c.stats.ensures.stored.sound c.clause-clause.ensures)

pub entry_at-requires-clause-few : goal.entry_at-requires-clause-few
entry_at-requires-clause-few g c =
    let clause = clause_of c.clause-clause.result.now in
    clause_few clause (all_got IsSoundClause c.args.index.now.clauses c.args.at clause c.stats.ensures.stored.sound c.clause-clause.ensures)

pub assert_entry-requires : goal.assert_entry-requires
assert_entry-requires g c =
    let k = c.args.index.now in
    let clause = clause_of c.clause-clause.result.now in
    let number = c.loop-number.number in
    let orderly =
    is_orderly k c.signature.result.now c.stats.ensures.keyed c.stats.ensures.numbering c.signature.ensures.numbers c.signature.ensures.signature c.stats.ensures.stored.sound in
    let known = all_got (IsKnownClause k.numbers) k.clauses c.args.at clause orderly.known c.clause-clause.ensures in
    let placed = got_placed (entries clause) number (entry_of c.entry_at.result) c.entry_at.ensures in
    let entry = known_entry k.numbers clause number placed.0 known placed.1 in
    subst IsSoundEntry placed.2 entry.sound
