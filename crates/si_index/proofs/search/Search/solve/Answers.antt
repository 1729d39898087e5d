use Rattle.std.proofs.Common.{sym, subst}
use Rattle.std.specs.Prelude.{Some, None}
use Rattle.si_term.specs.Meaning.{entry_of}
use Rattle.si_flat.specs.declared.Owner.TheVariants.{Entry}
use Rattle.si_flat.specs.Cells.{IsWhole, StandsFor}
use Rattle.si_flat.specs.Flattened.{HoldsEntry, FillsEntry}
use Rattle.si_form.specs.Answers.{AreNumbered, Answers}
use Rattle.si_index.specs.Searching.{numbers_of, pattern_in, term_in}
use Rattle.si_index.proofs.FlatLaws.{none_lacks, flat_is_numbered, alike_standing}
use Rattle.si_index.proofs.SolvedLaws.{solved_in}
use Rattle.si_index.proofs.search.Search.solve.Goals as goal

pub unreachable-requires : goal.unreachable-requires
unreachable-requires c =
    subst (FillsEntry (numbers_of c.args.self.now) (entry_of c.args.entry) _ _) c.if-not-branch.true c.in_ok-fill.ensures.filled
    (none_lacks (numbers_of c.args.self.now) _ c.requires.known.numbered)

pub canonical_counted-requires-clause-whole : goal.canonical_counted-requires-clause-whole
canonical_counted-requires-clause-whole c =
    let holds : HoldsEntry (numbers_of c.args.self.now) (entry_of c.args.entry) c.fill.new.self.cells c.fill.new.self.names =
    subst (FillsEntry (numbers_of c.args.self.now) (entry_of c.args.entry) c.fill.new.self.cells c.fill.new.self.names) c.if-not-branch.false c.in_ok-fill.ensures.filled in
    subst IsWhole (sym c.cells.ensures) (_, holds.flat.stands)

pub canonical_counted-requires-clause-entry : goal.canonical_counted-requires-clause-entry
canonical_counted-requires-clause-entry c =
    let holds : HoldsEntry (numbers_of c.args.self.now) (entry_of c.args.entry) c.fill.new.self.cells c.fill.new.self.names =
    subst (FillsEntry (numbers_of c.args.self.now) (entry_of c.args.entry) c.fill.new.self.cells c.fill.new.self.names) c.if-not-branch.false c.in_ok-fill.ensures.filled in
    subst (AreNumbered Entry) (sym c.cells.ensures) (flat_is_numbered (numbers_of c.args.self.now) Entry (entry_of c.args.entry) c.fill.new.self.cells holds.flat)

pub unreachable-requires-in_default : goal.unreachable-requires-in_default
unreachable-requires-in_default c =
    let s = c.args.self.now in
    let e = entry_of c.args.entry in
    let holds : HoldsEntry (numbers_of s) e c.fill.new.self.cells c.fill.new.self.names =
    subst (FillsEntry (numbers_of s) e c.fill.new.self.cells c.fill.new.self.names) c.if-not-branch.false c.in_ok-fill.ensures.filled in
    solved_in s e c.args.query.now c.cells.result.now c.fill.new.self.cells c.fill.new.self.names c.requires.query c.cells.ensures c.requires.ready c.requires.known (alike_standing s.relation (pattern_in s) e c.requires.stands) holds None
    (subst (Answers s.relation c.args.query.now c.cells.result.now) c.in_default.is c.in_ok-solution.ensures.answers)
    c.requires.stands

pub returns : goal.returns
returns c =
    let s = c.args.self.now in
    let e = entry_of c.args.entry in
    let holds : HoldsEntry (numbers_of s) e c.fill.new.self.cells c.fill.new.self.names =
    subst (FillsEntry (numbers_of s) e c.fill.new.self.cells c.fill.new.self.names) c.if-not-branch.false c.in_ok-fill.ensures.filled in
    record {
      flat = c.cells.result.now;
      stands = subst (λ l. StandsFor l (term_in s e)) (sym c.cells.ensures) holds.flat.stands;
      numbered = holds.flat.numbered;
      answered =
          subst (λ l. Answers s.relation l c.cells.result.now (Some c.in-Some.solution)) c.requires.query
          (subst (Answers s.relation c.args.query.now c.cells.result.now) c.in-Some.is c.in_ok-solution.ensures.answers);
    }
