use Rattle.std.proofs.Common.{sym, ◌∙◌, subst}
use Rattle.si_term.specs.Meaning.{entry_of}
use Rattle.si_flat.specs.declared.Owner.TheVariants.{Entry}
use Rattle.si_flat.specs.Cells.{entry, StandsFor, IsWhole}
use Rattle.si_flat.specs.Flattened.{HoldsEntry, FillsEntry, numbered_entry}
use Rattle.si_form.specs.Answers.{AreNumbered, Answers}
use Rattle.si_index.proofs.FlatLaws.{none_lacks, flat_is_numbered}
use Rattle.si_scan.specs.Scans.{numbers_of}
use Rattle.si_scan.proofs.QuestionLaws.{kinds_agree, some_wanted, none_wanted, other_kind, says_no, says_yes}
use Rattle.si_scan.proofs.question.Question.is_answered.Goals as goal

pub returns-then-is_literal-self : goal.returns-then-is_literal-self
returns-then-is_literal-self c =
    says_no _ (other_kind c.args.self.now (entry_of c.args.entry) c.is_literal.result c.is_literal.ensures c.if-is_literal-self.true)

pub unreachable-requires : goal.unreachable-requires
unreachable-requires c =
    subst (FillsEntry (numbers_of c.args.self.now) (entry_of c.args.entry) _ _) c.if-not-branch.true c.in_ok-fill.ensures.filled
    (none_lacks (numbers_of c.args.self.now) _ c.requires.known.numbered)

pub canonical_counted-requires-clause-whole : goal.canonical_counted-requires-clause-whole
canonical_counted-requires-clause-whole c =
    let holds : HoldsEntry (numbers_of c.args.self.now) (entry_of c.args.entry) c.fill.new.self.cells c.fill.new.self.names =
    subst (FillsEntry (numbers_of c.args.self.now) (entry_of c.args.entry) c.fill.new.self.cells c.fill.new.self.names) c.if-not-branch.false c.in_ok-fill.ensures.filled in
    subst IsWhole (sym c.cells.ensures) (_, holds.flat.stands)

pub canonical_counted-requires-clause-entry : goal.canonical_counted-requires-clause-entry
canonical_counted-requires-clause-entry c =
    let holds : HoldsEntry (numbers_of c.args.self.now) (entry_of c.args.entry) c.fill.new.self.cells c.fill.new.self.names =
    subst (FillsEntry (numbers_of c.args.self.now) (entry_of c.args.entry) c.fill.new.self.cells c.fill.new.self.names) c.if-not-branch.false c.in_ok-fill.ensures.filled in
    subst (AreNumbered Entry) (sym c.cells.ensures) (flat_is_numbered (numbers_of c.args.self.now) Entry (entry_of c.args.entry) c.fill.new.self.cells holds.flat)

pub returns : goal.returns
returns c =
    let q = c.args.self.now in
    let e = entry_of c.args.entry in
    let holds : HoldsEntry (numbers_of q) e c.fill.new.self.cells c.fill.new.self.names =
    subst (FillsEntry (numbers_of q) e c.fill.new.self.cells c.fill.new.self.names) c.if-not-branch.false c.in_ok-fill.ensures.filled in
    says_yes _ (some_wanted q e c.cells.result.now
    (subst (λ l. StandsFor l (numbered_entry (numbers_of q) entry e)) (sym c.cells.ensures) holds.flat.stands)
    _ c.requires.ready (sym c.is_literal.ensures ∙ kinds_agree c.is_literal.result q.literal c.if-is_literal-self.false)
    (subst (Answers q.relation q.query c.cells.result.now) c.in-Some.is c.in_ok-canonical_counted.ensures.answers))

pub returns-in_default : goal.returns-in_default
returns-in_default c =
    let q = c.args.self.now in
    let e = entry_of c.args.entry in
    let holds : HoldsEntry (numbers_of q) e c.fill.new.self.cells c.fill.new.self.names =
    subst (FillsEntry (numbers_of q) e c.fill.new.self.cells c.fill.new.self.names) c.if-not-branch.false c.in_ok-fill.ensures.filled in
    says_no _ (none_wanted q e c.cells.result.now
    (subst (λ l. StandsFor l (numbered_entry (numbers_of q) entry e)) (sym c.cells.ensures) holds.flat.stands)
    (subst (Answers q.relation q.query c.cells.result.now) c.in_default.is c.in_ok-canonical_counted.ensures.answers))
