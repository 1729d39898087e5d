use Rattle.std.proofs.Common.{refl, sym, ◌∙◌, subst}
use Rattle.si_state.specs.Signatures.{numbering}
use Rattle.si_flat.specs.declared.Owner.TheVariants.{Query}
use Rattle.si_flat.specs.Cells.{IsWhole}
use Rattle.si_form.specs.Answers.{AreNumbered}
use Rattle.si_legal.specs.Engines.{AppendsAnswers}
use Rattle.si_index.specs.Kept.{Kept, kept_clauses}
use Rattle.si_index.proofs.EntryLaws.{all_clauses_known}
use Rattle.si_index.specs.Engines.{IsWantedEntry, IsOfWanted}
use Rattle.si_scan.specs.Scans.{AreOfWanted, all_posted}
use Rattle.si_scan.proofs.PostedLaws.{are_answers}
use Rattle.si_scan.proofs.scan.ScanEngine.ask.Goals as goal

pub new-requires-clause-numbered : goal.new-requires-clause-numbered
new-requires-clause-numbered c = subst (AreNumbered Query) (sym c.cells.ensures.cells) c.requires

pub gather-requires-clause-ready : goal.gather-requires-clause-ready
gather-requires-clause-ready c = subst IsWhole (sym c.new.ensures) c.cells.ensures.whole

pub gather-requires-clause-over : goal.gather-requires-clause-over
gather-requires-clause-over c = record {
  numbers = c.signature.ensures.numbers;
  known = all_clauses_known _ c.self.inside.index.now.clauses c.signature.result.now refl c.signature.ensures.signature c.stats-stats.ensures.stored.sound;
}

pub returns-clause-answers : goal.returns-clause-answers
returns-clause-answers c =
    let kept = c.self.inside.index.now in
    let found = c.in_ok-found.found.items in
    let wanted : AreOfWanted (IsWantedEntry kept.numbers c.args.literal c.args.relation c.args.query.now) (all_posted (kept_clauses kept)) found =
    subst (λ numbers. AreOfWanted (IsWantedEntry numbers c.args.literal c.args.relation c.args.query.now) (all_posted (kept_clauses kept)) found) c.signature.ensures.numbers
    (subst (λ cells. AreOfWanted (IsWantedEntry (numbering c.signature.result.now) c.args.literal c.args.relation cells) (all_posted (kept_clauses kept)) found) (c.new.ensures ∙ c.cells.ensures.cells) c.in_ok-found.ensures) in
    subst (λ (k : Kept). AppendsAnswers (IsOfWanted k c.args.literal c.args.relation c.args.query.now) c.args.out.now.items c.append.new.self.items) c.self.view_is
    (record {
      answers = found;
      appended = c.in_ok-append.ensures.items;
      are = are_answers (IsWantedEntry kept.numbers c.args.literal c.args.relation c.args.query.now) kept found c.stats-stats.ensures.keyed wanted;
    })
