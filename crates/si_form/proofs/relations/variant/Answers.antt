use Rattle.std.proofs.Common.{subst}
use Rattle.std.proofs.lemmas.Result.{IfOk-weaker}
use Rattle.si_flat.specs.declared.Owner.TheVariants.{Query, Entry}
use Rattle.si_form.specs.Matching.{IsMatched}
use Rattle.si_form.proofs.AnswerLaws.{variant_answers}
use Rattle.si_form.proofs.SideLengths.{matched_within}
use Rattle.si_form.proofs.relations.variant.Goals as goal

pub returns-clause-answers : goal.returns-clause-answers
returns-clause-answers c =
    variant_answers c.args.query.now c.args.entry.now c.matches.new.images.items c.matched.result c.requires.query c.requires.entry
    (subst (IsMatched Entry c.args.entry.now c.args.query.now c.matches.new.images.items) c.if-not-branch.false c.in_ok-matches.ensures)
    c.matched.ensures

pub returns-clause-short : goal.returns-clause-short
returns-clause-short c =
    IfOk-weaker c.matched.result _ _
    (λ answer h. matched_within Query c.args.query.now c.args.entry.now answer c.requires.whole_query c.requires.whole_entry h)
    c.matched.ensures
