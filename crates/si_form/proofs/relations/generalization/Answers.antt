use Rattle.std.proofs.lemmas.Result.{IfOk-weaker}
use Rattle.si_flat.specs.declared.Owner.TheVariants.{Entry}
use Rattle.si_form.proofs.AnswerLaws.{generalization_answers}
use Rattle.si_form.proofs.SideLengths.{matched_within}
use Rattle.si_form.proofs.relations.generalization.Goals as goal

pub returns-clause-answers : goal.returns-clause-answers
returns-clause-answers c = generalization_answers c.args.query.now c.args.entry.now c.matched.result c.requires.query c.matched.ensures

pub returns-clause-short : goal.returns-clause-short
returns-clause-short c =
    IfOk-weaker c.matched.result _ _
    (λ answer h. matched_within Entry c.args.entry.now c.args.query.now answer c.requires.whole_entry c.requires.whole_query h)
    c.matched.ensures
