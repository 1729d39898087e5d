use Rattle.std.proofs.lemmas.Result.{IfOk-weaker}
use Rattle.si_flat.specs.declared.Owner.TheVariants.{Query}
use Rattle.si_form.proofs.AnswerLaws.{instance_answers}
use Rattle.si_form.proofs.SideLengths.{matched_within}
use Rattle.si_form.proofs.relations.instance.Goals as goal

pub returns-clause-answers : goal.returns-clause-answers
returns-clause-answers c = instance_answers c.args.query.now c.args.entry.now c.matched.result c.requires.entry c.matched.ensures

pub returns-clause-short : goal.returns-clause-short
returns-clause-short c =
    IfOk-weaker c.matched.result _ _
    (λ answer h. matched_within Query c.args.query.now c.args.entry.now answer c.requires.whole_query c.requires.whole_entry h)
    c.matched.ensures
