use Rattle.std.proofs.Common.{length, max, subst, ◌∙◌}
use Rattle.std.specs.Prelude.{IfOk, IfSome}
use Rattle.si_form.specs.Answers.{Answers}
use Rattle.si_form.specs.SolutionParts.{AreNoLonger}
use Rattle.si_form.proofs.relations.canonical.Goals as goal

pub returns-clause-answers : goal.returns-clause-answers
returns-clause-answers c =
    subst (λ l. IfOk c.canonical_counted.result (Answers c.args.relation l c.args.entry.now)) (c.new-2.ensures ∙ c.cells.ensures.cells)
    (subst (λ l. IfOk c.canonical_counted.result (Answers c.args.relation c.new-2.result l)) c.cells-2.ensures.cells c.canonical_counted.ensures.answers)

pub returns-clause-short : goal.returns-clause-short
returns-clause-short c =
    subst (λ l. IfOk c.canonical_counted.result (λ list. IfSome list (AreNoLonger (max (length l) (length c.args.entry.now))))) (c.new-2.ensures ∙ c.cells.ensures.cells)
    (subst (λ l. IfOk c.canonical_counted.result (λ list. IfSome list (AreNoLonger (max (length c.new-2.result) (length l))))) c.cells-2.ensures.cells c.canonical_counted.ensures.short)
