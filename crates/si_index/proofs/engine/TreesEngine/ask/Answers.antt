use Rattle.std.proofs.Common.{subst}
use Rattle.std.proofs.lemmas.Result.{IfOk-weaker}
use Rattle.si_flat.specs.Cells.{IsWhole}
use Rattle.si_index.proofs.StandingLaws.{trees_append}
use Rattle.si_index.proofs.engine.TreesEngine.ask.Goals as goal

pub retrieve-requires : goal.retrieve-requires
retrieve-requires c =
    let t = subst IsWhole c.cells.ensures.cells c.cells.ensures.whole in
    (t.0, record { stands = t.1; numbered = c.requires t.0 t.1 })

pub returns-clause-answers : goal.returns-clause-answers
returns-clause-answers c =
    let t = subst IsWhole c.cells.ensures.cells c.cells.ensures.whole in
    IfOk-weaker c.retrieve.result _ _
    (λ n h. trees_append c.args.self.now c.args.literal c.args.relation c.args.query.now t.0 c.args.out.now.items c.retrieve.new.out.items t.1 (h.appends t.0 t.1))
    c.retrieve.ensures.retrieves

pub returns-clause-count : goal.returns-clause-count
returns-clause-count c =
    let t = subst IsWhole c.cells.ensures.cells c.cells.ensures.whole in
    IfOk-weaker c.retrieve.result _ _ (λ n h. (t.0, t.1, h.counts t.0 t.1)) c.retrieve.ensures.retrieves
