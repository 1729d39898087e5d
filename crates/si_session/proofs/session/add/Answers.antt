use Rattle.std.proofs.Common.{◌∙◌, sym, subst}
use Rattle.si_defs.specs.Clauses.{IsSoundClause}
use Rattle.si_sign.specs.Stores.{Rejects}
use Rattle.si_steps.specs.Commands.{add}
use Rattle.si_term.specs.Meaning.{clause_of}
use Rattle.si_session.specs.Session.{PerformsOn}
use Rattle.si_session.proofs.Acting.{added, refused, is_reportable}
use Rattle.si_session.proofs.session.add.Goals as goal

pub returns-in-Ok : goal.returns-in-Ok
returns-in-Ok g c = record {
  performed = added c.args.index.now c.add.new.self (clause_of c.args.clause) c.report.result c.from.result (g.K.Sink.shown c.args.sink.now) (g.K.Sink.shown c.report.new.sink)
      c.in-Ok.ensures.added (c.from.ensures ∙ c.in-Ok.ensures.entries) c.report.ensures;
  rules = c.in-Ok.ensures.rules;
}

pub refusal-requires : goal.refusal-requires
refusal-requires g c =
    is_reportable c.args.index.now.rules c.args.index.now.clauses c.in-Err.rejected
    (subst (λ x. IsSoundClause (clause_of x)) (sym c.in-Err.ensures.handed_back) c.requires)
    (subst (λ x. Rejects c.args.index.now.rules c.args.index.now.clauses (clause_of x) c.in-Err.rejected.why) (sym c.in-Err.ensures.handed_back) c.in-Err.ensures.rejected)

pub returns-in-Err : goal.returns-in-Err
returns-in-Err g c =
    let a = (g.K.Sink.shown c.args.sink.now) in
    let b = (g.K.Sink.shown c.report-in-Err.new.sink) in
    record {
      performed =
          subst (λ x. PerformsOn (add (clause_of x)) c.args.index.now c.add.new.self c.report-in-Err.result a b) c.in-Err.ensures.handed_back
          (refused c.args.index.now c.add.new.self c.in-Err.rejected c.refusal.result c.report-in-Err.result a b
          (subst (λ x. Rejects c.args.index.now.rules c.args.index.now.clauses (clause_of x) c.in-Err.rejected.why) (sym c.in-Err.ensures.handed_back) c.in-Err.ensures.rejected)
          c.refusal.ensures c.in-Err.ensures.err c.report-in-Err.ensures);
      rules = c.in-Err.ensures.rules;
    }
