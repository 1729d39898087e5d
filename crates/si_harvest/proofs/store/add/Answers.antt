use Rattle.std.proofs.Common.{sym, subst}
use Rattle.si_state.specs.Harvest.{IsRejected}
use Rattle.si_term.specs.Meaning.{clause_of}
use Rattle.si_sign.specs.Stores.{Rejects}
use Rattle.si_harvest.specs.Faults.{NamesWhy}
use Rattle.si_harvest.proofs.Gaining.{counts_more, gained_more}
use Rattle.si_harvest.proofs.store.add.Goals as goal

pub returns-in-Ok-clause-gains : goal.returns-in-Ok-clause-gains
returns-in-Ok-clause-gains g c = record {
  same = c.add.ensures.rules;
  counted = counts_more c.args.loaded.now _ _ _ (clause_of c.args.clause) c.in-Ok.entries c.requires.sound c.in-Ok.ensures.added c.in-Ok.ensures.entries c.requires.counted;
  gained = λ start h. gained_more c.args.loaded.now _ start _ _ (clause_of c.args.clause) c.in-Ok.entries c.in-Ok.ensures.added c.in-Ok.ensures.entries h;
}

pub returns-in-Err-clause-refused : goal.returns-in-Err-clause-refused
returns-in-Err-clause-refused g c =
    let rules = g.T.ClauseStore.rules c.args.store.now in
    let state = g.T.ClauseStore.clauses c.args.store.now in
    subst (λ k. NamesWhy rules c.refusal.result (IsRejected rules state (clause_of k))) c.in-Err.ensures.handed_back
    (c.refusal.ensures rules state
    (subst (λ k. Rejects rules state (clause_of k) c.in-Err.rejected.why) (sym c.in-Err.ensures.handed_back) c.in-Err.ensures.rejected))
