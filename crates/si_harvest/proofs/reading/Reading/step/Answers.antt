use Rattle.std.proofs.Common.{refl, subst}
use Rattle.si_term.specs.Meaning.{clause_of}
use Rattle.si_parse.specs.Meaning.{selection_of}
use Rattle.si_harvest.specs.Faults.{NamesWhy, bounds_of}
use Rattle.si_harvest.specs.Opened.{OpensInside, IsUnopened, FetchesOnce}
use Rattle.si_harvest.specs.Underway.{Lists}
use Rattle.si_harvest.proofs.Stands.{moved}
use Rattle.si_harvest.proofs.Stepping.{read_as, steps_fault, step_end, step_clause, step_refused, step_include, step_unopened, step_foreign, step_malformed}
use Rattle.si_harvest.proofs.reading.Reading.step.Goals as goal

pub returns-in-End-clause-stepped : goal.returns-in-End-clause-stepped
returns-in-End-clause-stepped g c =
    step_end (g.L.Library.shown c.args.library.now).files (bounds_of c.args.limits.now) (g.T.ClauseStore.rules c.args.store.now) c.args.self.now _ _
    c.pop.new.self.items c.in-Some.file c.in-Some.ensures.items (read_as _ _ c.in-Some.file.at _ _ c.as_slice.ensures.value c.in-End.is c.in_ok-next_item.ensures) refl refl c.requires.within

pub returns-in_ok-take-in-Cnf-clause-stepped : goal.returns-in_ok-take-in-Cnf-clause-stepped
returns-in_ok-take-in-Cnf-clause-stepped g c =
    step_clause (g.L.Library.shown c.args.library.now).files (bounds_of c.args.limits.now) (g.T.ClauseStore.rules c.args.store.now) c.args.self.now _ _ _
    c.pop.new.self.items c.in-Some.file c.in-Cnf.end (clause_of c.in-Cnf.clause) c.in-Some.ensures.items
    ((read_as _ _ c.in-Some.file.at _ _ c.as_slice.ensures.value c.in-Cnf.is c.in_ok-next_item.ensures).0)
    c.in_ok-take-in-Cnf.ensures.files c.take.ensures.fetches c.in_ok-take-in-Cnf.ensures.taken c.requires.within

pub returns-in_err-take-in-Cnf-clause-stepped : goal.returns-in_err-take-in-Cnf-clause-stepped
returns-in_err-take-in-Cnf-clause-stepped g c =
    let told = (g.L.Library.shown c.args.library.now).files in
    let rules = g.T.ClauseStore.rules c.args.store.now in
    steps_fault told (bounds_of c.args.limits.now) rules c.from_residual-in_err-take-in-Cnf.result c.in_err-take-in-Cnf.field-0.0 c.args.self.now _ _ _ c.from_residual-in_err-take-in-Cnf.ensures.1
    (step_refused told (bounds_of c.args.limits.now) rules c.args.self.now _ c.pop.new.self.items c.in-Some.file c.in-Cnf.end (clause_of c.in-Cnf.clause) c.take.new.self.fetches c.in_err-take-in-Cnf.field-0.0
    c.in-Some.ensures.items
    ((read_as _ _ c.in-Some.file.at _ _ c.as_slice.ensures.value c.in-Cnf.is c.in_ok-next_item.ensures).0)
    c.in_err-take-in-Cnf.ensures.refused c.take.ensures.fetches)

pub returns-in_ok-include-in-Include-clause-stepped : goal.returns-in_ok-include-in-Include-clause-stepped
returns-in_ok-include-in-Include-clause-stepped g c =
    let h = c.in_ok-include-in-Include.ensures.enters.entered in
    step_include (g.L.Library.shown c.args.library.now).files (bounds_of c.args.limits.now) (g.T.ClauseStore.rules c.args.store.now) c.args.self.now _ _
    c.pop.new.self.items c.in-Some.file c.in-Include.end c.in-Include.name (selection_of c.in-Include.selection) c.in-Some.ensures.items
    (read_as _ _ c.in-Some.file.at _ _ c.as_slice.ensures.value c.in-Include.is c.in_ok-next_item.ensures)
    (subst (λ n. OpensInside (g.L.Library.shown c.args.library.now).files (bounds_of c.args.limits.now) n (Lists (selection_of c.in-Include.selection)) (moved c.pop.new.self.items c.in-Some.file c.in-Include.end) c.args.self.now.fetches c.include.new.self) c.as_bytes.ensures h) c.requires.file c.requires.within

pub returns-in_err-include-in-Include-clause-stepped : goal.returns-in_err-include-in-Include-clause-stepped
returns-in_err-include-in-Include-clause-stepped g c =
    let told = (g.L.Library.shown c.args.library.now).files in
    let rules = g.T.ClauseStore.rules c.args.store.now in
    steps_fault told (bounds_of c.args.limits.now) rules c.from_residual-in_err-include-in-Include.result c.in_err-include-in-Include.field-0.0 c.args.self.now _ _ _
    c.from_residual-in_err-include-in-Include.ensures.1
    (step_unopened told (bounds_of c.args.limits.now) rules c.args.self.now _ c.pop.new.self.items c.in-Some.file c.in-Include.end c.in-Include.name (selection_of c.in-Include.selection)
    c.include.new.self.fetches c.in_err-include-in-Include.field-0.0 c.in-Some.ensures.items
    (read_as _ _ c.in-Some.file.at _ _ c.as_slice.ensures.value c.in-Include.is c.in_ok-next_item.ensures)
    (subst (λ n. NamesWhy rules c.in_err-include-in-Include.field-0.0 (IsUnopened told (bounds_of c.args.limits.now) n (moved c.pop.new.self.items c.in-Some.file c.in-Include.end) c.args.self.now.fetches c.include.new.self.fetches))
    c.as_bytes.ensures (c.in_err-include-in-Include.ensures.enters.unopened rules))
    (subst (λ n. FetchesOnce (bounds_of c.args.limits.now) n (moved c.pop.new.self.items c.in-Some.file c.in-Include.end) c.args.self.now.fetches c.include.new.self.fetches) c.as_bytes.ensures c.include.ensures.enters.once))

pub returns-in-Syntax-clause-stepped : goal.returns-in-Syntax-clause-stepped
returns-in-Syntax-clause-stepped g c =
    step_malformed (g.L.Library.shown c.args.library.now).files (bounds_of c.args.limits.now) (g.T.ClauseStore.rules c.args.store.now) c.args.self.now _
    c.pop.new.self.items c.in-Some.file c.in-Syntax.place _ c.in-Some.ensures.items
    (read_as _ _ c.in-Some.file.at _ _ c.as_slice.ensures.value c.in-Syntax.is c.in_ok-next_item.ensures) c.line_of-line.ensures

pub returns-in-Language-clause-stepped : goal.returns-in-Language-clause-stepped
returns-in-Language-clause-stepped g c =
    step_foreign (g.L.Library.shown c.args.library.now).files (bounds_of c.args.limits.now) (g.T.ClauseStore.rules c.args.store.now) c.args.self.now _
    c.pop.new.self.items c.in-Some.file c.in-Language.place _ c.in-Some.ensures.items
    (read_as _ _ c.in-Some.file.at _ _ c.as_slice.ensures.value c.in-Language.is c.in_ok-next_item.ensures) c.line_of-line-in-Language.ensures
