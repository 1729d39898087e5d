use Rattle.std.proofs.Common.{◌≤◌, [], ◌∷◌, inl, inr, length, map, refl, ap, ◌∙◌, subst, arith}
use Rattle.si_steps.specs.Commands.{add, remove, query, subsumers, subsumed, stats, sample}
use Rattle.si_term.specs.Meaning.{name_of, literal_of, clause_of, pattern_of}
use Rattle.si_steps.specs.Runs.{a_line}
use Rattle.si_steps.specs.Replies.{language_line, syntax_line}
use Rattle.si_steps.specs.Steps.{silent, foreign, wrong}
use Rattle.si_io.proofs.Sends.{SendsAll-nil}
use Rattle.si_session.specs.declared.stepped.Stepped.TheVariants.{Silent}
use Rattle.si_session.specs.Session.{Steps, LoadsInto, around, view_of}
use Rattle.si_session.specs.Commands.{ReadsCommand}
use Rattle.si_session.specs.declared.command.Command.TheVariants as command
use Rattle.si_session.proofs.Acting.{stepped, not_silent, keeps_state, counts, trees_stepped, explain_stepped, blanks_no_command, line_stepped, long_stepped, unread_stepped, holds_trees, load_stepped, load_not_silent, load_keeps}
use Rattle.si_session.proofs.session.Session.step.Goals as goal

pub returns-in-Ok-Add-clause-step : goal.returns-in-Ok-Add-clause-step
returns-in-Ok-Add-clause-step g c =
    let a = (g.K.Sink.shown c.args.sink.now) in
    let b = (g.K.Sink.shown c.add.new.sink) in
    let limits = c.self.inside.limits in
    let library = g.L.Library.shown c.args.library.now in
    let read : ReadsCommand c.args.line.now (command.Add c.in-Ok-Add.clause) = subst (ReadsCommand c.args.line.now) c.in-Ok-Add.field-0-is c.in-Ok-Add.ensures.read in
    let short : length c.args.line.now ≤ limits.line = omega (arith, c.if-line-self.false) in
    subst (λ s. Steps s (view_of limits c.add.new.index) (a_line c.args.line.now) c.add.result (around a library) (around b library)) c.self.view_is
    (stepped limits library c.self.inside.index c.add.new.index c.args.line.now (add (clause_of c.in-Ok-Add.clause)) c.add.result a b (holds_trees limits c.self.inside.index c.trees.ensures.keyed c.trees.ensures.exactly c.trees.ensures.hold) short read.0 c.add.ensures (λ reply. tt) (inl tt))

pub returns-in-Ok-Query-clause-step : goal.returns-in-Ok-Query-clause-step
returns-in-Ok-Query-clause-step g c =
    let a = (g.K.Sink.shown c.args.sink.now) in
    let b = (g.K.Sink.shown c.answer.new.sink) in
    let limits = c.self.inside.limits in
    let library = g.L.Library.shown c.args.library.now in
    let read : ReadsCommand c.args.line.now (command.Query c.in-Ok-Query.relation c.in-Ok-Query.pattern) = subst (ReadsCommand c.args.line.now) c.in-Ok-Query.field-0-is c.in-Ok-Query.ensures.read in
    let short : length c.args.line.now ≤ limits.line = omega (arith, c.if-line-self.false) in
    subst (λ s. Steps s (view_of limits c.self.inside.index) (a_line c.args.line.now) c.answer.result (around a library) (around b library)) c.self.view_is
    (stepped limits library c.self.inside.index c.self.inside.index c.args.line.now (query c.in-Ok-Query.relation (pattern_of c.in-Ok-Query.pattern)) c.answer.result a b (holds_trees limits c.self.inside.index c.trees.ensures.keyed c.trees.ensures.exactly c.trees.ensures.hold) short read.0 c.answer.ensures (λ reply. tt) (inr refl))

pub returns-in-Ok-Remove-clause-step : goal.returns-in-Ok-Remove-clause-step
returns-in-Ok-Remove-clause-step g c =
    let a = (g.K.Sink.shown c.args.sink.now) in
    let b = (g.K.Sink.shown c.remove.new.sink) in
    let limits = c.self.inside.limits in
    let library = g.L.Library.shown c.args.library.now in
    let read : ReadsCommand c.args.line.now (command.Remove c.in-Ok-Remove.name) = subst (ReadsCommand c.args.line.now) c.in-Ok-Remove.field-0-is c.in-Ok-Remove.ensures.read in
    let short : length c.args.line.now ≤ limits.line = omega (arith, c.if-line-self.false) in
    subst (λ s. Steps s (view_of limits c.remove.new.index) (a_line c.args.line.now) c.remove.result (around a library) (around b library)) c.self.view_is
    (stepped limits library c.self.inside.index c.remove.new.index c.args.line.now (remove (name_of c.in-Ok-Remove.name)) c.remove.result a b (holds_trees limits c.self.inside.index c.trees.ensures.keyed c.trees.ensures.exactly c.trees.ensures.hold) short read
    c.remove.ensures (λ reply. tt) (inl tt))

pub returns-in-Ok-Add-clause-silent : goal.returns-in-Ok-Add-clause-silent
returns-in-Ok-Add-clause-silent g c =
    let a = (g.K.Sink.shown c.args.sink.now) in
    let b = (g.K.Sink.shown c.add.new.sink) in
    let limits = c.self.inside.limits in
    let read : ReadsCommand c.args.line.now (command.Add c.in-Ok-Add.clause) = subst (ReadsCommand c.args.line.now) c.in-Ok-Add.field-0-is c.in-Ok-Add.ensures.read in (
      λ e. absurd (not_silent limits (add (clause_of c.in-Ok-Add.clause)) c.self.inside.index c.add.new.index c.add.result a b c.add.ensures e),
      λ h. absurd (read.0.0 h.1),
    )

pub returns-in-Ok-Add-clause-refused : goal.returns-in-Ok-Add-clause-refused
returns-in-Ok-Add-clause-refused g c =
    let a = (g.K.Sink.shown c.args.sink.now) in
    let b = (g.K.Sink.shown c.add.new.sink) in
    let limits = c.self.inside.limits in
    λ e. keeps_state limits (add (clause_of c.in-Ok-Add.clause)) c.self.inside.index c.add.new.index c.add.result a b c.add.ensures e ∙ ap (λ s. s.state) c.self.view_is

pub returns-in-Ok-Remove-clause-silent : goal.returns-in-Ok-Remove-clause-silent
returns-in-Ok-Remove-clause-silent g c =
    let a = (g.K.Sink.shown c.args.sink.now) in
    let b = (g.K.Sink.shown c.remove.new.sink) in
    let limits = c.self.inside.limits in
    let read : ReadsCommand c.args.line.now (command.Remove c.in-Ok-Remove.name) = subst (ReadsCommand c.args.line.now) c.in-Ok-Remove.field-0-is c.in-Ok-Remove.ensures.read in (
      λ e. absurd (not_silent limits (remove (name_of c.in-Ok-Remove.name)) c.self.inside.index c.remove.new.index c.remove.result a b c.remove.ensures e),
      λ h. absurd (read.0 h.1),
    )

pub returns-in-Ok-Remove-clause-refused : goal.returns-in-Ok-Remove-clause-refused
returns-in-Ok-Remove-clause-refused g c =
    let a = (g.K.Sink.shown c.args.sink.now) in
    let b = (g.K.Sink.shown c.remove.new.sink) in
    let limits = c.self.inside.limits in
    λ e. keeps_state limits (remove (name_of c.in-Ok-Remove.name)) c.self.inside.index c.remove.new.index c.remove.result a b c.remove.ensures e ∙ ap (λ s. s.state) c.self.view_is

pub returns-in-Ok-Query-clause-silent : goal.returns-in-Ok-Query-clause-silent
returns-in-Ok-Query-clause-silent g c =
    let a = (g.K.Sink.shown c.args.sink.now) in
    let b = (g.K.Sink.shown c.answer.new.sink) in
    let limits = c.self.inside.limits in
    let read : ReadsCommand c.args.line.now (command.Query c.in-Ok-Query.relation c.in-Ok-Query.pattern) = subst (ReadsCommand c.args.line.now) c.in-Ok-Query.field-0-is c.in-Ok-Query.ensures.read in (
      λ e. absurd (not_silent limits (query c.in-Ok-Query.relation (pattern_of c.in-Ok-Query.pattern)) c.self.inside.index c.self.inside.index c.answer.result a b c.answer.ensures e),
      λ h. absurd (read.0.0 h.1),
    )

pub returns-in-Ok-Stats-clause-step : goal.returns-in-Ok-Stats-clause-step
returns-in-Ok-Stats-clause-step g c =
    let a = (g.K.Sink.shown c.args.sink.now) in
    let b = (g.K.Sink.shown c.report-in-Ok-Stats.new.sink) in
    let limits = c.self.inside.limits in
    let library = g.L.Library.shown c.args.library.now in
    let read : ReadsCommand c.args.line.now command.Stats = subst (ReadsCommand c.args.line.now) c.in-Ok-Stats.field-0-is c.in-Ok-Stats.ensures.read in
    let short : length c.args.line.now ≤ limits.line = omega (arith, c.if-line-self.false) in
    subst (λ s. Steps s (view_of limits c.self.inside.index) (a_line c.args.line.now) c.report-in-Ok-Stats.result (around a library) (around b library)) c.self.view_is
    (stepped limits library c.self.inside.index c.self.inside.index c.args.line.now stats c.report-in-Ok-Stats.result a b (holds_trees limits c.self.inside.index c.trees.ensures.keyed c.trees.ensures.exactly c.trees.ensures.hold) short read
    (counts c.self.inside.index c.stats.result c.report-in-Ok-Stats.result a b c.stats.ensures.clauses c.stats.ensures.entries c.stats.ensures.symbols
    c.report-in-Ok-Stats.ensures) (λ reply. tt) (inr refl))

-- ---- a load
pub load-requires-clause-limit : goal.load-requires-clause-limit
load-requires-clause-limit g c = omega (arith, c.self.invariant.0, c.self.invariant.1.entries)

pub returns-in-Ok-Load-clause-step : goal.returns-in-Ok-Load-clause-step
returns-in-Ok-Load-clause-step g c =
    let before = around (g.K.Sink.shown c.args.sink.now) (g.L.Library.shown c.args.library.now) in
    let after = around (g.K.Sink.shown c.load.new.sink) (g.L.Library.shown c.load.new.library) in
    let limits = c.self.inside.limits in
    let read : ReadsCommand c.args.line.now (command.Load c.in-Ok-Load.name) = subst (ReadsCommand c.args.line.now) c.in-Ok-Load.field-0-is c.in-Ok-Load.ensures.read in
    let short : length c.args.line.now ≤ limits.line = omega (arith, c.if-line-self.false) in
    let loads : LoadsInto limits c.in-Ok-Load.name c.self.inside.index c.load.new.index c.load.result before after =
    subst (λ n. LoadsInto limits n c.self.inside.index c.load.new.index c.load.result before after) c.as_bytes.ensures c.load.ensures in
    subst (λ s. Steps s (view_of limits c.load.new.index) (a_line c.args.line.now) c.load.result before after) c.self.view_is
    (load_stepped limits c.in-Ok-Load.name c.self.inside.index c.load.new.index c.load.result before after loads c.args.line.now (holds_trees limits c.self.inside.index c.trees.ensures.keyed c.trees.ensures.exactly c.trees.ensures.hold) short read)

pub returns-in-Ok-Load-clause-silent : goal.returns-in-Ok-Load-clause-silent
returns-in-Ok-Load-clause-silent g c =
    let read : ReadsCommand c.args.line.now (command.Load c.in-Ok-Load.name) = subst (ReadsCommand c.args.line.now) c.in-Ok-Load.field-0-is c.in-Ok-Load.ensures.read in (
      λ e. absurd (load_not_silent c.self.inside.limits _ c.self.inside.index c.load.new.index c.load.result _ _ c.load.ensures e),
      λ h. absurd (read.0 h.1),
    )

pub returns-in-Ok-Load-clause-refused : goal.returns-in-Ok-Load-clause-refused
returns-in-Ok-Load-clause-refused g c =
    λ e. load_keeps c.self.inside.limits _ c.self.inside.index c.load.new.index c.load.result _ _ c.load.ensures e
    ∙ ap (λ s. s.state) c.self.view_is

-- ---- subsumption
pub returns-in-Ok-Subsumers-clause-step : goal.returns-in-Ok-Subsumers-clause-step
returns-in-Ok-Subsumers-clause-step g c =
    let a = (g.K.Sink.shown c.args.sink.now) in
    let b = (g.K.Sink.shown c.subsumers.new.sink) in
    let limits = c.self.inside.limits in
    let library = g.L.Library.shown c.args.library.now in
    let read : ReadsCommand c.args.line.now (command.Subsumers c.in-Ok-Subsumers.formula) = subst (ReadsCommand c.args.line.now) c.in-Ok-Subsumers.field-0-is c.in-Ok-Subsumers.ensures.read in
    let short : length c.args.line.now ≤ limits.line = omega (arith, c.if-line-self.false) in
    subst (λ s. Steps s (view_of limits c.self.inside.index) (a_line c.args.line.now) c.subsumers.result (around a library) (around b library)) c.self.view_is
    (stepped limits library c.self.inside.index c.self.inside.index c.args.line.now (subsumers (map literal_of c.in-Ok-Subsumers.formula)) c.subsumers.result a b (holds_trees limits c.self.inside.index c.trees.ensures.keyed c.trees.ensures.exactly c.trees.ensures.hold) short read.0 c.subsumers.ensures (λ reply. tt) (inr refl))

pub returns-in-Ok-Subsumers-clause-silent : goal.returns-in-Ok-Subsumers-clause-silent
returns-in-Ok-Subsumers-clause-silent g c =
    let a = (g.K.Sink.shown c.args.sink.now) in
    let b = (g.K.Sink.shown c.subsumers.new.sink) in
    let limits = c.self.inside.limits in
    let read : ReadsCommand c.args.line.now (command.Subsumers c.in-Ok-Subsumers.formula) = subst (ReadsCommand c.args.line.now) c.in-Ok-Subsumers.field-0-is c.in-Ok-Subsumers.ensures.read in (
      λ e. absurd (not_silent limits (subsumers (map literal_of c.in-Ok-Subsumers.formula)) c.self.inside.index c.self.inside.index c.subsumers.result a b c.subsumers.ensures e),
      λ h. absurd (read.0.0 h.1),
    )

pub returns-in-Ok-Subsumed-clause-step : goal.returns-in-Ok-Subsumed-clause-step
returns-in-Ok-Subsumed-clause-step g c =
    let a = (g.K.Sink.shown c.args.sink.now) in
    let b = (g.K.Sink.shown c.subsumed.new.sink) in
    let limits = c.self.inside.limits in
    let library = g.L.Library.shown c.args.library.now in
    let read : ReadsCommand c.args.line.now (command.Subsumed c.in-Ok-Subsumed.formula) = subst (ReadsCommand c.args.line.now) c.in-Ok-Subsumed.field-0-is c.in-Ok-Subsumed.ensures.read in
    let short : length c.args.line.now ≤ limits.line = omega (arith, c.if-line-self.false) in
    subst (λ s. Steps s (view_of limits c.self.inside.index) (a_line c.args.line.now) c.subsumed.result (around a library) (around b library)) c.self.view_is
    (stepped limits library c.self.inside.index c.self.inside.index c.args.line.now (subsumed (map literal_of c.in-Ok-Subsumed.formula)) c.subsumed.result a b (holds_trees limits c.self.inside.index c.trees.ensures.keyed c.trees.ensures.exactly c.trees.ensures.hold) short read.0 c.subsumed.ensures (λ reply. tt) (inr refl))

pub returns-in-Ok-Subsumed-clause-silent : goal.returns-in-Ok-Subsumed-clause-silent
returns-in-Ok-Subsumed-clause-silent g c =
    let a = (g.K.Sink.shown c.args.sink.now) in
    let b = (g.K.Sink.shown c.subsumed.new.sink) in
    let limits = c.self.inside.limits in
    let read : ReadsCommand c.args.line.now (command.Subsumed c.in-Ok-Subsumed.formula) = subst (ReadsCommand c.args.line.now) c.in-Ok-Subsumed.field-0-is c.in-Ok-Subsumed.ensures.read in (
      λ e. absurd (not_silent limits (subsumed (map literal_of c.in-Ok-Subsumed.formula)) c.self.inside.index c.self.inside.index c.subsumed.result a b c.subsumed.ensures e),
      λ h. absurd (read.0.0 h.1),
    )

-- ---- a sample
pub sample-requires-clause-limit : goal.sample-requires-clause-limit
sample-requires-clause-limit g c = omega (arith, c.self.invariant.0, c.self.invariant.1.entries, ap (λ s. s.setting.limits.entries) c.self.view_is)

pub returns-in-Ok-Sample-clause-step : goal.returns-in-Ok-Sample-clause-step
returns-in-Ok-Sample-clause-step g c =
    let a = (g.K.Sink.shown c.args.sink.now) in
    let b = (g.K.Sink.shown c.sample.new.sink) in
    let limits = c.self.inside.limits in
    let library = g.L.Library.shown c.args.library.now in
    let start = c.in-Ok-Sample.start in
    let count = c.in-Ok-Sample.count in
    let read : ReadsCommand c.args.line.now (command.Sample start count) = subst (ReadsCommand c.args.line.now) c.in-Ok-Sample.field-0-is c.in-Ok-Sample.ensures.read in
    let short : length c.args.line.now ≤ limits.line = omega (arith, c.if-line-self.false) in
    subst (λ s. Steps s (view_of limits c.sample.new.index) (a_line c.args.line.now) c.sample.result (around a library) (around b library)) c.self.view_is
    (stepped limits library c.self.inside.index c.sample.new.index c.args.line.now (sample start count) c.sample.result a b (holds_trees limits c.self.inside.index c.trees.ensures.keyed c.trees.ensures.exactly c.trees.ensures.hold) short read.0 c.sample.ensures (λ reply. tt) (inl tt))

pub returns-in-Ok-Sample-clause-silent : goal.returns-in-Ok-Sample-clause-silent
returns-in-Ok-Sample-clause-silent g c =
    let a = (g.K.Sink.shown c.args.sink.now) in
    let b = (g.K.Sink.shown c.sample.new.sink) in
    let limits = c.self.inside.limits in
    let start = c.in-Ok-Sample.start in
    let count = c.in-Ok-Sample.count in
    let read : ReadsCommand c.args.line.now (command.Sample start count) = subst (ReadsCommand c.args.line.now) c.in-Ok-Sample.field-0-is c.in-Ok-Sample.ensures.read in (
      λ e. absurd (not_silent limits (sample start count) c.self.inside.index c.sample.new.index c.sample.result a b c.sample.ensures e),
      λ h. absurd (read.0.0 h.1),
    )

pub returns-in-Ok-Sample-clause-refused : goal.returns-in-Ok-Sample-clause-refused
returns-in-Ok-Sample-clause-refused g c =
    let a = (g.K.Sink.shown c.args.sink.now) in
    let b = (g.K.Sink.shown c.sample.new.sink) in
    let limits = c.self.inside.limits in
    λ e. keeps_state limits (sample c.in-Ok-Sample.start c.in-Ok-Sample.count) c.self.inside.index c.sample.new.index c.sample.result a b c.sample.ensures e ∙ ap (λ s. s.state) c.self.view_is

-- ---- the trees
pub returns-in-Ok-Tree-clause-step : goal.returns-in-Ok-Tree-clause-step
returns-in-Ok-Tree-clause-step g c =
    let a = (g.K.Sink.shown c.args.sink.now) in
    let b = (g.K.Sink.shown c.report_trees.new.sink) in
    let limits = c.self.inside.limits in
    let library = g.L.Library.shown c.args.library.now in
    let read : ReadsCommand c.args.line.now command.Tree = subst (ReadsCommand c.args.line.now) c.in-Ok-Tree.field-0-is c.in-Ok-Tree.ensures.read in
    let short : length c.args.line.now ≤ limits.line = omega (arith, c.if-line-self.false) in
    subst (λ s. Steps s (view_of limits c.self.inside.index) (a_line c.args.line.now) c.report_trees.result (around a library) (around b library)) c.self.view_is
    (trees_stepped limits library c.self.inside.index c.args.line.now c.counts.result c.report_trees.result a b (holds_trees limits c.self.inside.index c.trees.ensures.keyed c.trees.ensures.exactly c.trees.ensures.hold) short read c.counts.ensures.literals c.counts.ensures.terms c.report_trees.ensures)

pub returns-in-Ok-Explain-clause-step : goal.returns-in-Ok-Explain-clause-step
returns-in-Ok-Explain-clause-step g c =
    let a = (g.K.Sink.shown c.args.sink.now) in
    let b = (g.K.Sink.shown c.explain.new.sink) in
    let limits = c.self.inside.limits in
    let library = g.L.Library.shown c.args.library.now in
    let read : ReadsCommand c.args.line.now (command.Explain c.in-Ok-Explain.relation c.in-Ok-Explain.pattern) = subst (ReadsCommand c.args.line.now) c.in-Ok-Explain.field-0-is c.in-Ok-Explain.ensures.read in
    let short : length c.args.line.now ≤ limits.line = omega (arith, c.if-line-self.false) in
    subst (λ s. Steps s (view_of limits c.self.inside.index) (a_line c.args.line.now) c.explain.result (around a library) (around b library)) c.self.view_is
    (explain_stepped limits library c.self.inside.index c.args.line.now c.in-Ok-Explain.relation (pattern_of c.in-Ok-Explain.pattern) c.explain.result a b (holds_trees limits c.self.inside.index c.trees.ensures.keyed c.trees.ensures.exactly c.trees.ensures.hold) short read.0 c.explain.ensures)

pub returns-in-Some-clause-step : goal.returns-in-Some-clause-step
returns-in-Some-clause-step g c =
    let a = (g.K.Sink.shown c.args.sink.now) in
    let b = (g.K.Sink.shown c.report-in-Some.new.sink) in
    let limits = c.self.inside.limits in
    let library = g.L.Library.shown c.args.library.now in
    let explained = c.in-Some.ensures in
    let short : length c.args.line.now ≤ limits.line = omega (arith, c.if-line-self.false) in
    subst (λ s. Steps s (view_of limits c.self.inside.index) (a_line c.args.line.now) c.report-in-Some.result (around a library) (around b library)) c.self.view_is
    (explain_stepped limits library c.self.inside.index c.args.line.now explained.0 explained.1 c.report-in-Some.result a b (holds_trees limits c.self.inside.index c.trees.ensures.keyed c.trees.ensures.exactly c.trees.ensures.hold) short explained.2
    (inl (c.in-Some.counts, explained.3, c.report-in-Some.ensures)))

-- ---- lines that are no command
pub returns-in-Ok-Blank-clause-step : goal.returns-in-Ok-Blank-clause-step
returns-in-Ok-Blank-clause-step g c =
    let limits = c.self.inside.limits in
    let index = c.self.inside.index in
    let line = c.args.line.now in
    let library = g.L.Library.shown c.args.library.now in
    let a = g.K.Sink.shown c.args.sink.now in
    let b = a in
    let read : ReadsCommand line command.Blank = subst (ReadsCommand line) c.in-Ok-Blank.field-0-is c.in-Ok-Blank.ensures.read in
    let short : length line ≤ limits.line = omega (arith, c.if-line-self.false) in
    subst (λ s. Steps s (view_of limits c.self.inside.index) (a_line line) Silent (around a library) (around b library)) c.self.view_is
    (line_stepped limits library index line [] Silent a b (holds_trees limits c.self.inside.index c.trees.ensures.keyed c.trees.ensures.exactly c.trees.ensures.hold) (blanks_no_command line read) (silent (short, read) refl refl refl) (SendsAll-nil a, refl))

pub returns-in-Ok-Foreign-clause-step : goal.returns-in-Ok-Foreign-clause-step
returns-in-Ok-Foreign-clause-step g c =
    let limits = c.self.inside.limits in
    let index = c.self.inside.index in
    let line = c.args.line.now in
    let library = g.L.Library.shown c.args.library.now in
    let a = g.K.Sink.shown c.args.sink.now in
    let b = g.K.Sink.shown c.report-in-Ok-Foreign.new.sink in
    let read : ReadsCommand line command.Foreign = subst (ReadsCommand line) c.in-Ok-Foreign.field-0-is c.in-Ok-Foreign.ensures.read in
    let short : length line ≤ limits.line = omega (arith, c.if-line-self.false) in
    subst (λ s. Steps s (view_of limits c.self.inside.index) (a_line line) c.report-in-Ok-Foreign.result (around a library) (around b library)) c.self.view_is
    (line_stepped limits library index line (language_line ∷ []) c.report-in-Ok-Foreign.result a b (holds_trees limits c.self.inside.index c.trees.ensures.keyed c.trees.ensures.exactly c.trees.ensures.hold) read.2 (foreign short read.1 read.2 refl refl refl) c.report-in-Ok-Foreign.ensures)

pub returns-in-Ok-Wrong-clause-step : goal.returns-in-Ok-Wrong-clause-step
returns-in-Ok-Wrong-clause-step g c =
    let limits = c.self.inside.limits in
    let index = c.self.inside.index in
    let line = c.args.line.now in
    let library = g.L.Library.shown c.args.library.now in
    let a = g.K.Sink.shown c.args.sink.now in
    let b = g.K.Sink.shown c.report-in-Ok-Wrong.new.sink in
    let read : ReadsCommand line command.Wrong = subst (ReadsCommand line) c.in-Ok-Wrong.field-0-is c.in-Ok-Wrong.ensures.read in
    let short : length line ≤ limits.line = omega (arith, c.if-line-self.false) in
    subst (λ s. Steps s (view_of limits c.self.inside.index) (a_line line) c.report-in-Ok-Wrong.result (around a library) (around b library)) c.self.view_is
    (line_stepped limits library index line (syntax_line ∷ []) c.report-in-Ok-Wrong.result a b (holds_trees limits c.self.inside.index c.trees.ensures.keyed c.trees.ensures.exactly c.trees.ensures.hold) read.none (wrong short (λ h. read.some h.1) read.own read.none refl refl refl) c.report-in-Ok-Wrong.ensures)

pub returns-in-Err-clause-step : goal.returns-in-Err-clause-step
returns-in-Err-clause-step g c =
    let limits = c.self.inside.limits in
    let library = g.L.Library.shown c.args.library.now in
    let a = g.K.Sink.shown c.args.sink.now in
    let b = g.K.Sink.shown c.report-in-Err.new.sink in
    let short : length c.args.line.now ≤ limits.line = omega (arith, c.if-line-self.false) in
    subst (λ s. Steps s (view_of limits c.self.inside.index) (a_line c.args.line.now) c.report-in-Err.result (around a library) (around b library)) c.self.view_is
    (unread_stepped limits library c.self.inside.index c.args.line.now c.report-in-Err.result a b (holds_trees limits c.self.inside.index c.trees.ensures.keyed c.trees.ensures.exactly c.trees.ensures.hold) short c.in-Err.ensures.refused c.report-in-Err.ensures)

pub returns-then-line-self-clause-step : goal.returns-then-line-self-clause-step
returns-then-line-self-clause-step g c =
    let library = g.L.Library.shown c.args.library.now in
    let a = g.K.Sink.shown c.args.sink.now in
    let b = g.K.Sink.shown c.report.new.sink in
    let limits = c.self.inside.limits in
    subst (λ s. Steps s s (a_line c.args.line.now) c.report.result (around a library) (around b library)) c.self.view_is
    (long_stepped limits library c.self.inside.index c.args.line.now c.report.result a b
    (holds_trees limits c.self.inside.index c.trees.ensures.keyed c.trees.ensures.exactly c.trees.ensures.hold) (omega (arith, c.if-line-self.true)) c.report.ensures)
