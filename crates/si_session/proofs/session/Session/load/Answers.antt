-- What became of a word that names a file is what the load did.
use Rattle.std.proofs.Common.{ap, sym, ◌∙◌, subst, arith}
use Rattle.si_steps.specs.Runs.{a_word}
use Rattle.si_session.specs.Session.{Steps, around, view_of}
use Rattle.si_session.proofs.Acting.{word_stepped, nameless_stepped, holds_trees, load_not_silent, load_keeps}
use Rattle.si_session.proofs.session.Session.load.Goals as goal

pub load-requires-clause-limit : goal.load-requires-clause-limit
load-requires-clause-limit g c = omega (arith, c.self.invariant.0, c.self.invariant.1.entries)

pub returns-clause-step : goal.returns-clause-step
returns-clause-step g c =
    let before = around (g.K.Sink.shown c.args.sink.now) (g.L.Library.shown c.args.library.now) in
    let after = around (g.K.Sink.shown c.load.new.sink) (g.L.Library.shown c.load.new.library) in
    let limits = c.self.inside.limits in
    subst (λ s. Steps s (view_of limits c.load.new.index) (a_word c.args.word.now) c.load.result before after) c.self.view_is
    (word_stepped limits c.args.word.now c.self.inside.index c.load.new.index c.load.result before after c.load.ensures
    (holds_trees limits c.self.inside.index c.trees.ensures.keyed c.trees.ensures.exactly c.trees.ensures.hold)
    (sym c.names_file.ensures ∙ c.if-not-names_file.false))

pub returns-clause-loud : goal.returns-clause-loud
returns-clause-loud g c = λ e. load_not_silent c.self.inside.limits c.args.word.now c.self.inside.index c.load.new.index c.load.result _ _ c.load.ensures e

pub returns-clause-refused : goal.returns-clause-refused
returns-clause-refused g c =
    λ e. load_keeps c.self.inside.limits c.args.word.now c.self.inside.index c.load.new.index c.load.result _ _ c.load.ensures e
    ∙ ap (λ s. s.state) c.self.view_is

pub returns-then-not-names_file-clause-step : goal.returns-then-not-names_file-clause-step
returns-then-not-names_file-clause-step g c =
    let library = g.L.Library.shown c.args.library.now in
    let a = g.K.Sink.shown c.args.sink.now in
    let b = g.K.Sink.shown c.report.new.sink in
    let limits = c.self.inside.limits in
    subst (λ s. Steps s s (a_word c.args.word.now) c.report.result (around a library) (around b library)) c.self.view_is
    (nameless_stepped limits library c.self.inside.index c.args.word.now c.report.result a b
    (holds_trees limits c.self.inside.index c.trees.ensures.keyed c.trees.ensures.exactly c.trees.ensures.hold)
    (sym c.names_file.ensures ∙ c.if-not-names_file.true) c.report.ensures)
