use Rattle.std.proofs.Common.{sym, subst}
use Rattle.std.specs.List.{AllByRecursion}
use Rattle.si_term.specs.Meaning.{pattern_of}
use Rattle.si_index.specs.Searching.{HaveCanonicalSolutions}
use Rattle.si_session.proofs.Acting.{finds_no_memory, answers, fails}
use Rattle.si_index.proofs.StandingLaws.{trees_stand, trees_find}
use Rattle.si_session.specs.Answering.{IsInside}
use Rattle.si_session.proofs.Answering.{are_inside, whole_answer}
use Rattle.si_session.proofs.session.answer.Goals as goal

pub find-requires-clause-standing : goal.find-requires-clause-standing
find-requires-clause-standing g c = trees_stand c.args.index.now c.trees.result.now c.args.relation (pattern_of c.args.pattern.now) c.trees.ensures.answer c.trees.ensures.trees c.requires

pub report_answer-requires-clause-inside : goal.report_answer-requires-clause-inside
report_answer-requires-clause-inside g c =
    let f = c.in-Ok.found in
    subst (λ index. AllByRecursion (IsInside index.clauses) f.hits) (sym c.in-Ok.ensures.asked.index)
    (are_inside c.args.relation (pattern_of c.args.pattern.now) c.args.index.now.clauses f.hits
    (trees_find c.args.index.now c.trees.result.now c.args.relation (pattern_of c.args.pattern.now) c.trees.ensures.answer c.trees.ensures.trees c.requires c.in-Ok.found.hits c.in-Ok.found.passed c.in-Ok.ensures.hits))

pub report_answer-requires-clause-solved : goal.report_answer-requires-clause-solved
report_answer-requires-clause-solved g c =
    let f = c.in-Ok.found in
    subst (λ kind. HaveCanonicalSolutions kind f.pattern f.hits) (sym c.in-Ok.ensures.asked.relation)
    (subst (λ p. HaveCanonicalSolutions c.args.relation p f.hits) (sym c.in-Ok.ensures.asked.pattern) c.in-Ok.ensures.solved)

pub returns-in-Ok-report_answer : goal.returns-in-Ok-report_answer
returns-in-Ok-report_answer g c =
    let f = c.in-Ok.found in
    let reported = c.in-Ok-report_answer.ensures in
    let answer = whole_answer f c.args.index.now c.args.relation (pattern_of c.args.pattern.now) c.in-Ok.ensures.asked.index c.in-Ok.ensures.asked.relation c.in-Ok.ensures.asked.pattern
    (trees_find c.args.index.now c.trees.result.now c.args.relation (pattern_of c.args.pattern.now) c.trees.ensures.answer c.trees.ensures.trees c.requires c.in-Ok.found.hits c.in-Ok.found.passed c.in-Ok.ensures.hits) reported.0 reported.1 in
    answers c.args.relation (pattern_of c.args.pattern.now) c.args.index.now reported.0 answer (g.K.Sink.shown c.args.sink.now) (g.K.Sink.shown c.report_answer.new.sink) reported.2.all

pub returns : goal.returns
returns g c =
    let f = c.in-Ok.found in
    let reported = c.in-Err-report_answer.ensures in
    let answer = whole_answer f c.args.index.now c.args.relation (pattern_of c.args.pattern.now) c.in-Ok.ensures.asked.index c.in-Ok.ensures.asked.relation c.in-Ok.ensures.asked.pattern
    (trees_find c.args.index.now c.trees.result.now c.args.relation (pattern_of c.args.pattern.now) c.trees.ensures.answer c.trees.ensures.trees c.requires c.in-Ok.found.hits c.in-Ok.found.passed c.in-Ok.ensures.hits) reported.0 reported.1 in
    fails c.args.relation (pattern_of c.args.pattern.now) c.args.index.now reported.0 answer (g.K.Sink.shown c.args.sink.now) (g.K.Sink.shown c.report_answer.new.sink) reported.2.part

pub returns-in-Err : goal.returns-in-Err
returns-in-Err g c = finds_no_memory _ _ _ _ _ c.report.ensures
