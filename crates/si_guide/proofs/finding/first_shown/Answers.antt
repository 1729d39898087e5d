use Rattle.si_term.specs.Meaning.{pattern_of}
use Rattle.si_index.proofs.StandingLaws.{trees_stand, trees_find}
use Rattle.si_guide.proofs.FirstHits.{shows_none, shows_first}
use Rattle.si_guide.proofs.finding.first_shown.Goals as goal

pub find-requires-clause-standing : goal.find-requires-clause-standing
find-requires-clause-standing c = trees_stand c.args.index.now c.trees.result.now c.args.relation (pattern_of c.args.pattern.now) c.trees.ensures.answer c.trees.ensures.trees c.requires

pub returns-then-len-eq0 : goal.returns-then-len-eq0
returns-then-len-eq0 c =
    shows_none c.args.index.now c.args.relation (pattern_of c.args.pattern.now) c.in_ok-found.found.hits c.len.result c.len.ensures c.if-len-eq0.true
    (trees_find c.args.index.now c.trees.result.now c.args.relation (pattern_of c.args.pattern.now) c.trees.ensures.answer c.trees.ensures.trees c.requires c.in_ok-found.found.hits c.in_ok-found.found.passed
    c.in_ok-found.ensures.hits)

pub returns : goal.returns
returns c =
    let found = c.in_ok-found.ensures in
    shows_first c.in_ok-found.found c.args.index.now c.args.relation (pattern_of c.args.pattern.now) c.in_ok-shown.shown found.asked.index found.asked.relation found.asked.pattern
    (trees_find c.args.index.now c.trees.result.now c.args.relation (pattern_of c.args.pattern.now) c.trees.ensures.answer c.trees.ensures.trees c.requires c.in_ok-found.found.hits c.in_ok-found.found.passed
    found.hits)
    c.in_ok-shown.ensures
