use Rattle.std.proofs.Common.{ap, arith}
use Rattle.si_descend.proofs.EnoughLaws.{lacking_there}
use Rattle.si_descend.proofs.Starting.{asked_above}
use Rattle.si_descend.proofs.descent.descend_with.Goals as goal

pub search_below-requires-clause-above : goal.search_below-requires-clause-above
search_below-requires-clause-above c =
    asked_above c.new-search.result c.args.tree.now c.args.slots.now c.args.query.now c.args.trail.now.pairs c.args.node
    (ap (λ b. b.now) c.new-search.ensures.tree) (ap (λ b. b.now) c.new-search.ensures.query) c.new-search.ensures.slots c.requires.may.above

pub returns-in-Err-clause-full : goal.returns-in-Err-clause-full
returns-in-Err-clause-full c n enough few place =
    lacking_there c.new-search.result c.args.tree.now c.args.relation c.args.query.now c.args.slots.now c.args.node c.args.trail.now.pairs c.args.scratch.now c.clear.new.self c.args.out.now
    (ap (λ b. b.now) c.new-search.ensures.tree) c.new-search.ensures.relation (ap (λ b. b.now) c.new-search.ensures.query) c.new-search.ensures.slots c.in-Err.ensures.full n enough (omega (arith, few, c.clear.ensures.capacity)) place
