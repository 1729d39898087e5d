use Rattle.std.proofs.Common.{ap, ◌∙◌}
use Rattle.std.specs.Iterator.Adapters.{zip_first, zip_second}
use Rattle.si_mscg.specs.Walking.{state_of}
use Rattle.si_mscg.proofs.PairTurns.{both_first, one_ends, shares_all, shares_none, shared_skips, shared_goes_on, shared_may}
use Rattle.si_mscg.proofs.walk.Walk.share_agreeing.Goals as goal

pub loop-pair-init : goal.loop-pair-init
loop-pair-init c =
    let z = c.into_iter-pair-iterator.result in
    shares_all c.args.node.now c.args.new.now (state_of c.args.self.now) (zip_first z) (zip_second z)
    (ap zip_first c.into_iter-pair-iterator.ensures.into_iter_gives ∙ c.zip-pair-items.ensures.first ∙ c.pairs.ensures)
    (ap zip_second c.into_iter-pair-iterator.ensures.into_iter_gives ∙ c.zip-pair-items.ensures.second ∙ c.pairs-2.ensures)
    c.requires

pub loop-pair-preserved-then-not-have_same_heads : goal.loop-pair-preserved-then-not-have_same_heads
loop-pair-preserved-then-not-have_same_heads c =
    let z = c.loop-pair.pair-iterator in
    let y = c.next.new.self in
    let first = both_first (zip_first z) (zip_second z) (zip_first y) (zip_second y) c.next.result c.in-Some.pair c.in-Some.other c.in-Some.is c.next.ensures.steps in
    shared_skips c.args.node.now c.args.new.now (state_of c.args.self.now) (zip_first z) (zip_second z) (zip_first y) (zip_second y) c.in-Some.pair c.in-Some.other first c.have_same_heads.result c.have_same_heads.ensures (state_of c.loop-pair.self) c.if-not-have_same_heads.true c.loop-pair.invariant

pub share_pair-requires : goal.share_pair-requires
share_pair-requires c =
    let z = c.loop-pair.pair-iterator in
    let y = c.next.new.self in
    let first = both_first (zip_first z) (zip_second z) (zip_first y) (zip_second y) c.next.result c.in-Some.pair c.in-Some.other c.in-Some.is c.next.ensures.steps in
    shared_may c.args.node.now c.args.new.now (state_of c.args.self.now) (zip_first z) (zip_second z) (zip_first y) (zip_second y) c.in-Some.pair c.in-Some.other first c.have_same_heads.result c.have_same_heads.ensures (state_of c.loop-pair.self) c.if-not-have_same_heads.false c.requires c.loop-pair.invariant

pub loop-pair-preserved : goal.loop-pair-preserved
loop-pair-preserved c =
    let z = c.loop-pair.pair-iterator in
    let y = c.next.new.self in
    let first = both_first (zip_first z) (zip_second z) (zip_first y) (zip_second y) c.next.result c.in-Some.pair c.in-Some.other c.in-Some.is c.next.ensures.steps in
    shared_goes_on c.args.node.now c.args.new.now (state_of c.args.self.now) (zip_first z) (zip_second z) (zip_first y) (zip_second y) c.in-Some.pair c.in-Some.other first c.have_same_heads.result c.have_same_heads.ensures (state_of c.loop-pair.self) (state_of c.share_pair.new.self) c.if-not-have_same_heads.false c.in_ok-share_pair.ensures c.loop-pair.invariant

pub returns : goal.returns
returns c =
    let z = c.loop-pair.pair-iterator in
    let y = c.next.new.self in
    shares_none c.args.node.now c.args.new.now (state_of c.args.self.now) (zip_first z) (zip_second z) (state_of c.loop-pair.self) (one_ends (zip_first z) (zip_second z) (zip_first y) (zip_second y) c.next.result c.in-None.is c.next.ensures.steps) c.loop-pair.invariant
