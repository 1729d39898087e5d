use Rattle.std.proofs.Common.{sym, ◌∙◌, arith}
use Rattle.si_fit.proofs.WalkLaws.{walk_starts, left_inside, walk_descends, heads_differ, other_some, left_within, part_walkable, walk_goes_on, walk_clashes, walk_stops, walk_ends}
use Rattle.si_fit.proofs.FillTurns.{still_new, first_new, new_on}
use Rattle.si_fit.proofs.filling.fill.Goals as goal

pub loop-j-init : goal.loop-j-init
loop-j-init c =
    record {
      is_walking = walk_starts _ _ _ _ c.requires.terms;
      left_within = omega arith;
      still_new = c.requires.fresh;
    }

pub bounds-left-i : goal.bounds-left-i
bounds-left-i c =
    left_inside _ _ _ _ _ _ _ c.loop-j.invariant.is_walking c.loop-j-test.true

pub loop-j-preserved-then-have_same_symbol : goal.loop-j-preserved-then-have_same_symbol
loop-j-preserved-then-have_same_symbol c =
    record {
      is_walking = walk_descends _ _ _ _ _ _ _ c.loop-j.invariant.is_walking c.loop-j-test.true (sym c.have_same_symbol.ensures ∙ c.if-have_same_symbol.true);
      left_within = omega (arith, left_inside _ _ _ _ _ _ _ c.loop-j.invariant.is_walking c.loop-j-test.true);
      still_new = still_new c.args.slots.now c.loop-j.trail.pairs c.args.left.now c.args.right.now c.loop-j.i c.loop-j.j c.args.left.now c.args.right.now c.loop-j.invariant.still_new;
    }

pub sub-one-requires-clause-inside : goal.sub-one-requires-clause-inside
sub-one-requires-clause-inside c =
    left_inside _ _ _ _ _ _ _ c.loop-j.invariant.is_walking c.loop-j-test.true

pub fill_one-requires-clause-terms : goal.fill_one-requires-clause-terms
fill_one-requires-clause-terms c =
    part_walkable _ _ _ _ _ _ _ _ _ c.loop-j.invariant.is_walking c.loop-j-test.true c.sub-one.ensures.place c.sub-other.ensures.place c.sub-one.ensures.whole c.sub-other.ensures.whole c.requires.terms

pub fill_one-requires-clause-differ : goal.fill_one-requires-clause-differ
fill_one-requires-clause-differ c =
    heads_differ _ _ _ _ _ _ _ _ _ c.loop-j.invariant.is_walking c.loop-j-test.true c.sub-one.ensures.place c.sub-other.ensures.place c.sub-one.ensures.whole c.sub-other.ensures.whole (sym c.have_same_symbol.ensures ∙ c.if-have_same_symbol.false)

pub fill_one-requires-clause-fresh : goal.fill_one-requires-clause-fresh
fill_one-requires-clause-fresh c =
    first_new c.args.slots.now c.loop-j.trail.pairs c.args.left.now c.args.right.now c.loop-j.i c.loop-j.j c.sub-one.result.now c.sub-other.result.now c.loop-j.invariant.still_new c.sub-one.ensures.place c.sub-other.ensures.place
    (other_some _ _ _ _ _ _ _ _ _ c.loop-j.invariant.is_walking c.loop-j-test.true c.sub-one.ensures.place c.sub-other.ensures.place c.sub-one.ensures.whole c.sub-other.ensures.whole)

pub loop-j-smaller : goal.loop-j-smaller
loop-j-smaller c =
    omega (arith, c.loop-j-test.true, other_some _ _ _ _ _ _ _ _ _ c.loop-j.invariant.is_walking c.loop-j-test.true c.sub-one.ensures.place c.sub-other.ensures.place c.sub-one.ensures.whole c.sub-other.ensures.whole)

pub loop-j-preserved : goal.loop-j-preserved
loop-j-preserved c =
    record {
      is_walking = walk_goes_on _ _ _ _ _ _ _ _ _ c.loop-j.invariant.is_walking c.loop-j-test.true c.sub-one.ensures.place c.sub-other.ensures.place c.sub-one.ensures.whole c.sub-other.ensures.whole c.fill_one.new.trail c.in-Equal.ensures;
      left_within = left_within _ _ _ _ _ _ _ _ _ c.loop-j.invariant.is_walking c.loop-j-test.true c.sub-one.ensures.place c.sub-other.ensures.place c.sub-one.ensures.whole c.sub-other.ensures.whole;
      still_new =
          new_on c.args.slots.now c.loop-j.trail.pairs c.args.left.now c.args.right.now c.loop-j.i c.loop-j.j c.sub-one.result.now c.sub-other.result.now c.loop-j.invariant.still_new c.sub-one.ensures.place c.sub-other.ensures.place
          c.fill_one.new.trail.pairs c.fill_one.new.trail.slots c.requires.once c.in-Equal.ensures.outcome c.in-Equal.ensures.trail.ready c.mark-i.ensures.distinct;
    }

pub returns-in-Clash : goal.returns-in-Clash
returns-in-Clash c =
    walk_clashes _ _ _ _ _ _ _ _ _ c.loop-j.invariant.is_walking c.loop-j-test.true c.sub-one.ensures.place c.sub-other.ensures.place c.sub-one.ensures.whole c.sub-other.ensures.whole c.fill_one.new.trail c.in-Clash.ensures

pub returns-in-Unknown : goal.returns-in-Unknown
returns-in-Unknown c =
    walk_stops _ _ _ _ _ _ _ _ _ c.loop-j.invariant.is_walking c.loop-j-test.true c.sub-one.ensures.place c.sub-other.ensures.place c.sub-one.ensures.whole c.sub-other.ensures.whole c.fill_one.new.trail c.in-Unknown.ensures

pub returns : goal.returns
returns c =
    walk_ends _ _ _ _ _ _ _ c.loop-j.invariant.is_walking (omega (arith, c.loop-j-test.false))
