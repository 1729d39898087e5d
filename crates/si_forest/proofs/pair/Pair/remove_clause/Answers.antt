use Rattle.std.proofs.Common.{◌≡◌, Some, slice_get, refl, sym, subst}
use Rattle.std.proofs.lemmas.Option.{slice_get_read}
use Rattle.si_flat.specs.Cells.{Term}
use Rattle.si_legal.specs.Trees.{StandsIn}
use Rattle.si_held.specs.TwoTrees.{tree_for}
use Rattle.si_forest.specs.Locations.{posting_of}
use Rattle.si_forest.specs.Pairs.{two_of, LoseOne}
use Rattle.si_forest.proofs.LoseLaws.{gone_start, still_stands, gone_more, gone_change, all_gone}
use Rattle.si_forest.proofs.pair.Pair.remove_clause.Goals as goal

pub loop-entry-init : goal.loop-entry-init
loop-entry-init c = gone_start c.args.key (two_of c.args.self.now) c.requires.legal

pub remove-requires-clause-legal : goal.remove-requires-clause-legal
remove-requires-clause-legal c = c.loop-entry.invariant.legal

pub remove-requires-clause-stands : goal.remove-requires-clause-stands
remove-requires-clause-stands c =
    let at : slice_get c.args.locations.now c.loop-entry.entry ≡ Some c.index-locations-entry.result = slice_get_read c.args.locations.now _ c.loop-entry.entry c.index-locations-entry.result refl c.loop-entry-test.true c.index-locations-entry.is in
    subst (λ n. (t : Term) × StandsIn (tree_for c.literal.result (two_of c.loop-entry.self)) n t (posting_of c.args.key c.loop-entry.entry)) (sym c.leaf.ensures)
    (subst (λ k. (t : Term) × StandsIn (tree_for k (two_of c.loop-entry.self)) c.index-locations-entry.result.leaf t (posting_of c.args.key c.loop-entry.entry)) (sym c.literal.ensures)
    (still_stands c.args.key c.loop-entry.entry c.args.locations.now c.index-locations-entry.result (two_of c.args.self.now) (two_of c.loop-entry.self) c.requires.located at c.loop-entry.invariant))

pub loop-entry-preserved : goal.loop-entry-preserved
loop-entry-preserved c =
    let at : slice_get c.args.locations.now c.loop-entry.entry ≡ Some c.index-locations-entry.result = slice_get_read c.args.locations.now _ c.loop-entry.entry c.index-locations-entry.result refl c.loop-entry-test.true c.index-locations-entry.is in
    gone_more c.args.key c.loop-entry.entry c.args.locations.now c.index-locations-entry.result (two_of c.args.self.now) (two_of c.loop-entry.self) (two_of c.remove.new.self) c.requires.located at c.loop-entry.invariant
    (subst (λ n. LoseOne (two_of c.loop-entry.self) (two_of c.remove.new.self) c.index-locations-entry.result.literal (posting_of c.args.key c.loop-entry.entry) n) c.leaf.ensures
    (subst (λ k. LoseOne (two_of c.loop-entry.self) (two_of c.remove.new.self) k (posting_of c.args.key c.loop-entry.entry) c.leaf.result) c.literal.ensures c.remove.ensures))

pub returns-clause-change : goal.returns-clause-change
returns-clause-change c = gone_change c.args.key c.loop-entry.entry (two_of c.args.self.now) (two_of c.loop-entry.self) c.loop-entry.invariant

pub returns-clause-gone : goal.returns-clause-gone
returns-clause-gone c = all_gone c.args.key c.loop-entry.entry c.args.locations.now (two_of c.args.self.now) (two_of c.loop-entry.self) c.requires.located c.loop-entry-test.false c.loop-entry.invariant

pub returns-clause-each : goal.returns-clause-each
returns-clause-each c = (c.loop-entry.entry, c.loop-entry.invariant.first)
