use Rattle.std.proofs.Common.{refl, sym, subst, arith}
use Rattle.std.proofs.lemmas.List.{take_all}
use Rattle.si_defs.specs.Substitutions.{IsAmong}
use Rattle.si_defs.proofs.ListLaws.{all_get}
use Rattle.si_legal.specs.declared.Posting.{Posting}
use Rattle.si_held.specs.TwoTrees.{tree_for}
use Rattle.si_index.specs.Gathering.{StoresPosting}
use Rattle.si_index.proofs.SlotLaws.{is_placed}
use Rattle.si_index.proofs.WantedLaws.{ArePlaced, placed_next, sorted_in_order}
use Rattle.si_index.proofs.wanted.in_order.Goals as goal

pub leaf_of-node-requires : goal.leaf_of-node-requires
leaf_of-node-requires c = all_get (StoresPosting (tree_for c.args.literal c.args.trees.now)) c.args.postings.now c.loop-posting.posting-index _ c.requires.stored c.loop-posting-test.true

pub place-requires : goal.place-requires
place-requires c =
    is_placed c.args.index.now c.args.slots.now _ c.requires.slots
    (all_get (λ (p : Posting). IsAmong c.args.index.now.keys p.clause) c.args.postings.now c.loop-posting.posting-index _ c.requires.kept c.loop-posting-test.true)

pub overflow_cast-place : goal.overflow_cast-place
overflow_cast-place c = omega (arith, c.place.ensures.few, c.requires.slots.few)

pub loop-posting-preserved : goal.loop-posting-preserved
loop-posting-preserved c =
    let slots = c.args.slots.now in
    let tree = tree_for c.args.literal c.args.trees.now in
    let leaves = c.number_of.new.leaves.items in
    record {
      placed =
          subst (ArePlaced slots tree leaves _) (sym c.in_ok-push.ensures.items)
          (placed_next slots tree c.loop-posting.leaves.items leaves c.args.postings.now c.loop-posting.places.items c.loop-posting.posting-index _ _ c.requires.slots.rise c.loop-posting-test.true c.loop-posting.invariant.placed c.in_ok-number_of.ensures.kept
          (record {
            key = c.place.ensures.there;
            number = refl;
            node = c.leaf_of-node.result;
            has_node = c.in_ok-number_of.ensures.node;
            term = c.leaf_of-node.ensures.0;
            stands = c.leaf_of-node.ensures.1;
          }));
      unmade = c.in_ok-number_of.ensures.unmade;
    }

pub returns : goal.returns
returns c =
    let tree = tree_for c.args.literal c.args.trees.now in
    sorted_in_order c.args.slots.now tree c.args.postings.now c.loop-posting.places.items _ c.requires.slots.rise
    (subst (λ ps. ArePlaced c.args.slots.now tree c.loop-posting.leaves.items ps c.loop-posting.places.items) (take_all c.loop-posting.posting-index c.args.postings.now c.loop-posting-test.false) c.loop-posting.invariant.placed)
    c.loop-posting.invariant.unmade c.requires.distinct c.put_in_order.ensures.same c.in_ok-put_in_order.ensures.sorted
