use Rattle.std.proofs.Common.{sym}
use Rattle.si_term.specs.Meaning.{entry_of}
use Rattle.si_index.proofs.GatherLaws.{adds_match}
use Rattle.si_index.proofs.SlotLaws.{has_clause}
use Rattle.si_index.proofs.gather.add.Goals as goal

pub returns-clause-adds : goal.returns-clause-adds
returns-clause-adds c =
    adds_match c.args.search.now _ _ _ _ c.in_ok-push.ensures.items
    (λ i. (c.args.walk.now.position, record { entry = entry_of c.args.entry; place = sym c.in_ok-place.ensures i })) c.in_ok-make_list.ensures.stay c.requires.each
    (record {
      list = c.in_ok-make_list.ensures.list;
      are_names = c.in_ok-names.ensures;
      there = has_clause c.args.search.now.index.now c.args.search.now.slots c.requires.ready.slots c.args.walk.now.position c.args.walk.now.slot c.requires.walk.key c.args.walk.now.clause.now c.requires.walk.there;
    })
