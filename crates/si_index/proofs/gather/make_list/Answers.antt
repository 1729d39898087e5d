use Rattle.std.proofs.Common.{Some, refl, set, sym, ◌∙◌}
use Rattle.si_term.specs.Meaning.{entry_of}
use Rattle.si_index.specs.declared.wanted.Leaf.{Leaf}
use Rattle.si_index.proofs.LeafLaws.{has_list_there, unmade_there, got_leaf, made_stays, has_made, are_made, of_leaf_stays, has_list}
use Rattle.si_index.proofs.gather.make_list.Goals as goal

pub returns-then-is_some-clause-list : goal.returns-then-is_some-clause-list
returns-then-is_some-clause-list c =
    has_list_there c.args.search.now c.args.leaves.now.items c.args.leaf (entry_of c.args.entry) c.index.result.now c.requires.leaf c.index.ensures
    c.requires.ready c.requires.known c.requires.stands c.requires.made (sym c.is_some.ensures ∙ c.if-is_some.true)

pub returns-clause-stay : goal.returns-clause-stay
returns-clause-stay c =
    let leaves = c.args.leaves.now.items in
    let read = c.index_mut.result.now in
    let got = got_leaf c.args.search.now leaves c.args.leaf (entry_of c.args.entry) read c.requires.leaf c.index_mut.ensures.value in
    made_stays leaves c.args.leaf read (record { node = read.node; list = Some c.in_ok-list.list }) got (unmade_there c.args.search.now leaves c.args.leaf (entry_of c.args.entry) c.index.result.now c.requires.leaf c.index.ensures (sym c.is_some.ensures ∙ c.if-is_some.false) read got) refl

pub returns-clause-made : goal.returns-clause-made
returns-clause-made c =
    let leaves = c.args.leaves.now.items in
    let read = c.index_mut.result.now in
    let got = got_leaf c.args.search.now leaves c.args.leaf (entry_of c.args.entry) read c.requires.leaf c.index_mut.ensures.value in
    are_made leaves c.args.leaf read (record { node = read.node; list = Some c.in_ok-list.list }) got (unmade_there c.args.search.now leaves c.args.leaf (entry_of c.args.entry) c.index.result.now c.requires.leaf c.index.ensures (sym c.is_some.ensures ∙ c.if-is_some.false) read got) refl
    c.args.search.now (entry_of c.args.entry) c.in_ok-list.list refl c.requires.leaf c.in_ok-list.ensures c.requires.made

pub returns-clause-list : goal.returns-clause-list
returns-clause-list c =
    let s = c.args.search.now in
    let e = entry_of c.args.entry in
    let leaves = c.args.leaves.now.items in
    let read = c.index_mut.result.now in
    let made : Leaf = record { node = read.node; list = Some c.in_ok-list.list } in
    let got = got_leaf s leaves c.args.leaf e read c.requires.leaf c.index_mut.ensures.value in
    let none = unmade_there c.args.search.now leaves c.args.leaf (entry_of c.args.entry) c.index.result.now c.requires.leaf c.index.ensures (sym c.is_some.ensures ∙ c.if-is_some.false) read got in
    has_list s (set leaves c.args.leaf made) c.args.leaf e c.in_ok-list.list c.requires.ready c.requires.known c.requires.stands
    (of_leaf_stays s leaves (set leaves c.args.leaf made) c.args.leaf e (made_stays leaves c.args.leaf read made got none refl) c.requires.leaf)
    (are_made leaves c.args.leaf read made got none refl s e c.in_ok-list.list refl c.requires.leaf c.in_ok-list.ensures c.requires.made)
    (has_made leaves c.args.leaf read made got none refl c.in_ok-list.list refl)
