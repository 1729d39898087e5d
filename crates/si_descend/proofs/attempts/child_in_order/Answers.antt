use Rattle.std.proofs.Common.{◌≡◌, ◌<◌, Some, length, slice_get, subst, arith}
use Rattle.std.proofs.lemmas.Option.{slice_get-get_or}
use Rattle.si_descend.proofs.HeadLaws.{unwanted_out}
use Rattle.si_tree.proofs.KnownHeads.{as_many_known, known_child}
use Rattle.si_descend.proofs.attempts.child_in_order.Goals as goal

pub bounds-siblings-place : goal.bounds-siblings-place
bounds-siblings-place c =
    let node = c.requires.node in
    let places = c.requires.attempts.places node.0 node.1 in
    as_many_known c.args.search.now.tree.now node.0.content c.args.siblings.heads.now c.args.place places.1 (subst (λ l. c.args.place < length l) places.0 c.requires.within)

pub offset_bounds-siblings-place : goal.offset_bounds-siblings-place
offset_bounds-siblings-place c = omega (arith, bounds-siblings-place c)

pub returns-then-is_unwanted-clause-none : goal.returns-then-is_unwanted-clause-none
returns-then-is_unwanted-clause-none c child tried =
    let tree = c.args.search.now.tree.now in
    let node = c.requires.node in
    let heads = c.args.siblings.heads.now in
    let places = c.requires.attempts.places node.0 node.1 in
    let less = as_many_known tree node.0.content heads c.args.place places.1 (subst (λ l. c.args.place < length l) places.0 c.requires.within) in
    unwanted_out c.args.search.now c.args.node child c.args.siblings.wanted _ c.requires.attempts.splits (c.is_unwanted.ensures c.if-is_unwanted.true)
    (known_child tree c.args.node node.0 heads node.1 places.1 _ c.args.place child (slice_get-get_or heads c.args.place _ less) (subst (λ l. slice_get l c.args.place ≡ Some child) places.0 tried))

pub returns-clause-some : goal.returns-clause-some
returns-clause-some c = slice_get-get_or c.args.siblings.children.now c.args.place c.index-siblings-place.result c.requires.within
