use Rattle.std.proofs.Common.{◌+◌, ◌<◌, ◌^◌, sym, subst}
use Rattle.si_mscg.specs.Generalising.{MayGeneralise, Generalises}
use Rattle.si_insert.specs.Parting.{right_lengths}
use Rattle.si_insert.proofs.PartingLaws.{can_pass, distinct_pairs, left_opened, may_generalise, bound_within, parts_whole, may_split_here, inserted}
use Rattle.si_insert.proofs.parting.part.Goals as goal

pub parts_at-requires-clause-can_pass : goal.parts_at-requires-clause-can_pass
parts_at-requires-clause-can_pass c = can_pass c.args.tree.now c.args.cells.now c.args.openings.now c.args.node c.args.posting c.requires c.bindings-bindings.result.now c.bindings-bindings.ensures

pub parts_at-requires-clause-distinct : goal.parts_at-requires-clause-distinct
parts_at-requires-clause-distinct c = distinct_pairs c.args.tree.now c.args.cells.now c.args.openings.now c.args.node c.args.posting c.requires c.bindings-bindings.result.now c.bindings-bindings.ensures

pub generalise-requires : goal.generalise-requires
generalise-requires c =
    let room = subst (λ n. n + right_lengths c.bindings-bindings.result.now < 2 ^ 31) c.next.ensures (c.has_room.ensures.room c.if-not-has_room.false) in
    subst (λ n. MayGeneralise n c.bindings-bindings.result.now c.in_ok-new.new) (sym c.next-2.ensures) (may_generalise c.args.tree.now c.args.cells.now c.args.openings.now c.args.node c.args.posting c.requires c.bindings-bindings.result.now c.bindings-bindings.ensures c.in_ok-new.new c.in_ok-new.ensures room)

pub bind_all-requires : goal.bind_all-requires
bind_all-requires c = left_opened c.args.tree.now c.args.cells.now c.args.openings.now c.args.node c.args.posting c.requires c.bindings-bindings.result.now c.bindings-bindings.ensures

pub bindings-requires-clause-within : goal.bindings-requires-clause-within
bindings-requires-clause-within c =
    let room = subst (λ n. n + right_lengths c.bindings-bindings.result.now < 2 ^ 31) c.next.ensures (c.has_room.ensures.room c.if-not-has_room.false) in
    let split = subst (λ n. Generalises n c.bindings-bindings.result.now c.in_ok-new.new c.in_ok-split.split) c.next-2.ensures c.in_ok-split.ensures in
    bound_within c.args.tree.now c.args.cells.now c.args.openings.now c.args.node c.args.posting c.requires c.bindings-bindings.result.now c.bindings-bindings.ensures c.in_ok-new.new c.in_ok-new.ensures room c.in_ok-split.split split c.bind_all.new.openings c.bind_all.ensures

pub split_node-requires-clause-whole : goal.split_node-requires-clause-whole
split_node-requires-clause-whole c =
    let room = subst (λ n. n + right_lengths c.bindings-bindings.result.now < 2 ^ 31) c.next.ensures (c.has_room.ensures.room c.if-not-has_room.false) in
    let split = subst (λ n. Generalises n c.bindings-bindings.result.now c.in_ok-new.new c.in_ok-split.split) c.next-2.ensures c.in_ok-split.ensures in
    parts_whole c.args.tree.now c.args.cells.now c.args.openings.now c.args.node c.args.posting c.requires c.bindings-bindings.result.now c.bindings-bindings.ensures c.in_ok-new.new c.in_ok-new.ensures room c.in_ok-split.split split c.bind_all.new.openings c.bind_all.ensures c.in_ok-others.others c.in_ok-others.ensures

pub split_node-requires-clause-may : goal.split_node-requires-clause-may
split_node-requires-clause-may c =
    let room = subst (λ n. n + right_lengths c.bindings-bindings.result.now < 2 ^ 31) c.next.ensures (c.has_room.ensures.room c.if-not-has_room.false) in
    let split = subst (λ n. Generalises n c.bindings-bindings.result.now c.in_ok-new.new c.in_ok-split.split) c.next-2.ensures c.in_ok-split.ensures in
    may_split_here c.args.tree.now c.args.cells.now c.args.openings.now c.args.node c.args.posting c.requires c.bindings-bindings.result.now c.bindings-bindings.ensures c.in_ok-new.new c.in_ok-new.ensures room c.in_ok-split.split split c.bind_all.new.openings c.bind_all.ensures c.in_ok-others.others c.in_ok-others.ensures

pub returns-clause-ok : goal.returns-clause-ok
returns-clause-ok c =
    let room = subst (λ n. n + right_lengths c.bindings-bindings.result.now < 2 ^ 31) c.next.ensures (c.has_room.ensures.room c.if-not-has_room.false) in
    let split = subst (λ n. Generalises n c.bindings-bindings.result.now c.in_ok-new.new c.in_ok-split.split) c.next-2.ensures c.in_ok-split.ensures in
    inserted c.args.tree.now c.args.cells.now c.args.openings.now c.args.node c.args.posting c.requires c.bindings-bindings.result.now c.bindings-bindings.ensures c.in_ok-new.new c.in_ok-new.ensures room c.in_ok-split.split split c.bind_all.new.openings c.bind_all.ensures c.split_node.new.self c.in_ok-others.others c.in_ok-split_node.field-0 c.in_ok-others.ensures c.in_ok-split_node.ensures.ok
