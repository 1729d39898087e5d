use Rattle.std.proofs.Common.{◌≡◌, None, Some, ◌∙◌, sym, ap, subst}
use Rattle.std.specs.Prelude.{is_some}
use Rattle.std.proofs.lemmas.Option.{same_Some}
use Rattle.slab.specs.Slab.{get, ContainsKey, Updates, with_value}
use Rattle.slab.proofs.SlabLemmas.{Updates-with_value}
use Rattle.si_tree.specs.KeptNodes.{moved_below, HasChildBy, RelinksChild}
use Rattle.si_tree.proofs.VacantLaws.{parent_is, upper_is, besides_at, other_then, upper_there, upper_child, taken_both}
use Rattle.si_tree.proofs.dropping.take_both.Goals as goal

pub index_mut-below-requires : goal.index_mut-below-requires
index_mut-below-requires c =
    let s0 = c.args.nodes.now in
    let may = c.requires in
    let parent = parent_is s0 c.args.leaf may c.index.result.now c.leaf.inside.key c.in-Some.parent c.leaf.view_is c.index.ensures (sym c.parent.ensures ∙ c.in-Some.is) in
    let other = c.child_besides-other.ensures may.other (besides_at s0 c.args.leaf may c.index-3.result.now c.parent-2.inside.key (c.parent-2.view_is ∙ parent) c.index-3.ensures) in
    let one = subst (λ k. Updates s0 c.vacate.new.nodes k None) c.leaf-2.view_is c.vacate.ensures in
    let two = subst (λ k. Updates c.vacate.new.nodes c.vacate-2.new.nodes k None) (c.parent-4.view_is ∙ parent) c.vacate-2.ensures in
    subst (ContainsKey c.vacate-2.new.nodes) (sym (c.other.view_is ∙ other)) (ap is_some (other_then s0 c.args.leaf may _ _ one two))

pub index_mut-above-requires : goal.index_mut-above-requires
index_mut-above-requires c =
    let s0 = c.args.nodes.now in
    let may = c.requires in
    let parent = parent_is s0 c.args.leaf may c.index.result.now c.leaf.inside.key c.in-Some.parent c.leaf.view_is c.index.ensures (sym c.parent.ensures ∙ c.in-Some.is) in
    let upper = upper_is s0 c.args.leaf may c.index-2.result.now c.parent-2.inside.key c.in-Some-parent.upper (c.parent-2.view_is ∙ parent) c.index-2.ensures (sym c.parent-3.ensures ∙ c.in-Some-parent.is) in
    let other = c.child_besides-other.ensures may.other (besides_at s0 c.args.leaf may c.index-3.result.now c.parent-2.inside.key (c.parent-2.view_is ∙ parent) c.index-3.ensures) in
    let one = subst (λ k. Updates s0 c.vacate.new.nodes k None) c.leaf-2.view_is c.vacate.ensures in
    let s2 = c.vacate-2.new.nodes in
    let two = subst (λ k. Updates c.vacate.new.nodes s2 k None) (c.parent-4.view_is ∙ parent) c.vacate-2.ensures in
    let at = c.other.inside.key in
    let s3 = with_value s2 at c.move_below.new.self in
    let three = subst (λ k. Updates s2 s3 k (Some c.move_below.new.self)) (c.other.view_is ∙ other) (Updates-with_value s2 at c.move_below.new.self (ap is_some c.index_mut-below.ensures.value)) in
    subst (ContainsKey s3) (sym (c.upper.view_is ∙ upper)) (ap is_some (upper_there s0 c.args.leaf may _ _ one two s3 _ three))

pub relink-requires : goal.relink-requires
relink-requires c =
    let s0 = c.args.nodes.now in
    let may = c.requires in
    let parent = parent_is s0 c.args.leaf may c.index.result.now c.leaf.inside.key c.in-Some.parent c.leaf.view_is c.index.ensures (sym c.parent.ensures ∙ c.in-Some.is) in
    let upper = upper_is s0 c.args.leaf may c.index-2.result.now c.parent-2.inside.key c.in-Some-parent.upper (c.parent-2.view_is ∙ parent) c.index-2.ensures (sym c.parent-3.ensures ∙ c.in-Some-parent.is) in
    let other = c.child_besides-other.ensures may.other (besides_at s0 c.args.leaf may c.index-3.result.now c.parent-2.inside.key (c.parent-2.view_is ∙ parent) c.index-3.ensures) in
    let one = subst (λ k. Updates s0 c.vacate.new.nodes k None) c.leaf-2.view_is c.vacate.ensures in
    let s2 = c.vacate-2.new.nodes in
    let two = subst (λ k. Updates c.vacate.new.nodes s2 k None) (c.parent-4.view_is ∙ parent) c.vacate-2.ensures in
    let at = c.other.inside.key in
    let s3 = with_value s2 at c.move_below.new.self in
    let three = subst (λ k. Updates s2 s3 k (Some c.move_below.new.self)) (c.other.view_is ∙ other) (Updates-with_value s2 at c.move_below.new.self (ap is_some c.index_mut-below.ensures.value)) in
    let there = upper_there s0 c.args.leaf may _ _ one two s3 _ three in
    let same = same_Some _ _ (sym there ∙ subst (λ k. get s3 k ≡ Some c.index_mut-above.result.now) (c.upper.view_is ∙ upper) c.index_mut-above.ensures.value) in
    (may.parent, subst (λ n. HasChildBy n c.head_below-head.result may.parent) same (upper_child s0 c.args.leaf may c.in-Some.parent c.in-Some-parent.upper c.head_below-head.result parent upper c.head_below-head.ensures))

pub returns : goal.returns
returns c may =
    let s0 = c.args.nodes.now in
    let parent = parent_is s0 c.args.leaf may c.index.result.now c.leaf.inside.key c.in-Some.parent c.leaf.view_is c.index.ensures (sym c.parent.ensures ∙ c.in-Some.is) in
    let upper = upper_is s0 c.args.leaf may c.index-2.result.now c.parent-2.inside.key c.in-Some-parent.upper (c.parent-2.view_is ∙ parent) c.index-2.ensures (sym c.parent-3.ensures ∙ c.in-Some-parent.is) in
    let other = c.child_besides-other.ensures may.other (besides_at s0 c.args.leaf may c.index-3.result.now c.parent-2.inside.key (c.parent-2.view_is ∙ parent) c.index-3.ensures) in
    let one = subst (λ k. Updates s0 c.vacate.new.nodes k None) c.leaf-2.view_is c.vacate.ensures in
    let s2 = c.vacate-2.new.nodes in
    let two = subst (λ k. Updates c.vacate.new.nodes s2 k None) (c.parent-4.view_is ∙ parent) c.vacate-2.ensures in
    let at = c.other.inside.key in
    let moved = c.move_below.new.self in
    let s3 = with_value s2 at moved in
    let got_other = subst (λ k. get s2 k ≡ Some c.index_mut-below.result.now) (c.other.view_is ∙ other) c.index_mut-below.ensures.value in
    let moved_is = c.move_below.ensures ∙ ap (λ k. moved_below c.index_mut-below.result.now k c.args.bindings) upper in
    let three = subst (λ m. Updates s2 s3 may.other (Some m)) moved_is (subst (λ k. Updates s2 s3 k (Some moved)) (c.other.view_is ∙ other) (Updates-with_value s2 at moved (ap is_some c.index_mut-below.ensures.value))) in
    let s4 = with_value s3 c.upper.inside.key c.relink.new.self in
    let got_upper = subst (λ k. get s3 k ≡ Some c.index_mut-above.result.now) (c.upper.view_is ∙ upper) c.index_mut-above.ensures.value in
    let four = subst (λ k. Updates s3 s4 k (Some c.relink.new.self)) (c.upper.view_is ∙ upper) (Updates-with_value s3 c.upper.inside.key c.relink.new.self (ap is_some c.index_mut-above.ensures.value)) in
    let same = same_Some _ _ (sym (upper_there s0 c.args.leaf may _ _ one two s3 _ three) ∙ got_upper) in
    let stood = subst (λ n. HasChildBy n c.head_below-head.result may.parent) same (upper_child s0 c.args.leaf may c.in-Some.parent c.in-Some-parent.upper c.head_below-head.result parent upper c.head_below-head.ensures) in
    let relinks = subst (RelinksChild c.index_mut-above.result.now c.relink.new.self may.parent) other (c.relink.ensures may.parent stood) in
    taken_both s0 c.args.leaf may _ s2 one two s3 s4 c.args.bindings _ _ _ got_other three got_upper four relinks
