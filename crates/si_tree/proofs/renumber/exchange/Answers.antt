use Rattle.std.proofs.Common.{◌≡◌, ◌∷◌, Some, sym, ◌∙◌, ap, subst}
use Rattle.std.specs.Vec.Iter.{into_iter_items}
use Rattle.slab.specs.Slab.{get, with_value}
use Rattle.si_tree.specs.Renumbers.{with_numbers, AreKeysOf, exchanged}
use Rattle.si_tree.proofs.ExchangeLaws.{keys_stay, exchanged_one}
use Rattle.si_tree.proofs.renumber.exchange.Goals as goal

pub loop-one-preserved : goal.loop-one-preserved
loop-one-preserved c =
    let steps : into_iter_items c.loop-one.one-iterator ≡ c.in-Some.one ∷ into_iter_items c.next.new.self = c.in-Some.ensures.steps.0 in
    let rest = into_iter_items c.next.new.self in
    let are = subst (AreKeysOf c.loop-one.nodes) steps c.loop-one.invariant.2 in
    let key = c.node.view_is in
    let got = subst (λ k. get c.loop-one.nodes k ≡ Some c.index_mut-there.result.now) key c.index_mut-there.ensures.value in
    let written : with_value c.loop-one.nodes c.node.inside.key c.renumber.new.self ≡ with_value c.loop-one.nodes c.in-Some.one.node (with_numbers c.in-Some.one.bindings c.in-Some.one.split c.index_mut-there.result.now) = λ i. with_value c.loop-one.nodes (key i) (c.renumber.ensures i) in (
      tt,
      tt,
      subst (λ s. AreKeysOf s rest) (sym written) (keys_stay c.loop-one.nodes c.in-Some.one.node _ rest are.0 are.1),
      ap (λ s. exchanged s rest) written
          ∙ sym (exchanged_one c.loop-one.nodes c.in-Some.one rest c.index_mut-there.result.now got)
          ∙ ap (exchanged c.loop-one.nodes) (sym steps)
          ∙ c.loop-one.invariant.3,
    )
