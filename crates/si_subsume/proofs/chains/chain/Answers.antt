use Rattle.std.proofs.Common.{◌-◌, ◌<◌, ◌++◌, ◌∷◌, [], length, get_or, refl, ap, ◌∙◌, arith}
use Rattle.std.proofs.lemmas.List.{get_or_default}
use Rattle.si_defs.proofs.ListLaws.{all_get}
use Rattle.si_subsume.proofs.ChainLaws.{chaining_more}
use Rattle.si_subsume.proofs.chains.chain.Goals as goal

pub loop-behind-preserved : goal.loop-behind-preserved
loop-behind-preserved c =
    let labels = c.args.labels.now in
    let number = length labels - 1 - c.loop-behind.behind in
    let below : get_or labels number 0 < length labels = all_get (λ l. l < length labels) labels number 0 c.requires (omega (arith, c.loop-behind-test.true)) in
    chaining_more c.loop-behind.first.items _ c.loop-behind.next.items c.push.new.self.items labels c.loop-behind.behind number c.loop-behind.invariant c.loop-behind-test.true refl
    below
    refl
    (c.in_ok-push.ensures.items ∙ ap (λ n. c.loop-behind.next.items ++ n ∷ []) (c.index.ensures ∙ get_or_default c.loop-behind.first.items (get_or labels number 0) _ 0 (omega (arith, below, c.loop-behind.invariant.size))))
