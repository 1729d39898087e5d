use Rattle.std.proofs.Common.{[], ◌∷◌, sym, ◌∙◌, subst, ◌≡◌, drop, arith}
use Rattle.si_flat.proofs.RowLaws.{left_of_walk, some_left, walked}
use Rattle.si_flat.proofs.bindings.Bindings.pair.Goals as goal

pub loop-preserved : goal.loop-preserved
loop-preserved c = walked c.args.self.now c.loop.left c.next.new.self c.next.result c.loop.counter c.loop.invariant c.next.ensures.steps

pub unreachable-requires : goal.unreachable-requires
unreachable-requires c =
    let turns : c.loop.counter ≡ c.args.n = omega (arith, c.loop-test.false, c.loop.auto.counter-end) in
    some_left c.args.self.now c.args.n c.requires (subst (λ n. drop n c.args.self.now ≡ []) turns (sym c.loop.invariant ∙ c.in_default.ensures.steps.0))

pub returns : goal.returns
returns c =
    let turns : c.loop.counter ≡ c.args.n = omega (arith, c.loop-test.false, c.loop.auto.counter-end) in
    (left_of_walk c.args.self.now c.next-2.new.self c.in-Some.pair c.args.n (subst (λ n. c.in-Some.pair ∷ c.next-2.new.self ≡ drop n c.args.self.now) turns (sym c.in-Some.ensures.steps ∙ c.loop.invariant))).0
