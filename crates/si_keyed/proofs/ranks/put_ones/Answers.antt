use Rattle.std.proofs.Common.{◌≡◌, [], ◌∷◌, ◌++◌, if◌then◌else◌, replicate, ℕ, ◌∙◌, ap, arith}
use Rattle.std.specs.Prelude.{is_ok}
use Rattle.si_keyed.proofs.PutLaws.{one_more, ones_room}
use Rattle.si_keyed.proofs.ranks.put_ones.Goals as goal

pub loop-init : goal.loop-init
loop-init c = record { ones = c.clear.ensures.items; same = omega (arith, c.clear.ensures.capacity) }

pub unwrap-requires : goal.unwrap-requires
unwrap-requires c =
    c.push.ensures.succeeds
    (omega (arith, c.loop.counts.ok, ones_room _ _ _ _ c.args.places c.loop.invariant c.loop-test.true c.requires))

pub loop-preserved : goal.loop-preserved
loop-preserved c =
    one_more
    _ _ _ _ _ _
    c.loop.invariant
    (c.push.ensures.items ∙ ap (λ r. if is_ok r then c.loop.counts.items ++ 1 ∷ [] else c.loop.counts.items) c.unwrap.ensures)
    c.push.ensures.capacity

pub returns : goal.returns
returns c =
    let all : c.loop.counter ≡ c.args.places = omega (arith, c.loop-test.false, c.loop.auto.counter-end) in
    c.loop.invariant.ones ∙ ap (λ n. replicate {A = ℕ} n 1) all
