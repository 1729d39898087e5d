use Rattle.std.proofs.Common.{◌≡◌, subst, arith}
use Rattle.std.proofs.lemmas.Result.{IfOk-weaker}
use Rattle.si_entries.specs.Walks.{GivesEntry, left_of}
use Rattle.si_entries.proofs.WalkLaws.{HasPassed, passed_none, passed_more, passed_all, given_after}
use Rattle.si_entries.proofs.walk.Entries.nth.Goals as goal

pub loop-init : goal.loop-init
loop-init c = (c.requires, passed_none (left_of c.args.self.now), omega arith)

pub loop-preserved : goal.loop-preserved
loop-preserved c = (
  c.in_ok-next.ensures.small,
  passed_more c.loop.counter c.args.self.now c.loop.self c.next.new.self _ c.loop.invariant.1 (subst (GivesEntry c.loop.self c.next.new.self) c.in-Some.is c.in_ok-next.ensures.next),
  omega (arith, c.loop-test.true),
)

pub returns-in_default-clause-nth : goal.returns-in_default-clause-nth
returns-in_default-clause-nth c =
    passed_all c.loop.counter c.args.count c.args.self.now c.loop.self c.next.new.self (omega (arith, c.loop.invariant.2)) c.loop.invariant.1
    (subst (GivesEntry c.loop.self c.next.new.self) c.in_default.is c.in_ok-next.ensures.next)

pub returns-clause-nth : goal.returns-clause-nth
returns-clause-nth c =
    let all : c.loop.counter ≡ c.args.count = omega (arith, c.loop.invariant.2, c.loop-test.false) in
    IfOk-weaker c.next-2.result _ _
    (λ o. given_after c.args.count c.args.self.now c.loop.self c.next-2.new.self o (subst (λ n. HasPassed n (left_of c.args.self.now) (left_of c.loop.self)) all c.loop.invariant.1))
    c.next-2.ensures.next
