use Rattle.si_unify.specs.Spots.{IsSubterm}
use Rattle.si_unify.proofs.Chains.{IsOnChain}
use Rattle.si_unify.proofs.unifier.Unifier.follow.Given as goal

pub record Invariant (chain subterm : Type 0) : Type 0 where
  pub on_chain : chain
  pub still_subterm : subterm

abbrev pub invariant-loop : goal.invariant-loop
invariant-loop l = Invariant (IsOnChain l.self.question l.self.trail.now.pairs l.from.spot l.reached.spot l.counter) (IsSubterm l.self.question l.self.trail.now.pairs l.reached)
