use Rattle.std.proofs.Common.{◌≡◌, ◌+◌, ◌≤◌, length, reverse}
use Rattle.si_form.specs.Classes.{IsApplying}
use Rattle.si_form.proofs.classes.apply.Given as goal

pub record Invariant (applying less count : Type 0) : Type 0 where
  pub is_applying : applying
  pub within : less
  pub taken : count

abbrev pub invariant-loop : goal.invariant-loop
invariant-loop l =
    Invariant
    (IsApplying l.fn.nodes.keys l.nodes.keys (reverse l.fn.numbers.items) (reverse l.numbers.items) (record { number = l.sym; arity = l.arity }) l.counter l.front)
    (l.counter ≤ l.arity)
    (length l.fn.numbers.items ≡ l.counter + length l.numbers.items)
