use Rattle.std.proofs.Common.{reverse}
use Rattle.si_form.specs.Folding.{HasSymbol, IsUnfolding}
use Rattle.si_form.proofs.folding.descend.Given as goal

pub record Invariant (descending symbol : Type 0) : Type 0 where
  pub is_descending : descending
  pub has_symbol : symbol

abbrev pub invariant-loop-before : goal.invariant-loop-before
invariant-loop-before l =
    Invariant (IsUnfolding l.nodes.keys (reverse l.fn.left.items) (reverse l.left.items) l.class l.front) (HasSymbol l.nodes.keys l.front)

abbrev pub decreases-loop-before : goal.decreases-loop-before
decreases-loop-before l = l.front
