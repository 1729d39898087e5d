use Rattle.std.proofs.Common.{◌≤◌, ◌<◌, length, reverse}
use Rattle.si_form.specs.Classes.{AreTermsFrom, IsClassNumbering}
use Rattle.si_form.proofs.classes.class_of.Given as goal

pub record Invariant (less positive terms numbers : Type 0) : Type 0 where
  pub within : less
  pub some : positive
  pub row : terms
  pub numbering : numbers

abbrev pub invariant-loop-at : goal.invariant-loop-at
invariant-loop-at l =
    Invariant (l.at ≤ length l.cells) (0 < l.at) (AreTermsFrom l.cells l.at (length l.numbers.items))
    (IsClassNumbering l.fn.nodes.keys l.nodes.keys l.slots l.classes l.cells l.at (reverse l.numbers.items))

abbrev pub decreases-loop-at : goal.decreases-loop-at
decreases-loop-at l = l.at
