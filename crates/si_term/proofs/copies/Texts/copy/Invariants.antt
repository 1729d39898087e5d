use Rattle.std.proofs.Common.{◌≡◌, take}
use Rattle.si_term.proofs.copies.Texts.copy.Given as goal

abbrev pub invariant-loop-text : goal.invariant-loop-text
invariant-loop-text l = l.copies ≡ take l.text-index l.self
