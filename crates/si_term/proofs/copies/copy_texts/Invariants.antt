use Rattle.std.proofs.Common.{◌≡◌, take, map}
use Rattle.si_term.proofs.copies.copy_texts.Given as goal

abbrev pub invariant-loop-text : goal.invariant-loop-text
invariant-loop-text l = l.copies ≡ map (λ t. t.now) (take l.text-index l.texts)
