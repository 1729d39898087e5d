use Rattle.std.proofs.Common.{◌≡◌, get_or, ap, refl, arith}
use Rattle.si_defs.specs.Symbols.{Symbol}
use Rattle.si_screen.proofs.examples.likeness_of_terms.Goals as goal

pub returns-clause-below_a_variable : goal.returns-clause-below_a_variable
returns-clause-below_a_variable c = (refl, (tt, tt))

pub returns-clause-at_a_variable : goal.returns-clause-at_a_variable
returns-clause-at_a_variable c h = h.1.0

pub returns-clause-at_an_argument : goal.returns-clause-at_an_argument
returns-clause-at_an_argument c h = let same : 97 ≡ 98 = ap (λ (s : Symbol). get_or s.text 0 0) h.1.0.0 in omega (arith, same)
