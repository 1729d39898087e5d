use Rattle.std.proofs.Common.{[], ◌∷◌, codes, refl, inl, inr}
use Rattle.si_defs.specs.Terms as terms
use Rattle.si_defs.specs.Tokens.{Token, lower, mark}
use Rattle.si_defs.specs.Grammar.{not_equal, equality, AreSides}
use Rattle.si_examples.specs.Entries.{constant}
use Rattle.si_examples.proofs.grammar.parts_of_clauses.Goals as goal

pub returns-clause-negated_literal : goal.returns-clause-negated_literal
returns-clause-negated_literal c =
    let atom = lower (codes "p") ∷ [] in
    (inl (atom, (refl, refl, (lower (codes "p"), inl refl, refl)), refl), inr (inl (atom, (refl, refl, (lower (codes "p"), inl refl, refl)), refl)))

-- `s` and `t` with a sign between them
sides : (sign : Token) → AreSides sign equality (constant (codes "s")) (terms.row (constant (codes "t") ∷ [])) (lower (codes "s") ∷ sign ∷ lower (codes "t") ∷ [])
sides sign =
    (refl, (lower (codes "s") ∷ [], lower (codes "t") ∷ [], (refl, refl, (lower (codes "s"), inl refl, refl)), (refl, refl, (lower (codes "t"), inl refl, refl)), refl))

pub returns-clause-inequation : goal.returns-clause-inequation
returns-clause-inequation c = (inr (inr (sides not_equal)), inl (lower (codes "s") ∷ mark 61 ∷ lower (codes "t") ∷ [], inr (sides (mark 61)), refl))
