-- The codes of two trees and of a location, by which the checker tells ghost values apart; nothing
-- else rests on them.
use Rattle.std.specs.Prelude.{ℕ, Bool, refl}
use Rattle.std.specs.Coded.{Coded, code_by, coded×, coded_ℕ, coded_bool}
use Rattle.si_flat.specs.Cells.{Term}
use Rattle.si_legal.specs.Trees.{Tree}
use Rattle.si_held.specs.TwoTrees.{TwoTrees}
use Rattle.si_tree.specs.Codes.{tree_code}
use Rattle.si_forest.specs.Locations.{Location}

abbrev pub two_trees_code : Coded TwoTrees
two_trees_code =
    code_by (Tree Term × Tree Term) (coded× tree_code tree_code)
    (λ trees. (trees.literals, trees.subterms))
    (λ p. record { literals = p.0; subterms = p.1 })
    (λ _. refl)

abbrev pub location_code : Coded Location
location_code =
    code_by (Bool × ℕ) (coded× coded_bool coded_ℕ)
    (λ at. (at.literal, at.leaf))
    (λ p. record { literal = p.0; leaf = p.1 })
    (λ _. refl)
