-- What the search of a subtree answers.
use Rattle.std.specs.Prelude.{[], ◌∷◌}
use Rattle.si_defs.specs.declared.Relation.TheVariants.{Instances}
use Rattle.si_legal.specs.Descents.{IsAnswerBelow}
use Rattle.si_tree_examples.specs.SomeTerms.{f, y}
use Rattle.si_tree_examples.specs.SomeTrees.{posting, five_nodes}

-- f(b) is an instance of f(Y), and c is none
abbrev pub AnswersInstance : Type 0
AnswersInstance =
    IsAnswerBelow five_nodes 2 Instances (f (y ∷ [])) (posting 1)
    × (IsAnswerBelow five_nodes 0 Instances (f (y ∷ [])) (posting 2) → ⊥)

-- the leaf of f(a) is not below that of f(b)
abbrev pub NoLeafElsewhere : Type 0
NoLeafElsewhere = IsAnswerBelow five_nodes 3 Instances (f (y ∷ [])) (posting 0) → ⊥
