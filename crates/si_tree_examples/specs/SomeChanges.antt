-- A tree of five nodes gains a posting and loses one.
use Rattle.std.specs.Prelude.{[], ◌∷◌}
use Rattle.si_legal.specs.StoredSets.{Gains, Loses, KeepsLeaves}
use Rattle.si_tree_examples.specs.SomeTerms.{c}
use Rattle.si_tree_examples.specs.SomeTrees.{posting, five_holding, five_nodes, five_shared}

-- the new posting comes last
abbrev pub GainsPosting : Type 0
GainsPosting = Gains five_nodes five_shared c (posting 3)

abbrev pub NoGainInFront : Type 0
NoGainInFront = Gains five_nodes (five_holding (posting 3 ∷ posting 2 ∷ [])) c (posting 3) → ⊥

-- the other posting stays
abbrev pub LosesPosting : Type 0
LosesPosting = Loses five_shared (five_holding (posting 3 ∷ [])) c (posting 2)

-- and the leaf that holds it keeps its number
abbrev pub KeepsLeaf : Type 0
KeepsLeaf = KeepsLeaves five_shared (five_holding (posting 3 ∷ []))
