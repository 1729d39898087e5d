-- How one posting comes into a tree, and goes, by what is stored.
use Rattle.std.specs.Prelude.{◌≡◌, ◌≢◌, ℕ, ◌⊎◌, ◌↔◌}
use Rattle.si_flat.specs.Cells.{Term}
use Rattle.si_legal.specs.declared.Posting.{Posting}
use Rattle.si_legal.specs.Trees.{Tree, StandsIn}
use Rattle.si_legal.specs.Legal.{IsLegal}
use Rattle.si_legal.specs.StoredSets.{IsUnder, KeepsLeaves}
use Rattle.si_prune.specs.Pruning.{RemovesPosting}

-- the same is stored, in the same leaves
pub record KeepsTree (old new : Tree Term) : Type 0 where
  pub legal : IsLegal new
  pub stored : (t : Term) (p : Posting) → IsUnder new t p ↔ IsUnder old t p
  pub keeps : KeepsLeaves old new

-- the posting comes under this term, at this leaf, and all others stay
pub record GainsOne (old new : Tree Term) (t : Term) (p : Posting) (leaf : ℕ) : Type 0 where
  pub legal : IsLegal new
  pub stored : (u : Term) (q : Posting)
      → IsUnder new u q ↔ (IsUnder old u q ⊎ ((u ≡ t) × (q ≡ p)))
  pub stands : StandsIn new leaf t p
  pub keeps : KeepsLeaves old new

-- The posting goes from the leaf that it stands in, and all others stay. The leaf goes with its
-- last posting, and stays without one only where a join was due.
pub record LosesOne (old new : Tree Term) (p : Posting) (leaf : ℕ) : Type 0 where
  pub legal : IsLegal new
  pub stood : (t : Term) × StandsIn old leaf t p
  pub stored : (u : Term) (q : Posting) → IsUnder new u q ↔ (IsUnder old u q × (q ≢ p))
  pub removes : RemovesPosting old new leaf p
