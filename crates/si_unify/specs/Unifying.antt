-- What holds of an attempt to make two terms equal, and what its steps do.
use Rattle.std.specs.Prelude.{◌≡◌, ℕ, ◌*◌, ◌≤◌, Bool, length}
use Rattle.si_unify.specs.declared.spots.Spot.{Spot}
use Rattle.si_unify.specs.declared.spots.SpotPair.{SpotPair}
use Rattle.si_unify.specs.declared.spots.Subterm.{Subterm}
use Rattle.si_unify.specs.declared.unifier.Unifier.{Unifier}
use Rattle.si_unify.specs.Solving.{slot_count}
use Rattle.si_unify.specs.Rooms.{spot_pairs_room, AreNoLongerThan, most_spots}
use Rattle.si_unify.specs.Spots.{IsSpot, IsSubterm, IsEnd, IsApart, IsSoundQuestion, ArePairs, HasMetSpots, HasCompared, HasClosed}

-- ---- spots, over the bindings so far
abbrev pub HasSpot : Unifier → Spot → Type 0
HasSpot u = IsSpot u.question u.trail.now.pairs

abbrev pub HasSubterm : Unifier → Subterm → Type 0
HasSubterm u = IsSubterm u.question u.trail.now.pairs

abbrev pub HasEnd : Unifier → Spot → Type 0
HasEnd u = IsEnd u.question u.trail.now.pairs

abbrev pub AreApart : Unifier → SpotPair → Type 0
AreApart u = IsApart u.question u.trail.now.pairs

-- what holds before each step
pub record IsUnifying (u : Unifier) : Type 0 where
  pub legal : IsSoundQuestion u.question u.trail.now.pairs
  pub keys : ArePairs u.question u.trail.now.pairs u.keys.now.keys
  pub room : slot_count u.question.slots ≤ u.trail.now.slots

-- the heights and the pairs of spots find room, whatever comes up: neither term and no value has
-- more than n cells
pub record HasRoomToUnify (n : ℕ) (u : Unifier) : Type 0 where
  pub values : AreNoLongerThan n u.trail.now.pairs
  pub left : length u.question.left.now ≤ n
  pub right : length u.question.right.now ≤ n
  pub heights : slot_count u.question.slots ≤ u.heights.now.room
  pub spot_pairs :
      most_spots (slot_count u.question.slots) n * most_spots (slot_count u.question.slots) n
      ≤ spot_pairs_room u.keys.now

abbrev pub SpotsLackRoom : Unifier → Type 0
SpotsLackRoom u = (n : ℕ) → HasRoomToUnify n u → ⊥

-- the question, the lent memory and the number of slots stay, and there is no less room
pub record KeepsQuestion (old new : Unifier) : Type 0 where
  pub question : new.question ≡ old.question
  pub trail : new.trail.ghost_name ≡ old.trail.ghost_name
  pub keys : new.keys.ghost_name ≡ old.keys.ghost_name
  pub heights : new.heights.ghost_name ≡ old.heights.ghost_name
  pub slots : new.trail.now.slots ≡ old.trail.now.slots
  pub heights_room : old.heights.now.room ≤ new.heights.now.room
  pub keys_room : spot_pairs_room old.keys.now ≤ spot_pairs_room new.keys.now

-- ---- the outcomes
abbrev pub MakesMeet : Unifier → Unifier → Spot → Spot → Bool → Type 0
MakesMeet old new =
    HasMetSpots old.question old.trail.now.pairs new.trail.now.pairs old.keys.now.keys
    new.keys.now.keys

abbrev pub MakesCompared : Unifier → Unifier → SpotPair → Bool → Type 0
MakesCompared old new =
    HasCompared old.question old.trail.now.pairs new.trail.now.pairs old.keys.now.keys
    new.keys.now.keys

abbrev pub MakesClosed : Unifier → Unifier → Bool → Type 0
MakesClosed old new =
    HasClosed old.question old.trail.now.pairs new.trail.now.pairs old.keys.now.keys
