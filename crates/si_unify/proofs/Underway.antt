-- An attempt to make two terms equal, from step to step.
use Rattle.std.proofs.Common.{◌≡◌, ℕ, ◌*◌, ◌≤◌, Bool, length, refl, sym, ◌∙◌, ap, subst, arith}
use Rattle.si_unify.specs.declared.spots.Spot.{Spot}
use Rattle.si_unify.specs.declared.spots.SpotPair.{SpotPair}
use Rattle.si_unify.specs.declared.spots.Subterm.{Subterm}
use Rattle.si_unify.specs.declared.unifier.Unifier.{Unifier}
use Rattle.si_unify.specs.Solving.{slot_count}
use Rattle.si_unify.specs.Spots.{IsSpot, IsSubterm, IsApart, IsSoundQuestion, ArePairs, IsGoingOn, HasMetSpots, HasCompared, HasClosed}
use Rattle.si_unify.specs.Rooms.{spot_pairs_room, most_spots}
use Rattle.si_unify.specs.Unifying.{HasSpot, HasSubterm, AreApart, IsUnifying, HasRoomToUnify, KeepsQuestion, MakesMeet, MakesCompared, MakesClosed}
use Rattle.si_unify.proofs.Pieces.{all_within}

pub stays : (u : Unifier) → KeepsQuestion u u
stays u = record { question = refl; trail = refl; keys = refl; heights = refl; slots = refl; heights_room = omega arith; keys_room = omega arith }

pub goes_further : (old mid new : Unifier) → KeepsQuestion old mid → KeepsQuestion mid new → KeepsQuestion old new
goes_further old mid new first then = record {
  question = then.question ∙ first.question;
  trail = then.trail ∙ first.trail;
  keys = then.keys ∙ first.keys;
  heights = then.heights ∙ first.heights;
  slots = then.slots ∙ first.slots;
  heights_room = omega (arith, first.heights_room, then.heights_room);
  keys_room = omega (arith, first.keys_room, then.keys_room);
}

-- what was found out by the question as it was at first holds now, and the other way round
module _ (old new : Unifier) (goes : KeepsQuestion old new) where
  pub underway_still :
      IsUnifying old
      → IsGoingOn old.question old.trail.now.pairs new.trail.now.pairs old.keys.now.keys new.keys.now.keys
      → IsUnifying new
  underway_still before going = record {
    legal = subst (λ q. IsSoundQuestion q new.trail.now.pairs) (sym goes.question) going.legal;
    keys = subst (λ q. ArePairs q new.trail.now.pairs new.keys.now.keys) (sym goes.question) going.keys;
    room = omega (arith, before.room, ap (λ q. slot_count q.slots) goes.question, goes.slots);
  }

  -- and what fits does, since each new value is a slice of what was handed in
  pub room_still : (n : ℕ)
      → HasRoomToUnify n old
      → IsGoingOn old.question old.trail.now.pairs new.trail.now.pairs old.keys.now.keys new.keys.now.keys
      → HasRoomToUnify n new
  room_still n room going =
      let same : new.question ≡ old.question = goes.question in
      record {
        values =
            all_within n old.question.left.now old.question.right.now room.left room.right old.trail.now.pairs room.values new.trail.now.pairs going.handed_in;
        left = subst (λ q. length q.left.now ≤ n) (sym same) room.left;
        right = subst (λ q. length q.right.now ≤ n) (sym same) room.right;
        heights = omega (arith, room.heights, ap (λ q. slot_count q.slots) same, goes.heights_room);
        spot_pairs =
            subst (λ q. most_spots (slot_count q.slots) n * most_spots (slot_count q.slots) n ≤ spot_pairs_room new.keys.now) (sym same)
            (omega (arith, room.spot_pairs, goes.keys_room));
      }

  pub spot_still : (spot : Spot) → IsSpot old.question new.trail.now.pairs spot → HasSpot new spot
  spot_still spot h = subst (λ q. IsSpot q new.trail.now.pairs spot) (sym goes.question) h

  pub subterm_still : (s : Subterm) → IsSubterm old.question new.trail.now.pairs s → HasSubterm new s
  subterm_still s h = subst (λ q. IsSubterm q new.trail.now.pairs s) (sym goes.question) h

  pub are_apart_still : (pair : SpotPair) → IsApart old.question new.trail.now.pairs pair → AreApart new pair
  are_apart_still pair h = subst (λ q. IsApart q new.trail.now.pairs pair) (sym goes.question) h

  pub met_by : (next : Unifier) (left right : Spot) (b : Bool)
      → MakesMeet new next left right b
      → HasMetSpots old.question new.trail.now.pairs next.trail.now.pairs new.keys.now.keys next.keys.now.keys left right b
  met_by next left right b h =
      subst (λ q. HasMetSpots q new.trail.now.pairs next.trail.now.pairs new.keys.now.keys next.keys.now.keys left right b) goes.question h

  pub compared_by : (next : Unifier) (pair : SpotPair) (b : Bool)
      → MakesCompared new next pair b
      → HasCompared old.question new.trail.now.pairs next.trail.now.pairs new.keys.now.keys next.keys.now.keys pair b
  compared_by next pair b h =
      subst (λ q. HasCompared q new.trail.now.pairs next.trail.now.pairs new.keys.now.keys next.keys.now.keys pair b) goes.question h

  pub closed_by : (next : Unifier) (b : Bool)
      → MakesClosed new next b
      → HasClosed old.question new.trail.now.pairs next.trail.now.pairs new.keys.now.keys b
  closed_by next b h = subst (λ q. HasClosed q new.trail.now.pairs next.trail.now.pairs new.keys.now.keys b) goes.question h
