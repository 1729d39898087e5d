use Rattle.std.proofs.Common.{drop, map, take}
use Rattle.std.specs.List.{AllByRecursion, AllZip}
use Rattle.si_index.specs.Gathering.{IsAhead, IsHitAt, IsStandingAt, IsWalk}
use Rattle.si_index.specs.Searching.{AreMade, AreMatches, hit_of}
use Rattle.si_index.proofs.gather.walk_through.Given as goal

-- what stood before this place was added, and nothing else was passed
abbrev pub invariant-loop-place : goal.invariant-loop-place
invariant-loop-place l = record {
  walk : IsWalk l.search.slots l.walk;
  ahead : AllByRecursion (IsAhead l.walk) (drop l.place-index l.places);
  stand : AllByRecursion (IsStandingAt l.search l.matches.leaves.items) l.places;
  made : AreMade l.search l.matches.leaves.items;
  each : AreMatches l.search l.matches;
  hits : AllZip (IsHitAt l.search.slots) (take l.place-index l.places) (map hit_of l.matches.found.items);
}
