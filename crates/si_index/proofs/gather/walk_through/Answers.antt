use Rattle.std.proofs.Common.{List, map, take, sym, subst}
use Rattle.std.specs.List.{AllByRecursion, AllZip}
use Rattle.si_defs.specs.Entries.{Placed}
use Rattle.si_defs.proofs.ListLaws.{all_get}
use Rattle.si_term.specs.Meaning.{entry_of}
use Rattle.si_entries.specs.Walks.{last_place}
use Rattle.si_index.specs.Gathering.{IsHitAt, IsStandingAt}
use Rattle.si_index.specs.Searching.{IsMatch, hit_of}
use Rattle.si_index.specs.declared.gather.Match.{Match}
use Rattle.si_index.specs.declared.wanted.Wanted.{Wanted}
use Rattle.si_index.proofs.GatherLaws.{ahead_first, ahead_next, adds_hit, hit_known, hit_stands, hit_of_leaf, places_stay}
use Rattle.si_index.proofs.LeafLaws.{none_made}
use Rattle.si_index.proofs.gather.walk_through.Goals as goal

pub loop-place-init : goal.loop-place-init
loop-place-init c =
    let s = c.args.search.now in
    let leaves = c.args.matches.now.leaves.items in
    let none = sym c.requires.may.none in
    record {
      walk = c.requires.walk;
      ahead = ahead_first c.args.walk.now c.args.places.now c.requires.next;
      stand = c.requires.may.stand;
      made = none_made s leaves c.requires.may.unmade;
      each = subst (AllByRecursion (IsMatch s leaves)) none tt;
      hits = subst (λ (ms : List Match). AllZip (IsHitAt s.slots) (take 0 c.args.places.now) (map hit_of ms)) none tt;
    }

pub go_to-requires-clause-there : goal.go_to-requires-clause-there
go_to-requires-clause-there c =
    let here = all_get (IsStandingAt c.args.search.now c.loop-place.matches.leaves.items) c.args.places.now c.loop-place.place-index _ c.loop-place.invariant.stand c.loop-place-test.true in
    (here.hit, here.at)

pub add-requires-clause-known : goal.add-requires-clause-known
add-requires-clause-known c = hit_known c.args.search.now _ _ c.requires.may.ready c.in_ok-entry.ensures.entry

pub add-requires-clause-stands : goal.add-requires-clause-stands
add-requires-clause-stands c =
    let leaves = c.loop-place.matches.leaves.items in
    let here = all_get (IsStandingAt c.args.search.now leaves) c.args.places.now c.loop-place.place-index _ c.loop-place.invariant.stand c.loop-place-test.true in
    hit_stands c.args.search.now leaves _ _ c.requires.may.ready here c.in_ok-entry.ensures.entry

pub add-requires-clause-leaf : goal.add-requires-clause-leaf
add-requires-clause-leaf c =
    let leaves = c.loop-place.matches.leaves.items in
    let here = all_get (IsStandingAt c.args.search.now leaves) c.args.places.now c.loop-place.place-index _ c.loop-place.invariant.stand c.loop-place-test.true in
    hit_of_leaf c.args.search.now leaves _ _ c.requires.may.ready here c.in_ok-entry.ensures.entry

pub loop-place-preserved : goal.loop-place-preserved
loop-place-preserved c =
    let s = c.args.search.now in
    let ws = c.args.places.now in
    let i = c.loop-place.place-index in
    let less = c.loop-place-test.true in
    let none : Wanted = record { slot = 0; entry = 0; leaf = 0 } in
    let e : Placed = record { entry = entry_of c.in_ok-entry.entry; place = last_place c.go_to.new.self.entries } in
    record {
      walk = c.in_ok-entry.ensures.walk;
      ahead = ahead_next c.go_to.new.self ws i none less c.requires.may.rise c.in_ok-entry.ensures.slot c.in_ok-entry.ensures.next;
      stand = places_stay s _ _ ws c.in_ok-add.ensures.stay c.loop-place.invariant.stand;
      made = c.in_ok-add.ensures.made;
      each = c.in_ok-add.ensures.adds.each;
      hits = adds_hit s.slots ws i none (c.go_to.new.self.position, e) _ _ less c.loop-place.invariant.hits c.in_ok-entry.ensures.entry c.in_ok-add.ensures.adds.hits;
    }
