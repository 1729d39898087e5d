use Rattle.std.proofs.Common.{◌≡◌, ℕ, ◌+◌, ◌-◌, ◌<◌, ◌≤◌, ◌++◌, ◌∷◌, [], length, refl, ap, ◌∙◌, arith}
use Rattle.std.proofs.lemmas.List.{length_push}
use Rattle.si_defs.specs.Entries.{entries}
use Rattle.si_defs.specs.declared.TheConstants.{MOST_OCCURRENCES}
use Rattle.si_term.specs.Meaning.{clause_of}
use Rattle.si_term.specs.Walks.{entries_alone}
use Rattle.si_term.proofs.Alone.{clause_few, length-entries}
use Rattle.si_forest.specs.Pairs.{two_of}
use Rattle.si_forest.specs.Locations.{location}
use Rattle.si_forest.proofs.UnderwayLaws.{underway_start, room_next, may_next, next_in, all_in, few_in, change_in, located_in, change_still, located_still}
use Rattle.si_forest.proofs.pair.Pair.insert_all.Goals as goal

pub loop-entries-init : goal.loop-entries-init
loop-entries-init g c = (
  underway_start (g.T.SymTable.pairs c.args.table.now) c.args.key (entries_alone (clause_of c.args.clause.now).literals) c.new-entries.result c.args.locations.now.items (two_of c.args.self.now) c.requires.legal (c.new-entries.ensures (g.T.SymTable.pairs c.args.table.now) c.requires.may.numbered) c.requires.empty,
  refl,
)

pub returns-in_err-literal-clause-change : goal.returns-in_err-literal-clause-change
returns-in_err-literal-clause-change g c = change_in _ _ _ _ _ _ _ c.loop-entries.invariant.0

pub returns-in_err-literal-clause-located : goal.returns-in_err-literal-clause-located
returns-in_err-literal-clause-located g c = located_in _ _ _ _ _ _ _ c.loop-entries.invariant.0 c.requires.may.new_key

pub returns-in_err-literal-clause-few : goal.returns-in_err-literal-clause-few
returns-in_err-literal-clause-few g c = few_in _ _ _ _ _ _ _ c.loop-entries.invariant.0 (clause_of c.args.clause.now) refl

pub overflow_cast-posting : goal.overflow_cast-posting
overflow_cast-posting g c =
    let few = few_in _ _ _ _ _ _ _ c.loop-entries.invariant.0 (clause_of c.args.clause.now) refl in
    let bound : length (entries (clause_of c.args.clause.now)) ≤ MOST_OCCURRENCES = clause_few (clause_of c.args.clause.now) c.requires.may.sound in
    omega (arith, few, c.len.ensures)

pub place-requires-clause-may : goal.place-requires-clause-may
place-requires-clause-may g c =
    may_next _ _ _ _ _ _ _ c.loop-entries.invariant.0 c.next.new.self c.in_ok-literal.field-0 c.in-Some.literal c.in_ok-literal.ensures c.in-Some.is c.len.result c.cells.result.now (omega (arith, c.len.ensures)) c.cells.ensures c.requires.may.new_key

pub returns-in_err-location-clause-change : goal.returns-in_err-location-clause-change
returns-in_err-location-clause-change g c = change_still _ _ _ _ _ _ _ c.loop-entries.invariant.0 (two_of c.place.new.self) c.in_err-location.ensures.err

pub returns-in_err-location-clause-located : goal.returns-in_err-location-clause-located
returns-in_err-location-clause-located g c = located_still _ _ _ _ _ _ _ c.loop-entries.invariant.0 (two_of c.place.new.self) c.in_err-location.ensures.err c.requires.may.new_key

pub returns-in_err-location-clause-few : goal.returns-in_err-location-clause-few
returns-in_err-location-clause-few g c = few_in _ _ _ _ _ _ _ c.loop-entries.invariant.0 (clause_of c.args.clause.now) refl

pub push_reserved-requires : goal.push_reserved-requires
push_reserved-requires g c =
    let less = room_next _ _ _ _ _ _ _ c.loop-entries.invariant.0 c.next.new.self c.in_ok-literal.field-0 c.in-Some.literal c.in_ok-literal.ensures c.in-Some.is in
    let same = length-entries 1 (clause_of c.args.clause.now).literals in
    omega (arith, less, same, c.loop-entries.invariant.1, c.requires.room)

less_left : (n m k : ℕ) → k ≡ m + 1 → m < n → n - k < n - m
less_left n m k e less = omega arith

pub loop-entries-smaller : goal.loop-entries-smaller
loop-entries-smaller g c =
    less_left (length (entries_alone (clause_of c.args.clause.now).literals)) (length c.loop-entries.locations.items) (length c.push_reserved.new.self.items)
    (ap length c.push_reserved.ensures.items ∙ length_push c.loop-entries.locations.items c.in_ok-location.location)
    (room_next _ _ _ _ _ _ _ c.loop-entries.invariant.0 c.next.new.self c.in_ok-literal.field-0 c.in-Some.literal c.in_ok-literal.ensures c.in-Some.is)

pub loop-entries-preserved : goal.loop-entries-preserved
loop-entries-preserved g c = (
  next_in _ _ _ _ _ _ _ c.loop-entries.invariant.0 c.next.new.self c.in_ok-literal.field-0 c.in-Some.literal c.in_ok-literal.ensures c.in-Some.is c.len.result c.cells.result.now (omega (arith, c.len.ensures)) c.cells.ensures (two_of c.place.new.self) c.in_ok-location.location.leaf c.push_reserved.new.self.items (c.push_reserved.ensures.items ∙ ap (λ k. c.loop-entries.locations.items ++ location k c.in_ok-location.location.leaf ∷ []) c.in_ok-location.ensures.kind) c.in_ok-location.ensures.ok,
  c.push_reserved.ensures.capacity ∙ c.loop-entries.invariant.1,
)

pub returns-clause-ok : goal.returns-clause-ok
returns-clause-ok g c = all_in _ _ _ _ _ _ _ c.loop-entries.invariant.0 (clause_of c.args.clause.now) refl c.next.new.self c.in_ok-literal.field-0 c.in_ok-literal.ensures c.in_default.is

pub returns-clause-change : goal.returns-clause-change
returns-clause-change g c = change_in _ _ _ _ _ _ _ c.loop-entries.invariant.0

pub returns-clause-located : goal.returns-clause-located
returns-clause-located g c = located_in _ _ _ _ _ _ _ c.loop-entries.invariant.0 c.requires.may.new_key

pub returns-clause-few : goal.returns-clause-few
returns-clause-few g c = few_in _ _ _ _ _ _ _ c.loop-entries.invariant.0 (clause_of c.args.clause.now) refl
