use Rattle.std.proofs.Common.{◌≡◌, inl, inr, map, refl, subst, arith}
use Rattle.std.proofs.lemmas.Option.{slice_get_within}
use Rattle.std.proofs.lemmas.Result.{on_ok_weaker}
use Rattle.si_state.specs.Signatures.{numbering}
use Rattle.si_defs.proofs.ListLaws.{all_at}
use Rattle.si_state.specs.Subsumption.{AnswersLeast}
use Rattle.si_term.specs.Meaning.{literal_of, clause_of}
use Rattle.si_keyed.specs.Placed.{placed_items}
use Rattle.si_keyed.proofs.PlacedLaws.{same_position}
use Rattle.si_index.specs.Kept.{clauses_of}
use Rattle.si_index.specs.Searching.{IsKnownClause}
use Rattle.si_index.specs.Subsuming.{IsMapIn}
use Rattle.si_index.proofs.SlotLaws.{place_among, clause_among}
use Rattle.si_index.proofs.subsuming.Comparison.try_slot.Goals as goal

pub answer-requires-clause-literals : goal.answer-requires-clause-literals
answer-requires-clause-literals c =
    let there = c.in-Some.ensures.some in
    let clause = c.in-Some.clause.now in
    (all_at (IsKnownClause (numbering c.args.flat.now.signature.now)) (clauses_of (placed_items c.args.places.now)) (clause_of clause) c.requires.known.clauses (clause_among c.args.places.now c.args.slot there.0 clause there.1)).sound.sound

pub answer-requires-clause-known : goal.answer-requires-clause-known
answer-requires-clause-known c =
    let there = c.in-Some.ensures.some in
    let clause = c.in-Some.clause.now in
    (all_at (IsKnownClause (numbering c.args.flat.now.signature.now)) (clauses_of (placed_items c.args.places.now)) (clause_of clause) c.requires.known.clauses (clause_among c.args.places.now c.args.slot there.0 clause there.1)).numbered

pub returns-in_default-2 : goal.returns-in_default-2
returns-in_default-2 c =
    let maps = IsMapIn c.args.self.now.direction (map literal_of c.args.self.now.formula.now) in
    let there = c.in-Some.ensures.some in
    let clause = c.in-Some.clause.now in
    let at = place_among c.args.places.now (c.args.slot, (there.0, clause)) there.1 in
    inl (at.0, there.0, clause, at.1, inr (subst (AnswersLeast (maps (map literal_of clause.literals))) c.in_default-2.is c.in_ok-map.ensures, refl))

pub overflow_cast-position : goal.overflow_cast-position
overflow_cast-position c =
    record { fits = omega (arith, c.requires.known.few, slice_get_within c.args.places.now c.at-position.result.0 _ c.at-position.ensures.1) }

pub returns : goal.returns
returns c =
    let maps = IsMapIn c.args.self.now.direction (map literal_of c.args.self.now.formula.now) in
    let slots = c.args.places.now in
    let there = c.in-Some.ensures.some in
    let clause = c.in-Some.clause.now in
    let at = place_among slots (c.args.slot, (there.0, clause)) there.1 in
    let position : c.at-position.result.0 ≡ at.0 = same_position slots c.at-position.result.0 at.0 _ (c.args.slot, (there.0, clause)) c.requires.known.rise c.at-position.ensures.1 at.1 refl in
    let least = subst (AnswersLeast (maps (map literal_of clause.literals))) c.in-Some-2.is c.in_ok-map.ensures in
    on_ok_weaker c.push.result (λ pushed. inl (at.0, there.0, clause, at.1, inl (_, position, least, pushed))) c.push.ensures.ok
