-- A walk to entries that are wanted, and what was gathered.
use Rattle.std.proofs.Common.{◌≡◌, ℕ, zero, suc, ◌+◌, ◌-◌, ◌<◌, ◌≤◌, List, [], ◌∷◌, ◌++◌, length, map, get_or, take, drop, inl, inr, refl, ap, sym, ◌∙◌, subst, arith}
use Rattle.std.specs.Prelude.{slice_get, Some, None}
use Rattle.std.specs.List.{AllByRecursion, AllZip}
use Rattle.std.proofs.lemmas.List.{drop_more, length-drop, map-append}
use Rattle.std.proofs.lemmas.Option.{same_Some, slice_get_within}
use Rattle.si_defs.specs.Clauses as defs
use Rattle.si_defs.specs.Entries.{Placed, entries}
use Rattle.si_defs.specs.declared.TheConstants.{MOST_OCCURRENCES}
use Rattle.si_defs.proofs.ListLaws.{all_weaker, all_append, all_from, get_among, get_here, not_empty}
use Rattle.si_state.specs.Answers.{Stands}
use Rattle.si_term.specs.Meaning.{clause_of, entry_of}
use Rattle.si_term.specs.declared.clause.Clause.{Clause}
use Rattle.si_term.specs.declared.clause.Entry as program_entry
use Rattle.si_keyed.specs.Placed.{HasPlace, PlacesRise}
use Rattle.si_keyed.proofs.PlacedLaws.{same_position}
use Rattle.si_entries.specs.Walks.{GivesAfter, left_of, last_place}
use Rattle.si_entries.specs.declared.Entries.{Entries}
use Rattle.si_index.specs.Leaves.{StayMade}
use Rattle.si_index.specs.Searching.{numbers_of, pattern_in, IsReadyToSearch, IsKnownEntry, IsKnownClause, IsOfLeaf, HaveCanonicalSolutions, IsMatch, AreMatches, hit_of}
use Rattle.si_index.specs.Slots.{Slots}
use Rattle.si_index.specs.Gathering.{IsBefore, Rise, IsAhead, IsHitAt, IsStandingAt, IsWalk, AddsHit}
use Rattle.si_index.specs.declared.search.Search.{Search}
use Rattle.si_index.specs.declared.gather.ClauseWalk.{ClauseWalk}
use Rattle.si_index.specs.declared.gather.Match.{Match}
use Rattle.si_index.specs.declared.gather.Matches.{Matches}
use Rattle.si_index.specs.declared.wanted.Leaf.{Leaf}
use Rattle.si_index.specs.declared.wanted.Wanted.{Wanted}
use Rattle.si_index.proofs.EntryLaws.{known_entry}
use Rattle.si_index.proofs.LeafLaws.{of_leaf_stays}
use Rattle.si_index.proofs.SlotLaws.{slot_known}
use Rattle.si_index.proofs.StoreLaws.{few_entries}

-- ---- what was found keeps its lists where more are made
match_stays : (s : Search) (old new : List Leaf) (m : Match) → StayMade old new → IsMatch s old m → IsMatch s new m
match_stays s old new m stay h = record {
  list = (h.list.0, stay.lists m.leaf h.list.0 h.list.1, h.list.2);
  are_names = h.are_names;
  there = h.there;
}

pub matches_stay : (s : Search) (old new : List Leaf) (ms : List Match) → StayMade old new → AllByRecursion (IsMatch s old) ms → AllByRecursion (IsMatch s new) ms
matches_stay s old new ms stay = all_weaker (IsMatch s old) (IsMatch s new) ms (λ m. match_stays s old new m stay)

-- and so do the places that are wanted
standing_stays : (s : Search) (old new : List Leaf) (w : Wanted) → StayMade old new → IsStandingAt s old w → IsStandingAt s new w
standing_stays s old new w stay h = record {
  hit = h.hit;
  at = h.at;
  stands = h.stands;
  of_leaf = of_leaf_stays s old new w.leaf h.hit.1.entry stay h.of_leaf;
}

pub places_stay : (s : Search) (old new : List Leaf) (ws : List Wanted) → StayMade old new → AllByRecursion (IsStandingAt s old) ws → AllByRecursion (IsStandingAt s new) ws
places_stay s old new ws stay = all_weaker (IsStandingAt s old) (IsStandingAt s new) ws (λ w. standing_stays s old new w stay)

-- ---- lists that are passed one by one
pub drop_got : (cs : List defs.Clause) (i : ℕ) (c : defs.Clause) → slice_get cs i ≡ Some c → drop i cs ≡ c ∷ drop (i + 1) cs
drop_got [] zero c e = absurd (let wrong : None ≡ Some c = e in cc)
drop_got [] (suc i) c e = absurd (let wrong : None ≡ Some c = e in cc)
drop_got (d ∷ cs) zero c e = let same : d ≡ c = cc in ap (λ k. k ∷ cs) same
drop_got (d ∷ cs) (suc i) c e = drop_got cs i c e ∙ ap (λ n. c ∷ drop n (d ∷ cs)) later where
  later : suc (i + 1) ≡ suc i + 1
  later = omega arith

drop_past : (passed rest : List Placed) (e : Placed) → drop (length passed + 1) (passed ++ e ∷ rest) ≡ rest
drop_past [] rest e = refl
drop_past (p ∷ passed) rest e =
    let turn : suc (length passed) + 1 ≡ suc (length passed + 1) = omega arith in
    ap (λ n. drop n ((p ∷ passed) ++ e ∷ rest)) turn ∙ drop_past passed rest e

-- what comes after others in what is left of a list
pub given_at : (es passed rest : List Placed) (next number : ℕ) (e : Placed) → drop next es ≡ passed ++ e ∷ rest → number ≡ next + length passed
    → (slice_get es number ≡ Some e) × (rest ≡ drop (number + 1) es)
given_at es passed rest zero number e left is =
    let here : number ≡ length passed = omega (arith, is) in (
      ap (λ l. slice_get l number) left ∙ ap (slice_get (passed ++ e ∷ rest)) here ∙ get_here passed e rest,
      sym (drop_past passed rest e) ∙ (λ i. drop (sym here i + 1) (sym left i)),
    )
given_at [] passed rest (suc next) number e left is = absurd (not_empty passed e rest left)
given_at (d ∷ es) passed rest (suc next) zero e left is = absurd (omega (arith, is))
given_at (d ∷ es) passed rest (suc next) (suc number) e left is =
    let h = given_at es passed rest next number e left (omega (arith, is)) in
    let turn : suc (number + 1) ≡ suc number + 1 = omega arith in
    (h.0, h.1 ∙ ap (λ n. drop n (d ∷ es)) turn)

zip_more : (R : Wanted → ℕ × Placed → Type 0) (ws : List Wanted) (hits : List (ℕ × Placed)) (i : ℕ) (d : Wanted) (hit : ℕ × Placed) → i < length ws → AllZip R (take i ws) hits → R (get_or ws i d) hit → AllZip R (take (i + 1) ws) (hits ++ hit ∷ [])
zip_more R [] hits i d hit less h one = absurd (omega (arith, less))
zip_more R (w ∷ ws) [] zero d hit less h one = (one, tt)
zip_more R (w ∷ ws) (x ∷ hits) zero d hit less h one = absurd h
zip_more R (w ∷ ws) [] (suc i) d hit less h one = absurd h
zip_more R (w ∷ ws) (x ∷ hits) (suc i) d hit less h one =
    let turn : suc (i + 1) ≡ suc i + 1 = omega arith in
    subst (λ n. AllZip R (take n (w ∷ ws)) ((x ∷ hits) ++ hit ∷ [])) turn (h.0, zip_more R ws hits i d hit (omega (arith, less)) h.1 one)

-- ---- what stands at a place
-- a slot has one position, and so one clause
pub same_clause : (slots : Slots) (slot : ℕ) (m n : ℕ) (x y : ℕ × Clause) → PlacesRise slots → slice_get slots m ≡ Some (slot, x) → slice_get slots n ≡ Some (slot, y) → clause_of x.1 ≡ clause_of y.1
same_clause slots slot m n x y rise a b =
    let position = same_position slots m n (slot, x) (slot, y) rise a b refl in
    ap (λ (p : ℕ × (ℕ × Clause)). clause_of p.1.1) (same_Some (slot, x) (slot, y) (sym a ∙ ap (slice_get slots) position ∙ b))

one_hit : (slots : Slots) (w : Wanted) (a b : ℕ × Placed) → PlacesRise slots → IsHitAt slots w a → IsHitAt slots w b → a.1 ≡ b.1
one_hit slots w a b rise h g =
    let clause = same_clause slots w.slot a.0 b.0 (h.key, h.clause) (g.key, g.clause) rise h.there g.there in
    same_Some a.1 b.1 (sym h.numbered ∙ ap (λ c. slice_get (entries c) w.entry) clause ∙ g.numbered)

module _ (s : Search) (leaves : List Leaf) (w : Wanted) (hit : ℕ × Placed) (ready : IsReadyToSearch s) (standing : IsStandingAt s leaves w) (h : IsHitAt s.slots w hit) where
  its_hit : standing.hit.1 ≡ hit.1
  its_hit = one_hit s.slots w standing.hit hit ready.slots.rise standing.at h

  pub hit_stands : Stands s.relation (pattern_in s) hit.1.entry
  hit_stands = subst (λ (e : Placed). Stands s.relation (pattern_in s) e.entry) its_hit standing.stands

  pub hit_of_leaf : IsOfLeaf s leaves w.leaf hit.1.entry
  hit_of_leaf = subst (λ (e : Placed). IsOfLeaf s leaves w.leaf e.entry) its_hit standing.of_leaf

module _ (s : Search) (w : Wanted) (hit : ℕ × Placed) (ready : IsReadyToSearch s) (h : IsHitAt s.slots w hit) where
  its_clause : IsKnownClause (numbers_of s) (clause_of h.clause)
  its_clause = slot_known s hit.0 w.slot h.key h.clause ready h.there

  pub hit_known : IsKnownEntry (numbers_of s) hit.1.entry
  hit_known = known_entry (numbers_of s) (clause_of h.clause) w.entry hit.1 its_clause h.numbered

  pub number_few : w.entry < MOST_OCCURRENCES
  number_few = omega (arith, few_entries (clause_of h.clause) its_clause.sound, slice_get_within (entries (clause_of h.clause)) w.entry hit.1 h.numbered)

  pub hit_place : HasPlace s.slots w.slot
  hit_place = ((h.key, h.clause), get_among s.slots hit.0 (w.slot, (h.key, h.clause)) h.there)

-- the entry that the walk comes to
pub walk_given : (slots : Slots) (walk : ClauseWalk) (rest : Entries) (w : Wanted) (e : program_entry.Entry) → IsWalk slots walk → walk.next ≤ w.entry → GivesAfter (w.entry - walk.next) walk.entries rest (Some e)
    → (slice_get (entries (clause_of walk.clause.now)) w.entry ≡ Some (record { entry = entry_of e; place = last_place rest })) × (left_of rest ≡ drop (w.entry + 1) (entries (clause_of walk.clause.now)))
walk_given slots walk rest w e h ahead gives =
    given_at (entries (clause_of walk.clause.now)) gives.0 (left_of rest) walk.next w.entry (record { entry = entry_of e; place = last_place rest }) (sym h.left ∙ gives.2) (omega (arith, gives.1, ahead))

-- and it comes to one, where the clause has it
pub walk_goes_on : (slots : Slots) (walk : ClauseWalk) (rest : Entries) (w : Wanted) (hit : ℕ × Placed) → PlacesRise slots → IsWalk slots walk → walk.slot ≡ w.slot → IsHitAt slots w hit → walk.next ≤ w.entry
    → GivesAfter (w.entry - walk.next) walk.entries rest None → ⊥
walk_goes_on slots walk rest w hit rise h same at ahead none =
    let es = entries (clause_of walk.clause.now) in
    let there : slice_get slots walk.position ≡ Some (w.slot, (h.key, walk.clause.now)) = h.there ∙ ap (λ slot. Some (slot, (h.key, walk.clause.now))) same in
    let clause : clause_of at.clause ≡ clause_of walk.clause.now = same_clause slots w.slot hit.0 walk.position (at.key, at.clause) (h.key, walk.clause.now) rise at.there there in
    let numbered : slice_get es w.entry ≡ Some hit.1 = ap (λ c. slice_get (entries c) w.entry) (sym clause) ∙ at.numbered in
    omega (arith, none.0, ap length h.left, length-drop walk.next es, slice_get_within es w.entry hit.1 numbered, ahead)

-- ---- what isn't passed yet
rise_after : (ws : List Wanted) (i : ℕ) (d : Wanted) → Rise ws → i < length ws → AllByRecursion (IsBefore (get_or ws i d)) (drop (i + 1) ws)
rise_after [] i d rise less = absurd (omega (arith, less))
rise_after (w ∷ ws) zero d rise less = rise.0
rise_after (w ∷ ws) (suc i) d rise less =
    let turn : suc (i + 1) ≡ suc i + 1 = omega arith in
    subst (λ n. AllByRecursion (IsBefore (get_or ws i d)) (drop n (w ∷ ws))) turn (rise_after ws i d rise.1 (omega (arith, less)))

pub ahead_first : (walk : ClauseWalk) (ws : List Wanted) → walk.next ≡ 0 → AllByRecursion (IsAhead walk) ws
ahead_first walk ws start = all_from (IsAhead walk) ws (λ w a same. omega (arith, start))

pub ahead_here : (walk : ClauseWalk) (ws : List Wanted) (i : ℕ) (d : Wanted) → i < length ws → AllByRecursion (IsAhead walk) (drop i ws) → IsAhead walk (get_or ws i d)
ahead_here walk ws i d less ahead = (subst (AllByRecursion (IsAhead walk)) (drop_more ws i d less) ahead).0

pub ahead_next : (walk : ClauseWalk) (ws : List Wanted) (i : ℕ) (d : Wanted) → i < length ws → Rise ws → walk.slot ≡ (get_or ws i d).slot → walk.next ≡ (get_or ws i d).entry + 1 → AllByRecursion (IsAhead walk) (drop (i + 1) ws)
ahead_next walk ws i d less rise here next =
    all_weaker (IsBefore (get_or ws i d)) (IsAhead walk) (drop (i + 1) ws)
    (λ v before same. elim before [
      | inl lower ↦ absurd (omega (arith, lower, here, same))
      | inr both ↦ omega (arith, both.1, next)
    ])
    (rise_after ws i d rise less)

-- ---- one more hit
pub adds_hit : (slots : Slots) (ws : List Wanted) (i : ℕ) (d : Wanted) (hit : ℕ × Placed) (old new : List (ℕ × Placed)) → i < length ws
    → AllZip (IsHitAt slots) (take i ws) old → IsHitAt slots (get_or ws i d) hit → new ≡ old ++ hit ∷ [] → AllZip (IsHitAt slots) (take (i + 1) ws) new
adds_hit slots ws i d hit old new less h at is = subst (AllZip (IsHitAt slots) (take (i + 1) ws)) (sym is) (zip_more (IsHitAt slots) ws old i d hit less h at)

pub adds_match : (s : Search) (m : Match) (hit : ℕ × Placed) (old new : Matches) → new.found.items ≡ old.found.items ++ m ∷ [] → hit ≡ hit_of m
    → StayMade old.leaves.items new.leaves.items → AreMatches s old → IsMatch s new.leaves.items m → AddsHit s hit old new
adds_match s m hit old new pushed is stay each match = record {
  hits = ap (map hit_of) pushed ∙ map-append hit_of old.found.items (m ∷ []) ∙ ap (λ h. map hit_of old.found.items ++ h ∷ []) (sym is);
  each =
      subst (AllByRecursion (IsMatch s new.leaves.items)) (sym pushed)
      (all_append (IsMatch s new.leaves.items) old.found.items (m ∷ []) (matches_stay s old.leaves.items new.leaves.items old.found.items stay each) (match, tt));
}

-- each hit has a solution
pub hits_solved : (s : Search) (leaves : List Leaf) (ms : List Match) → AllByRecursion (IsMatch s leaves) ms → HaveCanonicalSolutions s.relation (pattern_in s) (map hit_of ms)
hits_solved s leaves [] all = tt
hits_solved s leaves (m ∷ ms) all =
    let list = all.0.list.2 in
    (record { stands = list.stands; solution = list.solution; solves = list.solves }, hits_solved s leaves ms all.1)
