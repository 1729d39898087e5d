-- What is answered of two flat clauses holds of the clauses.
use Rattle.std.proofs.Common.{◌≡◌, inl, inr, ℕ, zero, suc, ◌+◌, ◌-◌, ◌<◌, ◌≤◌, ◌^◌, Bool, true, false, not, cond, List, [], ◌∷◌, ◌++◌, length, map, refl, ap, sym, ◌∙◌, subst, arith, None, Some, length-append}
use Rattle.std.proofs.lemmas.Slice.Eq.{bytes_eq-Decides}
use Rattle.std.specs.Prelude.{slice_get, bytes_eq, Option}
use Rattle.std.specs.List.{AllByRecursion}
use Rattle.si_defs.specs.Bytes.{Bytes}
use Rattle.si_defs.specs.Terms as terms
use Rattle.si_defs.specs.Symbols as texts
use Rattle.si_defs.specs.Symbols.{Numbering}
use Rattle.si_defs.specs.Clauses as clauses
use Rattle.si_defs.specs.Clauses.{Literal, IsSoundAtom, IsSoundLiteral, AreSoundLiterals, literals_size}
use Rattle.si_defs.specs.Entries.{literals_symbols, literals_variables}
use Rattle.si_defs.specs.Substitutions.{IsAmong, image, apply}
use Rattle.si_defs.specs.Variables.{of_pattern, Solution}
use Rattle.si_defs.proofs.ListLaws.{all_append, all_front, all_back, all_from, all_got}
use Rattle.si_defs.proofs.SymbolLaws.{text_is}
use Rattle.si_state.specs.Subsumption.{AreImages, TakesTo, IsMap, AnswersLeast}
use Rattle.si_flat.specs.declared.Cell.{Cell}
use Rattle.si_flat.specs.declared.Owner.{Owner}
use Rattle.si_flat.specs.declared.Owner.TheVariants.{Query, Entry}
use Rattle.si_flat.specs.Cells.{Variable, query, entry, same_variable, Term, Terms, variable_cell, cells_of, cells_of_all, StandsFor}
use Rattle.si_flat.specs.Numbered.{number_in, signed, place_in, numbered, all_numbered}
use Rattle.si_flat.specs.Flattened.{has_number, unnumbered, IsQueryNumbering}
use Rattle.si_flat.specs.FlatClauses.{numbered_atoms, flat_clause, clause_numbers, FlattensClauses}
use Rattle.si_flat.proofs.FirstPlaces.{among_firsts, firsts_among}
use Rattle.si_term.proofs.Inserted.{inserted-firsts, inserted_length}
use Rattle.si_flat.proofs.Walking.{variables_few}
use Rattle.si_unify.proofs.Reading.{one_term}
use Rattle.si_defs.specs.Terms.{arguments}
use Rattle.si_subsume.specs.Maps.{IsCellOf, AreOf, IsNoVariable, HasHeads, IsFlatMap, AnswersFlat, IsComparable}
use Rattle.si_subsume.proofs.Texts.{IsPlaced, pattern_variable, entry_variable, flat_literal, raise, raised_stays, lower, lefts_lowered, literal_raised, literal_lowered}
use Rattle.si_subsume.proofs.FlatMaps.{least_same}

-- ---- cells
module _ (owner : Owner) (n : texts.Symbol → ℕ) (v : Bytes → Variable) (of : (x : Bytes) → IsCellOf owner (variable_cell (v x))) where
  mutual
    numbered_of : (m : texts.Symbol → ℕ) (t : clauses.Term) → AreOf owner (cells_of (numbered m v t))
    numbered_of m (terms.var x) = (of x, tt)
    numbered_of m (terms.app s ts) = (tt, all_numbered_of m ts)

    all_numbered_of : (m : texts.Symbol → ℕ) (ts : clauses.Terms) → AreOf owner (cells_of_all (all_numbered m v ts))
    all_numbered_of m terms.none = tt
    all_numbered_of m (terms.more t ts) = all_append (IsCellOf owner) (cells_of (numbered m v t)) (cells_of_all (all_numbered m v ts)) (numbered_of m t) (all_numbered_of m ts)

  atoms_of : (ls : List Literal) → AreOf owner (cells_of_all (numbered_atoms n v ls))
  atoms_of [] = tt
  atoms_of (l ∷ ls) = all_append (IsCellOf owner) (cells_of (numbered (signed l.positive n) v l.atom)) (cells_of_all (numbered_atoms n v ls)) (numbered_of (signed l.positive n) l.atom) (atoms_of ls)

place_within : (xs : List Bytes) (x : Bytes) → place_in bytes_eq xs x ≤ length xs
place_within [] x = omega arith
place_within (y ∷ xs) x = by (bytes_eq y x) (place_within xs x)
  where
    by : (b : Bool) → place_in bytes_eq xs x ≤ length xs → cond b 0 (1 + place_in bytes_eq xs x) ≤ length (y ∷ xs)
    by true h = omega arith
    by false h = omega (arith, h)

variables_of_few : (ls : List Literal) → length (literals_variables ls) ≤ literals_size ls
variables_of_few [] = omega arith
variables_of_few (l ∷ ls) = omega (arith, length-append (terms.variables l.atom) (literals_variables ls), variables_few l.atom, variables_of_few ls)

few_firsts : (ls : List Literal) → AreSoundLiterals ls → (x : Bytes) → place_in bytes_eq (terms.firsts bytes_eq (literals_variables ls)) x < 2 ^ 32 - 1
few_firsts ls sound x =
    omega (
      arith,
      place_within (terms.firsts bytes_eq (literals_variables ls)) x,
      ap length (inserted-firsts bytes_eq bytes_eq-Decides (literals_variables ls)),
      inserted_length bytes_eq [] (literals_variables ls),
      variables_of_few ls,
      sound.no_larger,
    )

pub query_clause : (pairs : Numbering) (ls : List Literal) → AreSoundLiterals ls → AreOf Query (cells_of (flat_clause pairs query ls))
query_clause pairs ls sound = (tt, atoms_of Query (number_in pairs) _ (λ x. few_firsts ls sound x) ls)

pub entry_clause : (pairs : Numbering) (ls : List Literal) → AreSoundLiterals ls → AreOf Entry (cells_of (flat_clause pairs entry ls))
entry_clause pairs ls sound = (tt, atoms_of Entry (number_in pairs) _ (λ x. few_firsts ls sound x) ls)

-- ---- heads
atom_heads : (n : texts.Symbol → ℕ) (v : Bytes → Variable) (ls : List Literal) → AllByRecursion IsSoundLiteral ls → AllByRecursion IsNoVariable (terms.list (numbered_atoms n v ls))
atom_heads n v [] h = tt
atom_heads n v (l ∷ ls) h = (one l.atom h.0, atom_heads n v ls h.1)
  where
    one : (t : clauses.Term) → IsSoundAtom t → IsNoVariable (numbered (signed l.positive n) v t)
    one (terms.var x) a = a
    one (terms.app s ts) a = tt

clause_heads : (pairs : Numbering) (variable : ℕ → Variable) (ls : List Literal) (cells : List Cell) → AreSoundLiterals ls → StandsFor cells (flat_clause pairs variable ls) → HasHeads cells
clause_heads pairs variable ls cells sound stands t own =
    subst (λ u. AllByRecursion IsNoVariable (terms.list (arguments u))) (one_term cells (flat_clause pairs variable ls) t stands own) (atom_heads (number_in pairs) _ ls sound.each)

-- ---- literals at their numbers
module _ (pairs : Numbering) (v : Bytes → Variable) where
  abbrev literal_of : Literal → Term
  literal_of l = numbered (signed l.positive (number_in pairs)) v l.atom

  item_up : (ls : List Literal) (n : ℕ) (k : Literal) → slice_get ls n ≡ Some k → slice_get (terms.list (numbered_atoms (number_in pairs) v ls)) n ≡ Some (literal_of k)
  item_up [] n k e = cc
  item_up (l ∷ ls) zero k e = let same : l ≡ k = cc in ap (λ z. Some (literal_of z)) same
  item_up (l ∷ ls) (suc n) k e = item_up ls n k e

  record IsLiteralAt (ls : List Literal) (n : ℕ) (u : Term) : Type 0 where
    literal : Literal
    is : slice_get ls n ≡ Some literal
    stands : u ≡ literal_of literal

  item_down : (ls : List Literal) (n : ℕ) (u : Term) → slice_get (terms.list (numbered_atoms (number_in pairs) v ls)) n ≡ Some u → IsLiteralAt ls n u
  item_down [] n u e = cc
  item_down (l ∷ ls) zero u e = let same : literal_of l ≡ u = cc in record { literal = l; is = refl; stands = sym same }
  item_down (l ∷ ls) (suc n) u e = let r = item_down ls n u e in record { literal = r.literal; is = r.is; stands = r.stands }

-- ---- maps
module _ (pairs : Numbering) (numbering : IsQueryNumbering pairs) (xs ys : List Bytes) (d : List Literal) (placed_d : AllByRecursion (IsPlaced pairs numbering xs ys ys) d) where
  abbrev pattern_atoms : List Literal → Terms
  pattern_atoms ls = numbered_atoms (number_in pairs) (pattern_variable pairs numbering xs ys) ls

  abbrev entry_atoms : List Literal → Terms
  entry_atoms ls = numbered_atoms (number_in pairs) (entry_variable pairs numbering xs ys) ls

  taken_up : (S : Solution) (ls : List Literal) (ns : List ℕ) → AllByRecursion (IsPlaced pairs numbering xs ys xs) ls → AreImages (TakesTo S) d ls ns
      → AreImages (λ t u. apply same_variable (raise pairs numbering xs ys S) t ≡ u) (terms.list (entry_atoms d)) (terms.list (pattern_atoms ls)) ns
  taken_up S [] [] h k = tt
  taken_up S [] (n ∷ ns) h k = absurd k
  taken_up S (l ∷ ls) [] h k = absurd k
  taken_up S (l ∷ ls) (zero ∷ ns) h k = absurd (let e : None ≡ Some k.0.0 = k.0.1 in cc)
  taken_up S (l ∷ ls) (suc n ∷ ns) h k = (
    (
      flat_literal pairs numbering xs ys (entry_variable pairs numbering xs ys) k.0.0,
      item_up pairs (entry_variable pairs numbering xs ys) d n k.0.0 k.0.1,
      literal_raised pairs numbering xs ys S l k.0.0 h.0 (all_got (IsPlaced pairs numbering xs ys ys) d n k.0.0 placed_d k.0.1) k.0.2.sign k.0.2.atom,
    ),
    taken_up S ls ns h.1 k.1,
  )

  taken_down : (f : Variable → Term) (ls : List Literal) (ns : List ℕ) → AllByRecursion (IsPlaced pairs numbering xs ys xs) ls
      → AreImages (λ t u. terms.substitute f t ≡ u) (terms.list (entry_atoms d)) (terms.list (pattern_atoms ls)) ns
      → AreImages (TakesTo (lower pairs numbering xs ys f)) d ls ns
  taken_down f [] [] h k = tt
  taken_down f [] (n ∷ ns) h k = absurd k
  taken_down f (l ∷ ls) [] h k = absurd k
  taken_down f (l ∷ ls) (zero ∷ ns) h k = absurd (let e : None ≡ Some k.0.0 = k.0.1 in cc)
  taken_down f (l ∷ ls) (suc n ∷ ns) h k =
      let i = item_down pairs (entry_variable pairs numbering xs ys) d n k.0.0 k.0.1 in
      let r = literal_lowered pairs numbering xs ys f l i.literal h.0 (all_got (IsPlaced pairs numbering xs ys ys) d n i.literal placed_d i.is) (k.0.2 ∙ i.stands) in (
        (i.literal, i.is, record { sign = r.sign; atom = r.atom }),
        taken_down f ls ns h.1 k.1,
      )

among_map : (xs : List Bytes) (x : Bytes) → IsAmong xs x → IsAmong (map of_pattern xs) (of_pattern x)
among_map [] x a = absurd a
among_map (y ∷ xs) x (inl e) = inl (ap of_pattern e)
among_map (y ∷ xs) x (inr a) = inr (among_map xs x a)

all_patterns : (zs vars : List Bytes) → ((z : Bytes) → IsAmong zs z → IsAmong vars z) → AllByRecursion (IsAmong (map of_pattern vars)) (map of_pattern zs)
all_patterns [] vars give = tt
all_patterns (z ∷ zs) vars give = (among_map vars z (give z (inl refl)), all_patterns zs vars (λ y a. give y (inr a)))

-- ---- literals of clauses that were made flat
pub known_all : (pairs : Numbering) (ss : List texts.Symbol) → unnumbered pairs ss ≡ [] → AllByRecursion (λ s. has_number pairs s ≡ true) ss
known_all pairs [] e = tt
known_all pairs (s ∷ ss) e = by (has_number pairs s) refl e (known_all pairs ss)
  where
    by : (b : Bool) → has_number pairs s ≡ b → cond (not b) (s ∷ unnumbered pairs ss) (unnumbered pairs ss) ≡ [] → (unnumbered pairs ss ≡ [] → AllByRecursion (λ r. has_number pairs r ≡ true) ss) → (has_number pairs s ≡ true) × AllByRecursion (λ r. has_number pairs r ≡ true) ss
    by true is e rest = (is, rest e)
    by false is e rest = cc

placed_all : (pairs : Numbering) (numbering : IsQueryNumbering pairs) (xs ys zs : List Bytes) (ls : List Literal)
    → AllByRecursion IsSoundLiteral ls
    → AllByRecursion (λ s. has_number pairs s ≡ true) (literals_symbols ls)
    → AllByRecursion (IsAmong zs) (literals_variables ls)
    → AllByRecursion (IsPlaced pairs numbering xs ys zs) ls
placed_all pairs numbering xs ys zs [] sound known placed = tt
placed_all pairs numbering xs ys zs (l ∷ ls) sound known placed = (
  record {
    sound = sound.0;
    known = all_front (λ s. has_number pairs s ≡ true) (terms.symbols l.atom) (literals_symbols ls) known;
    placed = all_front (IsAmong zs) (terms.variables l.atom) (literals_variables ls) placed;
  },
  placed_all pairs numbering xs ys zs ls sound.1 (all_back (λ s. has_number pairs s ≡ true) (terms.symbols l.atom) (literals_symbols ls) known) (all_back (IsAmong zs) (terms.variables l.atom) (literals_variables ls) placed),
)

all_placed : (ls : List Literal) → AllByRecursion (IsAmong (terms.firsts bytes_eq (literals_variables ls))) (literals_variables ls)
all_placed ls = all_from (IsAmong (terms.firsts bytes_eq (literals_variables ls))) (literals_variables ls) (λ x a. among_firsts bytes_eq text_is (literals_variables ls) x a)

-- A clause was made flat by these numbers, which all of its symbols have.
pub record IsFlatBy (pairs : Numbering) (variable : ℕ → Variable) (ls : List Literal) (cells : List Cell) : Type 0 where
  pub sound : AreSoundLiterals ls
  pub stands : StandsFor cells (flat_clause pairs variable ls)
  pub known : AllByRecursion (λ s. has_number pairs s ≡ true) (literals_symbols ls)

-- its cells can be compared
pub query_comparable : (pairs : Numbering) (ls : List Literal) (cells : List Cell) → IsFlatBy pairs query ls cells → IsComparable Query cells
query_comparable pairs ls cells h = record {
  owned = subst (AreOf Query) (sym h.stands.cells_are) (query_clause pairs ls h.sound);
  whole = (_, h.stands);
  heads = clause_heads pairs query ls cells h.sound h.stands;
}

pub entry_comparable : (pairs : Numbering) (ls : List Literal) (cells : List Cell) → IsFlatBy pairs entry ls cells → IsComparable Entry cells
entry_comparable pairs ls cells h = record {
  owned = subst (AreOf Entry) (sym h.stands.cells_are) (entry_clause pairs ls h.sound);
  whole = (_, h.stands);
  heads = clause_heads pairs entry ls cells h.sound h.stands;
}

module _ (pairs : Numbering) (numbering : IsQueryNumbering pairs) (c d : List Literal) (cells_c cells_d : List Cell) (flat_c : IsFlatBy pairs query c cells_c) (flat_d : IsFlatBy pairs entry d cells_d) where
  abbrev xs : List Bytes
  xs = terms.firsts bytes_eq (literals_variables c)

  abbrev ys : List Bytes
  ys = terms.firsts bytes_eq (literals_variables d)

  placed_c : AllByRecursion (IsPlaced pairs numbering xs ys xs) c
  placed_c = placed_all pairs numbering xs ys xs c flat_c.sound.each flat_c.known (all_placed c)

  placed_d : AllByRecursion (IsPlaced pairs numbering xs ys ys) d
  placed_d = placed_all pairs numbering xs ys ys d flat_d.sound.each flat_d.known (all_placed d)

  abbrev FlatMap : List ℕ → Type 0
  FlatMap = IsFlatMap (terms.list (pattern_atoms pairs numbering xs ys d placed_d c)) (terms.list (entry_atoms pairs numbering xs ys d placed_d d))

  map_up : (ns : List ℕ) → IsMap c d ns → FlatMap ns
  map_up ns m = (
    raise pairs numbering xs ys m.0,
    record { stay = raised_stays pairs numbering xs ys m.0 xs; taken = taken_up pairs numbering xs ys d placed_d m.0 c ns placed_c m.1.taken },
  )

  map_down : (ns : List ℕ) → FlatMap ns → IsMap c d ns
  map_down ns m = (
    lower pairs numbering xs ys (image same_variable m.0),
    record {
      on =
          subst (AllByRecursion (IsAmong (map of_pattern (literals_variables c)))) (sym (lefts_lowered pairs numbering xs ys (image same_variable m.0) xs))
          (all_patterns xs (literals_variables c) (λ z a. firsts_among bytes_eq (literals_variables c) z a));
      taken = taken_down pairs numbering xs ys d placed_d (image same_variable m.0) c ns placed_c m.1.taken;
    },
  )

  -- what is answered of the flat clauses holds of the clauses
  pub clause_answer : (answer : Option (List ℕ)) → AnswersFlat cells_c cells_d answer → AnswersLeast (IsMap c d) answer
  clause_answer answer told = least_same FlatMap (IsMap c d) map_down map_up answer (told (flat_clause pairs query c) (flat_clause pairs entry d) flat_c.stands flat_d.stands)

-- ---- two clauses that were numbered together
module _ (c d : List Literal) (flat : List Cell × List Cell) (sound_c : AreSoundLiterals c) (sound_d : AreSoundLiterals d) (h : FlattensClauses c d flat) where
  abbrev pairs : Numbering
  pairs = clause_numbers c d

  known : AllByRecursion (λ s. has_number pairs s ≡ true) (literals_symbols c ++ literals_symbols d)
  known = known_all pairs (literals_symbols c ++ literals_symbols d) h.complete

  pub numbering_together : IsQueryNumbering pairs
  numbering_together = record {
    one_number = h.numbering.one_number;
    one_symbol = h.numbering.one_symbol;
    even = h.numbering.even;
  }

  pub first_flat : IsFlatBy pairs query c flat.0
  first_flat = record {
    sound = sound_c;
    stands = h.first;
    known = all_front (λ s. has_number pairs s ≡ true) (literals_symbols c) (literals_symbols d) known;
  }

  pub second_flat : IsFlatBy pairs entry d flat.1
  second_flat = record {
    sound = sound_d;
    stands = h.second;
    known = all_back (λ s. has_number pairs s ≡ true) (literals_symbols c) (literals_symbols d) known;
  }
