-- What a search finds: of the entries of the kept clauses, in order, exactly those that stand in a
-- relation to a pattern.
use Rattle.std.specs.Prelude.{◌≡◌, ◌⊎◌, ℕ, ◌+◌, List, [], ◌∷◌, ◌++◌, map, refl, Some, slice_get}
use Rattle.std.specs.Coded.{Coded, code_by, coded×, coded⊎, coded_ℕ, coded_list}
use Rattle.std.proofs.Common.{inl, inr}
use Rattle.si_defs.specs.Clauses.{Term, Literal, Clause, Pattern, literal_pattern, term_pattern}
use Rattle.si_defs.specs.Entries.{Entry, literal_entry, term_entry, Place, Placed, entries}
use Rattle.si_defs.specs.Codes.{symbol_code, literal_code, coded_term}
use Rattle.si_defs.specs.declared.Relation.{Relation}
use Rattle.si_defs.specs.contracts.Relation as relation_contracts
use Rattle.si_state.specs.Answers.{Stands}
use Rattle.si_index.specs.Kept.{Kept, kept_code}

-- ---- entries and hits, each with the position of its clause
abbrev pub at_position : ℕ → Placed → ℕ × Placed
at_position position e = (position, e)

-- the entries of these clauses, in order, of which the first has the position k
abbrev pub entries_from_position : ℕ → List Clause → List (ℕ × Placed)
entries_from_position k [] = []
entries_from_position k (c ∷ cs) =
    map (at_position k) (entries c) ++ entries_from_position (1 + k) cs

-- of these entries, in order, exactly those that stand in the relation
abbrev pub AreHits : Relation → Pattern → List (ℕ × Placed) → List (ℕ × Placed) → Type 0
AreHits relation pattern [] hits = hits ≡ []
AreHits relation pattern (e ∷ es) hits =
    (Stands relation pattern e.1.entry
    × ((others : List (ℕ × Placed)) × AreHits relation pattern es others × (hits ≡ e ∷ others)))
    ⊎ ((Stands relation pattern e.1.entry → ⊥) × AreHits relation pattern es hits)

-- where a hit stands
abbrev pub position_and_place : ℕ × Placed → ℕ × Place
position_and_place (position, e) = (position, e.place)

-- ---- what the answer to a search is seen as
pub record Finding : Type 0 where
  pub index : Kept
  pub relation : Relation
  pub pattern : Pattern
  pub hits : List (ℕ × Placed)
  pub passed : ℕ

-- it was found in this index, for this relation and this pattern
pub record IsFindingOf (k : Kept) (asked : Relation) (p : Pattern) (f : Finding) : Type 0 where
  pub index : f.index ≡ k
  pub relation : f.relation ≡ asked
  pub pattern : f.pattern ≡ p

abbrev term_code : Coded Term
term_code = coded_term symbol_code (coded_list coded_ℕ)

abbrev pattern_parts : Pattern → Literal ⊎ Term
pattern_parts (literal_pattern l) = inl l
pattern_parts (term_pattern t) = inr t

abbrev pattern_from : Literal ⊎ Term → Pattern
pattern_from (inl l) = literal_pattern l
pattern_from (inr t) = term_pattern t

pub pattern_back : (p : Pattern) → pattern_from (pattern_parts p) ≡ p
pattern_back (literal_pattern l) = refl
pattern_back (term_pattern t) = refl

abbrev pattern_code : Coded Pattern
pattern_code =
    code_by (Literal ⊎ Term) (coded⊎ literal_code term_code) pattern_parts pattern_from pattern_back

abbrev entry_parts : Entry → Literal ⊎ Term
entry_parts (literal_entry l) = inl l
entry_parts (term_entry t) = inr t

abbrev entry_from : Literal ⊎ Term → Entry
entry_from (inl l) = literal_entry l
entry_from (inr t) = term_entry t

pub entry_back : (e : Entry) → entry_from (entry_parts e) ≡ e
entry_back (literal_entry l) = refl
entry_back (term_entry t) = refl

abbrev placed_code : Coded Placed
placed_code =
    code_by ((Literal ⊎ Term) × (ℕ × List ℕ))
    (coded× (coded⊎ literal_code term_code) (coded× coded_ℕ (coded_list coded_ℕ)))
    (λ e. (entry_parts e.entry, (e.place.literal, e.place.path)))
    (λ p. record { entry = entry_from p.0; place = record { literal = p.1.0; path = p.1.1 } })
    (λ e i. record { entry = entry_back e.entry i; place = e.place })

abbrev pub finding_code : Coded Finding
finding_code =
    code_by (Kept × (Relation × (Pattern × (List (ℕ × Placed) × ℕ))))
    (coded× kept_code
    (coded× relation_contracts.the_row.coded
    (coded× pattern_code (coded× (coded_list (coded× coded_ℕ placed_code)) coded_ℕ))))
    (λ f. (f.index, (f.relation, (f.pattern, (f.hits, f.passed)))))
    (λ p. record {
      index = p.0;
      relation = p.1.0;
      pattern = p.1.1.0;
      hits = p.1.1.1.0;
      passed = p.1.1.1.1;
    })
    (λ _. refl)

-- the clause of the hit with this number
abbrev pub IsClauseOf : Finding → ℕ → Clause → Type 0
IsClauseOf finding n c =
    (hit : ℕ × Placed) × (slice_get finding.hits n ≡ Some hit)
    × (slice_get finding.index.clauses hit.0 ≡ Some c)
