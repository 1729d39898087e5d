-- Subsumption of clauses by sets of literals (Robinson 1965): two literals may have one image. That
-- the least map is reported is this project's profile.
use Rattle.std.specs.Prelude.{◌≡◌, ◌⊎◌, ℕ, zero, suc, ◌<◌, List, [], ◌∷◌, ◌++◌, map, slice_get, Option, None, Some, codes}
use Rattle.si_defs.specs.Bytes.{Bytes}
use Rattle.si_defs.specs.Clauses.{Literal, Clause}
use Rattle.si_defs.specs.Entries.{literals_variables}
use Rattle.si_defs.specs.Substitutions.{apply, IsOn}
use Rattle.si_defs.specs.Variables.{of_pattern, same_variable, pattern_term, entry_term, Solution}
use Rattle.si_defs.specs.Printing.{name_text, map_text}

-- ---- lists of numbers
-- the item with this number, from 1
abbrev pub item_at : {K : Type 0} → List K → ℕ → Option K
item_at ks zero = None
item_at ks (suc n) = slice_get ks n

-- Each number is that of an image: of the item at the same place.
abbrev pub AreImages : {L K : Type 0} → (L → K → Type 0) → List K → List L → List ℕ → Type 0
AreImages {L} {K} P ks [] [] = Unit {0}
AreImages {L} {K} P ks [] (n ∷ ns) = ⊥
AreImages {L} {K} P ks (l ∷ ls) [] = ⊥
AreImages {L} {K} P ks (l ∷ ls) (n ∷ ns) =
    ((k : K) × (item_at ks n ≡ Some k) × P l k) × AreImages P ks ls ns

-- the first list is the second, or stands before it in lexicographic order
abbrev pub IsNoLater : List ℕ → List ℕ → Type 0
IsNoLater [] ns = Unit {0}
IsNoLater (m ∷ ms) [] = ⊥
IsNoLater (m ∷ ms) (n ∷ ns) = (m < n) ⊎ ((m ≡ n) × IsNoLater ms ns)

-- the least of the lists with this property
pub record IsLeast (P : List ℕ → Type 0) (ns : List ℕ) : Type 0 where
  pub is_one : P ns
  pub no_later : (ms : List ℕ) → P ms → IsNoLater ns ms

-- the least of them, and none where there is none
abbrev pub AnswersLeast : (List ℕ → Type 0) → Option (List ℕ) → Type 0
AnswersLeast P None = (ns : List ℕ) → P ns → ⊥
AnswersLeast P (Some ns) = IsLeast P ns

-- ---- literals
-- The substitution takes a literal to its image. Their variables are apart.
pub record TakesTo (s : Solution) (l k : Literal) : Type 0 where
  pub sign : l.positive ≡ k.positive
  pub atom : apply same_variable s (pattern_term l.atom) ≡ entry_term k.atom

-- one substitution, on the variables of c alone, takes each literal of c to the one of d that the
-- map tells
pub record IsMapBy (c d : List Literal) (ns : List ℕ) (s : Solution) : Type 0 where
  pub on : IsOn (map of_pattern (literals_variables c)) s
  pub taken : AreImages (TakesTo s) d c ns

abbrev pub IsMap : List Literal → List Literal → List ℕ → Type 0
IsMap c d ns = (s : Solution) × IsMapBy c d ns s

abbrev pub Subsumes : List Literal → List Literal → Type 0
Subsumes c d = (ns : List ℕ) × IsMap c d ns

abbrev pub IsLeastMap : List Literal → List Literal → List ℕ → Type 0
IsLeastMap c d ns = IsLeast (IsMap c d) ns

-- ---- answers
-- a clause that is answered, and its map
pub record MappedClause : Type 0 where
  pub clause : Clause
  pub numbers : List ℕ

-- Of these clauses, in order, exactly those whose literals have a map are answered, each with the
-- least.
abbrev pub AreMapped : (List Literal → List ℕ → Type 0) → List Clause → List MappedClause → Type 0
AreMapped P [] ms = ms ≡ []
AreMapped P (c ∷ cs) ms =
    ((ns : List ℕ) × (others : List MappedClause) × IsLeast (P c.literals) ns
    × AreMapped P cs others
    × (ms ≡ record { clause = c; numbers = ns } ∷ others))
    ⊎ (((ns : List ℕ) → P c.literals ns → ⊥) × AreMapped P cs ms)

-- the clauses that subsume the formula, each with the least map to it
abbrev pub AreSubsumers : List Literal → List Clause → List MappedClause → Type 0
AreSubsumers formula = AreMapped (λ ls. IsMap ls formula)

-- the clauses that the formula subsumes, each with the least map from it
abbrev pub AreSubsumed : List Literal → List Clause → List MappedClause → Type 0
AreSubsumed formula = AreMapped (λ ls. IsMap formula ls)

-- the line of a clause that is answered: its name, a space and its map
abbrev pub mapped_text : MappedClause → Bytes
mapped_text m = name_text m.clause.name ++ codes " " ++ map_text m.numbers
