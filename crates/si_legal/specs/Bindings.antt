-- Bindings of indicator variables (Graf 1996): what stands in the place of each. An indicator is a
-- variable that is known by its number alone.
use Rattle.std.specs.Prelude.{◌≡◌, ℕ, ◌+◌, not, ◌==◌, ◌↔◌, List, [], ◌∷◌, ◌++◌, map, filter}
use Rattle.std.specs.List.{AllByRecursion, list_any}
use Rattle.si_defs.specs.Terms as terms
use Rattle.si_defs.specs.Substitutions.{Substitution, apply, IsAmong, AreDistinct}
use Rattle.si_flat.specs.Cells.{Symbol, Variable, query, entry, ind, same_variable, Term, StandsFor}
use Rattle.si_flat.specs.Rows.{CellPair, left_sides}

-- an indicator's number, its left side, and its right side
abbrev pub Binding : Type 0
Binding = ℕ × Term

-- ---- indicators
abbrev pub indicators_among : List Variable → List ℕ
indicators_among [] = []
indicators_among (query n ∷ xs) = indicators_among xs
indicators_among (entry n ∷ xs) = indicators_among xs
indicators_among (ind n ∷ xs) = n ∷ indicators_among xs

-- the occurrences of indicators in a term, from left to right
abbrev pub indicators : Term → List ℕ
indicators t = indicators_among (terms.variables t)

-- those on all right sides, in order
abbrev pub right_indicators : List Binding → List ℕ
right_indicators [] = []
right_indicators (b ∷ bs) = indicators b.1 ++ right_indicators bs

-- the occurrences of symbols and variables on all right sides
abbrev pub right_sizes : List Binding → ℕ
right_sizes [] = 0
right_sizes (b ∷ bs) = terms.size b.1 + right_sizes bs

abbrev pub indicator : ℕ → Term
indicator n = terms.var (ind n)

abbrev pub IsIndicator : Term → Type 0
IsIndicator (terms.var (ind n)) = Unit {0}
IsIndicator t = ⊥

-- no right side is an indicator alone
abbrev pub HasNoBareIndicator : List Binding → Type 0
HasNoBareIndicator bs = AllByRecursion (λ b. IsIndicator b.1 → ⊥) bs

abbrev pub OpensNone : List Binding → Type 0
OpensNone bs = right_indicators bs ≡ []

-- the left sides are exactly the numbers of which P holds, each once
abbrev pub BindsExactly : (ℕ → Type 0) → List Binding → Type 0
BindsExactly P bs =
    AreDistinct (left_sides bs) × ((n : ℕ) → IsAmong (left_sides bs) n ↔ P n)

-- ---- bindings applied
abbrev pub substitution_of : List Binding → Substitution Symbol Variable
substitution_of bs = map (λ b. (ind b.0, b.1)) bs

-- the term with each indicator that is bound replaced by its right side, all at once
abbrev pub applied : List Binding → Term → Term
applied bs t = apply same_variable (substitution_of bs) t

-- The pairs of the first list, with the second applied to their right sides, and then those pairs
-- of the second whose left sides occur on no right side of the first.
abbrev pub composed : List Binding → List Binding → List Binding
composed first second =
    map (λ b. (b.0, applied second b.1)) first
    ++ filter (λ b. not (list_any (λ n. n == b.0) (right_indicators first))) second

-- where left sides are distinct, one list is the other in another order
abbrev pub HaveSamePairs : List Binding → List Binding → Type 0
HaveSamePairs bs cs = (b : Binding) → IsAmong bs b ↔ IsAmong cs b

-- ---- bindings in cells
-- each right side is exactly the cells of that term
abbrev pub StandForBindings : List CellPair → List Binding → Type 0
StandForBindings [] [] = Unit {0}
StandForBindings [] (b ∷ bs) = ⊥
StandForBindings (c ∷ cs) [] = ⊥
StandForBindings (c ∷ cs) (b ∷ bs) = (c.0 ≡ b.0) × StandsFor c.1 b.1 × StandForBindings cs bs
