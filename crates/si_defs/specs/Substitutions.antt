-- Substitutions: finite maps from variables to terms (Robinson 1965).
use Rattle.std.specs.Prelude.{◌≡◌, Bool, cond, ◌⊎◌, List, [], ◌∷◌, ◌++◌}
use Rattle.std.specs.List.{AllByRecursion}
use Rattle.si_defs.specs.Terms.{Term, var, substitute}

-- x is one of these
abbrev pub IsAmong : {V : Type 0} → List V → V → Type 0
IsAmong [] x = ⊥
IsAmong (y ∷ ys) x = (y ≡ x) ⊎ IsAmong ys x

-- no two of these are equal
abbrev pub AreDistinct : {V : Type 0} → List V → Type 0
AreDistinct [] = Unit {0}
AreDistinct (x ∷ xs) = (IsAmong xs x → ⊥) × AreDistinct xs

-- the list is the old one with others after it
abbrev pub Grows : {V : Type 0} → List V → List V → Type 0
Grows {V} old new = (more : List V) × (new ≡ old ++ more)

-- A finite map is a list of pairs; the first pair of a variable counts. A list of bindings has the
-- same form.
abbrev pub Substitution : Type 0 → Type 0 → Type 0
Substitution S V = List (V × Term S V)

module _ {S V : Type 0} where
  -- `same` tells variables apart. A variable without a pair stays.
  abbrev pub image : (V → V → Bool) → List (V × Term S V) → V → Term S V
  image same [] x = var x
  image same (pair ∷ pairs) x = cond (same pair.0 x) pair.1 (image same pairs x)

  -- the term with all its variables replaced at once
  abbrev pub apply : (V → V → Bool) → List (V × Term S V) → Term S V → Term S V
  apply same pairs t = substitute (image same pairs) t

  -- the variables of a list of pairs
  abbrev pub lefts : List (V × Term S V) → List V
  lefts [] = []
  lefts (pair ∷ pairs) = pair.0 ∷ lefts pairs

  abbrev pub rights : List (V × Term S V) → List (Term S V)
  rights [] = []
  rights (pair ∷ pairs) = pair.1 ∷ rights pairs

  -- the map replaces none but these variables
  abbrev pub IsOn : List V → List (V × Term S V) → Type 0
  IsOn xs pairs = AllByRecursion (IsAmong xs) (lefts pairs)
