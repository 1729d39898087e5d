-- What two lists of bindings have in common, and what is left of each.
use Rattle.std.specs.Prelude.{◌≡◌, List, [], ◌∷◌}
use Rattle.si_legal.specs.Bindings.{Binding, indicator, composed}
use Rattle.si_legal.specs.Generalizations.{Splits}
use Rattle.si_tree_examples.specs.SomeTerms.{f, g, a, b, c}

-- f(a,g(b)) and f(c,g(b)) have f(*1,g(b)) in common
abbrev pub FreshIndicator : Type 0
FreshIndicator =
    Splits 1
    ((0, f (a ∷ g b ∷ [])) ∷ [])
    ((0, f (c ∷ g b ∷ [])) ∷ [])
    ((0, f (indicator 1 ∷ g b ∷ [])) ∷ [])
    ((1, a) ∷ [])
    ((1, c) ∷ [])

-- an indicator of the node stays, and only the new list leaves something at it
abbrev pub KeptIndicator : Type 0
KeptIndicator =
    Splits 2
    ((0, f (indicator 1 ∷ a ∷ [])) ∷ [])
    ((0, f (b ∷ c ∷ [])) ∷ [])
    ((0, f (indicator 1 ∷ indicator 2 ∷ [])) ∷ [])
    ((2, a) ∷ [])
    ((1, b) ∷ (2, c) ∷ [])

-- where two right sides differ at the root, they are left whole
abbrev pub WholeRightSide : Type 0
WholeRightSide =
    Splits 3
    ((1, a) ∷ (2, b) ∷ [])
    ((1, a) ∷ (2, c) ∷ [])
    ((1, a) ∷ [])
    ((2, b) ∷ [])
    ((2, c) ∷ [])

-- f(*1,*2) is a common generalization too, but not the most specific one
abbrev pub NoGeneralPart : Type 0
NoGeneralPart =
    (rest_node rest_new : List Binding)
    → Splits 1
    ((0, f (a ∷ g b ∷ [])) ∷ [])
    ((0, f (c ∷ g b ∷ [])) ∷ [])
    ((0, f (indicator 1 ∷ indicator 2 ∷ [])) ∷ [])
    rest_node
    rest_new
    → ⊥

-- the rests have the order in which their indicators occur in the common part
abbrev pub NoOtherOrder : Type 0
NoOtherOrder =
    Splits 2
    ((0, f (indicator 1 ∷ a ∷ [])) ∷ [])
    ((0, f (b ∷ c ∷ [])) ∷ [])
    ((0, f (indicator 1 ∷ indicator 2 ∷ [])) ∷ [])
    ((2, a) ∷ [])
    ((2, c) ∷ (1, b) ∷ [])
    → ⊥

-- a fresh indicator isn't below the number that is given
abbrev pub NoLowIndicator : Type 0
NoLowIndicator =
    (rest_node rest_new : List Binding)
    → Splits 3
    ((0, f (a ∷ g b ∷ [])) ∷ [])
    ((0, f (c ∷ g b ∷ [])) ∷ [])
    ((0, f (indicator 1 ∷ g b ∷ [])) ∷ [])
    rest_node
    rest_new
    → ⊥

-- each rest is that of its own list
abbrev pub NoSwappedRests : Type 0
NoSwappedRests =
    Splits 1
    ((0, f (a ∷ g b ∷ [])) ∷ [])
    ((0, f (c ∷ g b ∷ [])) ∷ [])
    ((0, f (indicator 1 ∷ g b ∷ [])) ∷ [])
    ((1, c) ∷ [])
    ((1, a) ∷ [])
    → ⊥

-- what the second list binds on a right side of the first is put in, and its other bindings follow
abbrev pub ComposedBindings : Type 0
ComposedBindings =
    composed ((0, f (indicator 1 ∷ indicator 2 ∷ [])) ∷ []) ((3, a) ∷ (1, b) ∷ [])
    ≡ (0, f (b ∷ indicator 2 ∷ [])) ∷ (3, a) ∷ []
