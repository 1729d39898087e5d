-- Full stops outside brackets, which end items.
use Rattle.std.specs.Prelude.{◌≡◌, ℕ, ◌⊎◌, List, [], ◌∷◌}
use Rattle.si_defs.specs.Tokens.{Token}
use Rattle.si_defs.specs.Grammar.{full_stop, open_behind}

-- this token is a full stop, and no brackets are open before it
abbrev pub IsFullStop : ℕ → Token → Type 0
IsFullStop depth t = (depth ≡ 0) × (t ≡ full_stop)

-- no full stop stands outside brackets, where this many are open before
abbrev pub HasNoFullStop : ℕ → List Token → Type 0
HasNoFullStop depth [] = Unit {0}
HasNoFullStop depth (t ∷ ts) = (IsFullStop depth t → ⊥) × HasNoFullStop (open_behind depth t) ts

-- after a full stop outside brackets nothing stands
abbrev pub GoesToFullStop : ℕ → List Token → Type 0
GoesToFullStop depth [] = Unit {0}
GoesToFullStop depth (t ∷ ts) =
    (IsFullStop depth t → ts ≡ []) × GoesToFullStop (open_behind depth t) ts

-- the last token is a full stop outside brackets, and no earlier one is
abbrev pub EndsAtFullStop : ℕ → List Token → Type 0
EndsAtFullStop depth [] = ⊥
EndsAtFullStop depth (t ∷ ts) =
    (IsFullStop depth t × (ts ≡ []))
    ⊎ ((IsFullStop depth t → ⊥) × EndsAtFullStop (open_behind depth t) ts)

-- the number of brackets that are open after some tokens, where this many are open before
abbrev pub depth_from : ℕ → List Token → ℕ
depth_from depth [] = depth
depth_from depth (t ∷ ts) = depth_from (open_behind depth t) ts
