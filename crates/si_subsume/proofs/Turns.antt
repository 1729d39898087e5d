-- How long the search may go on.
use Rattle.std.proofs.Common.{ℕ, zero, suc, ◌+◌, ◌-◌, ◌<◌, ◌≤◌, List, [], ◌∷◌, ◌++◌, length, sym, subst, inl, inr, arith}
use Rattle.si_subsume.specs.declared.search.Choice.{Choice}
use Rattle.si_subsume.specs.Search.{TakesTurn}

-- k multiple w
abbrev pub multiple : ℕ → ℕ → ℕ
multiple zero w = 0
multiple (suc k) w = w + multiple k w

-- for so many literals that are left, with so many targets
abbrev pub most_turns : ℕ → ℕ → ℕ
most_turns targets zero = 1
most_turns targets (suc left) = 2 + multiple targets (most_turns targets left)

abbrev pub turns_left : ℕ → List Choice → ℕ → ℕ → ℕ
turns_left targets [] from zero = 0
turns_left targets [] from (suc left) = 1 + multiple (targets - from) (most_turns targets left)
turns_left targets (choice ∷ choices) from zero = 0
turns_left targets (choice ∷ choices) from (suc left) =
    1 + multiple (targets - suc choice.number)
    (most_turns targets left) + turns_left targets choices from left

-- ---- it falls
times_more : (j k w : ℕ) → j ≤ k → multiple j w ≤ multiple k w
times_more zero k w h = omega arith
times_more (suc j) zero w h = absurd (omega (arith, h))
times_more (suc j) (suc k) w h = omega (arith, times_more j k w (omega (arith, h)))

-- more turns than those of the literals that are left
fewer : (n left : ℕ) → turns_left n [] 0 left < most_turns n left
fewer n zero = omega arith
fewer n (suc left) = omega (arith, times_more (n - 0) n (most_turns n left) (omega arith))

some_left : (n from left : ℕ) → 0 < left → 0 < turns_left n [] from left
some_left n from zero h = absurd (omega (arith, h))
some_left n from (suc left) h = omega arith

one_chosen : (n from left : ℕ) (choice : Choice) → from ≤ choice.number → choice.number < n → turns_left n (choice ∷ []) 0 (suc left) < turns_left n [] from (suc left)
one_chosen n from left choice at_least below =
    omega (
      arith,
      fewer n left,
      times_more (suc (n - suc choice.number)) (n - from) (most_turns n left) (omega (arith, at_least, below)),
    )

-- a choice is made
turns_pushed : (n from left : ℕ) (choices : List Choice) (choice : Choice)
    → length choices < left
    → from ≤ choice.number
    → choice.number < n
    → turns_left n (choices ++ choice ∷ []) 0 left < turns_left n choices from left
turns_pushed n from zero choices choice some at_least below = absurd (omega (arith, some))
turns_pushed n from (suc left) [] choice some at_least below = one_chosen n from left choice at_least below
turns_pushed n from (suc left) (c ∷ choices) choice some at_least below = omega (arith, turns_pushed n from left choices choice (omega (arith, some)) at_least below)

-- a choice is taken back
turns_popped : (n from next left : ℕ) (choices : List Choice) (choice : Choice)
    → length (choices ++ choice ∷ []) < left
    → choice.number < next
    → turns_left n choices next left < turns_left n (choices ++ choice ∷ []) from left
turns_popped n from next zero choices choice some above = absurd (omega (arith, some))
turns_popped n from next (suc left) [] choice some above =
    omega (
      arith,
      some_left n from left (omega (arith, some)),
      times_more (n - next) (n - suc choice.number) (most_turns n left) (omega (arith, above)),
    )
turns_popped n from next (suc left) (c ∷ choices) choice some above = omega (arith, turns_popped n from next left choices choice (omega (arith, some)) above)

-- so each turn leaves fewer
pub turns_fall : (n from next left : ℕ) (old new : List Choice) → length old < left → TakesTurn n old from new next → turns_left n new next left < turns_left n old from left
turns_fall n from next left old new some (inl made) =
    subst (λ k. turns_left n new k left < turns_left n old from left) (sym made.4)
    (subst (λ cs. turns_left n cs 0 left < turns_left n old from left) (sym made.1)
    (turns_pushed n from left old made.0 some made.2 made.3))
turns_fall n from next left old new some (inr back) =
    subst (λ cs. turns_left n new next left < turns_left n cs from left) (sym back.1)
    (turns_popped n from next left new back.0 (subst (λ cs. length cs < left) back.1 some) back.2)
