-- A split has no more fresh indicators than its node has symbols and variables.
use Rattle.std.proofs.Common.{◌≡◌, ℕ, zero, suc, ◌+◌, ◌<◌, ◌≤◌, ◌^◌, Bool, true, false, cond, List, [], ◌∷◌, length, filter, None, Some, refl, sym, ap, subst, arith, length-append}
use Rattle.std.specs.Prelude.{nat_le}
use Rattle.std.proofs.lemmas.Option.{same_Some}
use Rattle.si_defs.specs.Terms as terms
use Rattle.si_flat.specs.Cells.{Variable, query, entry, ind, Term, Terms}
use Rattle.si_flat.specs.Rows.{left_sides}
use Rattle.si_legal.specs.Bindings.{Binding, indicators, indicators_among, right_indicators, right_sizes}
use Rattle.si_legal.specs.Generalizations.{same_head, argument_in, StandsAt, HasPosition, Sides, sides, agreeing, AreCommon, fresh_among, MaySplit, Splits}
use Rattle.si_changes.proofs.NewLeaves.{variables_few}
use Rattle.si_changes.proofs.DivideLaws.{fresh_list}

-- ---- a term whose positions all stand in another
abbrev InArguments : ℕ → List ℕ → Terms → Term → Type 0
InArguments n path ts a = (u : Term) × (argument_in n ts ≡ Some u) × StandsAt path u a

size_some : (t : Term) → 1 ≤ terms.size t
size_some (terms.var x) = omega arith
size_some (terms.app s ts) = omega arith

no_argument : (u : Term) → None ≡ Some u → ⊥
no_argument u e = cc

mutual
  size_within : (c t : Term) → ((path : List ℕ) → HasPosition c path → HasPosition t path) → terms.size c ≤ terms.size t
  size_within (terms.var x) t each = size_some t
  size_within (terms.app s cs) (terms.var y) each = by cs each where
    by : (cs : Terms) → ((path : List ℕ) → HasPosition (terms.app s cs) path → HasPosition (terms.var y) path) → terms.size (terms.app s cs) ≤ 1
    by terms.none each = omega arith
    by (terms.more c cs) each = (let found = each (1 ∷ []) (c, (c, refl, refl)) in absurd (no_argument found.1.0 found.1.1))
  size_within (terms.app s cs) (terms.app r ts) each =
      omega (arith, sizes_within cs ts (λ n path a h. each (n ∷ path) (a, h)))

  sizes_within : (cs ts : Terms) → ((n : ℕ) (path : List ℕ) (a : Term) → InArguments n path cs a → (b : Term) × InArguments n path ts b) → terms.sizes cs ≤ terms.sizes ts
  sizes_within terms.none ts each = omega arith
  sizes_within (terms.more c cs) terms.none each =
      (let found = each 1 [] c (c, refl, refl) in absurd (no_argument found.1.0 found.1.1))
  sizes_within (terms.more c cs) (terms.more t ts) each =
      omega (arith, size_within c t first, sizes_within cs ts rest) where
        first : (path : List ℕ) → HasPosition c path → HasPosition t path
        first path h =
            let found = each 1 path h.0 (c, refl, h.1) in
            (found.0, subst (λ u. StandsAt path u found.0) (sym (same_Some t found.1.0 found.1.1)) found.1.2)

        rest : (n : ℕ) (path : List ℕ) (a : Term) → InArguments n path cs a → (b : Term) × InArguments n path ts b
        rest zero path a h = absurd (by cs h.1) where
          by : (cs : Terms) → argument_in 0 cs ≡ Some h.0 → ⊥
          by terms.none e = no_argument h.0 e
          by (terms.more d ds) e = no_argument h.0 e
        rest (suc n) path a h = each (suc (suc n)) path a h

-- ---- lists
abbrev node_sizes : List Sides → ℕ
node_sizes [] = 0
node_sizes (s ∷ ss) = terms.size s.node + node_sizes ss

common_sizes : (next : ℕ) (ss : List Sides) (cs : List Binding) → AreCommon next ss cs → right_sizes cs ≤ node_sizes ss
common_sizes next [] [] are = omega arith
common_sizes next [] (c ∷ cs) are = absurd are
common_sizes next (s ∷ ss) [] are = omega arith
common_sizes next (s ∷ ss) (c ∷ cs) are =
    omega (arith, size_within c.1 s.node (λ path h. ((are.1.positions path).0 h).0), common_sizes next ss cs are.2)

fewer_sizes : (test : Sides → Bool) (ss : List Sides) → node_sizes (filter test ss) ≤ node_sizes ss
fewer_sizes test [] = omega arith
fewer_sizes test (s ∷ ss) = by (test s) (fewer_sizes test ss) where
  by : (b : Bool) → node_sizes (filter test ss) ≤ node_sizes ss → node_sizes (cond b (s ∷ filter test ss) (filter test ss)) ≤ node_sizes (s ∷ ss)
  by true h = omega (arith, h)
  by false h = omega (arith, h)

side_sizes : (node new : List Binding) → node_sizes (sides node new) ≤ right_sizes node
side_sizes [] new = omega arith
side_sizes (b ∷ node) [] = omega arith
side_sizes (b ∷ node) (c ∷ new) = omega (arith, side_sizes node new)

indicators_few : (xs : List Variable) → length (indicators_among xs) ≤ length xs
indicators_few [] = omega arith
indicators_few (query n ∷ xs) = omega (arith, indicators_few xs)
indicators_few (entry n ∷ xs) = omega (arith, indicators_few xs)
indicators_few (ind n ∷ xs) = omega (arith, indicators_few xs)

rights_few : (bs : List Binding) → length (right_indicators bs) ≤ right_sizes bs
rights_few [] = omega arith
rights_few (b ∷ bs) = omega (arith, length-append (indicators b.1) (right_indicators bs), indicators_few (terms.variables b.1), variables_few b.1, rights_few bs)

fresh_few : (test : ℕ → Bool) (ns : List ℕ) → length (filter test ns) ≤ length ns
fresh_few test [] = omega arith
fresh_few test (n ∷ ns) = by (test n) (fresh_few test ns) where
  by : (b : Bool) → length (filter test ns) ≤ length ns → length (cond b (n ∷ filter test ns) (filter test ns)) ≤ length (n ∷ ns)
  by true h = omega (arith, h)
  by false h = omega (arith, h)

-- the next number after a split is still a small one
pub next_fits : (next : ℕ) (node new common rest_node rest_new : List Binding) → MaySplit next node new → Splits next node new common rest_node rest_new → next + length (fresh_among next (left_sides rest_node)) < 2 ^ 31
next_fits next node new common rest_node rest_new may splits =
    omega (
      arith,
      may.room,
      ap length (fresh_list next node new common rest_node rest_new may splits),
      fresh_few (λ n. nat_le next n) (right_indicators common),
      rights_few common,
      common_sizes next (agreeing (sides node new)) common splits.common_part.terms,
      fewer_sizes (λ s. same_head s.node s.new) (sides node new),
      side_sizes node new,
    )
