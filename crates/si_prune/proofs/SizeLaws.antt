-- Sizes of terms under bindings.
use Rattle.std.proofs.Common.{◌≡◌, ℕ, ◌+◌, ◌≤◌, cond, ◌==◌, inl, inr, List, [], ◌∷◌, ◌++◌, refl, sym, ap, subst, arith}
use Rattle.std.proofs.lemmas.Bool.{eq-eqb}
use Rattle.std.proofs.lemmas.Bool.Decides.{eqb_tells}
use Rattle.si_defs.specs.Terms as terms
use Rattle.si_defs.specs.Substitutions.{IsAmong, AreDistinct}
use Rattle.si_flat.specs.Cells.{query, entry, ind, Term, Terms}
use Rattle.si_flat.specs.Rows.{left_sides}
use Rattle.si_legal.specs.Bindings.{Binding, indicators, right_sizes, applied}
use Rattle.si_legal.proofs.Splitting.{indicators_all, indicators-more}
use Rattle.si_changes.proofs.ComposeLaws.{bound}
use Rattle.si_changes.proofs.FewOpened.{one_gone, others_left, total, total-append}
use Rattle.si_changes.proofs.HeadLaws.{image_keeps}
use Rattle.si_changes.proofs.WeightLaws.{applied_all}

-- ---- the right sides of one indicator
-- the cells of all right sides that it has
abbrev right_size : List Binding → ℕ → ℕ
right_size [] n = 0
right_size (b ∷ bs) n = cond (b.0 == n) (terms.size b.1) 0 + right_size bs n

unbound_size : (bs : List Binding) (n : ℕ) → (IsAmong (left_sides bs) n → ⊥) → right_size bs n ≡ 0
unbound_size [] n other = refl
unbound_size (b ∷ bs) n other = elim (eqb_tells b.0 n) as (λ _. right_size (b ∷ bs) n ≡ 0) [
  | inl e ↦ absurd (other (inl e.1))
  | inr e ↦ omega (arith, ap (λ t. cond t (terms.size b.1) 0) e.0, unbound_size bs n (λ a. other (inr a)))
]

bound_small : (bs : List Binding) (n : ℕ) → terms.size (bound bs n) ≤ 1 + right_size bs n
bound_small [] n = omega arith
bound_small (b ∷ bs) n = elim (eqb_tells b.0 n) as (λ _. terms.size (bound (b ∷ bs) n) ≤ 1 + right_size (b ∷ bs) n) [
  | inl e ↦ omega (arith, ap (λ t. terms.size (cond t b.1 (bound bs n))) e.0, ap (λ t. cond t (terms.size b.1) 0) e.0)
  | inr e ↦ omega (arith, ap (λ t. terms.size (cond t b.1 (bound bs n))) e.0, bound_small bs n)
]

bound_large : (bs : List Binding) (n : ℕ) → AreDistinct (left_sides bs) → right_size bs n ≤ terms.size (bound bs n)
bound_large [] n distinct = omega arith
bound_large (b ∷ bs) n distinct = elim (eqb_tells b.0 n) as (λ _. right_size (b ∷ bs) n ≤ terms.size (bound (b ∷ bs) n)) [
  | inl e ↦
      omega (arith, ap (λ t. terms.size (cond t b.1 (bound bs n))) e.0, ap (λ t. cond t (terms.size b.1) 0) e.0, unbound_size bs n (subst (λ m. IsAmong (left_sides bs) m → ⊥) e.1 distinct.0))
  | inr e ↦
      omega (arith, ap (λ t. terms.size (cond t b.1 (bound bs n))) e.0, ap (λ t. cond t (terms.size b.1) 0) e.0, bound_large bs n distinct.1)
]

-- ---- of many
none_of : (left size : ℕ) (ns : List ℕ) → (IsAmong ns left → ⊥) → total (λ n. cond (left == n) size 0) ns ≡ 0
none_of left size [] other = refl
none_of left size (n ∷ ns) other = elim (eqb_tells left n) as (λ _. total (λ m. cond (left == m) size 0) (n ∷ ns) ≡ 0) [
  | inl e ↦ absurd (other (inl (sym e.1)))
  | inr e ↦ omega (arith, ap (λ t. cond t size 0) e.0, none_of left size ns (λ a. other (inr a)))
]

one_of : (left size : ℕ) (ns : List ℕ) → AreDistinct ns → total (λ n. cond (left == n) size 0) ns ≤ size
one_of left size [] distinct = omega arith
one_of left size (n ∷ ns) distinct = elim (eqb_tells left n) as (λ _. total (λ m. cond (left == m) size 0) (n ∷ ns) ≤ size) [
  | inl e ↦ omega (arith, ap (λ t. cond t size 0) e.0, none_of left size ns (subst (λ m. IsAmong ns m → ⊥) (sym e.1) distinct.0))
  | inr e ↦ omega (arith, ap (λ t. cond t size 0) e.0, one_of left size ns distinct.1)
]

none_bound : (ns : List ℕ) → total (right_size []) ns ≡ 0
none_bound [] = refl
none_bound (n ∷ ns) = omega (arith, none_bound ns)

one_apart : (b : Binding) (bs : List Binding) (ns : List ℕ) → total (right_size (b ∷ bs)) ns ≡ total (λ n. cond (b.0 == n) (terms.size b.1) 0) ns + total (right_size bs) ns
one_apart b bs [] = refl
one_apart b bs (n ∷ ns) = omega (arith, one_apart b bs ns)

-- distinct indicators have no more on their right sides than all
few_right : (bs : List Binding) (ns : List ℕ) → AreDistinct ns → total (right_size bs) ns ≤ right_sizes bs
few_right [] ns distinct = omega (arith, none_bound ns)
few_right (b ∷ bs) ns distinct = omega (arith, one_apart b bs ns, one_of b.0 (terms.size b.1) ns distinct, few_right bs ns distinct)

-- and all left sides as much
all_right : (bs : List Binding) (ns : List ℕ) → AreDistinct (left_sides bs) → ((n : ℕ) → IsAmong (left_sides bs) n → IsAmong ns n) → right_sizes bs ≤ total (right_size bs) ns
all_right [] ns distinct within = omega arith
all_right (b ∷ bs) ns distinct within =
    let part = one_gone ns b.0 (within b.0 (inl refl)) in
    let f : ℕ → ℕ = λ n. cond (b.0 == n) (terms.size b.1) 0 in
    let rest = all_right bs (part.0 ++ part.1) distinct.1 (others_left (left_sides bs) ns b.0 part.0 part.1 part.2 distinct.0 (λ n a. within n (inr a))) in
    let here = ap (λ t. cond t (terms.size b.1) 0) (eq-eqb b.0 b.0 refl) in
    omega (
      arith,
      rest,
      here,
      one_apart b bs ns,
      ap (total (right_size bs)) part.2,
      ap (total f) part.2,
      total-append f part.0 (b.0 ∷ part.1),
      total-append (right_size bs) part.0 (b.0 ∷ part.1),
      total-append (right_size bs) part.0 part.1,
    )

-- ---- a term
mutual
  larger : (bs : List Binding) (t : Term) → terms.size (applied bs t) ≤ terms.size t + total (right_size bs) (indicators t)
  larger bs (terms.var (query n)) = omega (arith, ap terms.size ((image_keeps bs).queries n))
  larger bs (terms.var (entry n)) = omega (arith, ap terms.size ((image_keeps bs).entries n))
  larger bs (terms.var (ind n)) = omega (arith, bound_small bs n)
  larger bs (terms.app s ts) = omega (arith, all_larger bs ts)

  all_larger : (bs : List Binding) (ts : Terms) → terms.sizes (applied_all bs ts) ≤ terms.sizes ts + total (right_size bs) (indicators_all ts)
  all_larger bs terms.none = omega arith
  all_larger bs (terms.more t ts) =
      omega (arith, larger bs t, all_larger bs ts, ap (total (right_size bs)) (indicators-more t ts), total-append (right_size bs) (indicators t) (indicators_all ts))

mutual
  no_larger : (bs : List Binding) (t : Term) → AreDistinct (left_sides bs) → total (right_size bs) (indicators t) ≤ terms.size (applied bs t)
  no_larger bs (terms.var (query n)) distinct = omega arith
  no_larger bs (terms.var (entry n)) distinct = omega arith
  no_larger bs (terms.var (ind n)) distinct = omega (arith, bound_large bs n distinct)
  no_larger bs (terms.app s ts) distinct = omega (arith, none_larger bs ts distinct)

  none_larger : (bs : List Binding) (ts : Terms) → AreDistinct (left_sides bs) → total (right_size bs) (indicators_all ts) ≤ terms.sizes (applied_all bs ts)
  none_larger bs terms.none distinct = omega arith
  none_larger bs (terms.more t ts) distinct =
      omega (arith, no_larger bs t distinct, none_larger bs ts distinct, ap (total (right_size bs)) (indicators-more t ts), total-append (right_size bs) (indicators t) (indicators_all ts))

-- A term in which each indicator stands once gets no larger than by all right sides.
pub applied_small : (bs : List Binding) (t : Term) → AreDistinct (indicators t) → terms.size (applied bs t) ≤ terms.size t + right_sizes bs
applied_small bs t once = omega (arith, larger bs t, few_right bs (indicators t) once)

-- Where each left side stands in a term, it gets as large as all right sides at least.
pub rights_small : (bs : List Binding) (t : Term) → AreDistinct (left_sides bs) → ((n : ℕ) → IsAmong (left_sides bs) n → IsAmong (indicators t) n) → right_sizes bs ≤ terms.size (applied bs t)
rights_small bs t distinct within = omega (arith, all_right bs (indicators t) distinct within, no_larger bs t distinct)
