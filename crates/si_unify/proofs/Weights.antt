-- A list of bindings that has a solution is triangular: the weight of a slot is the size of its
-- image, and then its rank.
use Rattle.std.proofs.Common.{◌≡◌, ℕ, ◌+◌, ◌*◌, ◌<◌, ◌≤◌, List, [], ◌∷◌, length, refl, sym, ◌∙◌, ap, subst, arith}
use Rattle.std.proofs.Math.Nat.{mul-le-mul_left}
use Rattle.std.specs.List.{AllByRecursion}
use Rattle.si_defs.specs.Terms as terms
use Rattle.si_defs.proofs.ListLaws.{all_with, all_append}
use Rattle.si_flat.specs.declared.Cell.{Cell}
use Rattle.si_flat.specs.declared.Cell.TheVariants as cell
use Rattle.si_flat.specs.Cells.{Variable, query, entry, ind, Term, Terms, variable_cell, cells_of, cells_of_all}
use Rattle.si_unify.specs.declared.slots.Slots.{Slots}
use Rattle.si_unify.specs.Solving.{Pairs, slot_of, variable_of, IsInRange, CellIsInRange, AreInRange, Equalizes, IsSolvedBy, IsBinding, RanksBelow, IsAcyclic}
use Rattle.si_unify.specs.Spots.{ChainComesDown, ComesDown, IsChained}
use Rattle.si_unify.proofs.Places.{variable_of-slot_of, in_range-variable}
use Rattle.si_unify.proofs.Meeting.{slot_of-cell}

-- the image of a variable's cell is no larger than this
abbrev pub FitsIn : (Variable → Term) → ℕ → Cell → Type 0
FitsIn f n (cell.App s a m) = Unit {0}
FitsIn f n (cell.Query k) = terms.size (f (query k)) ≤ n
FitsIn f n (cell.Entry k) = terms.size (f (entry k)) ≤ n
FitsIn f n (cell.Ind k) = terms.size (f (ind k)) ≤ n

fits_variable : (f : Variable → Term) (n : ℕ) (x : Variable) → terms.size (f x) ≤ n → FitsIn f n (variable_cell x)
fits_variable f n (query k) h = h
fits_variable f n (entry k) h = h
fits_variable f n (ind k) h = h

mutual
  pub fits : (f : Variable → Term) (n : ℕ) (t : Term) → terms.size (terms.substitute f t) ≤ n → AllByRecursion (FitsIn f n) (cells_of t)
  fits f n (terms.var x) h = (fits_variable f n x h, tt)
  fits f n (terms.app s ts) h = (tt, fits_all f n ts (omega (arith, h)))

  pub fits_all : (f : Variable → Term) (n : ℕ) (ts : Terms) → terms.sizes (terms.substitute_all f ts) ≤ n → AllByRecursion (FitsIn f n) (cells_of_all ts)
  fits_all f n terms.none h = tt
  fits_all f n (terms.more t ts) h = all_append (FitsIn f n) (cells_of t) (cells_of_all ts) (fits f n t (omega (arith, h))) (fits_all f n ts (omega (arith, h)))

-- the greater size has the greater weight, whatever the ranks
pub weight_by_size : (a b k p q : ℕ) → a < b → p < k → a * k + p < b * k + q
weight_by_size a b k p q less few = let e = mul-le-mul_left k (suc_le a b less) in omega (arith, e, few)
  where
    suc_le : (a b : ℕ) → a < b → a + 1 ≤ b
    suc_le a b h = omega (arith, h)

module _ (slots : Slots) (pairs : Pairs) (chained : IsChained slots pairs) (f : Variable → Term) where
  -- the weight of a slot
  abbrev pub weight_of : ℕ → ℕ
  weight_of z = terms.size (f (variable_of slots z)) * (1 + length pairs) + chained.rank z

  lighter : (x : Variable) (m z : ℕ) → IsInRange slots x → terms.size (f x) ≤ m → m < terms.size (f (variable_of slots z)) → weight_of (slot_of slots x) < weight_of z
  lighter x m z range fit less =
      let same : terms.size (f (variable_of slots (slot_of slots x))) ≡ terms.size (f x) = ap (λ y. terms.size (f y)) (variable_of-slot_of slots x range) in
      let few = chained.few (slot_of slots x) in
      weight_by_size _ _ (1 + length pairs) (chained.rank (slot_of slots x)) (chained.rank z) (omega (arith, same, fit, less)) (omega (arith, few))

  ranks_of_fit : (m z : ℕ) (c : Cell) → m < terms.size (f (variable_of slots z)) → CellIsInRange slots c → FitsIn f m c → RanksBelow slots weight_of z c
  ranks_of_fit m z (cell.App s a n) less range fit = tt
  ranks_of_fit m z (cell.Query k) less range fit = lighter (query k) m z range fit less
  ranks_of_fit m z (cell.Entry k) less range fit = lighter (entry k) m z range fit less
  ranks_of_fit m z (cell.Ind k) less range fit = lighter (ind k) m z range fit less

  -- a bare variable's slot has a smaller rank and an image of the same size
  bare : (x : Variable) (z : ℕ) → IsInRange slots x → f (variable_of slots z) ≡ f x → chained.rank (slot_of slots x) < chained.rank z → weight_of (slot_of slots x) < weight_of z
  bare x z range e less =
      let same : terms.size (f (variable_of slots (slot_of slots x))) * (1 + length pairs) ≡ terms.size (f (variable_of slots z)) * (1 + length pairs) =
      ap (λ y. terms.size y * (1 + length pairs)) (ap f (variable_of-slot_of slots x range) ∙ sym e) in
      omega (arith, same, less)

  ranks_of_variable : (x : Variable) (z : ℕ) → weight_of (slot_of slots x) < weight_of z → RanksBelow slots weight_of z (variable_cell x)
  ranks_of_variable (query k) z h = h
  ranks_of_variable (entry k) z h = h
  ranks_of_variable (ind k) z h = h

  value_ranks :
      (z : ℕ) (u : Term) (cells : List Cell)
      → cells ≡ cells_of u
      → AreInRange slots cells
      → ComesDown slots chained.rank z cells
      → f (variable_of slots z) ≡ terms.substitute f u
      → AllByRecursion (RanksBelow slots weight_of z) cells
  value_ranks z (terms.var x) cells is range down e =
      let range_x : AreInRange slots (variable_cell x ∷ []) = subst (AreInRange slots) is range in
      let down_x : ComesDown slots chained.rank z (variable_cell x ∷ []) = subst (ComesDown slots chained.rank z) is down in
      let less : chained.rank (slot_of slots x) < chained.rank z = subst (ChainComesDown chained.rank z) (slot_of-cell slots x) down_x in
      subst (AllByRecursion (RanksBelow slots weight_of z)) (sym is)
      (ranks_of_variable x z (bare x z (in_range-variable slots x range_x.0) e less), tt)
  value_ranks z (terms.app s ts) cells is range down e =
      let range_u : AreInRange slots (cells_of (terms.app s ts)) = subst (AreInRange slots) is range in
      let m : ℕ = terms.sizes (terms.substitute_all f ts) in
      let less : terms.sizes (terms.substitute_all f ts) < terms.size (f (variable_of slots z)) = omega (arith, ap terms.size e) in
      subst (AllByRecursion (RanksBelow slots weight_of z)) (sym is) (
        tt,
        all_with (CellIsInRange slots) (FitsIn f (terms.sizes (terms.substitute_all f ts))) (RanksBelow slots weight_of z) (cells_of_all ts)
            (λ c r k. ranks_of_fit (terms.sizes (terms.substitute_all f ts)) z c less r k)
            range_u.1 (fits_all f (terms.sizes (terms.substitute_all f ts)) ts (omega arith)),
      )

-- a list of bindings that has a solution is triangular
pub triangular_of_solved : (slots : Slots) (pairs : Pairs) (f : Variable → Term) → AllByRecursion (IsBinding slots) pairs → IsChained slots pairs → IsSolvedBy slots pairs f → IsAcyclic slots pairs
triangular_of_solved slots pairs f bindings chained solved = (
  weight_of slots pairs chained f,
  all_with (λ pair. IsBinding slots pair × ComesDown slots chained.rank pair.0 pair.1.now) (λ pair. Equalizes f (variable_cell (variable_of slots pair.0) ∷ []) pair.1.now)
      (λ pair. AllByRecursion (RanksBelow slots (weight_of slots pairs chained f) pair.0) pair.1.now) pairs
      (λ pair h equal.
      value_ranks slots pairs chained f pair.0 h.0.whole.0 pair.1.now h.0.whole.1.cells_are h.0.in_range h.1
      (equal (terms.var (variable_of slots pair.0)) h.0.whole.0 (record { cells_are = refl; sound = tt }) h.0.whole.1))
      (
      all_with (IsBinding slots) (λ pair. ComesDown slots chained.rank pair.0 pair.1.now) (λ pair. IsBinding slots pair × ComesDown slots chained.rank pair.0 pair.1.now) pairs
      (λ pair b d. (b, d)) bindings chained.down
      )
      solved.equal,
)
