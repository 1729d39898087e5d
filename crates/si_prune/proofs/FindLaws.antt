-- What is found in bindings, and among numbers, that are in order.
use Rattle.std.proofs.Common.{◌≡◌, ◌≢◌, ◌<◌, ◌≤◌, ℕ, All, cond, ◌==◌, inl, inr, List, [], ◌∷◌, length, get_or, Bor, Option, None, Some, IfNone, IfSome, Result, Ok, Err, refl, sym, ◌∙◌, ap, subst, arith}
use Rattle.std.specs.Prelude.{is_ok, MatchResult}
use Rattle.std.specs.List.{list_any, HoldsAt}
use Rattle.std.specs.List.Sorted.{IsBinarySearchResult, IsNonDecreasingBy, IsPartitionPoint, IsPermutation}
use Rattle.std.specs.Ordering.{nat_cmp, ordering_index}
use Rattle.std.specs.declared.cmp.Ordering.TheVariants.{Less, Equal, Greater}
use Rattle.std.proofs.lemmas.Bool.{eq-eqb, cases_lt}
use Rattle.std.proofs.lemmas.Bool.Decides.{eqb_tells, nat_tests}
use Rattle.std.proofs.lemmas.Cmp.{ranked}
use Rattle.std.proofs.lemmas.List.Elements.{All-from_recursion, recursion_from_All}
use Rattle.std.proofs.lemmas.List.Folds.{list_any_at}
use Rattle.std.proofs.lemmas.List.Sorted.{All-permutation, IsPermutation-sym, list_any-IsPermutation, searched}
use Rattle.std.proofs.lemmas.List.{get_or_default}
use Rattle.std.proofs.lemmas.Option.{get_or_from_slice_get}
use Rattle.si_defs.specs.Substitutions.{IsAmong, AreDistinct}
use Rattle.si_defs.proofs.ListLaws.{all_at, all_from, get_some, get_among}
use Rattle.si_flat.specs.declared.Cell.{Cell}
use Rattle.si_flat.specs.declared.Cell.TheVariants as cell
use Rattle.si_flat.specs.Rows.{CellPair, left_sides}
use Rattle.si_legal.proofs.SplitLaws.{occurs_not}
use Rattle.si_prune.specs.Pruning.{AreInLeftOrder, AreNumbersInOrder, part_in}

-- ---- what is bound
among_left : (pairs : List CellPair) (pair : CellPair) → IsAmong pairs pair → IsAmong (left_sides pairs) pair.0
among_left [] pair a = absurd a
among_left (b ∷ pairs) pair (inl e) = inl (ap (λ p. p.0) e)
among_left (b ∷ pairs) pair (inr a) = inr (among_left pairs pair a)

part_other : (b : CellPair) (pairs : List CellPair) (n : ℕ) → b.0 ≢ n → part_in (b ∷ pairs) n ≡ part_in pairs n
part_other b pairs n apart = elim (eqb_tells b.0 n) as (λ _. part_in (b ∷ pairs) n ≡ part_in pairs n) [
  | inl e ↦ absurd (apart e.1)
  | inr e ↦ ap (λ test. cond test b.1 (part_in pairs n)) e.0
]

part_among : (pairs : List CellPair) (n : ℕ) (right : List Cell) → AreDistinct (left_sides pairs) → IsAmong pairs (n, right) → part_in pairs n ≡ right
part_among [] n right distinct a = absurd a
part_among (b ∷ pairs) n right distinct (inl e) =
    ap (λ test. cond test b.1 (part_in pairs n)) (eq-eqb b.0 n (ap (λ p. p.0) e)) ∙ ap (λ p. p.1) e
part_among (b ∷ pairs) n right distinct (inr a) =
    part_other b pairs n (λ e. distinct.0 (subst (IsAmong (left_sides pairs)) (sym e) (among_left pairs (n, right) a)))
    ∙ part_among pairs n right distinct.1 a

part_none : (pairs : List CellPair) (n : ℕ) → ((pair : CellPair) → IsAmong pairs pair → pair.0 ≢ n) → part_in pairs n ≡ cell.Ind n ∷ []
part_none [] n none = refl
part_none (b ∷ pairs) n none = part_other b pairs n (none b (inl refl)) ∙ part_none pairs n (λ pair a. none pair (inr a))

all_moved : (P : CellPair → Type 0) (pairs order : List CellPair) → IsPermutation pairs order → ((pair : CellPair) → IsAmong pairs pair → P pair) → (pair : CellPair) → IsAmong order pair → P pair
all_moved P pairs order same all pair a =
    all_at P order pair (recursion_from_All P order (All-permutation P pairs order same (All-from_recursion P pairs (all_from P pairs all)))) a

bound_found : (pairs order : List CellPair) (n : ℕ) (right : List Cell) → AreInLeftOrder pairs order → IsAmong order (n, right) → part_in pairs n ≡ right
bound_found pairs order n right h a =
    part_among pairs n right h.distinct (all_moved (IsAmong pairs) pairs order h.same (λ pair b. b) (n, right) a)

bound_nowhere : (pairs order : List CellPair) (n : ℕ) → AreInLeftOrder pairs order → All (λ pair. pair.0 ≢ n) order → part_in pairs n ≡ cell.Ind n ∷ []
bound_nowhere pairs order n h none =
    part_none pairs n (all_moved (λ pair. pair.0 ≢ n) order pairs (IsPermutation-sym pairs order h.same)
    (λ pair a. all_at (λ p. p.0 ≢ n) order pair (recursion_from_All (λ p. p.0 ≢ n) order none) a))

module _ (pairs order : List CellPair) (n : ℕ) (answer : Option (Bor (List Cell))) (h : AreInLeftOrder pairs order) where
  pub if_found : IfSome answer (λ right. IsAmong order (n, right.now)) → IfSome answer (λ right. part_in pairs n ≡ right.now)
  if_found = by answer where
    by : (o : Option (Bor (List Cell))) → IfSome o (λ right. IsAmong order (n, right.now)) → IfSome o (λ right. part_in pairs n ≡ right.now)
    by None found = tt
    by (Some right) found = bound_found pairs order n right.now h found

  pub if_nowhere : IfNone answer (All (λ pair. pair.0 ≢ n) order) → IfNone answer (part_in pairs n ≡ cell.Ind n ∷ [])
  if_nowhere = by answer where
    by : (o : Option (Bor (List Cell))) → IfNone o (All (λ pair. pair.0 ≢ n) order) → IfNone o (part_in pairs n ≡ cell.Ind n ∷ [])
    by None none = bound_nowhere pairs order n h none
    by (Some right) none = tt

-- ---- a search by halves
pub is_found : (order : List CellPair) (n place : ℕ) (pair : CellPair) (right : List Cell) → HoldsAt (λ p. nat_cmp p.0 n ≡ Equal) order place → place < length order
    → pair ≡ get_or order place pair → right ≡ pair.1 → IsAmong order (n, right)
is_found order n place pair right equal within is are =
    let got = get_some order place within in
    let same : pair ≡ got.0 = is ∙ get_or_from_slice_get order place got.0 pair got.1 in
    let left : pair.0 ≡ n = ap (λ p. p.0) is ∙ ranked _ n _ (sym (equal pair)) in
    subst (IsAmong order) (sym same ∙ (λ i. (left i, sym are i))) (get_among order place got.0 got.1)

comparisons_rise : (order : List CellPair) (n : ℕ) → IsNonDecreasingBy (λ p. p.0) order → IsNonDecreasingBy (λ p. ordering_index (nat_cmp p.0 n)) order
comparisons_rise order n rise i j d le within = higher (get_or order i d).0 (get_or order j d).0 (rise i j d le within) where
  higher : (a b : ℕ) → a ≤ b → ordering_index (nat_cmp a n) ≤ ordering_index (nat_cmp b n)
  higher a b le = grind (arith, nat_tests)

pub is_nowhere : (order : List CellPair) (n place : ℕ) → IsNonDecreasingBy (λ p. p.0) order
    → (IsNonDecreasingBy (λ p. ordering_index (nat_cmp p.0 n)) order → IsPartitionPoint (λ p. nat_cmp p.0 n ≡ Less) (λ p. nat_cmp p.0 n ≡ Greater) order place)
    → All (λ p. p.0 ≢ n) order
is_nowhere order n place rise parts k d within e =
    let parted = parts (comparisons_rise order n rise) in
    elim (cases_lt k place) as (λ _. ⊥) [
      | inl below ↦ omega (arith, e, ranked _ n _ (sym (parted.0 k d (omega arith) below)))
      | inr above ↦ omega (arith, e, ranked _ n _ (sym (parted.1 k d above within)))
    ]

-- ---- numbers
-- one stands neither before the place, nor from there on
abbrev IsGap : List ℕ → ℕ → ℕ → Type 0
IsGap order n i = (i ≤ length order) × ((k : ℕ) → k < i → get_or order k 0 < n) × ((k : ℕ) → i ≤ k → k < length order → n < get_or order k 0)

in_gap : (order : List ℕ) (n i : ℕ) → IsGap order n i → IsAmong order n → ⊥
in_gap order n i gap a = all_at (λ m. m ≢ n) order n (recursion_from_All (λ m. m ≢ n) order apart) a refl where
  apart : All (λ m. m ≢ n) order
  apart k d within e =
      let same = get_or_default order k d 0 within in
      elim (cases_lt k i) as (λ _. ⊥) [
        | inl below ↦ omega (arith, e, same, gap.1 k below)
        | inr above ↦ omega (arith, e, same, gap.2 k above within)
      ]

pub number_found : (numbers order : List ℕ) (n : ℕ) (answer : Result ℕ ℕ) → AreNumbersInOrder numbers order → IsBinarySearchResult (λ m. nat_cmp m n) order answer
    → is_ok answer ≡ list_any (λ m. m == n) numbers
number_found numbers order n answer h found =
    by answer (searched order n answer found (λ i j le within. h.rise i j 0 le within))
    ∙ sym (list_any-IsPermutation (λ m. m == n) numbers order h.same) where
      by : (r : Result ℕ ℕ) → MatchResult r (λ i. (i < length order) × (get_or order i 0 ≡ n)) (IsGap order n) → is_ok r ≡ list_any (λ m. m == n) order
      by (Ok i) at = sym (list_any_at (λ m. m == n) order i 0 at.0 (eq-eqb _ _ at.1))
      by (Err i) gap = sym (occurs_not order n (in_gap order n i gap))
