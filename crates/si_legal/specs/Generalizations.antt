-- What two lists of bindings with the same left sides have in common: the most specific linear
-- generalization (after Plotkin 1970; linear, the order and the numbers are this project's
-- profile).
use Rattle.std.specs.Prelude.{◌≡◌, ℕ, zero, suc, ◌+◌, ◌^◌, ◌<◌, ◌≤◌, ◌↔◌, ◌⊎◌, nat_le, Bool, true, false, not, ◌&&◌, ◌==◌, List, [], ◌∷◌, ◌++◌, map, filter, Option, None, Some}
use Rattle.std.specs.List.{AllByRecursion}
use Rattle.si_defs.specs.Terms as terms
use Rattle.si_defs.specs.Substitutions.{IsAmong, AreDistinct}
use Rattle.si_flat.specs.Cells.{ind, same_variable, Term, Terms}
use Rattle.si_flat.specs.Rows.{left_sides}
use Rattle.si_legal.specs.Bindings.{Binding, indicator, right_indicators, right_sizes, HasNoBareIndicator, OpensNone, composed, HaveSamePairs}

-- ---- heads and positions
-- The head of a term is its symbol, by number and arity, or the variable that it is.
abbrev pub same_head : Term → Term → Bool
same_head (terms.var x) (terms.var y) = same_variable x y
same_head (terms.app s ts) (terms.app r us) = (s.number == r.number) && (s.arity == r.arity)
same_head _ _ = false

-- the argument with this number, from 1
abbrev pub argument_in : ℕ → Terms → Option Term
argument_in n terms.none = None
argument_in zero (terms.more t ts) = None
argument_in (suc zero) (terms.more t ts) = Some t
argument_in (suc (suc n)) (terms.more t ts) = argument_in (suc n) ts

abbrev pub argument : ℕ → Term → Option Term
argument n (terms.var x) = None
argument n (terms.app s ts) = argument_in n ts

-- this subterm stands in the term at the path, the numbers of the arguments that lead to it
abbrev pub StandsAt : List ℕ → Term → Term → Type 0
StandsAt [] t a = a ≡ t
StandsAt (n ∷ path) t a = (u : Term) × (argument n t ≡ Some u) × StandsAt path u a

abbrev pub HasPosition : Term → List ℕ → Type 0
HasPosition t path = (a : Term) × StandsAt path t a

-- the two have equal heads at every position before it on the path
abbrev pub AgreeAbove : List ℕ → Term → Term → Type 0
AgreeAbove [] t u = Unit {0}
AgreeAbove (n ∷ path) t u =
    (same_head t u ≡ true)
    × ((a b : Term) → argument n t ≡ Some a → argument n u ≡ Some b → AgreeAbove path a b)

-- ---- two right sides
-- it is an indicator from this number on
abbrev pub IsFresh : ℕ → Term → Type 0
IsFresh next c = (n : ℕ) × (next ≤ n) × (c ≡ indicator n)

-- what stands where one has a and the other b: an indicator of the first stays, and so does a
-- common head; elsewhere stands a fresh indicator
abbrev pub IsCommonHead : ℕ → Term → Term → Term → Type 0
IsCommonHead next (terms.var (ind n)) b c = c ≡ indicator n
IsCommonHead next a b c =
    ((same_head a b ≡ true) × (same_head a c ≡ true))
    ⊎ ((same_head a b ≡ false) × IsFresh next c)

pub record IsCommonTerm (next : ℕ) (t u c : Term) : Type 0 where
  -- a position stands in it just where it stands in both, and they agree above it
  pub positions : (path : List ℕ)
      → HasPosition c path ↔ (HasPosition t path × HasPosition u path × AgreeAbove path t u)
  pub heads : (path : List ℕ) (a b d : Term) → StandsAt path t a → StandsAt path u b
      → StandsAt path c d → IsCommonHead next a b d

-- ---- two lists
-- a left side with its right sides in the two lists
pub record Sides : Type 0 where
  pub left : ℕ
  pub node : Term
  pub new : Term

abbrev pub sides : List Binding → List Binding → List Sides
sides [] new = []
sides (b ∷ node) [] = []
sides (b ∷ node) (c ∷ new) = record { left = b.0; node = b.1; new = c.1 } ∷ sides node new

-- those at whose root the two heads agree, and the others
abbrev pub agreeing : List Sides → List Sides
agreeing ss = filter (λ s. same_head s.node s.new) ss

abbrev pub differing : List Sides → List Sides
differing ss = filter (λ s. not (same_head s.node s.new)) ss

-- a common right side for each of these left sides, in order
abbrev pub AreCommon : ℕ → List Sides → List Binding → Type 0
AreCommon next [] [] = Unit {0}
AreCommon next [] (c ∷ cs) = ⊥
AreCommon next (s ∷ ss) [] = ⊥
AreCommon next (s ∷ ss) (c ∷ cs) =
    (c.0 ≡ s.left) × IsCommonTerm next s.node s.new c.1 × AreCommon next ss cs

-- so many numbers, one after the other, from this one on
abbrev pub consecutive : ℕ → ℕ → List ℕ
consecutive first zero = []
consecutive first (suc count) = first ∷ consecutive (suc first) count

abbrev pub fresh_among : ℕ → List ℕ → List ℕ
fresh_among next ns = filter (λ n. nat_le next n) ns

-- The common part of two lists, with fresh indicators from this number on, numbered in the order in
-- which they occur.
pub record IsCommonPart (next : ℕ) (node new common : List Binding) : Type 0 where
  pub terms : AreCommon next (agreeing (sides node new)) common
  pub fresh : (count : ℕ)
      × (fresh_among next (right_indicators common) ≡ consecutive next count)
  pub once : AreDistinct (right_indicators common)

-- ---- what is left of each list
-- The rest of one of the two lists: the whole right sides where the heads differ at the root, in
-- order, and then for each of these indicators in order what the list has at its position in the
-- common part.
pub record IsRest (side : Sides → Term) (ss : List Sides) (common : List Binding)
    (cut : List ℕ) (rest : List Binding) : Type 0 where
  pub parts : List Binding
  pub rest_is : rest ≡ map (λ s. (s.left, side s)) (differing ss) ++ parts
  pub order : left_sides parts ≡ cut
  pub each : (s : Sides) (c : Term) → IsAmong (agreeing ss) s → IsAmong common (s.left, c)
      → (path : List ℕ) (n : ℕ) (a : Term) → IsAmong cut n
      → StandsAt path c (indicator n) → StandsAt path (side s) a → IsAmong parts (n, a)

-- A list of a node may be split against a new one, with fresh indicators from this number on.
pub record MaySplit (next : ℕ) (node new : List Binding) : Type 0 where
  pub same_lefts : left_sides node ≡ left_sides new
  pub distinct : AreDistinct (left_sides node)
  pub low : AllByRecursion (λ n. n < next) (left_sides node)
  pub ground : OpensNone new
  pub opens_once : AreDistinct (right_indicators node)
  pub opens_low : AllByRecursion (λ n. n < next) (right_indicators node)
  pub opens_others : AllByRecursion (λ n. IsAmong (left_sides node) n → ⊥) (right_indicators node)
  pub no_bare : HasNoBareIndicator node
  pub room : next + right_sizes node < 2 ^ 31

-- A list of a node is split against a new one. What the node has at its own indicators stays in the
-- common part, and what it has at the fresh ones is left to its rest; the new list leaves to its
-- rest what it has at all indicators.
pub record Splits (next : ℕ) (node new common rest_node rest_new : List Binding) : Type 0 where
  pub common_part : IsCommonPart next node new common
  pub node_part : IsRest (λ s. s.node) (sides node new) common
      (fresh_among next (right_indicators common)) rest_node
  pub new_part : IsRest (λ s. s.new) (sides node new) common (right_indicators common) rest_new
  pub gives_node : HaveSamePairs (composed common rest_node) node
  pub gives_new : HaveSamePairs (composed common rest_new) new
