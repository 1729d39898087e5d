-- Numbers in an order in which none stands after one that it uses.
use Rattle.std.specs.Prelude.{◌≡◌, ℕ, zero, suc, ◌+◌, ◌<◌, ◌≤◌, ◌↔◌, ◌⊎◌, ◌==◌, if◌then◌else◌, List, [], ◌∷◌, ◌++◌, length, slice_index_or, Option, None, Some, Vec}
use Rattle.std.specs.List.{AllByRecursion}
use Rattle.si_defs.specs.Substitutions.{IsAmong, AreDistinct}

abbrev pub list_of : {X A : Type 0} → Option (Vec X A) → Option (List X)
list_of None = None
list_of (Some v) = Some v.items

-- the numbers that a number uses; None where it isn't to be ordered
abbrev pub uses_at : {A : Type 0} → List (Option (Vec ℕ A)) → ℕ → Option (List ℕ)
uses_at lists k = list_of (slice_index_or lists k None)

abbrev pub list_or_none : Option (List ℕ) → List ℕ
list_or_none None = []
list_or_none (Some xs) = xs

-- with the number, if it is listed
abbrev pub with_listed : ℕ → Option (List ℕ) → List ℕ → List ℕ
with_listed k None ks = ks
with_listed k (Some xs) ks = k ∷ ks

-- how often a number stands among others
abbrev pub times_among : List ℕ → ℕ → ℕ
times_among [] j = 0
times_among (x ∷ xs) j = (if x == j then 1 else 0) + times_among xs j

module _ (used : ℕ → Option (List ℕ)) where
  abbrev pub IsListed : ℕ → Type 0
  IsListed k = (xs : List ℕ) × (used k ≡ Some xs)

  -- it isn't among those before, and no other that isn't uses it
  pub record MayComeNext (before : List ℕ) (j : ℕ) : Type 0 where
    pub listed : IsListed j
    pub behind : IsAmong before j → ⊥
    pub unused : (i : ℕ) → IsListed i → (IsAmong before i → ⊥)
        → IsAmong (list_or_none (used i)) j → ⊥

  -- the least of these
  pub record IsFirstUnused (before : List ℕ) (k : ℕ) : Type 0 where
    pub is_open : MayComeNext before k
    pub first : (j : ℕ) → j < k → MayComeNext before j → ⊥

  abbrev pub AreFirstUnused : List ℕ → List ℕ → Type 0
  AreFirstUnused before [] = Unit {0}
  AreFirstUnused before (k ∷ ks) = IsFirstUnused before k × AreFirstUnused (before ++ k ∷ []) ks

  -- all numbers that are listed, the least first that no other of those from there on uses
  pub record AreOrdered (order : List ℕ) : Type 0 where
    pub next : AreFirstUnused [] order
    pub all : (k : ℕ) → IsListed k → IsAmong order k

  -- ---- what is known of the lists
  -- ranks fall from each number to those that it uses
  pub record HasNoCircle (n : ℕ) : Type 0 where
    pub inside : (k : ℕ) → IsListed k → k < n
    pub used_inside : (k : ℕ) → AllByRecursion (λ j. j < n) (list_or_none (used k))
    pub rank : ℕ → ℕ
    pub falls : (k : ℕ) → AllByRecursion (λ j. rank j < rank k) (list_or_none (used k))

  -- ---- how far the ordering has come
  -- how often these use a number
  abbrev pub times_used : List ℕ → ℕ → ℕ
  times_used [] j = 0
  times_used (i ∷ is) j = times_among (list_or_none (used i)) j + times_used is j

  -- those of the first so many numbers that are listed
  abbrev pub listed_below : ℕ → List ℕ
  listed_below zero = []
  listed_below (suc k) = with_listed k (used k) (listed_below k)

  -- The order so far; what is left, and what the last of the order uses, of which xs hasn't been
  -- taken from the counts.
  pub record IsPartlyOrdered (n : ℕ) (counts free order xs : List ℕ) : Type 0 where
    pub rest : List ℕ
    pub long : length counts ≡ n
    pub next : AreFirstUnused [] order
    pub all : (k : ℕ) → IsListed k → IsAmong order k ⊎ IsAmong rest k
    pub listed : AllByRecursion (IsListed) rest
    pub behind : AllByRecursion (λ k. IsAmong order k → ⊥) rest
    pub distinct : AreDistinct rest
    pub counted : (j : ℕ) → slice_index_or counts j 0 ≡ times_used rest j + times_among xs j
    pub passed : (j : ℕ) → IsAmong order j → slice_index_or counts j 0 ≡ 0
    pub free_is : (j : ℕ) → IsAmong free j ↔ (IsAmong rest j × (slice_index_or counts j 0 ≡ 0))
    pub few : length order + length rest ≤ n
    pub left_inside : AllByRecursion (λ j. j < n) xs

  -- it is listed, and none uses it
  abbrev pub IsListedFree : ℕ → List ℕ → ℕ → Type 0
  IsListedFree n counts j = IsAmong (listed_below n) j × (slice_index_or counts j 0 ≡ 0)
