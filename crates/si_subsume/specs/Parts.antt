-- Literals that share no variable are separate questions. Each has a label: that of its part.
use Rattle.std.specs.Prelude.{Bool, true, false, ◌≡◌, ℕ, zero, suc, ◌-◌, ◌<◌, ◌^◌, ◌==◌, cond, List, [], ◌∷◌, ◌++◌, length, slice_index_or as get_or, None, Some}
use Rattle.std.specs.List.{AllByRecursion}
use Rattle.si_flat.specs.declared.Cell.{Cell}
use Rattle.si_unify.specs.declared.slots.Slots.{Slots}
use Rattle.si_unify.specs.Spots.{free_slot}
use Rattle.si_state.specs.Subsumption.{IsLeast}
use Rattle.si_subsume.specs.Search.{Slices, CanEnd}

-- the items with this label
abbrev pub select : {A : Type 0} → (labels : List ℕ) (label : ℕ) → List A → List A
select [] q xs = []
select (l ∷ ls) q [] = []
select (l ∷ ls) q (x ∷ xs) = cond (l == q) (x ∷ select ls q xs) (select ls q xs)

-- a variable that may be bound belongs to the part with this label
abbrev pub BelongsTo : Slots → (owner : ℕ → ℕ) → (label : ℕ) → Cell → Type 0
BelongsTo slots owner label cell =
    (slot : ℕ) → free_slot slots cell ≡ Some slot → owner slot ≡ label

-- the variables of each literal belong to its part, so literals of two parts share none
abbrev pub BelongToParts : Slots → (owner : ℕ → ℕ) → (labels : List ℕ) → Slices → Type 0
BelongToParts slots owner [] [] = Unit {0}
BelongToParts slots owner [] (b ∷ bs) = ⊥
BelongToParts slots owner (l ∷ ls) [] = ⊥
BelongToParts slots owner (l ∷ ls) (b ∷ bs) =
    AllByRecursion (BelongsTo slots owner l) b.now × BelongToParts slots owner ls bs

-- no variable of these can be bound
abbrev pub AreFixed : Slots → List Cell → Type 0
AreFixed slots = AllByRecursion (λ cell. free_slot slots cell ≡ None)

-- the owner of a slot: the label of the literal in which its variable stands first
abbrev pub owner_in : (owners labels : List ℕ) → ℕ → ℕ
owner_in owners labels slot = get_or labels (get_or owners slot (2 ^ 64 - 1)) 0

-- the labels are numbers of literals, and tell parts that share no variable
pub record AreParts (slots : Slots) (literals : Slices) (labels : List ℕ) : Type 0 where
  pub owner : ℕ → ℕ
  pub apart : BelongToParts slots owner labels literals
  pub below : AllByRecursion (λ l. l < length literals) labels

-- the items with so many labels from this one on, those of each label one after the other
abbrev pub parts_from : {A : Type 0} → (labels : List ℕ) (label count : ℕ) → List A → List A
parts_from labels q zero xs = []
parts_from labels q (suc n) xs = select labels q xs ++ parts_from labels (suc q) n xs

-- ---- the literals with a label, one after the other
-- the number of the first of these labels, numbered from k on, that is this one; else the end
abbrev pub first_same : (end k : ℕ) → List ℕ → ℕ → ℕ
first_same end k [] q = end
first_same end k (l ∷ ls) q = cond (l == q) k (first_same end (suc k) ls q)

-- for each the number of the next one that is the same
abbrev pub nexts_same : (end k : ℕ) → List ℕ → List ℕ
nexts_same end k [] = []
nexts_same end k (l ∷ ls) = first_same end (suc k) ls l ∷ nexts_same end (suc k) ls

-- for each label the first literal that has it, and for each literal the next one with its label
pub record AreChained (first next labels : List ℕ) : Type 0 where
  pub size : length first ≡ length labels
  pub firsts_are : (q : ℕ) → q < length labels
      → get_or first q 0 ≡ first_same (length labels) 0 labels q
  pub nexts_are : next ≡ nexts_same (length labels) 0 labels

-- each part has its least map among these numbers, or one has none
abbrev pub AnswersParts : Slots → (literals targets : Slices) → (labels numbers : List ℕ) → Bool
    → Type 0
AnswersParts slots literals targets labels numbers true = (q : ℕ) → q < length labels
    → IsLeast (CanEnd slots targets [] (select labels q literals)) (select labels q numbers)
AnswersParts slots literals targets labels numbers false = (ms : List ℕ)
    → CanEnd slots targets [] literals ms → ⊥
