-- Where the postings of a clause stand.
use Rattle.std.proofs.Common.{◌≡◌, ℕ, zero, suc, ◌+◌, ◌*◌, ◌/◌, ◌%◌, ◌<◌, Bool, cond, nat_eq, List, Some, slice_get, refl, ◌∙◌, ap, arith}
use Rattle.std.proofs.lemmas.Nat.{div-add-mod'}
use Rattle.si_flat.specs.Cells.{Term}
use Rattle.si_legal.specs.declared.Posting.{Posting}
use Rattle.si_legal.specs.Trees.{StandsIn}
use Rattle.si_legal.specs.StoredSets.{IsUnder}
use Rattle.si_held.specs.TwoTrees.{TwoTrees, tree_for}

abbrev pub posting_of : ℕ → ℕ → Posting
posting_of key n = record { clause = key; entry = n }

-- where a posting stands: in which tree, and in which of its leaves
pub record Location : Type 0 where
  pub literal : Bool
  pub leaf : ℕ

abbrev pub location : Bool → ℕ → Location
location literal leaf = record { literal = literal; leaf = leaf }

-- the number that is kept for it: twice the leaf's, and one more in the tree of literals
abbrev pub number_of : Location → ℕ
number_of at = at.leaf * 2 + cond at.literal 1 0

abbrev pub location_of : ℕ → Location
location_of number = location (nat_eq (number % 2) 1) (number / 2)

bit_again : (bit : ℕ) → bit < 2 → cond (nat_eq bit 1) 1 0 ≡ bit
bit_again zero less = refl
bit_again (suc zero) less = refl
bit_again (suc (suc n)) less = absurd (omega arith)

-- the number says which location it is kept for
pub number_again : (number : ℕ) → number_of (location_of number) ≡ number
number_again number =
    let less : number % 2 < 2 = omega arith in
    ap (λ bit. number / 2 * 2 + bit) (bit_again (number % 2) less) ∙ div-add-mod' number 2

-- The postings of this key that are stored are those of the entries with these locations, and each
-- stands there.
pub record AreLocated (key : ℕ) (locations : List Location) (trees : TwoTrees) : Type 0 where
  pub stand : (n : ℕ) (at : Location) → slice_get locations n ≡ Some at
      → (t : Term) × StandsIn (tree_for at.literal trees) at.leaf t (posting_of key n)
  pub located : (literal : Bool) (t : Term) (p : Posting)
      → IsUnder (tree_for literal trees) t p → p.clause ≡ key
      → (leaf : ℕ) × (slice_get locations p.entry ≡ Some (location literal leaf))
