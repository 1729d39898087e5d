-- The postings that stand in slots.
use Rattle.std.specs.Prelude.{◌≡◌, ℕ, Bool, true, false, nat_lt, List, [], ◌∷◌, Some, slice_get}
use Rattle.si_legal.specs.declared.Posting.{Posting}
use Rattle.si_tree.specs.declared.count.PostingCount.{PostingCount}
use Rattle.si_tree.specs.declared.count.PostingCount.TheVariants.{Plain, Hashed}
use Rattle.si_tree.specs.declared.postings.Slot.{Slot}
use Rattle.si_tree.specs.declared.postings.TheConstants.{GONE}

-- the slot in which a posting stands
abbrev pub filled_slot : Posting → Slot
filled_slot p = record { clause = p.clause; entry = p.entry }

-- a posting stands there still
abbrev pub stands : Slot → Bool
stands s = nat_lt s.entry GONE

-- the posting that a slot is read as, which stands there where the slot isn't empty
abbrev pub posting_in : Slot → Posting
posting_in s = record { clause = s.clause; entry = s.entry }

abbrev pub put_if : Bool → Posting → List Posting → List Posting
put_if true p ps = p ∷ ps
put_if false p ps = ps

-- those that stand there still, in order
abbrev pub standing : List Slot → List Posting
standing [] = []
standing (s ∷ ss) = put_if (stands s) (posting_in s) (standing ss)

-- the posting stands in the slot at this place
abbrev pub HasPostingAt : List Slot → ℕ → Posting → Type 0
HasPostingAt ss place p =
    (slice_get ss place ≡ Some (filled_slot p)) × (stands (filled_slot p) ≡ true)

-- how many postings a list has
abbrev pub count_in : PostingCount → ℕ
count_in (Plain count) = count
count_in (Hashed count places) = count
