-- Which slots the values of bindings use.
use Rattle.std.specs.Prelude.{◌≡◌, ℕ, ◌<◌, List, length, Option, None, Some, Vec}
use Rattle.std.specs.Borrow.{Bor}
use Rattle.si_flat.specs.declared.Cell.{Cell}
use Rattle.si_trail.specs.Trails.{value_at}
use Rattle.si_unify.specs.declared.slots.Slots.{Slots}
use Rattle.si_unify.specs.Solving.{Pairs}
use Rattle.si_form.specs.Classes.{slots_of}
use Rattle.si_form.specs.Ordering.{uses_at}

abbrev pub used_in : Slots → Option (Bor (List Cell)) → Option (List ℕ)
used_in slots None = None
used_in slots (Some v) = Some (slots_of slots v.now)

-- the slots in a slot's value
abbrev pub used_by : Slots → Pairs → ℕ → Option (List ℕ)
used_by slots pairs slot = used_in slots (value_at pairs slot)

-- the lists are those of the first slots
abbrev pub UsesBelow : {A : Type 0} → Slots → Pairs → List (Option (Vec ℕ A)) → Type 0
UsesBelow slots pairs lists = (slot : ℕ) → slot < length lists
    → uses_at lists slot ≡ used_by slots pairs slot
