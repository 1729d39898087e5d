-- Heights of slots, and how one is raised.
use Rattle.std.proofs.Common.{◌≡◌, ℕ, ◌+◌, ◌<◌, ◌≤◌, inl, inr, List, length, sym, ◌∙◌}
use Rattle.std.proofs.Math.ListN.{set}
use Rattle.std.proofs.lemmas.Bool.Decides.{leb_tells}
use Rattle.std.proofs.lemmas.List.{get_or-set_same, get_or-set_other, get_or_past}
use Rattle.std.specs.Prelude.{min}
use Rattle.si_unify.specs.Heights.{height, IsRaised}

-- a list to which zeros were appended shows the same heights
pub stay :
    (old grown : List ℕ) (slot : ℕ)
    → length old ≤ length grown
    → (slot < length old → height grown slot ≡ height old slot)
    → (length old ≤ slot → slot < length grown → height grown slot ≡ 0)
    → height grown slot ≡ height old slot
stay old grown slot longer front behind =
    elim (leb_tells (length old) slot) [
      | inl past ↦
          elim (leb_tells (length grown) slot) [
            | inl out ↦ get_or_past grown slot 0 out.1 ∙ sym (get_or_past old slot 0 past.1)
            | inr less ↦ behind past.1 less.1 ∙ sym (get_or_past old slot 0 past.1)
          ]
      | inr less ↦ front less.1
    ]

pub height_raised :
    (old grown : List ℕ) (count slot higher : ℕ)
    → ((other : ℕ) → height grown other ≡ height old other)
    → slot < length grown
    → higher ≡ min (height old slot + 1) 255
    → IsRaised count slot old (set grown slot higher)
height_raised old grown count slot higher same less e = record {
  raised = λ _. get_or-set_same grown slot higher 0 less ∙ e;
  others = λ other apart. get_or-set_other grown slot other higher 0 apart ∙ same other;
}
