-- A list of bindings in the order of numbers is ordered and triangular.
use Rattle.std.proofs.Common.{◌≡◌, ℕ, ◌+◌, ◌<◌, inl, inr, List, [], ◌∷◌, ◌++◌, suc, zero, refl, sym, ◌∙◌, ap, subst, arith, append_assoc}
use Rattle.std.specs.Prelude.{Option}
use Rattle.std.specs.List.{AllByRecursion}
use Rattle.si_defs.specs.Terms as terms
use Rattle.si_defs.specs.Substitutions.{lefts, rights, IsAmong}
use Rattle.si_defs.specs.Solutions.{order, IsTriangular, IsOrdered}
use Rattle.si_defs.proofs.ListLaws.{all_at, all_from, among_parts, among_front, among_back}
use Rattle.si_flat.specs.Cells.{Variable, same_variable, Term}
use Rattle.si_unify.specs.declared.slots.Slots.{Slots}
use Rattle.si_unify.specs.Solving.{variable_of}
use Rattle.si_form.proofs.NodeLaws.{slot_again, same_slots}
use Rattle.si_form.specs.Ordering.{list_or_none, IsListed, AreFirstUnused}
use Rattle.si_form.specs.Unifying.{HasUses, listed_bindings}

-- ---- the variables of the first slots
abbrev pub variables_of_slots : Slots → ℕ → ℕ → List Variable
variables_of_slots slots k zero = []
variables_of_slots slots k (suc n) = variable_of slots k ∷ variables_of_slots slots (suc k) n

-- the variables before a slot, and those after it
pub record Parts (slots : Slots) (k n i : ℕ) : Type 0 where
  pub before : List Variable
  pub after : List Variable
  pub whole : variables_of_slots slots k n ≡ before ++ variable_of slots i ∷ after
  pub lower : AllByRecursion (λ y. (j : ℕ) × (y ≡ variable_of slots j) × (j < i)) before

pub parts_at : (slots : Slots) (k n d i : ℕ) → i ≡ k + d → d < n → Parts slots k n i
parts_at slots k zero d i e less = absurd (omega (arith, less))
parts_at slots k (suc n) zero i e less = record {
  before = [];
  after = variables_of_slots slots (suc k) n;
  whole = ap (λ j. variable_of slots j ∷ variables_of_slots slots (suc k) n) (omega (arith, e));
  lower = tt;
}
parts_at slots k (suc n) (suc d) i e less =
    let r = parts_at slots (suc k) n d i (omega (arith, e)) (omega (arith, less)) in
    record {
      before = variable_of slots k ∷ r.before;
      after = r.after;
      whole = ap (λ l. variable_of slots k ∷ l) r.whole;
      lower = ((k, refl, omega (arith, e)), r.lower);
    }

-- ---- places in an order
module _ (used : ℕ → Option (List ℕ)) where
  pub behind_all : (before ks : List ℕ) → AreFirstUnused used before ks → AllByRecursion (λ j. IsAmong before j → ⊥) ks
  behind_all before [] h = tt
  behind_all before (k ∷ ks) h = (
    h.0.is_open.behind,
    all_from (λ j. IsAmong before j → ⊥) ks (λ j a b. all_at (λ i. IsAmong (before ++ k ∷ []) i → ⊥) ks j (behind_all (before ++ k ∷ []) ks h.1) a (among_front before (k ∷ []) j b)),
  )

  pub listed_all : (before ks : List ℕ) → AreFirstUnused used before ks → AllByRecursion (IsListed used) ks
  listed_all before [] h = tt
  listed_all before (k ∷ ks) h = (h.0.is_open.listed, listed_all (before ++ k ∷ []) ks h.1)

  module _ (slots : Slots) (right : ℕ → Term) where
    left_slot : (ks : List ℕ) (x : Variable) → IsAmong (lefts (listed_bindings slots right ks)) x → (k : ℕ) × IsAmong ks k × (variable_of slots k ≡ x)
    left_slot [] x a = elim a [ ]
    left_slot (k ∷ ks) x a = elim a [ inl e ↦ (k, inl refl, e) | inr b ↦ (let r = left_slot ks x b in (r.0, inr r.1, r.2)) ]

    pub left_of : (ks : List ℕ) (k : ℕ) → IsAmong ks k → IsAmong (lefts (listed_bindings slots right ks)) (variable_of slots k)
    left_of [] k a = elim a [ ]
    left_of (j ∷ ks) k a = elim a [ inl e ↦ inl (ap (variable_of slots) e) | inr b ↦ inr (left_of ks k b) ]

    right_slot : (ks : List ℕ) (t : Term) → IsAmong (rights (listed_bindings slots right ks)) t → (k : ℕ) × IsAmong ks k × (right k ≡ t)
    right_slot [] t a = elim a [ ]
    right_slot (k ∷ ks) t a = elim a [ inl e ↦ (k, inl refl, e) | inr b ↦ (let r = right_slot ks t b in (r.0, inr r.1, r.2)) ]

    right_of : (ks : List ℕ) (k : ℕ) → IsAmong ks k → IsAmong (rights (listed_bindings slots right ks)) (right k)
    right_of [] k a = elim a [ ]
    right_of (j ∷ ks) k a = elim a [ inl e ↦ inl (ap right e) | inr b ↦ inr (right_of ks k b) ]

    -- none of these uses the slot
    abbrev IsUnused : List ℕ → ℕ → Type 0
    IsUnused ks j = (i : ℕ) → IsAmong ks i → IsAmong (list_or_none (used i)) j → ⊥

    clear : (ks : List ℕ) (j : ℕ) → ((k : ℕ) → IsAmong ks k → HasUses used slots right k) → IsUnused ks j → AllByRecursion (λ t. IsAmong (terms.variables t) (variable_of slots j) → ⊥) (rights (listed_bindings slots right ks))
    clear ks j has unused =
        all_from (λ t. IsAmong (terms.variables t) (variable_of slots j) → ⊥) (rights (listed_bindings slots right ks))
        (λ t a v.
        let r = right_slot ks t a in
        unused r.0 r.1
        (subst (IsAmong (list_or_none (used r.0))) (slot_again slots j)
        ((has r.0 r.1).uses (variable_of slots j) (subst (λ u. IsAmong (terms.variables u) (variable_of slots j)) (sym r.2) v))))

    of_clear : (ks : List ℕ) (j : ℕ) → ((k : ℕ) → IsAmong ks k → HasUses used slots right k) → AllByRecursion (λ t. IsAmong (terms.variables t) (variable_of slots j) → ⊥) (rights (listed_bindings slots right ks)) → IsUnused ks j
    of_clear ks j has h i a u = all_at (λ t. IsAmong (terms.variables t) (variable_of slots j) → ⊥) (rights (listed_bindings slots right ks)) (right i) h (right_of ks i a) ((has i a).used_in j u)

    module _ (q e : Term) (n : ℕ) (order_is : order same_variable q e ≡ variables_of_slots slots 0 n) (inside : (k : ℕ) → IsListed used k → k < n) (has : (k : ℕ) → IsListed used k → HasUses used slots right k) where
      has_all : (before ks : List ℕ) → AreFirstUnused used before ks → (k : ℕ) → IsAmong ks k → HasUses used slots right k
      has_all before ks h k a = has k (all_at (IsListed used) ks k (listed_all before ks h) a)

      -- none of those from the place on uses the slot at the place
      unused_here : (before : List ℕ) (k : ℕ) (ks : List ℕ) → AreFirstUnused used before (k ∷ ks) → IsUnused (k ∷ ks) k
      unused_here before k ks h i a u =
          h.0.is_open.unused i (all_at (IsListed used) (k ∷ ks) i (listed_all before (k ∷ ks) h) a) (all_at (λ j. IsAmong before j → ⊥) (k ∷ ks) i (behind_all before (k ∷ ks) h) a) u

      pub triangular_of : (before ks : List ℕ) → AreFirstUnused used before ks → IsTriangular same_variable (listed_bindings slots right ks)
      triangular_of before [] h = tt
      triangular_of before (k ∷ ks) h = (
        (λ a.
            let r = left_slot ks (variable_of slots k) a in
            all_at (λ j. IsAmong (before ++ k ∷ []) j → ⊥) ks r.0 (behind_all (before ++ k ∷ []) ks h.1) r.1
            (among_back before (k ∷ []) r.0 (inl (sym (same_slots slots r.0 k r.2))))),
        clear (k ∷ ks) k (has_all before (k ∷ ks) h) (unused_here before k ks h),
        triangular_of (before ++ k ∷ []) ks h.1,
      )

      pub ordered_of : (before ks : List ℕ) → AreFirstUnused used before ks → ((k : ℕ) → IsListed used k → IsAmong (before ++ ks) k) → IsOrdered same_variable q e (listed_bindings slots right ks)
      ordered_of before [] h all = tt
      ordered_of before (k ∷ ks) h all = (
        (
          (inl refl, clear (k ∷ ks) k (has_all before (k ∷ ks) h) (unused_here before k ks h)),
          (
            parts.before,
            parts.after,
            order_is ∙ parts.whole,
            all_from (λ y. IsHere y → ⊥) parts.before
                (λ y a here.
                let low = all_at (λ z. (j : ℕ) × (z ≡ variable_of slots j) × (j < k)) parts.before y parts.lower a in
                not_here low.0 low.2 (subst IsHere low.1 here)),
          ),
        ),
        ordered_of (before ++ k ∷ []) ks h.1 (λ i l. subst (λ m. IsAmong m i) (sym (append_assoc before (k ∷ []) ks)) (all i l)),
      )
        where
          IsHere : Variable → Type 0
          IsHere x = IsAmong (lefts (listed_bindings slots right (k ∷ ks))) x × AllByRecursion (λ t. IsAmong (terms.variables t) x → ⊥) (rights (listed_bindings slots right (k ∷ ks)))

          parts : Parts slots 0 n k
          parts = parts_at slots 0 n k k (omega arith) (inside k h.0.is_open.listed)

          not_here : (j : ℕ) → j < k → IsHere (variable_of slots j) → ⊥
          not_here j less here =
              let r = left_slot (k ∷ ks) (variable_of slots j) here.0 in
              let among : IsAmong (k ∷ ks) j = subst (IsAmong (k ∷ ks)) (same_slots slots r.0 j r.2) r.1 in
              h.0.first j less
              (record {
                listed = all_at (IsListed used) (k ∷ ks) j (listed_all before (k ∷ ks) h) among;
                behind = all_at (λ i. IsAmong before i → ⊥) (k ∷ ks) j (behind_all before (k ∷ ks) h) among;
                unused = λ i l apart u.
                    elim (among_parts before (k ∷ ks) i (all i l)) [
                      | inl b ↦ apart b
                      | inr b ↦ of_clear (k ∷ ks) j (has_all before (k ∷ ks) h) here.1 i b u
                    ];
              })
