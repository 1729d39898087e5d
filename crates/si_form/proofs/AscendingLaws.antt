-- Where no right side has a variable that is to be bound, the bindings stand in the order of their
-- slots.
use Rattle.std.proofs.Common.{◌≡◌, ℕ, ◌+◌, ◌<◌, ◌⊎◌, inl, inr, List, [], ◌∷◌, ◌++◌, suc, zero, refl, sym, ◌∙◌, ap, subst, arith, append-nil, Option, Some, None}
use Rattle.std.proofs.lemmas.Bool.{cases_lt}
use Rattle.std.proofs.lemmas.Bool.Decides.{eqb_tells}
use Rattle.si_defs.specs.Terms as terms
use Rattle.si_defs.specs.Substitutions.{IsAmong}
use Rattle.si_defs.proofs.ListLaws.{all_at, among_front, among_back, among_parts}
use Rattle.si_flat.specs.declared.Cell.{Cell}
use Rattle.si_flat.specs.Cells.{Variable, Term, StandsFor}
use Rattle.si_flat.specs.Flattening.{owners_variable}
use Rattle.si_unify.specs.declared.slots.Slots.{Slots}
use Rattle.si_unify.specs.Solving.{Pairs, slot_count, slot_of, variable_of}
use Rattle.si_form.specs.declared.solution.Binding.{Binding}
use Rattle.si_form.specs.Answers.{StandsForPair, StandsForList}
use Rattle.si_form.specs.Folding.{leader}
use Rattle.si_form.specs.Ordering.{with_listed, list_or_none, IsListed, IsFirstUnused, AreFirstUnused, AreOrdered}
use Rattle.si_form.specs.Unifying.{ImagesStay, right_side, IsToBind, listed_bindings, HasUses, IsWholeList, IsGeneral, HasRightSide, ListsAllBindings}
use Rattle.si_form.proofs.NodeLaws.{slot_again}
use Rattle.si_form.proofs.OrderingLaws.{next_more}
use Rattle.si_form.proofs.RightSides.{LeadsItself, right_is}
use Rattle.si_form.proofs.FoundLaws.{none_to_bind}
use Rattle.si_form.proofs.UnifierThere.{slots_of_variables, slot_among, of_slot_among, bindings_parts, stands_more}

-- ---- numbers in ascending order
module _ (used : ℕ → Option (List ℕ)) where
  -- those of the first so many numbers that are listed
  abbrev pub ascending : ℕ → List ℕ
  ascending zero = []
  ascending (suc n) = ascending n ++ with_listed n (used n) []

  ascending_inside : (n k : ℕ) → IsAmong (ascending n) k → k < n
  ascending_inside zero k a = elim a [ ]
  ascending_inside (suc n) k a =
      elim (among_parts (ascending n) (with_listed n (used n) []) k a) [
        | inl b ↦ (let less = ascending_inside n k b in omega (arith, less))
        | inr b ↦ by (used n) b
      ]
    where
      by : (o : Option (List ℕ)) → IsAmong (with_listed n o []) k → k < suc n
      by None b = elim b [ ]
      by (Some xs) b = elim b [ inl e ↦ omega (arith, e) | inr c ↦ elim c [ ] ]

  ascending_all : (n k : ℕ) → k < n → IsListed used k → IsAmong (ascending n) k
  ascending_all zero k less l = absurd (omega (arith, less))
  ascending_all (suc n) k less l =
      elim (eqb_tells k n) [
        | inl e ↦ among_back (ascending n) (with_listed n (used n) []) k (subst (λ o. IsAmong (with_listed n o []) k) (sym l.1 ∙ ap used e.1) (inl (sym e.1)))
        | inr e ↦ among_front (ascending n) (with_listed n (used n) []) k (ascending_all n k (omega (arith, less, e.1)) l)
      ]

  -- no number that is listed is used
  abbrev pub UsesNone : Type 0
  UsesNone = (i j : ℕ) → IsListed used i → IsAmong (list_or_none (used i)) j → IsListed used j → ⊥

  ascending_next : UsesNone → (n : ℕ) → AreFirstUnused used [] (ascending n)
  ascending_next none zero = tt
  ascending_next none (suc n) = by (used n) refl (ascending_next none n)
    where
      first : IsListed used n → IsFirstUnused used (ascending n) n
      first l = record {
        is_open = record {
          listed = l;
          behind = λ a. (let less = ascending_inside n n a in omega (arith, less));
          unused = λ i m apart u. none i n m u l;
        };
        first = λ j less free. free.behind (ascending_all n j less free.listed);
      }

      by : (o : Option (List ℕ)) → used n ≡ o → AreFirstUnused used [] (ascending n) → AreFirstUnused used [] (ascending n ++ with_listed n o [])
      by None e h = subst (AreFirstUnused used []) (sym (append-nil (ascending n))) h
      by (Some xs) e h = next_more used [] (ascending n) n h (first (xs, e))

  pub ascending_ordered : UsesNone → (n : ℕ) → ((k : ℕ) → IsListed used k → k < n) → AreOrdered used (ascending n)
  ascending_ordered none n inside = record { next = ascending_next none n; all = λ k l. ascending_all n k (inside k l) l }

-- ---- the slots that are to be bound
module _ (slots : Slots) (f : Variable → Term) where
  bound_or_not : (k : ℕ) → IsToBind slots f k ⊎ (IsToBind slots f k → ⊥)
  bound_or_not k =
      elim (cases_lt k (slot_count slots)) [
        | inl less ↦ by less (leader slots f (f (variable_of slots k))) refl (f (variable_of slots k)) refl
        | inr more ↦ inr (λ b. omega (arith, b.0, more))
      ]
    where
      by : k < slot_count slots → (o : Option ℕ) → leader slots f (f (variable_of slots k)) ≡ o → (t : Term) → f (variable_of slots k) ≡ t → IsToBind slots f k ⊎ (IsToBind slots f k → ⊥)
      by less None l t e =
          inr (λ b.
          elim b.1 [
            | inl follows ↦ (let bad : None ≡ Some follows.0 = sym l ∙ follows.1 in cc)
            | inr leads ↦ (let bad : None ≡ Some k = sym l ∙ leads.0 in cc)
          ])
      by less (Some w) l (terms.app s ts) e =
          elim (eqb_tells w k) [
            | inl same ↦ inl (less, inr (l ∙ ap Some same.1, (s, ts, e)))
            | inr apart ↦ inl (less, inl (w, l, apart.1))
          ]
      by less (Some w) l (terms.var y) e =
          elim (eqb_tells w k) [
            | inl same ↦ inr (none_to_bind slots f k y (l ∙ ap Some same.1) e)
            | inr apart ↦ inl (less, inl (w, l, apart.1))
          ]

  abbrev used_if : (k : ℕ) → IsToBind slots f k ⊎ (IsToBind slots f k → ⊥) → Option (List ℕ)
  used_if k (inl b) = Some (slots_of_variables slots (terms.variables (right_side slots f k)))
  used_if k (inr none) = None

  -- for each slot that is to be bound those in its right side
  pub used_by_side : ℕ → Option (List ℕ)
  used_by_side k = used_if k (bound_or_not k)

  to_bind : (k : ℕ) → IsListed used_by_side k → IsToBind slots f k
  unfolding used_by_side
  to_bind k l = by (bound_or_not k) l.1
    where
      by : (d : IsToBind slots f k ⊎ (IsToBind slots f k → ⊥)) → used_if k d ≡ Some l.0 → IsToBind slots f k
      by (inl b) e = b
      by (inr none) e = cc

  used_is : (k : ℕ) → IsToBind slots f k → used_by_side k ≡ Some (slots_of_variables slots (terms.variables (right_side slots f k)))
  unfolding used_by_side
  used_is k b = by (bound_or_not k)
    where
      by : (d : IsToBind slots f k ⊎ (IsToBind slots f k → ⊥)) → used_if k d ≡ Some (slots_of_variables slots (terms.variables (right_side slots f k)))
      by (inl c) = refl
      by (inr none) = absurd (none b)

  unused_is : (k : ℕ) → (IsToBind slots f k → ⊥) → used_by_side k ≡ None
  unfolding used_by_side
  unused_is k none = by (bound_or_not k)
    where
      by : (d : IsToBind slots f k ⊎ (IsToBind slots f k → ⊥)) → used_if k d ≡ None
      by (inl b) = absurd (none b)
      by (inr c) = refl

  -- no variable of a right side is to be bound
  abbrev pub AreFlat : Type 0
  AreFlat = (k j : ℕ) → IsToBind slots f k → IsAmong (terms.variables (right_side slots f k)) (variable_of slots j) → IsToBind slots f j → ⊥

  module _ (stays : ImagesStay slots f) where
    used_variable : (k j : ℕ) → IsToBind slots f k → IsAmong (list_or_none (used_by_side k)) j → IsAmong (terms.variables (right_side slots f k)) (variable_of slots j)
    used_variable k j b a =
        let r = of_slot_among slots (terms.variables (right_side slots f k)) j (subst (λ o. IsAmong (list_or_none o) j) (used_is k b) a) in
        let own = all_at (LeadsItself slots f) (terms.variables (right_side slots f k)) r.0 (right_is slots f stays k b).leads r.1 in
        let same : own.0 ≡ j = sym (slot_again slots own.0) ∙ ap (slot_of slots) (sym own.2) ∙ r.2 in
        subst (IsAmong (terms.variables (right_side slots f k))) (own.2 ∙ ap (variable_of slots) same) r.1

    has_uses : (k : ℕ) → IsListed used_by_side k → HasUses used_by_side slots (right_side slots f) k
    has_uses k l = record {
      uses = λ x a. subst (λ o. IsAmong (list_or_none o) (slot_of slots x)) (sym (used_is k (to_bind k l))) (slot_among slots (terms.variables (right_side slots f k)) x a);
      used_in = λ j a. used_variable k j (to_bind k l) a;
    }

    pub ascending_whole : AreFlat → (bindings : List Binding) → StandsForList bindings (listed_bindings slots (right_side slots f) (ascending used_by_side (slot_count slots))) → IsWholeList slots f bindings
    ascending_whole flat bindings stands = record {
      used = used_by_side;
      ks = ascending used_by_side (slot_count slots);
      ordered = ascending_ordered used_by_side (λ i j l a m. flat i j (to_bind i l) (used_variable i j (to_bind i l) a) (to_bind j m)) (slot_count slots) (λ k l. (to_bind k l).0);
      to_bind = to_bind;
      of_bind = λ k b. (slots_of_variables slots (terms.variables (right_side slots f k)), used_is k b);
      has = has_uses;
      stands = stands;
    }

-- ---- one slot after the other
-- the bindings are those of the first slots
abbrev pub ListsBelow : Slots → Pairs → ℕ → List Binding → Type 0
ListsBelow slots pairs n bindings =
    (f : Variable → Term) → IsGeneral slots pairs f → StandsForList bindings (listed_bindings slots (right_side slots f) (ascending (used_by_side slots f) n))

pub below_begins : (slots : Slots) (pairs : Pairs) (bindings : List Binding) → bindings ≡ [] → ListsBelow slots pairs 0 bindings
below_begins slots pairs bindings none f general = subst (λ l. StandsForList l []) (sym none) tt

module _ (slots : Slots) (pairs : Pairs) (k : ℕ) (bindings : List Binding) (h : ListsBelow slots pairs k bindings) where
  listed_next : (f : Variable → Term) (o : Option (List ℕ)) → used_by_side slots f k ≡ o → ascending (used_by_side slots f) (k + 1) ≡ ascending (used_by_side slots f) k ++ with_listed k o []
  listed_next f o e = (let n : k + 1 ≡ suc k = omega arith in ap (ascending (used_by_side slots f)) n) ∙ ap (λ p. ascending (used_by_side slots f) k ++ with_listed k p []) e

  pub below_skips : HasRightSide slots pairs k None → ListsBelow slots pairs (k + 1) bindings
  below_skips side f general =
      let same : ascending (used_by_side slots f) (k + 1) ≡ ascending (used_by_side slots f) k =
      listed_next f None (unused_is slots f k (side f general)) ∙ append-nil (ascending (used_by_side slots f) k) in
      subst (λ ks. StandsForList bindings (listed_bindings slots (right_side slots f) ks)) (sym same) (h f general)

  pub below_more : (cells : List Cell) (b : Binding) (new : List Binding) → HasRightSide slots pairs k (Some cells) → variable_of slots k ≡ owners_variable b.owner b.slot → b.value ≡ cells → new ≡ bindings ++ b ∷ [] → ListsBelow slots pairs (k + 1) new
  below_more cells b new side left value_is is f general =
      let own = side f general in
      let pair : StandsForPair b (variable_of slots k, right_side slots f k) = record { left = left; right = subst (λ l. StandsFor l (right_side slots f k)) (sym value_is) own.1 } in
      let parts : listed_bindings slots (right_side slots f) (ascending (used_by_side slots f) (k + 1)) ≡ listed_bindings slots (right_side slots f) (ascending (used_by_side slots f) k) ++ (variable_of slots k, right_side slots f k) ∷ [] =
      ap (listed_bindings slots (right_side slots f)) (listed_next f (Some (slots_of_variables slots (terms.variables (right_side slots f k)))) (used_is slots f k own.0))
      ∙ bindings_parts slots (right_side slots f) (ascending (used_by_side slots f) k) (k ∷ []) in
      subst (λ l. StandsForList l (listed_bindings slots (right_side slots f) (ascending (used_by_side slots f) (k + 1)))) (sym is)
      (
      subst (StandsForList (bindings ++ b ∷ [])) (sym parts)
      (stands_more bindings (listed_bindings slots (right_side slots f) (ascending (used_by_side slots f) k)) b (variable_of slots k, right_side slots f k) (h f general) pair)
      )

pub below_ends : (slots : Slots) (pairs : Pairs) (n : ℕ) (bindings : List Binding) → n ≡ slot_count slots → ((f : Variable → Term) → IsGeneral slots pairs f → AreFlat slots f) → ListsBelow slots pairs n bindings → ListsAllBindings slots pairs bindings
below_ends slots pairs n bindings full flat h f general =
    ascending_whole slots f general.stays (flat f general) bindings
    (subst (λ m. StandsForList bindings (listed_bindings slots (right_side slots f) (ascending (used_by_side slots f) m))) full (h f general))
