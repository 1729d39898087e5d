-- A variable that isn't bound can be anything: some solution makes it this constant.
use Rattle.std.proofs.Common.{◌≡◌, ◌≢◌, inl, inr, ℕ, false, cond, List, [], ◌∷◌, ◌++◌, refl, sym, ◌∙◌, ap, subst, None, Some}
use Rattle.std.proofs.lemmas.Bool.Decides.{eqb_tells}
use Rattle.std.specs.List.{AllByRecursion}
use Rattle.std.specs.Borrow.{Bor}
use Rattle.std.specs.Prelude.{◌==◌}
use Rattle.si_defs.specs.Terms as terms
use Rattle.si_defs.specs.Substitutions.{Substitution, image}
use Rattle.si_defs.proofs.ListLaws.{all_append, all_front, all_back}
use Rattle.si_flat.specs.declared.Cell.{Cell}
use Rattle.si_flat.specs.Cells.{Symbol, Variable, same_variable, Term, variable_cell, cells_of}
use Rattle.si_trail.specs.Trails.{value_at, HasDistinctSlots}
use Rattle.si_unify.specs.declared.slots.Slots.{Slots}
use Rattle.si_unify.specs.Solving.{Pairs, slot_of, variable_of, is_frozen, IsInRange, Equalizes, IsBinding, RanksBelow, IsAcyclic, IsSolution}
use Rattle.si_unify.proofs.Binding.{slot_below}
use Rattle.si_unify.proofs.Lists.{apart_from}
use Rattle.si_unify.proofs.Places.{variable_of-slot_of}
use Rattle.si_unify.proofs.Solutions.{solved_of_triangular}
use Rattle.si_fit.proofs.EndLaws.{lent}

-- ---- one binding more
module _ {T : Type 0} where
  pub value_at-last : (pairs : List (ℕ × T)) (slot : ℕ) (v : T) → value_at pairs slot ≡ None → value_at (pairs ++ (slot, v) ∷ []) slot ≡ Some v
  value_at-last [] slot v unbound = elim (eqb_tells slot slot) [ inl h ↦ rw h.0 refl | inr h ↦ absurd (h.1 refl) ]
  value_at-last (p ∷ pairs) slot v unbound = elim (eqb_tells p.0 slot) [
    | inl h ↦ let bad : Some p.1 ≡ None = rw h.0 at unbound in absurd (no bad)
    | inr h ↦ rw h.0 (value_at-last pairs slot v (rw h.0 at unbound))
  ] where
    no : Some p.1 ≡ None → ⊥
    no b = cc

  pub value_at-others : (pairs : List (ℕ × T)) (slot k : ℕ) (v : T) → k ≢ slot → value_at (pairs ++ (slot, v) ∷ []) k ≡ value_at pairs k
  value_at-others [] slot k v apart = elim (eqb_tells slot k) [ inl h ↦ absurd (apart (sym h.1)) | inr h ↦ rw h.0 refl ]
  value_at-others (p ∷ pairs) slot k v apart = ap (λ o. cond (p.0 == k) (Some p.1) o) (value_at-others pairs slot k v apart)

distinct_more : (pairs : Pairs) (slot : ℕ) (v : Bor (List Cell)) → HasDistinctSlots pairs → value_at pairs slot ≡ None → HasDistinctSlots (pairs ++ (slot, v) ∷ [])
distinct_more pairs slot v d unbound = by pairs d (apart_from pairs slot unbound) where
  by : (pairs : Pairs) → HasDistinctSlots pairs → AllByRecursion (λ pair. pair.0 ≢ slot) pairs → HasDistinctSlots (pairs ++ (slot, v) ∷ [])
  by [] d apart = (refl, tt)
  by (p ∷ pairs) d apart = (value_at-others pairs slot p.0 v apart.0 ∙ d.0, by pairs d.1 apart.1)

-- a constant with this number
abbrev pub constant : ℕ → Term
constant c = terms.app (record { number = c; arity = 0 }) terms.none

module _ (slots : Slots) (pairs : Pairs) (bindings : AllByRecursion (IsBinding slots) pairs) (distinct : HasDistinctSlots pairs) (triangular : IsAcyclic slots pairs) where
  pub some_solution : (s : Substitution Symbol Variable) × IsSolution slots pairs s
  some_solution = solved_of_triangular slots pairs bindings distinct triangular

  pub is_free : (x : Variable) (c : ℕ) → IsInRange slots x → is_frozen slots x ≡ false → value_at pairs (slot_of slots x) ≡ None → (s : Substitution Symbol Variable) × IsSolution slots pairs s × (image same_variable s x ≡ constant c)
  is_free x c range unfrozen unbound = (s.0, old, one) where
    binding : IsBinding slots (slot_of slots x, lent (cells_of (constant c)))
    binding = record {
      below = slot_below slots x range;
      unfrozen = ap (is_frozen slots) (variable_of-slot_of slots x range) ∙ unfrozen;
      whole = (constant c, record { cells_are = refl; sound = (refl, tt) });
      in_range = (tt, tt);
    }

    s : (s : Substitution Symbol Variable) × IsSolution slots (pairs ++ (slot_of slots x, lent (cells_of (constant c))) ∷ []) s
    s = solved_of_triangular slots (pairs ++ (slot_of slots x, lent (cells_of (constant c))) ∷ [])
        (all_append (IsBinding slots) pairs ((slot_of slots x, lent (cells_of (constant c))) ∷ []) bindings (binding, tt))
        (distinct_more pairs (slot_of slots x) (lent (cells_of (constant c))) distinct unbound)
        (triangular.0, all_append (λ pair. AllByRecursion (RanksBelow slots triangular.0 pair.0) pair.1.now) pairs ((slot_of slots x, lent (cells_of (constant c))) ∷ []) triangular.1 ((tt, tt), tt))

    old : IsSolution slots pairs s.0
    old = record { frozen = s.1.frozen; equal = all_front (λ pair. Equalizes (image same_variable s.0) (variable_cell (variable_of slots pair.0) ∷ []) pair.1.now) pairs ((slot_of slots x, lent (cells_of (constant c))) ∷ []) s.1.equal }

    one : image same_variable s.0 x ≡ constant c
    one =
        let last = all_back (λ pair. Equalizes (image same_variable s.0) (variable_cell (variable_of slots pair.0) ∷ []) pair.1.now) pairs ((slot_of slots x, lent (cells_of (constant c))) ∷ []) s.1.equal in
        subst (λ y. Equalizes (image same_variable s.0) (variable_cell y ∷ []) (cells_of (constant c))) (variable_of-slot_of slots x range) last.0
        (terms.var x) (constant c) (record { cells_are = refl; sound = tt }) (record { cells_are = refl; sound = (refl, tt) })
