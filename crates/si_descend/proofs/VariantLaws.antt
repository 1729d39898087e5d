-- Where the query is a constant, the variables of an entry in an open node's term are just those
-- that the trail binds, and all solutions agree on them.
use Rattle.std.proofs.Common.{◌≡◌, ◌⊎◌, inl, inr, ℕ, true, false, cond, List, [], ◌∷◌, refl, sym, ◌∙◌, ap, subst, arith, Option, None, Some}
use Rattle.std.specs.List.{AllByRecursion}
use Rattle.std.specs.Borrow.{Bor}
use Rattle.si_defs.specs.Terms as terms
use Rattle.si_defs.specs.Substitutions.{Substitution, image, apply, IsAmong}
use Rattle.si_defs.proofs.ListLaws.{all_at, all_from, all_front, all_back, among_parts}
use Rattle.si_defs.proofs.TermLaws.{same_app, same_more}
use Rattle.si_flat.specs.declared.Cell.{Cell}
use Rattle.si_flat.specs.Cells.{Symbol, Variable, query, entry, ind, same_variable, Term, Terms, variable_cell, cells_of, cells_of_all}
use Rattle.si_flat.specs.Flattened.{IsNumberedBy}
use Rattle.si_flat.specs.Rows.{left_sides}
use Rattle.si_trail.specs.Trails.{value_at, HasDistinctSlots}
use Rattle.si_unify.specs.declared.slots.Slots.{Slots}
use Rattle.si_unify.specs.Solving.{Pairs, slot_of, variable_of, is_frozen, IsInRange, Equalizes, IsBinding, RanksBelow, IsSolution, AllowsSolving}
use Rattle.si_unify.proofs.Places.{value_holds, variable_of-slot_of}
use Rattle.si_unify.proofs.Solutions.{of_slot}
use Rattle.si_legal.specs.Bindings.{indicator}
use Rattle.si_legal.specs.Trees.{Tree, Path, IsPath, path_term}
use Rattle.si_legal.specs.Legal.{IsOpenBelow}
use Rattle.si_legal.specs.Descents.{SolvesPath}
use Rattle.si_legal.specs.OpenNodes.{RenamesEntry}
use Rattle.si_legal.proofs.SplitLaws.{binding_left}
use Rattle.si_changes.proofs.Frames.{HasLegalNodes}
use Rattle.si_changes.proofs.ComposeLaws.{same_substituted, applied_from, right_applied}
use Rattle.si_descend.specs.Descending.{HasSlotsForTree, ShowsPath}
use Rattle.si_descend.specs.Renaming.{FreezesQuery, bound_variables, IsRenaming}
use Rattle.si_descend.proofs.Tabulated.{variable_tells, substituted_none}
use Rattle.si_descend.proofs.Along.{is_step, solves_path_term}
use Rattle.si_descend.proofs.Openness.{of_kind, entry_kept}
use Rattle.si_descend.proofs.FreeLaws.{constant, is_free, some_solution}

-- ---- terms
-- two maps that give the same of a term give the same of its variables
mutual
  pub agree : (f g : Variable → Term) (t : Term) (x : Variable) → terms.substitute f t ≡ terms.substitute g t → IsAmong (terms.variables t) x → f x ≡ g x
  agree f g (terms.var y) x e (inl p) = subst (λ z. f z ≡ g z) p e
  agree f g (terms.var y) x e (inr a) = absurd a
  agree f g (terms.app s ts) x e a = all_agree f g ts x (same_app s s (terms.substitute_all f ts) (terms.substitute_all g ts) e).1 a

  pub all_agree : (f g : Variable → Term) (ts : Terms) (x : Variable) → terms.substitute_all f ts ≡ terms.substitute_all g ts → IsAmong (terms.variables_of_all ts) x → f x ≡ g x
  all_agree f g terms.none x e a = absurd a
  all_agree f g (terms.more t ts) x e a =
      let parts = same_more (terms.substitute f t) (terms.substitute g t) (terms.substitute_all f ts) (terms.substitute_all g ts) e in
      elim (among_parts (terms.variables t) (terms.variables_of_all ts) x a) as (λ _. f x ≡ g x) [
        | inl b ↦ agree f g t x parts.0 b
        | inr b ↦ all_agree f g ts x parts.1 b
      ]

-- what holds of each cell holds of those of the variables
mutual
  cell_holds : (C : Cell → Type 0) (t : Term) (x : Variable) → AllByRecursion C (cells_of t) → IsAmong (terms.variables t) x → C (variable_cell x)
  cell_holds C (terms.var y) x h (inl e) = subst (λ z. C (variable_cell z)) e h.0
  cell_holds C (terms.var y) x h (inr a) = absurd a
  cell_holds C (terms.app s ts) x h a = cells_hold C ts x h.1 a

  cells_hold : (C : Cell → Type 0) (ts : Terms) (x : Variable) → AllByRecursion C (cells_of_all ts) → IsAmong (terms.variables_of_all ts) x → C (variable_cell x)
  cells_hold C terms.none x h a = absurd a
  cells_hold C (terms.more t ts) x h a = elim (among_parts (terms.variables t) (terms.variables_of_all ts) x a) as (λ _. C (variable_cell x)) [
    | inl b ↦ cell_holds C t x (all_front C (cells_of t) (cells_of_all ts) h) b
    | inr b ↦ cells_hold C ts x (all_back C (cells_of t) (cells_of_all ts) h) b
  ]

variable_among_or_not : (xs : List Variable) (x : Variable) → IsAmong xs x ⊎ (IsAmong xs x → ⊥)
variable_among_or_not [] x = inr (λ a. a)
variable_among_or_not (y ∷ xs) x = elim (variable_tells y x) as (λ _. IsAmong (y ∷ xs) x ⊎ (IsAmong (y ∷ xs) x → ⊥)) [
  | inl t ↦ inl (inl t.1)
  | inr t ↦ elim (variable_among_or_not xs x) as (λ _. IsAmong (y ∷ xs) x ⊎ (IsAmong (y ∷ xs) x → ⊥)) [
    | inl a ↦ inl (inr a)
    | inr o ↦ inr (λ a. elim a as (λ _. ⊥) [ inl e ↦ t.1 e | inr b ↦ o b ])
  ]
]

bound_among : (slots : Slots) (pairs : Pairs) (slot : ℕ) (v : Bor (List Cell)) → value_at pairs slot ≡ Some v → IsAmong (bound_variables slots pairs) (variable_of slots slot)
bound_among slots pairs slot v e = value_holds (λ p. IsAmong (bound_variables slots pairs) (variable_of slots p.0)) pairs slot v (each pairs (λ x a. a)) e where
  each : (some : Pairs) → ((x : Variable) → IsAmong (bound_variables slots some) x → IsAmong (bound_variables slots pairs) x) → AllByRecursion (λ p. IsAmong (bound_variables slots pairs) (variable_of slots p.0)) some
  each [] give = tt
  each (p ∷ some) give = (give (variable_of slots p.0) (inl refl), each some (λ x a. give x (inr a)))

-- a pair that binds the variable
pair_of : (slots : Slots) (pairs : Pairs) (x : Variable) (P : ℕ × Bor (List Cell) → Type 0) → AllByRecursion P pairs → IsAmong (bound_variables slots pairs) x → (p : ℕ × Bor (List Cell)) × P p × (variable_of slots p.0 ≡ x)
pair_of slots [] x P all a = absurd a
pair_of slots (p ∷ pairs) x P all (inl e) = (p, all.0, e)
pair_of slots (p ∷ pairs) x P all (inr a) = pair_of slots pairs x P all.1 a

-- what is known of a pair that two maps solve
record IsSolvedTwice (slots : Slots) (rank : ℕ → ℕ) (s r : Substitution Symbol Variable) (pair : ℕ × Bor (List Cell)) : Type 0 where
  binding : IsBinding slots pair
  below : AllByRecursion (RanksBelow slots rank pair.0) pair.1.now
  one : Equalizes (image same_variable s) (variable_cell (variable_of slots pair.0) ∷ []) pair.1.now
  other : Equalizes (image same_variable r) (variable_cell (variable_of slots pair.0) ∷ []) pair.1.now

solved_twice : (slots : Slots) (rank : ℕ → ℕ) (s r : Substitution Symbol Variable) (pairs : Pairs) → AllByRecursion (IsBinding slots) pairs → AllByRecursion (λ pair. AllByRecursion (RanksBelow slots rank pair.0) pair.1.now) pairs → AllByRecursion (λ pair. Equalizes (image same_variable s) (variable_cell (variable_of slots pair.0) ∷ []) pair.1.now) pairs → AllByRecursion (λ pair. Equalizes (image same_variable r) (variable_cell (variable_of slots pair.0) ∷ []) pair.1.now) pairs → AllByRecursion (IsSolvedTwice slots rank s r) pairs
solved_twice slots rank s r [] h i j k = tt
solved_twice slots rank s r (b ∷ pairs) h i j k = (record { binding = h.0; below = i.0; one = j.0; other = k.0 }, solved_twice slots rank s r pairs h.1 i.1 j.1 k.1)

-- the value of a variable doesn't hold that variable, so two maps that give the others the same give
-- it the same
bound_same : (slots : Slots) (rank : ℕ → ℕ) (s r : Substitution Symbol Variable) (x : Variable) (pair : ℕ × Bor (List Cell)) → IsSolvedTwice slots rank s r pair → variable_of slots pair.0 ≡ x → ((u : Term) → (IsAmong (terms.variables u) x → ⊥) → apply same_variable s u ≡ apply same_variable r u) → image same_variable s x ≡ image same_variable r x
bound_same slots rank s r x pair h name same =
    own s h.one ∙ same h.binding.whole.0 apart ∙ sym (own r h.other)
  where
    own : (m : Substitution Symbol Variable) → Equalizes (image same_variable m) (variable_cell (variable_of slots pair.0) ∷ []) pair.1.now → image same_variable m x ≡ apply same_variable m h.binding.whole.0
    own m g = subst (λ y. Equalizes (image same_variable m) (variable_cell y ∷ []) pair.1.now) name g (terms.var x) h.binding.whole.0 (record { cells_are = refl; sound = tt }) h.binding.whole.1

    by : (y : Variable) → slot_of slots y ≡ pair.0 → RanksBelow slots rank pair.0 (variable_cell y) → ⊥
    by (query n) e less = omega (arith, less, ap rank e)
    by (entry n) e less = omega (arith, less, ap rank e)
    by (ind n) e less = omega (arith, less, ap rank e)

    apart : IsAmong (terms.variables h.binding.whole.0) x → ⊥
    apart i =
        by x (ap (slot_of slots) (sym name) ∙ (of_slot slots pair.0 h.binding.below).slot)
        (cell_holds (RanksBelow slots rank pair.0) h.binding.whole.0 x (subst (AllByRecursion (RanksBelow slots rank pair.0)) h.binding.whole.1.cells_are h.below) i)

constants_differ : constant 0 ≡ constant 1 → ⊥
constants_differ e = by (ap arity e) where
  arity : Term → ℕ
  arity (terms.var x) = 0
  arity (terms.app s ts) = s.number

  by : ◌≡◌ {A = ℕ} 0 1 → ⊥
  by p = cc

abbrev wrapped : Term → Term
wrapped t = terms.app (record { number = 0; arity = 1 }) (terms.more t terms.none)

wrapped_differs : (t : Term) → wrapped t ≡ t → ⊥
wrapped_differs t e = let sizes = ap terms.size e in omega (arith, sizes)

module _ (tree : Tree Term) (legal : HasLegalNodes tree) (slots : Slots) (frozen : FreezesQuery slots) (q : Term) (numbered : IsNumberedBy query q) (room : HasSlotsForTree slots tree q) where
  -- ---- the variables on a path have slots
  pub on_path : (from : Option ℕ) (p : Path) → IsPath tree from p → (x : Variable) → IsAmong (terms.variables (path_term p)) x → IsInRange slots x
  on_path from [] reached x (inl e) = subst (IsInRange slots) e room.zero
  on_path from [] reached x (inr a) = absurd a
  on_path from (step ∷ above) reached x a =
      let is = is_step tree legal step above reached.1 reached.2 in
      elim (applied_from step.1.bindings (path_term above) x is.binds.distinct a) as (λ _. IsInRange slots x) [
        | inl b ↦ on_path step.1.parent above reached.2 x b
        | inr b ↦ all_at (IsInRange slots) (terms.variables b.0.1) x (all_at (λ c. IsInRange slots (ind c.0) × AllByRecursion (IsInRange slots) (terms.variables c.1)) step.1.bindings b.0 (room.nodes step.0 step.1 reached.1) b.1).1 b.2
      ]

  -- another image of a variable that doesn't stand in the path's term changes nothing
  abbrev changed : ℕ → Term → Substitution Symbol Variable → Substitution Symbol Variable
  changed m t s = (entry m, t) ∷ s

  changed_other : (m : ℕ) (t : Term) (s : Substitution Symbol Variable) (x : Variable) → (entry m ≡ x → ⊥) → image same_variable (changed m t s) x ≡ image same_variable s x
  changed_other m t s x other = elim (variable_tells (entry m) x) as (λ _. image same_variable (changed m t s) x ≡ image same_variable s x) [
    | inl e ↦ absurd (other e.1)
    | inr e ↦ ap (λ b. cond b t (image same_variable s x)) e.0
  ]

  changed_own : (m : ℕ) (t : Term) (s : Substitution Symbol Variable) → image same_variable (changed m t s) (entry m) ≡ t
  changed_own m t s = elim (variable_tells (entry m) (entry m)) as (λ _. image same_variable (changed m t s) (entry m) ≡ t) [
    | inl e ↦ ap (λ b. cond b t (image same_variable s (entry m))) e.0
    | inr e ↦ absurd (e.1 refl)
  ]

  changed_term : (m : ℕ) (t : Term) (s : Substitution Symbol Variable) (u : Term) → (IsAmong (terms.variables u) (entry m) → ⊥) → apply same_variable (changed m t s) u ≡ apply same_variable s u
  changed_term m t s u none = same_substituted (image same_variable (changed m t s)) (image same_variable s) u (λ x a. changed_other m t s x (λ e. none (subst (IsAmong (terms.variables u)) (sym e) a)))

  changed_solves : (m : ℕ) (t : Term) (s : Substitution Symbol Variable) (from : Option ℕ) (p : Path) → IsPath tree from p → (IsAmong (terms.variables (path_term p)) (entry m) → ⊥) → SolvesPath s p → SolvesPath (changed m t s) p
  changed_solves m t s from [] reached none h = tt
  changed_solves m t s from (step ∷ above) reached none h =
      let is = is_step tree legal step above reached.1 reached.2 in (
        all_from (λ b. apply same_variable (changed m t s) (indicator b.0) ≡ apply same_variable (changed m t s) b.1) step.1.bindings (λ b a.
            let left = all_at (IsOpenBelow above) (left_sides step.1.bindings) b.0 is.binds.lefts (binding_left step.1.bindings b.0 b.1 a) in
            changed_other m t s (ind b.0) (no_ind b.0)
            ∙ all_at (λ c. apply same_variable s (indicator c.0) ≡ apply same_variable s c.1) step.1.bindings b h.0 a
            ∙ sym (changed_term m t s b.1 (λ i. none (right_applied step.1.bindings (path_term above) b (entry m) is.binds.distinct a left i)))),
        changed_solves m t s step.1.parent above reached.2 (λ i. none (entry_kept step.1.bindings (path_term above) m i)) h.1,
      )
    where
      no_ind : (n : ℕ) → entry m ≡ ind n → ⊥
      no_ind n e = cc

  module _ (from : Option ℕ) (p : Path) (reached : IsPath tree from p) (pairs : Pairs) (count : ℕ) (shows : ShowsPath slots pairs q p) (solving : AllowsSolving slots pairs count) (distinct : HasDistinctSlots pairs) where
    -- each solution takes the path's term to the query
    gives_query : (s : Substitution Symbol Variable) → IsSolution slots pairs s → apply same_variable s (path_term p) ≡ q
    gives_query s is =
        let h = (shows s).0 is in
        solves_path_term s p h.bindings ∙ h.zero
        ∙ substituted_none (image same_variable s) q (λ x a. let k = of_kind query q x numbered a in subst (λ y. image same_variable s y ≡ terms.var y) k.1 (h.frozen (query k.0) frozen.0))

    -- so all agree on its variables
    pub solutions_agree : (s r : Substitution Symbol Variable) → IsSolution slots pairs s → IsSolution slots pairs r → (x : Variable) → IsAmong (terms.variables (path_term p)) x → image same_variable s x ≡ image same_variable r x
    solutions_agree s r is is' x a = agree (image same_variable s) (image same_variable r) (path_term p) x (gives_query s is ∙ sym (gives_query r is')) a

    -- those of an entry are bound
    pub entry_bound : (m : ℕ) → IsAmong (terms.variables (path_term p)) (entry m) → IsAmong (bound_variables slots pairs) (entry m)
    entry_bound m a =
        let range = on_path from p reached (entry m) a in
        by range (value_at pairs (slot_of slots (entry m))) refl
      where
        by : IsInRange slots (entry m) → (o : Option (Bor (List Cell))) → value_at pairs (slot_of slots (entry m)) ≡ o → IsAmong (bound_variables slots pairs) (entry m)
        by range None e =
            let s = is_free slots pairs solving.bindings distinct solving.triangular (entry m) 0 range frozen.1 e in
            let r = is_free slots pairs solving.bindings distinct solving.triangular (entry m) 1 range frozen.1 e in
            absurd (constants_differ (sym s.2 ∙ solutions_agree s.0 r.0 s.1 r.1 (entry m) a ∙ r.2))
        by range (Some v) e = subst (IsAmong (bound_variables slots pairs)) (variable_of-slot_of slots (entry m) range) (bound_among slots pairs (slot_of slots (entry m)) v e)

    -- and no others are
    pub bound_on_path : (m : ℕ) → IsAmong (bound_variables slots pairs) (entry m) → IsAmong (terms.variables (path_term p)) (entry m)
    bound_on_path m a = elim (variable_among_or_not (terms.variables (path_term p)) (entry m)) as (λ _. IsAmong (terms.variables (path_term p)) (entry m)) [
      | inl i ↦ i
      | inr none ↦ absurd (by none (some_solution slots pairs solving.bindings distinct solving.triangular))
    ] where
      no_ind : entry m ≡ ind 0 → ⊥
      no_ind e = cc

      no_query : (n : ℕ) → query n ≡ entry m → ⊥
      no_query n e = cc

      not_frozen : (x : Variable) → is_frozen slots x ≡ true → entry m ≡ x → ⊥
      not_frozen x f e = bad (sym frozen.1 ∙ subst (λ y. is_frozen slots y ≡ true) (sym e) f) where
        bad : false ≡ true → ⊥
        bad b = cc

      still : (none : IsAmong (terms.variables (path_term p)) (entry m) → ⊥) (s : Substitution Symbol Variable) (t : Term) → IsSolution slots pairs s → IsSolution slots pairs (changed m t s)
      still none s t is =
          let old = (shows s).0 is in
          (shows (changed m t s)).1 (record {
            frozen = λ x f. changed_other m t s x (not_frozen x f) ∙ old.frozen x f;
            zero = changed_other m t s (ind 0) no_ind ∙ old.zero ∙ sym (changed_term m t s q (λ i. let k = of_kind query q (entry m) numbered i in no_query k.0 k.1));
            bindings = changed_solves m t s from p reached none old.bindings;
          })

      by : (IsAmong (terms.variables (path_term p)) (entry m) → ⊥) → (s : Substitution Symbol Variable) × IsSolution slots pairs s → ⊥
      by none (s, is) =
          let new : IsSolution slots pairs (changed m (wrapped (image same_variable s (entry m))) s) = still none s (wrapped (image same_variable s (entry m))) is in
          let pair = pair_of slots pairs (entry m) (IsSolvedTwice slots solving.triangular.0 s (changed m (wrapped (image same_variable s (entry m))) s)) (solved_twice slots solving.triangular.0 s (changed m (wrapped (image same_variable s (entry m))) s) pairs solving.bindings solving.triangular.1 is.equal new.equal) a in
          let same = bound_same slots solving.triangular.0 s (changed m (wrapped (image same_variable s (entry m))) s) (entry m) pair.0 pair.1 pair.2 (λ u none'. sym (changed_term m (wrapped (image same_variable s (entry m))) s u none')) in
          wrapped_differs (image same_variable s (entry m)) (sym (changed_own m (wrapped (image same_variable s (entry m))) s) ∙ sym same)

    -- ---- renaming
    pub renaming_open : (s : Substitution Symbol Variable) → IsSolution slots pairs s → IsRenaming slots pairs → RenamesEntry (terms.variables (path_term p)) s
    renaming_open s is h = record {
      renames = λ m a. (h s is).renames m (entry_bound m a);
      apart = λ m n a b. (h s is).apart m n (entry_bound m a) (entry_bound n b);
    }

    pub open_renaming : (s : Substitution Symbol Variable) → IsSolution slots pairs s → RenamesEntry (terms.variables (path_term p)) s → IsRenaming slots pairs
    open_renaming s is h r is' =
        let same : (m : ℕ) → IsAmong (bound_variables slots pairs) (entry m) → image same_variable r (entry m) ≡ image same_variable s (entry m) = λ m a. solutions_agree r s is' is (entry m) (bound_on_path m a) in
        record {
          renames = λ m a. (let y = h.renames m (bound_on_path m a) in (y.0, same m a ∙ y.1));
          apart = λ m n a b e. h.apart m n (bound_on_path m a) (bound_on_path n b) (sym (same m a) ∙ e ∙ same n b);
        }
