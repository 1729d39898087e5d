-- What becomes of the variables of an entry, binding by binding.
use Rattle.std.proofs.Common.{◌≡◌, ◌≢◌, ◌↔◌, ◌⊎◌, inl, inr, ℕ, ◌+◌, ◌<◌, ◌≤◌, zero, suc, Bool, true, false, IsTrue, List, [], ◌∷◌, ◌++◌, map, take, length, slice_get, get_or, refl, sym, ◌∙◌, ap, subst, arith, append-nil, Option, None, Some, is_some, is_none}
use Rattle.std.proofs.lemmas.Bool.Decides.{eqb_tells}
use Rattle.std.proofs.lemmas.Option.{same_Some, slice_get-get_or}
use Rattle.std.specs.Borrow.{Bor}
use Rattle.si_defs.specs.Terms as terms
use Rattle.si_defs.specs.Substitutions.{Substitution, image, apply, Grows, IsAmong}
use Rattle.si_defs.proofs.ListLaws.{all_got, get_front}
use Rattle.si_flat.specs.declared.Cell.{Cell}
use Rattle.si_flat.specs.declared.Cell.TheVariants as cell
use Rattle.si_flat.specs.Cells.{Symbol, Variable, query, entry, ind, same_variable, Term}
use Rattle.si_trail.specs.Trails.{value_at, HasDistinctSlots, IsSlotOf}
use Rattle.si_unify.specs.declared.slots.Slots.{Slots}
use Rattle.si_unify.specs.Solving.{Pairs, slot_of, variable_of, is_frozen, IsInRange, CellIsInRange, AreInRange, IsSolution, AllowsSolving}
use Rattle.si_unify.specs.Spots.{cell_slot, IsUnbound}
use Rattle.si_unify.proofs.Lists.{apart_from}
use Rattle.si_unify.proofs.Places.{whole_at, first_cell, cell-at, inside, in_range-at}
use Rattle.si_unify.proofs.Solutions.{lt_tells, entry_slot, same_number}
use Rattle.si_legal.specs.OpenNodes.{RenamesEntry}
use Rattle.si_descend.specs.declared.variants.Became.TheVariants.{NoEntry, Variable as Same, Term as Other}
use Rattle.si_fit.specs.Ends.{EndsAt}
use Rattle.si_descend.specs.Renaming.{FreezesQuery, bound_variables, IsRenamingFirst, IsRenaming, BindsEntry, HasBecome, IsTakenBefore, AreTaken, TakesVariable}
use Rattle.si_fit.proofs.EndLaws.{no_cell, value_same}
use Rattle.si_descend.proofs.FreeLaws.{value_at-last, value_at-others, is_free, some_solution}

take_whole : {X : Type 0} (xs : List X) (n : ℕ) → length xs ≤ n → take n xs ≡ xs
take_whole [] zero h = refl
take_whole [] (suc n) h = refl
take_whole (x ∷ xs) zero h = absurd (omega (arith, h))
take_whole (x ∷ xs) (suc n) h = ap (λ l. x ∷ l) (take_whole xs n (omega (arith, h)))

-- ---- places in lists
pub got_within : {X : Type 0} (xs : List X) (n : ℕ) (x : X) → slice_get xs n ≡ Some x → n < length xs
got_within [] n x e = absurd (by e) where
  by : None ≡ Some x → ⊥
  by p = cc
got_within (y ∷ xs) zero x e = omega arith
got_within (y ∷ xs) (suc n) x e = omega (arith, got_within xs n x e)

mapped_at : {X Y : Type 0} (f : X → Y) (xs : List X) (n j : ℕ) (x : X) → j < n → slice_get xs j ≡ Some x → IsAmong (map f (take n xs)) (f x)
mapped_at f [] n j x less e = absurd (by e) where
  by : None ≡ Some x → ⊥
  by p = cc
mapped_at f (y ∷ xs) zero j x less e = absurd (omega (arith, less))
mapped_at f (y ∷ xs) (suc n) zero x less e = inl (ap f (same_Some y x e))
mapped_at f (y ∷ xs) (suc n) (suc j) x less e = inr (mapped_at f xs n j x (omega (arith, less)) e)

at_mapped : {X Y : Type 0} (f : X → Y) (xs : List X) (n : ℕ) (y : Y) → IsAmong (map f (take n xs)) y → (j : ℕ) × (j < n) × ((x : X) × (slice_get xs j ≡ Some x) × (f x ≡ y))
at_mapped f [] zero y a = absurd a
at_mapped f [] (suc n) y a = absurd a
at_mapped f (x ∷ xs) zero y a = absurd a
at_mapped f (x ∷ xs) (suc n) y (inl e) = (0, omega arith, (x, refl, e))
at_mapped f (x ∷ xs) (suc n) y (inr a) = let h = at_mapped f xs n y a in (suc h.0, omega (arith, h.1), h.2)

pub none_got : {X : Type 0} (x : X) → None ≡ Some x → ⊥
none_got x e = cc

-- no slot stands twice
one_place : (pairs : Pairs) (i j slot : ℕ) (v w : Bor (List Cell)) → HasDistinctSlots pairs → slice_get pairs i ≡ Some (slot, v) → slice_get pairs j ≡ Some (slot, w) → i ≡ j
one_place [] i j slot v w d e f = absurd (none_got (slot, v) e)
one_place (p ∷ pairs) zero zero slot v w d e f = refl
one_place (p ∷ pairs) zero (suc j) slot v w d e f =
    let first : p.0 ≡ slot = ap (λ q. q.0) (same_Some p (slot, v) e) in
    absurd (all_got (λ q. q.0 ≡ slot → ⊥) pairs j (slot, w) (apart_from pairs slot (subst (λ k. value_at pairs k ≡ None) first d.0)) f refl)
one_place (p ∷ pairs) (suc i) zero slot v w d e f =
    let first : p.0 ≡ slot = ap (λ q. q.0) (same_Some p (slot, w) f) in
    absurd (all_got (λ q. q.0 ≡ slot → ⊥) pairs i (slot, v) (apart_from pairs slot (subst (λ k. value_at pairs k ≡ None) first d.0)) e refl)
one_place (p ∷ pairs) (suc i) (suc j) slot v w d e f = ap suc (one_place pairs i j slot v w d.1 e f)

slot_same : (a b : ℕ × Bor (List Cell)) → Some a ≡ Some b → a.0 ≡ b.0
slot_same a b e = ap (λ p. p.0) (same_Some a b e)

same_query : (m n : ℕ) → ◌≡◌ {A = Term} (terms.var (query m)) (terms.var (query n)) → m ≡ n
same_query m n e = cc

module _ (slots : Slots) (pairs : Pairs) (count : ℕ) (frozen : FreezesQuery slots) (solving : AllowsSolving slots pairs count) (distinct : HasDistinctSlots pairs) where
  solution : (s : Substitution Symbol Variable) × IsSolution slots pairs s
  solution = some_solution slots pairs solving.bindings distinct solving.triangular

  -- ---- one binding
  one_entry : (n k m : ℕ) → BindsEntry slots pairs n k → BindsEntry slots pairs n m → k ≡ m
  one_entry n k m a b =
      let same : (a.slot, a.is_slot.0) ≡ (b.slot, b.is_slot.0) = same_Some (a.slot, a.is_slot.0) (b.slot, b.is_slot.0) (sym a.is_slot.1 ∙ b.is_slot.1) in
      same_number k m (sym a.variable ∙ ap (λ p. variable_of slots p.0) same ∙ b.variable)

  one_number : (i j k : ℕ) → BindsEntry slots pairs i k → BindsEntry slots pairs j k → i ≡ j
  one_number i j k a b =
      let p = entry_slot slots a.slot k a.variable in
      let q = entry_slot slots b.slot k b.variable in
      one_place pairs i j b.slot a.is_slot.0 b.is_slot.0 distinct (subst (λ l. slice_get pairs i ≡ Some (l, a.is_slot.0)) (sym p.slot ∙ q.slot) a.is_slot.1) b.is_slot.1

  pub no_entry : (n slot : ℕ) → IsSlotOf pairs n slot → ((m : ℕ) × (variable_of slots slot ≡ entry m) → ⊥) → HasBecome slots pairs n NoEntry
  no_entry n slot h none m b =
      let here : b.slot ≡ slot = slot_same (b.slot, b.is_slot.0) (slot, h.0) (sym b.is_slot.1 ∙ h.1) in
      none (m, ap (variable_of slots) (sym here) ∙ b.variable)

  module _ (n slot : ℕ) (is_slot : IsSlotOf pairs n slot) (m : ℕ) (name : variable_of slots slot ≡ entry m) (v : Bor (List Cell)) (bound : Some v ≡ value_at pairs slot) (end : List Cell) (ends : EndsAt slots pairs v.now end) (range : AreInRange slots end) where
    binds : BindsEntry slots pairs n m
    binds = record { slot = slot; is_slot = is_slot; variable = name }

    head_is : get_or end 0 no_cell ≡ first_cell ends.last
    head_is = cell-at end 0 ends.last no_cell (whole_at end ends.last ends.last_stands)

    head_range : CellIsInRange slots (get_or end 0 no_cell)
    head_range = in_range-at slots end 0 no_cell range (inside end 0 ends.last (whole_at end ends.last ends.last_stands))

    -- each solution takes the variable to what it makes of the end
    becomes : (s : Substitution Symbol Variable) → IsSolution slots pairs s → image same_variable s (entry m) ≡ apply same_variable s ends.last
    becomes s is =
        let here = entry_slot slots slot m name in
        let inside_entry : m < slots.entry = omega (arith, here.slot, here.below) in
        value_same slots pairs (entry m) v ends.first inside_entry (ap (value_at pairs) here.slot ∙ sym bound) ends.first_stands (image same_variable s) is
        ∙ ends.same (image same_variable s) is

    pub query_range : (k : ℕ) → get_or end 0 no_cell ≡ cell.Query k → k < slots.query
    query_range k e = subst (CellIsInRange slots) e head_range

    pub became_query : (k : ℕ) → get_or end 0 no_cell ≡ cell.Query k → HasBecome slots pairs n (Same k)
    became_query k e = (m, binds, λ s is. becomes s is ∙ ap (apply same_variable s) (last_is ends.last (sym head_is ∙ e)) ∙ is.frozen (query k) frozen.0) where
      last_is : (t : Term) → first_cell t ≡ cell.Query k → t ≡ terms.var (query k)
      last_is (terms.var (query j)) p = ap (λ i. terms.var (query i)) (number j p) where
        number : (j : ℕ) → cell.Query j ≡ cell.Query k → j ≡ k
        number j q = cc
      last_is (terms.var (entry j)) p = absurd (by p) where
        by : cell.Entry j ≡ cell.Query k → ⊥
        by q = cc
      last_is (terms.var (ind j)) p = absurd (by p) where
        by : cell.Ind j ≡ cell.Query k → ⊥
        by q = cc
      last_is (terms.app r ts) p = absurd (by p) where
        by : cell.App r.number r.arity (1 + terms.sizes ts) ≡ cell.Query k → ⊥
        by q = cc

    pub became_other : ((k : ℕ) → get_or end 0 no_cell ≡ cell.Query k → ⊥) → HasBecome slots pairs n Other
    became_other none = (m, binds, by ends.last refl) where
      app_no : (r : Symbol) (ts : terms.Terms Symbol Variable) (y : Variable) → terms.app r ts ≡ terms.var y → ⊥
      app_no r ts y e = cc

      free : (x : Variable) → IsInRange slots x → is_frozen slots x ≡ false → value_at pairs (slot_of slots x) ≡ None → ends.last ≡ terms.var x → (s : Substitution Symbol Variable) × IsSolution slots pairs s × ((y : Variable) → image same_variable s (entry m) ≡ terms.var y → ⊥)
      free x inside_x unfrozen unbound e =
          let s = is_free slots pairs solving.bindings distinct solving.triangular x 0 inside_x unfrozen unbound in
          (s.0, s.1, λ y p. app_no (record { number = 0; arity = 0 }) terms.none y (sym (becomes s.0 s.1 ∙ ap (apply same_variable s.0) e ∙ s.2) ∙ p))

      by : (t : Term) → ends.last ≡ t → (s : Substitution Symbol Variable) × IsSolution slots pairs s × ((y : Variable) → image same_variable s (entry m) ≡ terms.var y → ⊥)
      by (terms.var (query k)) e = absurd (none k (head_is ∙ ap first_cell e))
      by (terms.var (entry k)) e = free (entry k) (subst (CellIsInRange slots) (head_is ∙ ap first_cell e) head_range) frozen.1 (subst (λ c. IsUnbound pairs (cell_slot slots c)) (head_is ∙ ap first_cell e) ends.unbound) e
      by (terms.var (ind k)) e = free (ind k) (subst (CellIsInRange slots) (head_is ∙ ap first_cell e) head_range) refl (subst (λ c. IsUnbound pairs (cell_slot slots c)) (head_is ∙ ap first_cell e) ends.unbound) e
      by (terms.app r ts) e = (solution.0, solution.1, λ y p. app_no r (terms.substitute_all (image same_variable solution.0) ts) y (sym (becomes solution.0 solution.1 ∙ ap (apply same_variable solution.0) e) ∙ p))

  -- ---- the first bindings
  record RenamesBindings (n : ℕ) (s : Substitution Symbol Variable) : Type 0 where
    renames : (j m : ℕ) → j < n → BindsEntry slots pairs j m → (y : Variable) × (image same_variable s (entry m) ≡ terms.var y)
    apart : (i j k m : ℕ) → i < n → j < n → BindsEntry slots pairs i k → BindsEntry slots pairs j m → image same_variable s (entry k) ≡ image same_variable s (entry m) → k ≡ m

  among_bound : (n j m : ℕ) → j < n → BindsEntry slots pairs j m → IsAmong (bound_variables slots (take n pairs)) (entry m)
  among_bound n j m less b =
      subst (IsAmong (bound_variables slots (take n pairs))) b.variable (mapped_at (λ p. variable_of slots p.0) pairs n j (b.slot, b.is_slot.0) less b.is_slot.1)

  bound_among : (n m : ℕ) → IsAmong (bound_variables slots (take n pairs)) (entry m) → (j : ℕ) × (j < n) × BindsEntry slots pairs j m
  bound_among n m a =
      let h = at_mapped (λ p. variable_of slots p.0) pairs n (entry m) a in
      (h.0, h.1, record { slot = h.2.0.0; is_slot = (h.2.0.1, h.2.1); variable = h.2.2 })

  from_list : (n : ℕ) (s : Substitution Symbol Variable) → RenamesEntry (bound_variables slots (take n pairs)) s → RenamesBindings n s
  from_list n s h = record {
    renames = λ j m less b. h.renames m (among_bound n j m less b);
    apart = λ i j k m less less' a b. h.apart k m (among_bound n i k less a) (among_bound n j m less' b);
  }

  to_list : (n : ℕ) (s : Substitution Symbol Variable) → RenamesBindings n s → RenamesEntry (bound_variables slots (take n pairs)) s
  to_list n s h = record {
    renames = λ m a. (let b = bound_among n m a in h.renames b.0 m b.1 b.2);
    apart = λ k m a a'. (let b = bound_among n k a in let c = bound_among n m a' in h.apart b.0 c.0 k m b.1 c.1 b.2 c.2);
  }

  last_or : (n j : ℕ) → j < n + 1 → (j < n) ⊎ (j ≡ n)
  last_or n j less = elim (eqb_tells j n) as (λ _. (j < n) ⊎ (j ≡ n)) [ inl e ↦ inr e.1 | inr d ↦ inl (below j n less d.1) ] where
    below : (j n : ℕ) → j < n + 1 → (j ≡ n → ⊥) → j < n
    below j n less d = elim (lt_tells j n) as (λ _. j < n) [ inl h ↦ h.1 | inr h ↦ absurd (d (omega (arith, h.1, less))) ]

  -- ---- one more
  module _ (n : ℕ) (known : IsRenamingFirst slots pairs n) where
    pub more_none : HasBecome slots pairs n NoEntry → IsRenamingFirst slots pairs (n + 1)
    more_none none s is =
        let old = from_list n s (known s is) in
        to_list (n + 1) s (record {
          renames = λ j m less b. elim (last_or n j less) as (λ _. (y : Variable) × (image same_variable s (entry m) ≡ terms.var y)) [
            | inl h ↦ old.renames j m h b
            | inr e ↦ absurd (none m (subst (λ i. BindsEntry slots pairs i m) e b))
          ];
          apart = λ i j k m less less' a b e. elim (last_or n i less) as (λ _. k ≡ m) [
            | inl h ↦ elim (last_or n j less') as (λ _. k ≡ m) [ inl g ↦ old.apart i j k m h g a b e | inr g ↦ absurd (none m (subst (λ l. BindsEntry slots pairs l m) g b)) ]
            | inr h ↦ absurd (none k (subst (λ l. BindsEntry slots pairs l k) h a))
          ];
        })

    pub more_apart : (k : ℕ) → HasBecome slots pairs n (Same k) → IsTakenBefore slots pairs n k false → IsRenamingFirst slots pairs (n + 1)
    more_apart q (l, own, is_query) free s is =
        let old = from_list n s (known s is) in
        let here : (m : ℕ) → BindsEntry slots pairs n m → image same_variable s (entry m) ≡ terms.var (query q) = λ m b. ap (λ i. image same_variable s (entry i)) (one_entry n m l b own) ∙ is_query s is in
        to_list (n + 1) s (record {
          renames = λ j m less b. elim (last_or n j less) as (λ _. (y : Variable) × (image same_variable s (entry m) ≡ terms.var y)) [
            | inl h ↦ old.renames j m h b
            | inr e ↦ (query q, here m (subst (λ i. BindsEntry slots pairs i m) e b))
          ];
          apart = λ i j k m less less' a b e. elim (last_or n i less) as (λ _. k ≡ m) [
            | inl h ↦ elim (last_or n j less') as (λ _. k ≡ m) [
              | inl g ↦ old.apart i j k m h g a b e
              | inr g ↦ absurd (free i k h a s is (e ∙ here m (subst (λ l. BindsEntry slots pairs l m) g b)))
            ]
            | inr h ↦ elim (last_or n j less') as (λ _. k ≡ m) [
              | inl g ↦ absurd (free j m g b s is (sym e ∙ here k (subst (λ l. BindsEntry slots pairs l k) h a)))
              | inr g ↦ one_entry n k m (subst (λ l. BindsEntry slots pairs l k) h a) (subst (λ l. BindsEntry slots pairs l m) g b)
            ]
          ];
        })

    pub never_more : HasBecome slots pairs n Other → IsRenamingFirst slots pairs (n + 1) → ⊥
    never_more (m, b, (s, is, other)) h = let y = (from_list (n + 1) s (h s is)).renames n m (omega arith) b in other y.0 y.1

    pub never_taken : (k : ℕ) → HasBecome slots pairs n (Same k) → IsTakenBefore slots pairs n k true → IsRenamingFirst slots pairs (n + 1) → ⊥
    never_taken q (l, own, is_query) (j, less, (m, b, is_too)) h =
        let s = solution in
        let same : m ≡ l = (from_list (n + 1) s.0 (h s.0 s.1)).apart j n m l (omega (arith, less)) (omega arith) b own (is_too s.0 s.1 ∙ sym (is_query s.0 s.1)) in
        omega (arith, less, one_number j n l (subst (BindsEntry slots pairs j) same b) own)

    -- ---- what is taken then
    more_unless : (b : Bool) (k : ℕ) → ((m : ℕ) → BindsEntry slots pairs n m → (s : Substitution Symbol Variable) → IsSolution slots pairs s → image same_variable s (entry m) ≡ terms.var (query k) → ⊥) → IsTakenBefore slots pairs n k b → IsTakenBefore slots pairs (n + 1) k b
    more_unless true k other (j, less, became) = (j, omega (arith, less), became)
    more_unless false k other apart = λ j l less b s is e. elim (last_or n j less) as (λ _. ⊥) [
      | inl h ↦ apart j l h b s is e
      | inr g ↦ other l (subst (λ i. BindsEntry slots pairs i l) g b) s is e
    ]

    module _ {T : Type 0} where
      pub told_apart : (k : ℕ) (taken : List (ℕ × T)) (free : Bool) → HasBecome slots pairs n (Same k) → AreTaken slots pairs n taken → free ≡ is_none (value_at taken k) → IsTrue free ↔ IsRenamingFirst slots pairs (n + 1)
      told_apart k taken free b t e = by (value_at taken k) (t k) e where
        no : false ≡ true → ⊥
        no p = cc

        by : (o : Option T) → IsTakenBefore slots pairs n k (is_some o) → free ≡ is_none o → IsTrue free ↔ IsRenamingFirst slots pairs (n + 1)
        by None apart is = (λ p. more_apart k b apart, λ h. is)
        by (Some x) there is = (λ p. absurd (no (sym is ∙ p)), λ h. absurd (never_taken k b there h))

      pub none_more_taken : (taken : List (ℕ × T)) → HasBecome slots pairs n NoEntry → AreTaken slots pairs n taken → AreTaken slots pairs (n + 1) taken
      none_more_taken taken none t k = more_unless (is_some (value_at taken k)) k (λ m b s is e. none m b) (t k)

      pub one_more_taken : (q : ℕ) (old new : List (ℕ × T)) (free : Bool) → HasBecome slots pairs n (Same q) → AreTaken slots pairs n old → free ≡ is_none (value_at old q) → TakesVariable old q new free → IsTrue free → AreTaken slots pairs (n + 1) new
      one_more_taken q old new true became t free (x, new_is) told k =
          subst (λ l. IsTakenBefore slots pairs (n + 1) k (is_some (value_at l k))) (sym new_is)
          (elim (eqb_tells k q) as (λ _. IsTakenBefore slots pairs (n + 1) k (is_some (value_at (old ++ (q, x) ∷ []) k))) [ inl e ↦ here e.1 | inr d ↦ else d.1 ])
        where
          unbound : (o : Option T) → true ≡ is_none o → o ≡ None
          unbound None e = refl
          unbound (Some y) e = absurd (no e) where
            no : true ≡ false → ⊥
            no p = cc

          here : k ≡ q → IsTakenBefore slots pairs (n + 1) k (is_some (value_at (old ++ (q, x) ∷ []) k))
          here e =
              subst (λ i. IsTakenBefore slots pairs (n + 1) i (is_some (value_at (old ++ (q, x) ∷ []) i))) (sym e)
              (subst (λ o. IsTakenBefore slots pairs (n + 1) q (is_some o)) (sym (value_at-last old q x (unbound (value_at old q) free))) (n, omega arith, became))

          other : k ≢ q → (m : ℕ) → BindsEntry slots pairs n m → (s : Substitution Symbol Variable) → IsSolution slots pairs s → image same_variable s (entry m) ≡ terms.var (query k) → ⊥
          other d l b s is e = d (sym (same_query q k (sym (became.2 s is) ∙ ap (λ i. image same_variable s (entry i)) (one_entry n became.0 l became.1 b) ∙ e)))

          else : k ≢ q → IsTakenBefore slots pairs (n + 1) k (is_some (value_at (old ++ (q, x) ∷ []) k))
          else d =
              subst (λ o. IsTakenBefore slots pairs (n + 1) k (is_some o)) (sym (value_at-others old q k x d))
              (more_unless (is_some (value_at old k)) k (other d) (t k))
      one_more_taken q old new false became t free takes told k = absurd (no told) where
        no : false ≡ true → ⊥
        no p = cc

  -- ---- all of them
  pub all_renamed : (n : ℕ) → length pairs ≤ n → IsRenamingFirst slots pairs n → IsRenaming slots pairs
  all_renamed n long h s is = subst (λ l. RenamesEntry (bound_variables slots l) s) (take_whole pairs n long) (h s is)

  pub all_taken : {T : Type 0} (n : ℕ) (taken : List (ℕ × T)) → length pairs ≤ n → AreTaken slots pairs n taken → AreTaken slots pairs (length pairs) taken
  all_taken n taken long t k = by (is_some (value_at taken k)) (t k) where
    by : (b : Bool) → IsTakenBefore slots pairs n k b → IsTakenBefore slots pairs (length pairs) k b
    by true (j, less, (l, b, is)) = (j, got_within pairs j (b.slot, b.is_slot.0) b.is_slot.1, (l, b, is))
    by false apart = λ j l less b s is e. apart j l (omega (arith, less, long)) b s is e

  pub first_renamed : (n : ℕ) → IsRenaming slots pairs → IsRenamingFirst slots pairs n
  first_renamed n h s is =
      let all = from_list (length pairs) s (subst (λ l. RenamesEntry (bound_variables slots l) s) (sym (take_whole pairs (length pairs) (omega arith))) (h s is)) in
      to_list n s (record {
        renames = λ j m less b. all.renames j m (got_within pairs j (b.slot, b.is_slot.0) b.is_slot.1) b;
        apart = λ i j k m less less' a b. all.apart i j k m (got_within pairs i (a.slot, a.is_slot.0) a.is_slot.1) (got_within pairs j (b.slot, b.is_slot.0) b.is_slot.1) a b;
      })

-- ---- what is taken
pub takes_grows : {T : Type 0} (old : List (ℕ × T)) (k : ℕ) (new : List (ℕ × T)) (b : Bool) → TakesVariable old k new b → Grows old new
takes_grows old k new true (x, e) = ((k, x) ∷ [], e)
takes_grows old k new false e = ([], e ∙ sym (append-nil old))

-- it stays so with more bindings
pub still_taken : (slots : Slots) (old new : Pairs) → Grows old new → ((s : Substitution Symbol Variable) → IsSolution slots new s → IsSolution slots old s) → (k : ℕ) (b : Bool) → IsTakenBefore slots old (length old) k b → IsTakenBefore slots new (length old) k b
still_taken slots old new grows solved k true (n, less, (l, bound, is)) = (n, less, (l, bound_still, λ s h. is s (solved s h))) where
  bound_still : BindsEntry slots new n l
  bound_still = record {
    slot = bound.slot;
    is_slot = (bound.is_slot.0, subst (λ xs. slice_get xs n ≡ Some (bound.slot, bound.is_slot.0)) (sym grows.1) (get_front old grows.0 n (bound.slot, bound.is_slot.0) bound.is_slot.1));
    variable = bound.variable;
  }
still_taken slots old new grows solved k false apart = λ n l less b s is e. apart n l less (bound_before n l less b) s (solved s is) e where
  bound_before : (n l : ℕ) → n < length old → BindsEntry slots new n l → BindsEntry slots old n l
  bound_before n l less b =
      let got : slice_get old n ≡ Some (get_or old n (b.slot, b.is_slot.0)) = slice_get-get_or old n (b.slot, b.is_slot.0) less in
      let front : slice_get new n ≡ Some (get_or old n (b.slot, b.is_slot.0)) = subst (λ xs. slice_get xs n ≡ Some (get_or old n (b.slot, b.is_slot.0))) (sym grows.1) (get_front old grows.0 n (get_or old n (b.slot, b.is_slot.0)) got) in
      record { slot = b.slot; is_slot = (b.is_slot.0, got ∙ sym front ∙ b.is_slot.1); variable = b.variable }

-- ---- answers
pub never : {P : Type 0} → (P → ⊥) → IsTrue false ↔ P
never {P} none = (λ e. absurd (by e), λ p. absurd (none p)) where
  by : false ≡ true → ⊥
  by e = cc

pub always : {P : Type 0} → P → IsTrue true ↔ P
always p = (λ e. p, λ q. refl)

pub untrue : (b : Bool) {P : Type 0} → IsTrue b ↔ P → b ≡ false → P → ⊥
untrue b h e p = by (sym e ∙ h.1 p) where
  by : false ≡ true → ⊥
  by q = cc

-- what isn't a variable of a query
pub app_no_query : (c : Cell) (s a n : ℕ) → c ≡ cell.App s a n → (k : ℕ) → c ≡ cell.Query k → ⊥
app_no_query c s a n e k f = by (sym e ∙ f) where
  by : cell.App s a n ≡ cell.Query k → ⊥
  by q = cc

pub entry_cell_no_query : (c : Cell) (n : ℕ) → c ≡ cell.Entry n → (k : ℕ) → c ≡ cell.Query k → ⊥
entry_cell_no_query c n e k f = by (sym e ∙ f) where
  by : cell.Entry n ≡ cell.Query k → ⊥
  by q = cc

pub ind_cell_no_query : (c : Cell) (n : ℕ) → c ≡ cell.Ind n → (k : ℕ) → c ≡ cell.Query k → ⊥
ind_cell_no_query c n e k f = by (sym e ∙ f) where
  by : cell.Ind n ≡ cell.Query k → ⊥
  by q = cc
