-- A triangular list of bindings has a solution: the map that takes each bound variable to its
-- value, with the variables in it replaced again and again.
use Rattle.std.proofs.Common.{◌≡◌, ◌≢◌, ℕ, ◌+◌, ◌-◌, ◌<◌, ◌≤◌, ◌⊎◌, ◌↔◌, inl, inr, Bool, true, false, cond, List, [], ◌∷◌, refl, sym, ◌∙◌, ap, subst, arith, suc, zero, append-nil, None, Some}
use Rattle.std.proofs.lemmas.Bool.Decides.{eqb_tells, nat_tests}
use Rattle.std.proofs.lemmas.Bool.{eq-eqb, cases_Bool}
use Rattle.std.specs.Prelude.{◌==◌, nat_lt}
use Rattle.std.specs.List.{AllByRecursion}
use Rattle.std.specs.Borrow.{Bor}
use Rattle.si_defs.specs.Terms as terms
use Rattle.si_defs.specs.Substitutions.{Substitution, image}
use Rattle.si_defs.proofs.ListLaws.{all_with, all_front, all_back}
use Rattle.si_flat.specs.declared.Cell.{Cell}
use Rattle.si_flat.specs.Cells.{Symbol, Variable, query, entry, ind, same_variable, Term, Terms, variable_cell, cells_of, cells_of_all}
use Rattle.si_flat.proofs.VariableLaws.{variable_is, variable_self}
use Rattle.si_trail.specs.Trails.{value_at, HasDistinctSlots}
use Rattle.si_unify.specs.declared.slots.Slots.{Slots}
use Rattle.si_unify.specs.Solving.{Pairs, slot_count, slot_of, variable_of, is_frozen, IsInRange, CellIsInRange, Equalizes, IsBinding, RanksBelow, IsTriangularBy, IsAcyclic, IsSolution}
use Rattle.si_unify.proofs.Reading.{same_term}
use Rattle.si_unify.proofs.Places.{variable_of-slot_of, in_range-variable}
use Rattle.si_unify.proofs.Lists.{apart_from}

-- ---- what holds of each variable of a term
abbrev mutual
  AllVariables : (Variable → Type 0) → Term → Type 0
  AllVariables P (terms.var x) = P x
  AllVariables P (terms.app s ts) = AllVariablesOf P ts

  AllVariablesOf : (Variable → Type 0) → Terms → Type 0
  AllVariablesOf P terms.none = Unit {0}
  AllVariablesOf P (terms.more t ts) = AllVariables P t × AllVariablesOf P ts

mutual
  of_cells : (C : Cell → Type 0) (P : Variable → Type 0) (t : Term) → ((x : Variable) → C (variable_cell x) → P x) → AllByRecursion C (cells_of t) → AllVariables P t
  of_cells C P (terms.var x) give h = give x h.0
  of_cells C P (terms.app s ts) give h = of_all_cells C P ts give h.1

  of_all_cells : (C : Cell → Type 0) (P : Variable → Type 0) (ts : Terms) → ((x : Variable) → C (variable_cell x) → P x) → AllByRecursion C (cells_of_all ts) → AllVariablesOf P ts
  of_all_cells C P terms.none give h = tt
  of_all_cells C P (terms.more t ts) give h = (
    of_cells C P t give (all_front C (cells_of t) (cells_of_all ts) h),
    of_all_cells C P ts give (all_back C (cells_of t) (cells_of_all ts) h),
  )

mutual
  same_image : (P : Variable → Type 0) (g h : Variable → Term) (t : Term) → ((x : Variable) → P x → g x ≡ h x) → AllVariables P t → terms.substitute g t ≡ terms.substitute h t
  same_image P g h (terms.var x) give all = give x all
  same_image P g h (terms.app s ts) give all = ap (terms.app s) (same_images P g h ts give all)

  same_images : (P : Variable → Type 0) (g h : Variable → Term) (ts : Terms) → ((x : Variable) → P x → g x ≡ h x) → AllVariablesOf P ts → terms.substitute_all g ts ≡ terms.substitute_all h ts
  same_images P g h terms.none give all = refl
  same_images P g h (terms.more t ts) give all =
      ap (λ u. terms.more u (terms.substitute_all g ts)) (same_image P g h t give all.0) ∙ ap (terms.more (terms.substitute h t)) (same_images P g h ts give all.1)

-- ---- variables and slots
pub record IsOfSlot (slots : Slots) (k : ℕ) (x : Variable) : Type 0 where
  pub range : IsInRange slots x
  pub slot : slot_of slots x ≡ k

pub lt_tells : (m n : ℕ) → ((nat_lt m n ≡ true) × (m < n)) ⊎ ((nat_lt m n ≡ false) × (n ≤ m))
lt_tells m n = go (nat_lt m n) refl
  where
    go : (b : Bool) → nat_lt m n ≡ b → ((nat_lt m n ≡ true) × (m < n)) ⊎ ((nat_lt m n ≡ false) × (n ≤ m))
    go true e = inl (e, grind (arith, nat_tests))
    go false e = inr (e, grind (arith, nat_tests))

pub of_slot : (slots : Slots) (k : ℕ) → k < slot_count slots → IsOfSlot slots k (variable_of slots k)
of_slot slots k less =
    elim (lt_tells k slots.query) [
      | inl h ↦ rw h.0 (record { range = h.1; slot = refl })
      | inr h ↦
          elim (lt_tells k (slots.query + slots.entry)) [
            | inl j ↦ rw (h.0, j.0) (record { range = omega (arith, h.1, j.1); slot = omega (arith, h.1) })
            | inr j ↦ rw (h.0, j.0) (record { range = omega (arith, h.1, j.1, less); slot = omega (arith, h.1, j.1) })
          ]
    ]

-- ---- slots of an entry
pub entry_here : (slots : Slots) (k : ℕ) → slots.query ≤ k → k < slots.query + slots.entry → variable_of slots k ≡ entry (k - slots.query)
entry_here slots k above below = elim (lt_tells k slots.query) [
  | inl h ↦ absurd (omega (arith, above, h.1))
  | inr h ↦ elim (lt_tells k (slots.query + slots.entry)) [
    | inl j ↦ rw (h.0, j.0) refl
    | inr j ↦ absurd (omega (arith, below, j.1))
  ]
]

pub record IsEntrySlot (slots : Slots) (k m : ℕ) : Type 0 where
  pub above : slots.query ≤ k
  pub below : k < slots.query + slots.entry
  pub slot : slots.query + m ≡ k

query_no : (m n : ℕ) → query m ≡ entry n → ⊥
query_no m n e = cc

ind_no : (m n : ℕ) → ind m ≡ entry n → ⊥
ind_no m n e = cc

pub same_number : (m n : ℕ) → entry m ≡ entry n → m ≡ n
same_number m n e = cc

pub entry_slot : (slots : Slots) (k m : ℕ) → variable_of slots k ≡ entry m → IsEntrySlot slots k m
entry_slot slots k m e = elim (lt_tells k slots.query) [
  | inl h ↦ let bad : query k ≡ entry m = rw h.0 at e in absurd (query_no k m bad)
  | inr h ↦ elim (lt_tells k (slots.query + slots.entry)) [
    | inl j ↦ let one : entry (k - slots.query) ≡ entry m = rw (h.0, j.0) at e in record { above = h.1; below = j.1; slot = omega (arith, h.1, same_number (k - slots.query) m one) }
    | inr j ↦ let bad : ind (k - slots.query - slots.entry) ≡ entry m = rw (h.0, j.0) at e in absurd (ind_no (k - slots.query - slots.entry) m bad)
  ]
]

pub entry_tells : (slots : Slots) (k : ℕ) → slots.query ≤ k → nat_lt k (slots.query + slots.entry) ≡ true ↔ ((n : ℕ) × (variable_of slots k ≡ entry n))
entry_tells slots k above = elim (lt_tells k (slots.query + slots.entry)) [
  | inl h ↦ ((λ t. (k - slots.query, entry_here slots k above h.1)), λ e. h.0)
  | inr h ↦ ((λ t. let bad : false ≡ true = sym h.0 ∙ t in cc), λ e. absurd (omega (arith, h.1, (entry_slot slots k e.0 e.1).below)))
]

-- ---- rows of slots and terms
abbrev pub IsApartFrom : ℕ → ℕ × Term → Type 0
IsApartFrom slot row = row.0 ≢ slot

abbrev IsUnfrozen : Slots → ℕ × Term → Type 0
IsUnfrozen slots row = is_frozen slots (variable_of slots row.0) ≡ false

module _ (slots : Slots) (rank : ℕ → ℕ) where
  abbrev IsUnder : ℕ → Variable → Type 0
  IsUnder slot x = IsInRange slots x × (rank (slot_of slots x) < rank slot)

  abbrev IsRow : ℕ × Term → Type 0
  IsRow row = AllVariables (IsUnder row.0) row.1

  abbrev found : List (ℕ × Term) → (Variable → Term) → Variable → Term
  found [] g x = terms.var x
  found (row ∷ rows) g x = cond (row.0 == slot_of slots x) (terms.substitute g row.1) (found rows g x)

  abbrev times : List (ℕ × Term) → ℕ → Variable → Term
  times rows zero x = terms.var x
  times rows (suc n) x = found rows (times rows n) x

  found_same : (rows : List (ℕ × Term)) (g h : Variable → Term) (x : Variable) → AllByRecursion IsRow rows → ((y : Variable) → rank (slot_of slots y) < rank (slot_of slots x) → g y ≡ h y) → found rows g x ≡ found rows h x
  found_same [] g h x ranked give = refl
  found_same (row ∷ rows) g h x ranked give =
      elim (eqb_tells row.0 (slot_of slots x)) [
        | inl k ↦ rw k.0 (same_image (IsUnder row.0) g h row.1 (λ y under. give y (omega (arith, under.1, ap rank k.1))) ranked.0)
        | inr k ↦ rw k.0 (found_same rows g h x ranked.1 give)
      ]

  stable : (rows : List (ℕ × Term)) (n : ℕ) (x : Variable) → AllByRecursion IsRow rows → rank (slot_of slots x) < n → times rows n x ≡ times rows (suc n) x
  stable rows zero x ranked less = absurd (omega (arith, less))
  stable rows (suc n) x ranked less = found_same rows (times rows n) (times rows (suc n)) x ranked (λ y under. stable rows n y ranked (omega (arith, less, under)))

  found_none : (rows : List (ℕ × Term)) (g : Variable → Term) (x : Variable) → AllByRecursion (IsApartFrom (slot_of slots x)) rows → found rows g x ≡ terms.var x
  found_none [] g x apart = refl
  found_none (row ∷ rows) g x apart = elim (eqb_tells row.0 (slot_of slots x)) [ inl k ↦ absurd (apart.0 k.1) | inr k ↦ rw k.0 (found_none rows g x apart.1) ]

  times_none : (rows : List (ℕ × Term)) (n : ℕ) (x : Variable) → AllByRecursion (IsApartFrom (slot_of slots x)) rows → times rows n x ≡ terms.var x
  times_none rows zero x apart = refl
  times_none rows (suc n) x apart = found_none rows (times rows n) x apart

  abbrev Finds : List (ℕ × Term) → ℕ × Term → Type 0
  Finds rows row = (g : Variable → Term) (x : Variable) → row.0 ≡ slot_of slots x → found rows g x ≡ terms.substitute g row.1

  all_found : (rows : List (ℕ × Term)) → HasDistinctSlots rows → AllByRecursion (Finds rows) rows
  all_found [] distinct = tt
  all_found (row ∷ rows) distinct = (
    λ g x e. rw (eq-eqb row.0 (slot_of slots x) e) refl,
    all_with (IsApartFrom row.0) (Finds rows) (Finds (row ∷ rows)) rows (λ r apart finds g x e. behind r apart finds g x e) (apart_from rows row.0 distinct.0) (all_found rows distinct.1),
  )
    where
      behind : (r : ℕ × Term) → IsApartFrom row.0 r → Finds rows r → (g : Variable → Term) (x : Variable) → r.0 ≡ slot_of slots x → found (row ∷ rows) g x ≡ terms.substitute g r.1
      behind r apart finds g x e = elim (eqb_tells row.0 (slot_of slots x)) [ inl k ↦ absurd (apart (e ∙ sym k.1)) | inr k ↦ rw k.0 (finds g x e) ]

  -- ---- the finite map
  abbrev made : List (ℕ × Term) → (Variable → Term) → Substitution Symbol Variable
  made [] f = []
  made (row ∷ rows) f = (variable_of slots row.0, f (variable_of slots row.0)) ∷ made rows f

  image_made : (rows : List (ℕ × Term)) (f : Variable → Term) (x : Variable) → IsInRange slots x → (image same_variable (made rows f) x ≡ f x) ⊎ ((image same_variable (made rows f) x ≡ terms.var x) × AllByRecursion (IsApartFrom (slot_of slots x)) rows)
  image_made [] f x range = inr (refl, tt)
  image_made (row ∷ rows) f x range =
      elim (cases_Bool (same_variable (variable_of slots row.0) x)) [
        | inl k ↦ inl (ap (λ b. cond b (f (variable_of slots row.0)) (image same_variable (made rows f) x)) k ∙ ap f (variable_is (variable_of slots row.0) x k))
        | inr k ↦
            let skip : image same_variable (made (row ∷ rows) f) x ≡ image same_variable (made rows f) x =
            ap (λ b. cond b (f (variable_of slots row.0)) (image same_variable (made rows f) x)) k in
            elim (image_made rows f x range) [
              | inl e ↦ inl (skip ∙ e)
              | inr e ↦ inr (skip ∙ e.0, (λ same. not_same row.0 x range k same, e.1))
            ]
      ]
    where
      not_same : (z : ℕ) (x : Variable) → IsInRange slots x → same_variable (variable_of slots z) x ≡ false → z ≡ slot_of slots x → ⊥
      not_same z x range k same =
          let is : variable_of slots z ≡ x = ap (variable_of slots) same ∙ variable_of-slot_of slots x range in
          let bad : true ≡ false = sym (variable_self x) ∙ sym (ap (λ y. same_variable y x) is) ∙ k in cc

  image_frozen : (rows : List (ℕ × Term)) (f : Variable → Term) (x : Variable) → AllByRecursion (IsUnfrozen slots) rows → is_frozen slots x ≡ true → image same_variable (made rows f) x ≡ terms.var x
  image_frozen [] f x free frozen = refl
  image_frozen (row ∷ rows) f x free frozen =
      elim (cases_Bool (same_variable (variable_of slots row.0) x)) [
        | inl k ↦ let bad : true ≡ false = sym frozen ∙ sym (ap (is_frozen slots) (variable_is (variable_of slots row.0) x k)) ∙ free.0 in cc
        | inr k ↦
            ap (λ b. cond b (f (variable_of slots row.0)) (image same_variable (made rows f) x)) k ∙ image_frozen rows f x free.1 frozen
      ]

-- the rows of a list of bindings: each slot with the term that its value stands for
abbrev pub rows : (slots : Slots) (pairs : Pairs) → AllByRecursion (IsBinding slots) pairs → List (ℕ × Term)
rows slots [] b = []
rows slots (pair ∷ pairs) b = (pair.0, b.0.whole.0) ∷ rows slots pairs b.1

rows_unfrozen : (slots : Slots) (pairs : Pairs) (b : AllByRecursion (IsBinding slots) pairs) → AllByRecursion (IsUnfrozen slots) (rows slots pairs b)
rows_unfrozen slots [] b = tt
rows_unfrozen slots (pair ∷ pairs) b = (b.0.unfrozen, rows_unfrozen slots pairs b.1)

rows_none : (slots : Slots) (pairs : Pairs) (b : AllByRecursion (IsBinding slots) pairs) (slot : ℕ) → value_at pairs slot ≡ None → value_at (rows slots pairs b) slot ≡ None
rows_none slots [] b slot e = refl
rows_none slots (pair ∷ pairs) b slot e =
    elim (eqb_tells pair.0 slot) [
      | inl k ↦ let bad : Some pair.1 ≡ None = rw k.0 at e in cc
      | inr k ↦ rw k.0 (rows_none slots pairs b.1 slot (rw k.0 at e))
    ]

rows_distinct : (slots : Slots) (pairs : Pairs) (b : AllByRecursion (IsBinding slots) pairs) → HasDistinctSlots pairs → HasDistinctSlots (rows slots pairs b)
rows_distinct slots [] b distinct = tt
rows_distinct slots (pair ∷ pairs) b distinct = (rows_none slots pairs b.1 pair.0 distinct.0, rows_distinct slots pairs b.1 distinct.1)

under_cell : (slots : Slots) (rank : ℕ → ℕ) (slot : ℕ) (x : Variable) → RanksBelow slots rank slot (variable_cell x) → rank (slot_of slots x) < rank slot
under_cell slots rank slot (query n) h = h
under_cell slots rank slot (entry n) h = h
under_cell slots rank slot (ind n) h = h

abbrev BothAt : Slots → (ℕ → ℕ) → ℕ → Cell → Type 0
BothAt slots rank slot c = CellIsInRange slots c × RanksBelow slots rank slot c

row_of : (slots : Slots) (rank : ℕ → ℕ) (pair : ℕ × Bor (List Cell)) (b : IsBinding slots pair) → AllByRecursion (RanksBelow slots rank pair.0) pair.1.now → AllVariables (IsUnder slots rank pair.0) b.whole.0
row_of slots rank pair b ranks =
    of_cells (BothAt slots rank pair.0) (IsUnder slots rank pair.0) b.whole.0
    (λ x h. (in_range-variable slots x h.0, under_cell slots rank pair.0 x h.1))
    (
    subst (AllByRecursion (BothAt slots rank pair.0)) b.whole.1.cells_are
    (all_with (CellIsInRange slots) (RanksBelow slots rank pair.0) (BothAt slots rank pair.0) pair.1.now (λ c r k. (r, k)) b.in_range ranks)
    )

rows_ranked : (slots : Slots) (rank : ℕ → ℕ) (pairs : Pairs) (b : AllByRecursion (IsBinding slots) pairs) → IsTriangularBy slots rank pairs → AllByRecursion (IsRow slots rank) (rows slots pairs b)
rows_ranked slots rank [] b ranks = tt
rows_ranked slots rank (pair ∷ pairs) b ranks = (row_of slots rank pair b.0 ranks.0, rows_ranked slots rank pairs b.1 ranks.1)

-- more than each slot's rank
abbrev top : (ℕ → ℕ) → Pairs → ℕ
top rank [] = 1
top rank (pair ∷ pairs) = rank pair.0 + top rank pairs

abbrev RanksUnderTop : (ℕ → ℕ) → ℕ → ℕ × Bor (List Cell) → Type 0
RanksUnderTop rank n pair = rank pair.0 < n

top_above : (rank : ℕ → ℕ) (pairs : Pairs) (n : ℕ) → top rank pairs ≤ n → AllByRecursion (RanksUnderTop rank n) pairs
top_above rank [] n h = tt
top_above rank (pair ∷ pairs) n h = (omega (arith, h, top_some rank pairs), top_above rank pairs n (omega (arith, h)))
  where
    top_some : (rank : ℕ → ℕ) (pairs : Pairs) → 0 < top rank pairs
    top_some rank [] = omega arith
    top_some rank (pair ∷ pairs) = omega (arith, top_some rank pairs)

module _ (slots : Slots) (rank : ℕ → ℕ) (pairs : Pairs) (bindings : AllByRecursion (IsBinding slots) pairs) (distinct : HasDistinctSlots pairs) (triangular : IsTriangularBy slots rank pairs) where
  abbrev all_rows : List (ℕ × Term)
  all_rows = rows slots pairs bindings

  abbrev full : Variable → Term
  full = times slots rank all_rows (top rank pairs)

  abbrev map_of : Substitution Symbol Variable
  map_of = made slots rank all_rows full

  image_full : (x : Variable) → IsInRange slots x → image same_variable map_of x ≡ full x
  image_full x range =
      elim (image_made slots rank all_rows full x range) [
        | inl e ↦ e
        | inr e ↦ e.0 ∙ sym (times_none slots rank all_rows (top rank pairs) x e.1)
      ]

  solves_pair : (pair : ℕ × Bor (List Cell)) (b : IsBinding slots pair) → rank pair.0 < top rank pairs → IsRow slots rank (pair.0, b.whole.0) → Finds slots rank all_rows (pair.0, b.whole.0) → Equalizes (image same_variable map_of) (variable_cell (variable_of slots pair.0) ∷ []) pair.1.now
  solves_pair pair b less row finds t u left right =
      let x : Variable = variable_of slots pair.0 in
      let of : IsOfSlot slots pair.0 (variable_of slots pair.0) = of_slot slots pair.0 b.below in
      let t_is : t ≡ terms.var (variable_of slots pair.0) =
      (same_term t (terms.var (variable_of slots pair.0)) [] [] left.sound tt (append-nil (cells_of t) ∙ sym left.cells_are)).same in
      let u_is : u ≡ b.whole.0 =
      (same_term u b.whole.0 [] [] right.sound b.whole.1.sound (append-nil (cells_of u) ∙ sym right.cells_are ∙ b.whole.1.cells_are ∙ sym (append-nil (cells_of b.whole.0)))).same in
      ap (terms.substitute (image same_variable map_of)) t_is
      ∙ image_full (variable_of slots pair.0) of.range
      ∙ stable slots rank all_rows (top rank pairs) (variable_of slots pair.0) (rows_ranked slots rank pairs bindings triangular) (omega (arith, less, ap rank of.slot))
      ∙ finds full (variable_of slots pair.0) (sym of.slot)
      ∙ same_image (IsUnder slots rank pair.0) full (image same_variable map_of) b.whole.0 (λ y under. sym (image_full y under.0)) row
      ∙ ap (terms.substitute (image same_variable map_of)) (sym u_is)

  solves_all : (some : Pairs) (b : AllByRecursion (IsBinding slots) some) → AllByRecursion (RanksUnderTop rank (top rank pairs)) some → AllByRecursion (IsRow slots rank) (rows slots some b) → AllByRecursion (Finds slots rank all_rows) (rows slots some b) → AllByRecursion (λ pair. Equalizes (image same_variable map_of) (variable_cell (variable_of slots pair.0) ∷ []) pair.1.now) some
  solves_all [] b less row finds = tt
  solves_all (pair ∷ some) b less row finds = (solves_pair pair b.0 less.0 row.0 finds.0, solves_all some b.1 less.1 row.1 finds.1)

  solved_by_map : IsSolution slots pairs map_of
  solved_by_map = record {
    frozen = λ x frozen. image_frozen slots rank all_rows full x (rows_unfrozen slots pairs bindings) frozen;
    equal =
        solves_all pairs bindings (top_above rank pairs (top rank pairs) (omega arith)) (rows_ranked slots rank pairs bindings triangular)
        (all_found slots rank all_rows (rows_distinct slots pairs bindings distinct));
  }

-- a triangular list has a solution
pub solved_of_triangular : (slots : Slots) (pairs : Pairs) → AllByRecursion (IsBinding slots) pairs → HasDistinctSlots pairs → IsAcyclic slots pairs → (s : Substitution Symbol Variable) × IsSolution slots pairs s
solved_of_triangular slots pairs bindings distinct triangular =
    (map_of slots triangular.0 pairs bindings distinct triangular.1, solved_by_map slots triangular.0 pairs bindings distinct triangular.1)
