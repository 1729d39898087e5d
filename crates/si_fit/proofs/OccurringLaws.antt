-- What the search for a variable in a term tells, cell by cell.
use Rattle.std.proofs.Common.{◌≡◌, ℕ, zero, suc, ◌+◌, ◌<◌, ◌≤◌, ◌==◌, ◌||◌, inl, inr, Bool, true, false, List, [], ◌∷◌, ◌++◌, length, take, get_or, refl, sym, ◌∙◌, ap, subst, arith, Option, None, Some}
use Rattle.std.proofs.lemmas.Bool.Decides.{eqb_tells}
use Rattle.std.proofs.Math.Seq.{take-suc}
use Rattle.std.specs.List.{AllByRecursion}
use Rattle.std.specs.Borrow.{Bor}
use Rattle.si_defs.specs.Terms as terms
use Rattle.si_defs.proofs.ListLaws.{all_weaker, all_append, all_get}
use Rattle.si_flat.specs.declared.Cell.{Cell}
use Rattle.si_flat.specs.declared.Cell.TheVariants as cell
use Rattle.si_flat.specs.Cells.{Variable, query, entry, ind, Term, variable_cell, cells_of}
use Rattle.si_trail.specs.Trails.{value_at}
use Rattle.si_unify.specs.declared.slots.Slots.{Slots}
use Rattle.si_unify.specs.Solving.{Pairs, slot_of, variable_of, IsInRange, CellIsInRange, IsSolvedBy, IsBinding}
use Rattle.si_unify.specs.Spots.{cell_slot}
use Rattle.si_unify.proofs.Places.{value_holds, variable_of-slot_of}
use Rattle.si_unify.proofs.Weights.{FitsIn, fits}
use Rattle.si_fit.specs.Occurring.{slot_leads, some_leads, value_leads, leads_to, AvoidsCell, Avoids, image_size, OccursInCell, OccursIn, HasSearchedCell, HasSearched}
use Rattle.si_fit.specs.declared.occurring.Occurrence.{Occurrence}
use Rattle.si_fit.specs.declared.occurring.Occurrence.TheVariants.{Absent, Present, Unknown}
use Rattle.si_fit.proofs.EndLaws.{no_cell, value_same}

or_true : (b : Bool) → (b || true) ≡ true
or_true true = refl
or_true false = refl

-- ---- cell by cell
pub avoids_more : (slots : Slots) (pairs : Pairs) (target : ℕ) (cells : List Cell) (i : ℕ) → i < length cells → Avoids slots pairs target (take i cells) → AvoidsCell slots pairs target (get_or cells i no_cell) → Avoids slots pairs target (take (i + 1) cells)
avoids_more slots pairs target cells i less before here =
    let n : i + 1 ≡ suc i = omega arith in
    let taken : take (i + 1) cells ≡ take i cells ++ get_or cells i no_cell ∷ [] = ap (λ m. take m cells) n ∙ take-suc cells i no_cell less in
    subst (Avoids slots pairs target) (sym taken) (all_append (AvoidsCell slots pairs target) (take i cells) (get_or cells i no_cell ∷ []) before (here, tt))

-- ---- what leads there
-- where what leads in one way leads in the other
some_still : (P Q : ℕ → Bool) (slots : Slots) (cells : List Cell) → ((slot : ℕ) → P slot ≡ true → Q slot ≡ true) → some_leads P slots cells ≡ true → some_leads Q slots cells ≡ true
some_still P Q slots [] give e = cc
some_still P Q slots (c ∷ cells) give e = first (cell_slot slots c) (slot_leads P (cell_slot slots c)) refl refl e (some_still P Q slots cells give) where
  one : (o : Option ℕ) → slot_leads P o ≡ true → slot_leads Q o ≡ true
  one None e = cc
  one (Some slot) e = give slot e

  first : (o : Option ℕ) (b : Bool) → cell_slot slots c ≡ o → slot_leads P (cell_slot slots c) ≡ b → (slot_leads P (cell_slot slots c) || some_leads P slots cells) ≡ true → (some_leads P slots cells ≡ true → some_leads Q slots cells ≡ true) → some_leads Q slots (c ∷ cells) ≡ true
  first o true is here e rest = ap (λ b. b || some_leads Q slots cells) (one (cell_slot slots c) here)
  first o false is here e rest = ap (λ b. slot_leads Q (cell_slot slots c) || b) (rest (sym (ap (λ b. b || some_leads P slots cells) here) ∙ e)) ∙ or_true (slot_leads Q (cell_slot slots c))

value_still : (P Q : ℕ → Bool) (slots : Slots) (o : Option (Bor (List Cell))) → ((slot : ℕ) → P slot ≡ true → Q slot ≡ true) → value_leads P slots o ≡ true → value_leads Q slots o ≡ true
value_still P Q slots None give e = cc
value_still P Q slots (Some v) give e = some_still P Q slots v.now give e

-- in more steps too
pub leads_still : (slots : Slots) (pairs : Pairs) (target : ℕ) (n m : ℕ) (slot : ℕ) → n ≤ m → leads_to slots pairs target n slot ≡ true → leads_to slots pairs target m slot ≡ true
leads_still slots pairs target zero zero slot less e = e
leads_still slots pairs target zero (suc m) slot less e = ap (λ b. b || value_leads (leads_to slots pairs target m) slots (value_at pairs slot)) e
leads_still slots pairs target (suc n) zero slot less e = absurd (omega (arith, less))
leads_still slots pairs target (suc n) (suc m) slot less e =
    elim (eqb_tells slot target) [
      | inl h ↦ rw h.0 refl
      | inr h ↦ rw h.0 (value_still (leads_to slots pairs target n) (leads_to slots pairs target m) slots (value_at pairs slot) (λ k. leads_still slots pairs target n m k (omega (arith, less))) (rw h.0 at e))
    ]

-- a cell of the value that does leads from the slot
each_leads : (P : ℕ → Bool) (slots : Slots) (cells : List Cell) → AllByRecursion (λ c. slot_leads P (cell_slot slots c) ≡ true → some_leads P slots cells ≡ true) cells
each_leads P slots [] = tt
each_leads P slots (c ∷ cells) = (
  λ e. ap (λ b. b || some_leads P slots cells) e,
  all_weaker (λ d. slot_leads P (cell_slot slots d) ≡ true → some_leads P slots cells ≡ true) (λ d. slot_leads P (cell_slot slots d) ≡ true → some_leads P slots (c ∷ cells) ≡ true) cells
      (λ d h e. ap (λ b. slot_leads P (cell_slot slots c) || b) (h e) ∙ or_true (slot_leads P (cell_slot slots c)))
      (each_leads P slots cells),
)

pub leads_on : (slots : Slots) (pairs : Pairs) (target n slot : ℕ) (v : Bor (List Cell)) → value_at pairs slot ≡ Some v → AllByRecursion (λ c. slot_leads (leads_to slots pairs target n) (cell_slot slots c) ≡ true → leads_to slots pairs target (suc n) slot ≡ true) v.now
leads_on slots pairs target n slot v bound =
    all_weaker (λ c. slot_leads (leads_to slots pairs target n) (cell_slot slots c) ≡ true → some_leads (leads_to slots pairs target n) slots v.now ≡ true) (λ c. slot_leads (leads_to slots pairs target n) (cell_slot slots c) ≡ true → leads_to slots pairs target (suc n) slot ≡ true) v.now
    (λ c h e. ap (λ o. slot == target || value_leads (leads_to slots pairs target n) slots o) bound ∙ ap (λ b. slot == target || b) (h e) ∙ or_true (slot == target))
    (each_leads (leads_to slots pairs target n) slots v.now)

-- ---- what doesn't
differs : (slot target : ℕ) → (slot ≡ target → ⊥) → (slot == target) ≡ false
differs slot target apart = elim (eqb_tells slot target) [ inl h ↦ absurd (apart h.1) | inr h ↦ h.0 ]

none_leads : (P : ℕ → Bool) (slots : Slots) (cells : List Cell) → AllByRecursion (λ c. slot_leads P (cell_slot slots c) ≡ false) cells → some_leads P slots cells ≡ false
none_leads P slots [] h = refl
none_leads P slots (c ∷ cells) h = ap (λ b. b || some_leads P slots cells) h.0 ∙ none_leads P slots cells h.1

module _ (slots : Slots) (pairs : Pairs) (target : ℕ) (c : Cell) where
  pub symbol_avoids : cell_slot slots c ≡ None → AvoidsCell slots pairs target c
  symbol_avoids e n = ap (slot_leads (leads_to slots pairs target n)) e

  avoids_by : (slot : ℕ) → cell_slot slots c ≡ Some slot → (slot ≡ target → ⊥) → ((n : ℕ) → value_leads (leads_to slots pairs target n) slots (value_at pairs slot) ≡ false) → AvoidsCell slots pairs target c
  avoids_by slot e apart none n = ap (slot_leads (leads_to slots pairs target n)) e ∙ go n where
    go : (n : ℕ) → leads_to slots pairs target n slot ≡ false
    go zero = differs slot target apart
    go (suc n) = ap (λ b. b || value_leads (leads_to slots pairs target n) slots (value_at pairs slot)) (differs slot target apart) ∙ none n

  pub unbound_avoids : (slot : ℕ) → cell_slot slots c ≡ Some slot → (slot ≡ target → ⊥) → value_at pairs slot ≡ None → AvoidsCell slots pairs target c
  unbound_avoids slot e apart unbound = avoids_by slot e apart (λ n. ap (value_leads (leads_to slots pairs target n) slots) unbound)

  pub bound_avoids : (slot : ℕ) (v : Bor (List Cell)) → cell_slot slots c ≡ Some slot → (slot ≡ target → ⊥) → value_at pairs slot ≡ Some v → Avoids slots pairs target v.now → AvoidsCell slots pairs target c
  bound_avoids slot v e apart bound h =
      avoids_by slot e apart (λ n.
      ap (value_leads (leads_to slots pairs target n) slots) bound
      ∙ none_leads (leads_to slots pairs target n) slots v.now (all_weaker (AvoidsCell slots pairs target) (λ d. slot_leads (leads_to slots pairs target n) (cell_slot slots d) ≡ false) v.now (λ d k. k n) h))

-- ---- what is found
module _ (slots : Slots) (pairs : Pairs) (target : ℕ) where
  no_larger : (x : Variable) → IsInRange slots x → slot_of slots x ≡ target → (f : Variable → Term) → terms.size (f (variable_of slots target)) ≤ terms.size (f x)
  no_larger x range e f = omega (arith, ap (λ y. terms.size (f y)) (ap (variable_of slots) (sym e) ∙ variable_of-slot_of slots x range))

  pub itself_occurs : (c : Cell) → CellIsInRange slots c → cell_slot slots c ≡ Some target → OccursInCell slots pairs target c
  itself_occurs (cell.App s a n) range e = cc
  itself_occurs (cell.Query n) range e = let here : slot_of slots (query n) ≡ target = cc in λ f is. no_larger (query n) range here f
  itself_occurs (cell.Entry n) range e = let here : slot_of slots (entry n) ≡ target = cc in λ f is. no_larger (entry n) range here f
  itself_occurs (cell.Ind n) range e = let here : slot_of slots (ind n) ≡ target = cc in λ f is. no_larger (ind n) range here f

  fit_image : (f : Variable → Term) (n : ℕ) (c : Cell) → FitsIn f n c → image_size f c ≤ n
  fit_image f n (cell.App s a m) h = omega arith
  fit_image f n (cell.Query k) h = h
  fit_image f n (cell.Entry k) h = h
  fit_image f n (cell.Ind k) h = h

  pub images_fit : (f : Variable → Term) (n : ℕ) (cells : List Cell) → AllByRecursion (FitsIn f n) cells → AllByRecursion (λ c. image_size f c ≤ n) cells
  images_fit f n cells h = all_weaker (FitsIn f n) (λ c. image_size f c ≤ n) cells (fit_image f n) h

  in_value : (x : Variable) (slot : ℕ) (v : Bor (List Cell)) → CellIsInRange slots (variable_cell x) → slot_of slots x ≡ slot → value_at pairs slot ≡ Some v → AllByRecursion (IsBinding slots) pairs → OccursIn slots pairs target v.now → (f : Variable → Term) → IsSolvedBy slots pairs f → terms.size (f (variable_of slots target)) ≤ terms.size (f x)
  in_value x slot v range e bound bindings occurs f is =
      let whole = (value_holds (IsBinding slots) pairs slot v bindings bound).whole in
      let same : f x ≡ terms.substitute f whole.0 = value_same slots pairs x v whole.0 range (ap (value_at pairs) e ∙ bound) whole.1 f is in
      occurs f (terms.size (f x)) is
      (subst (AllByRecursion (λ c. image_size f c ≤ terms.size (f x))) (sym whole.1.cells_are)
      (images_fit f (terms.size (f x)) (cells_of whole.0) (fits f (terms.size (f x)) whole.0 (omega (arith, ap terms.size same)))))

  pub value_occurs : (c : Cell) (slot : ℕ) (v : Bor (List Cell)) → CellIsInRange slots c → cell_slot slots c ≡ Some slot → value_at pairs slot ≡ Some v → AllByRecursion (IsBinding slots) pairs → OccursIn slots pairs target v.now → OccursInCell slots pairs target c
  value_occurs (cell.App s a n) slot v range e bound bindings occurs = cc
  value_occurs (cell.Query n) slot v range e bound bindings occurs = let here : slot_of slots (query n) ≡ slot = cc in in_value (query n) slot v range here bound bindings occurs
  value_occurs (cell.Entry n) slot v range e bound bindings occurs = let here : slot_of slots (entry n) ≡ slot = cc in in_value (entry n) slot v range here bound bindings occurs
  value_occurs (cell.Ind n) slot v range e bound bindings occurs = let here : slot_of slots (ind n) ≡ slot = cc in in_value (ind n) slot v range here bound bindings occurs

  -- what a cell's value tells, of the cell
  pub value_searched : (c : Cell) (slot : ℕ) (v : Bor (List Cell)) (found : Occurrence) → CellIsInRange slots c → cell_slot slots c ≡ Some slot → (slot ≡ target → ⊥) → value_at pairs slot ≡ Some v → AllByRecursion (IsBinding slots) pairs → HasSearched slots pairs target v.now found → HasSearchedCell slots pairs target c found
  value_searched c slot v Absent range e apart bound bindings h = bound_avoids slots pairs target c slot v e apart bound h
  value_searched c slot v Present range e apart bound bindings h = value_occurs c slot v range e bound bindings h
  value_searched c slot v Unknown range e apart bound bindings h = tt

  pub one_occurs : (cells : List Cell) (i : ℕ) → i < length cells → OccursInCell slots pairs target (get_or cells i no_cell) → OccursIn slots pairs target cells
  one_occurs cells i less occurs f n is all =
      omega (arith, occurs f is, all_get (λ c. image_size f c ≤ n) cells i no_cell all less)
