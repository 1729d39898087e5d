-- Where only those clauses were tried whose rows allow a map, all that have one are named.
use Rattle.std.proofs.Common.{◌≡◌, ◌⊎◌, inl, inr, ℕ, zero, suc, ◌<◌, ◌≤◌, List, [], ◌∷◌, ◌++◌, length, drop, refl, sym, ap, ◌∙◌, subst, arith, append_assoc, append-nil, length-append}
use Rattle.std.specs.Prelude.{Some, slice_get}
use Rattle.std.specs.List.{AllByRecursion}
use Rattle.std.proofs.lemmas.Option.{same_Some, none-some, slice_get_past}
use Rattle.si_defs.specs.Clauses.{Literal, Clause}
use Rattle.si_defs.specs.Substitutions.{IsAmong}
use Rattle.si_defs.proofs.ListLaws.{all_weaker, all_append, all_at, all_from, get_among, among_parts, among_back, get_here}
use Rattle.si_term.specs.Meaning.{clause_of}
use Rattle.si_term.specs.declared.clause.Clause as term
use Rattle.si_keyed.specs.Placed.{placed_items, HasPlace, PlacesRise}
use Rattle.si_keyed.proofs.PlacedLaws.{same_position}
use Rattle.si_lanes.specs.Rows.{ArePositions, AppendsPositions}
use Rattle.si_index.specs.Kept.{clauses_of}
use Rattle.si_defs.specs.Symbols.{Symbol, Numbering}
use Rattle.si_flat.specs.Numbered.{number_in}
use Rattle.si_screen.specs.ClauseRows.{IsRowOf, lacking, with_extra}
use Rattle.si_screen.proofs.MapLaws.{rows_follow}
use Rattle.si_screen.proofs.RowLaws.{row_with}
use Rattle.si_index.specs.Searching.{IsKnownClause}
use Rattle.si_index.proofs.SlotLaws.{clause_among}
use Rattle.si_index.specs.declared.subsuming.Direction.{Direction}
use Rattle.si_index.specs.declared.subsuming.Direction.TheVariants.{ToFormula, FromFormula}
use Rattle.si_index.specs.Slots.{Slots, HaveSlotRows}
use Rattle.si_index.specs.Subsuming.{AreMappedFrom, ArePassing, IsMapIn, PassesIn, TriesAtPosition, TriesSlot, TriesSlots}
use Rattle.si_index.specs.declared.subsuming.Mapped.{Mapped}

-- what is left of a list after its first
rest_of : {X : Type 0} (xs : List X) (n : ℕ) (x : X) (rest : List X) → x ∷ rest ≡ drop n xs → (slice_get xs n ≡ Some x) × (rest ≡ drop (suc n) xs)
rest_of [] zero x rest e = absurd cc
rest_of [] (suc n) x rest e = absurd cc
rest_of (y ∷ xs) zero x rest e = (cc, cc)
rest_of (y ∷ xs) (suc n) x rest e = rest_of xs n x rest e

past : {X : Type 0} (xs : List X) (n : ℕ) → [] ≡ drop n xs → length xs ≤ n
past [] n e = omega arith
past (y ∷ xs) zero e = absurd cc
past (y ∷ xs) (suc n) e = omega (arith, past xs n e)

here_or_behind : (n a : ℕ) → n ≤ a → (a ≡ n) ⊎ (n < a)
here_or_behind zero zero h = inl refl
here_or_behind zero (suc a) h = inr (omega arith)
here_or_behind (suc n) zero h = absurd (omega (arith, h))
here_or_behind (suc n) (suc a) h =
    elim (here_or_behind n a (omega (arith, h))) [
      | inl e ↦ inl (ap suc e)
      | inr l ↦ inr (omega (arith, l))
    ]

one_more : {X : Type 0} (xs : List X) (x : X) → length (xs ++ x ∷ []) ≡ suc (length xs)
one_more xs x = let more = length-append xs (x ∷ []) in omega (arith, more)

module _ (P : List Literal → List ℕ → Type 0) (Passes : List ℕ → Type 0) (slots : Slots) (rise : PlacesRise slots) (rows : List (List ℕ)) where
  -- each clause has a row, which passes if the clause has a map
  abbrev pub AreScreened : Type 0
  AreScreened = (x : ℕ × (ℕ × term.Clause)) → IsAmong slots x → (row : List ℕ) × (slice_get rows x.0 ≡ Some row) × ((ns : List ℕ) → P (clause_of x.1.1).literals ns → Passes row)

  -- the clauses from here on are named, after those that were
  abbrev AreNamedFrom : ℕ → Slots → List Mapped → List Mapped → Type 0
  AreNamedFrom k rest ms new = (others : List Mapped) × AreMappedFrom P k (clauses_of (placed_items rest)) others × (new ≡ ms ++ others)

  -- a clause that was tried, and then the others
  tried_then : (k : ℕ) (c : Clause) (cs : List Clause) (ms mid new : List Mapped) → TriesAtPosition P k c ms mid
      → (others : List Mapped) × AreMappedFrom P (suc k) cs others × (new ≡ mid ++ others) → (others : List Mapped) × AreMappedFrom P k (c ∷ cs) others × (new ≡ ms ++ others)
  tried_then k c cs ms mid new (inl t) later = (
    t.0 ∷ later.0,
    inl (t.0, later.0, t.1, t.2, later.1, refl),
    later.2 ∙ ap (λ l. l ++ later.0) t.3 ∙ append_assoc ms (t.0 ∷ []) later.0,
  )
  tried_then k c cs ms mid new (inr t) later = (later.0, inr (t.0, later.1), later.2 ∙ ap (λ l. l ++ later.0) t.1)

  -- a clause without a map, and then the others
  unmapped_then : (k : ℕ) (c : Clause) (cs : List Clause) (ms new : List Mapped) → ((ns : List ℕ) → P c.literals ns → ⊥)
      → (others : List Mapped) × AreMappedFrom P (suc k) cs others × (new ≡ ms ++ others) → (others : List Mapped) × AreMappedFrom P k (c ∷ cs) others × (new ≡ ms ++ others)
  unmapped_then k c cs ms new none later = (later.0, inr (none, later.1), later.2)

  module _ (screened : AreScreened) where
    -- those before the place were settled, and the others stand there or after it
    record IsAt (n : ℕ) (before rest : Slots) : Type 0 where
      pub whole : slots ≡ before ++ rest
      pub lower : AllByRecursion (λ (x : ℕ × (ℕ × term.Clause)). x.0 < n) before
      pub higher : AllByRecursion (λ (x : ℕ × (ℕ × term.Clause)). n ≤ x.0) rest
      pub rising : PlacesRise rest

    -- the place has no clause
    behind : (n : ℕ) (rest : Slots) → AllByRecursion (λ (x : ℕ × (ℕ × term.Clause)). n < x.0) rest → AllByRecursion (λ (x : ℕ × (ℕ × term.Clause)). suc n ≤ x.0) rest
    behind n rest all = all_weaker (λ (x : ℕ × (ℕ × term.Clause)). n < x.0) (λ (x : ℕ × (ℕ × term.Clause)). suc n ≤ x.0) rest (λ x h. omega (arith, h)) all

    no_place : (n : ℕ) (before rest : Slots) → IsAt n before rest → AllByRecursion (λ (x : ℕ × (ℕ × term.Clause)). n < x.0) rest → HasPlace slots n → ⊥
    no_place n before rest at all (x, there) =
        elim (among_parts before rest (n, x) (subst (λ l. IsAmong l (n, x)) at.whole there)) [
          | inl a ↦ omega (arith, all_at (λ (y : ℕ × (ℕ × term.Clause)). y.0 < n) before (n, x) at.lower a)
          | inr a ↦ omega (arith, all_at (λ (y : ℕ × (ℕ × term.Clause)). n < y.0) rest (n, x) all a)
        ]

    empty_next : (n : ℕ) (before rest : Slots) → IsAt n before rest → AllByRecursion (λ (x : ℕ × (ℕ × term.Clause)). n < x.0) rest → IsAt (suc n) before rest
    empty_next n before rest at all = record {
      whole = at.whole;
      lower = all_weaker (λ (x : ℕ × (ℕ × term.Clause)). x.0 < n) (λ (x : ℕ × (ℕ × term.Clause)). x.0 < suc n) before (λ x h. omega (arith, h)) at.lower;
      higher = behind n rest all;
      rising = at.rising;
    }

    full_next : (n : ℕ) (before rest : Slots) (x : ℕ × (ℕ × term.Clause)) → IsAt n before (x ∷ rest) → x.0 ≡ n → IsAt (suc n) (before ++ x ∷ []) rest
    full_next n before rest x at same = record {
      whole = at.whole ∙ sym (append_assoc before (x ∷ []) rest);
      lower =
          all_append (λ (y : ℕ × (ℕ × term.Clause)). y.0 < suc n) before (x ∷ [])
          (all_weaker (λ (y : ℕ × (ℕ × term.Clause)). y.0 < n) (λ (y : ℕ × (ℕ × term.Clause)). y.0 < suc n) before (λ y h. omega (arith, h)) at.lower)
          (omega (arith, same), tt);
      higher = behind n rest (subst (λ m. AllByRecursion (λ (y : ℕ × (ℕ × term.Clause)). m < y.0) rest) same at.rising.0);
      rising = at.rising.1;
    }

    place_of : (n : ℕ) (before rest : Slots) (x : ℕ × (ℕ × term.Clause)) → IsAt n before (x ∷ rest) → slice_get slots (length before) ≡ Some x
    place_of n before rest x at = ap (λ l. slice_get l (length before)) at.whole ∙ get_here before x rest

    -- where the row doesn't pass, the clause has no map
    unmapped : (n : ℕ) (before rest : Slots) (x : ℕ × (ℕ × term.Clause)) (row : List ℕ) → IsAt n before (x ∷ rest) → x.0 ≡ n → slice_get rows n ≡ Some row → (Passes row → ⊥)
        → (ns : List ℕ) → P (clause_of x.1.1).literals ns → ⊥
    unmapped n before rest x row at same got fails ns is =
        let there = subst (λ l. IsAmong l x) (sym at.whole) (among_back before (x ∷ rest) x (inl refl)) in
        let own = screened x there in
        fails (subst Passes (same_Some own.0 row (sym own.1 ∙ ap (slice_get rows) same ∙ got)) (own.2 ns is))

    -- what was tried at the place of a clause is this clause
    tried_here : (n : ℕ) (before rest : Slots) (x : ℕ × (ℕ × term.Clause)) (ms mid : List Mapped) → IsAt n before (x ∷ rest) → x.0 ≡ n → TriesSlot P slots n ms mid
        → TriesAtPosition P (length before) (clause_of x.1.1) ms mid
    tried_here n before rest x ms mid at same (inl (m, key, c, got, tries)) =
        let there = place_of n before rest x at in
        let position : m ≡ length before = same_position slots m (length before) (n, (key, c)) x rise got there (sym same) in
        let item : (n, (key, c)) ≡ x = same_Some (n, (key, c)) x (sym got ∙ ap (slice_get slots) position ∙ there) in
        subst (λ (y : ℕ × (ℕ × term.Clause)). TriesAtPosition P (length before) (clause_of y.1.1) ms mid) item (subst (λ k. TriesAtPosition P k (clause_of c) ms mid) position tries)
    tried_here n before rest x ms mid at same (inr none) =
        let there = subst (λ l. IsAmong l x) (sym at.whole) (among_back before (x ∷ rest) x (inl refl)) in
        absurd (none.0 (x.1, subst (λ m. IsAmong slots (m, x.1)) same there))

    -- nothing was tried at a place without a clause
    not_tried : (n : ℕ) (ms mid : List Mapped) → (HasPlace slots n → ⊥) → TriesSlot P slots n ms mid → mid ≡ ms
    not_tried n ms mid none (inl (m, key, c, got, tries)) = absurd (none ((key, c), get_among slots m (n, (key, c)) got))
    not_tried n ms mid none (inr h) = h.1

    settled : (n : ℕ) (left : List (List ℕ)) (before rest : Slots) (qs : List ℕ) (ms new : List Mapped) → left ≡ drop n rows → IsAt n before rest → ArePositions Passes n left qs
        → TriesSlots P slots qs ms new → AreNamedFrom (length before) rest ms new
    settled n [] before [] qs ms new e at positions tries =
        let none : new ≡ ms = subst (λ l. TriesSlots P slots l ms new) positions tries in
        ([], refl, none ∙ sym (append-nil ms))
    settled n [] before (x ∷ rest) qs ms new e at positions tries =
        let there = subst (λ l. IsAmong l x) (sym at.whole) (among_back before (x ∷ rest) x (inl refl)) in
        let row = screened x there in
        absurd (none-some row.0 (sym (slice_get_past rows x.0 (omega (arith, past rows n e, at.higher.0))) ∙ row.1))
    settled n (row ∷ left) before [] qs ms new e at positions tries =
        let more = (rest_of rows n row left e).1 in
        let next = empty_next n before [] at tt in
        let none = no_place n before [] at tt in
        elim positions [
          | inl w ↦
              let first = subst (λ l. TriesSlots P slots l ms new) w.1.2 tries in
              subst (λ l. AreNamedFrom (length before) [] l new) (not_tried n ms first.0 none first.1) (settled (suc n) left before [] w.1.0 first.0 new more next w.1.1 first.2)
          | inr w ↦ settled (suc n) left before [] qs ms new more next w.1 tries
        ]
    settled n (row ∷ left) before (x ∷ rest) qs ms new e at positions tries =
        let got = rest_of rows n row left e in
        elim (here_or_behind n x.0 at.higher.0) [
          | inl same ↦
              let next = full_next n before rest x at same in
              let k = one_more before x in
              let cs = clauses_of (placed_items rest) in
              elim positions [
                | inl w ↦
                    let first = subst (λ l. TriesSlots P slots l ms new) w.1.2 tries in
                    tried_then (length before) (clause_of x.1.1) cs ms first.0 new (tried_here n before rest x ms first.0 at same first.1)
                    (subst (λ j. AreNamedFrom j rest first.0 new) k (settled (suc n) left (before ++ x ∷ []) rest w.1.0 first.0 new got.1 next w.1.1 first.2))
                | inr w ↦
                    unmapped_then (length before) (clause_of x.1.1) cs ms new (unmapped n before rest x row at same got.0 w.0)
                    (subst (λ j. AreNamedFrom j rest ms new) k (settled (suc n) left (before ++ x ∷ []) rest qs ms new got.1 next w.1 tries))
              ]
          | inr higher ↦
              let all : AllByRecursion (λ (y : ℕ × (ℕ × term.Clause)). n < y.0) (x ∷ rest) = (higher, all_weaker (λ (y : ℕ × (ℕ × term.Clause)). x.0 < y.0) (λ (y : ℕ × (ℕ × term.Clause)). n < y.0) rest (λ y h. omega (arith, h, higher)) at.rising.0) in
              let next = empty_next n before (x ∷ rest) at all in
              let none = no_place n before (x ∷ rest) at all in
              elim positions [
                | inl w ↦
                    let first = subst (λ l. TriesSlots P slots l ms new) w.1.2 tries in
                    subst (λ l. AreNamedFrom (length before) (x ∷ rest) l new) (not_tried n ms first.0 none first.1) (settled (suc n) left before (x ∷ rest) w.1.0 first.0 new got.1 next w.1.1 first.2)
                | inr w ↦ settled (suc n) left before (x ∷ rest) qs ms new got.1 next w.1 tries
              ]
        ]

    pub all_named : (qs : List ℕ) (new : List Mapped) → AppendsPositions Passes rows [] qs → TriesSlots P slots qs [] new → AreMappedFrom P 0 (clauses_of (placed_items slots)) new
    all_named qs new appends tries =
        let at : IsAt 0 [] slots = record { whole = refl; lower = tt; higher = all_from (λ (x : ℕ × (ℕ × term.Clause)). 0 ≤ x.0) slots (λ x a. omega arith); rising = rise } in
        let named = settled 0 rows [] slots appends.0 [] new refl at appends.1 (subst (λ l. TriesSlots P slots l [] new) appends.2 tries) in
        subst (AreMappedFrom P 0 (clauses_of (placed_items slots))) (sym named.2) named.1

-- the rows are those of the clauses, whose symbols all have numbers in the table
pub are_screened : (numbers : Numbering) (extra : List Symbol) (direction : Direction) (formula : List Literal) (slots : Slots) (rows : List (List ℕ)) (row : List ℕ) → HaveSlotRows numbers slots rows
    → AllByRecursion (IsKnownClause numbers) (clauses_of (placed_items slots)) → IsRowOf (number_in (with_extra numbers extra)) formula row
    → (rise : PlacesRise slots) → AreScreened (IsMapIn direction formula) (PassesIn direction row) slots rise rows
are_screened numbers extra direction formula slots rows row have known of_formula rise (slot, (key, c)) there =
    let own = have slot key c there in
    let numbered = (all_at (IsKnownClause numbers) (clauses_of (placed_items slots)) (clause_of c) known (clause_among slots slot key c there)).numbered in
    (own.0, own.1, passes direction own.0 (row_with numbers extra (clause_of c).literals own.0 numbered own.2)) where
      number : Symbol → ℕ
      number = number_in (with_extra numbers extra)

      passes : (d : Direction) (other : List ℕ) → IsRowOf number (clause_of c).literals other → (ns : List ℕ) → IsMapIn d formula (clause_of c).literals ns → PassesIn d row other
      passes ToFormula other of_clause ns is = rows_follow number (clause_of c).literals formula other row (ns, is) of_clause of_formula
      passes FromFormula other of_clause ns is = rows_follow number formula (clause_of c).literals row other (ns, is) of_formula of_clause

-- Where the clauses in the slots that pass were tried, all that have a map are named.
pub screened_named : (numbers : Numbering) (direction : Direction) (formula : List Literal) (clauses : List Clause) (slots : Slots) (rows : List (List ℕ)) (qs : List ℕ) (new : List Mapped) → HaveSlotRows numbers slots rows
    → AllByRecursion (IsKnownClause numbers) clauses → clauses_of (placed_items slots) ≡ clauses → PlacesRise slots
    → ArePassing numbers direction formula rows qs → TriesSlots (IsMapIn direction formula) slots qs [] new → AreMappedFrom (IsMapIn direction formula) 0 clauses new
screened_named numbers direction formula clauses slots rows qs new have known same rise passing tries =
    let screened = are_screened numbers (lacking numbers formula) direction formula slots rows passing.row have (subst (AllByRecursion (IsKnownClause numbers)) (sym same) known) passing.of_formula rise in
    subst (λ cs. AreMappedFrom (IsMapIn direction formula) 0 cs new) same (all_named (IsMapIn direction formula) (PassesIn direction passing.row) slots rise rows screened qs new passing.appended tries)
