-- The least map of parts that share no variable is made of the least map of each.
use Rattle.std.proofs.Common.{◌≡◌, ◌⊎◌, ℕ, zero, suc, ◌+◌, ◌<◌, ◌≤◌, get_or, take, ◌==◌, Bool, true, false, cond, List, [], ◌∷◌, ◌++◌, length, refl, ap, sym, ◌∙◌, subst, arith, None, Some, inl, inr}
use Rattle.std.proofs.lemmas.Bool.{eq-eqb, eqb-true}
use Rattle.std.specs.Prelude.{replicate}
use Rattle.std.specs.List.{AllByRecursion}
use Rattle.std.specs.Borrow.{Bor}
use Rattle.si_defs.specs.Terms as terms
use Rattle.si_defs.specs.Substitutions.{Substitution, image, IsAmong}
use Rattle.si_defs.proofs.ListLaws.{all_front, all_back, among_front, among_back, among_parts}
use Rattle.si_state.specs.Subsumption.{AreImages, IsNoLater, IsLeast, item_at}
use Rattle.si_flat.specs.declared.Cell.{Cell}
use Rattle.si_flat.specs.declared.Cell.TheVariants as cell
use Rattle.si_flat.specs.Cells.{Symbol, Variable, query, entry, ind, same_variable, Term, Terms, variable_cell, cells_of, cells_of_all}
use Rattle.si_flat.proofs.VariableLaws.{variable_is, variable_self}
use Rattle.si_unify.specs.declared.slots.Slots.{Slots}
use Rattle.si_unify.specs.Solving.{slot_of, is_frozen, Equalizes, IsSolution}
use Rattle.si_unify.specs.Spots.{free_slot}
use Rattle.si_subsume.specs.Search.{Slices, CanEnd}
use Rattle.si_subsume.specs.Parts.{select, BelongsTo, BelongToParts, AreFixed}

-- ---- maps that agree at the variables of cells
abbrev AgreeAt : (f g : Variable → Term) → Cell → Type 0
AgreeAt f g c = (x : Variable) → variable_cell x ≡ c → f x ≡ g x

mutual
  agreeing : (f g : Variable → Term) (t : Term) → AllByRecursion (AgreeAt f g) (cells_of t) → terms.substitute f t ≡ terms.substitute g t
  agreeing f g (terms.var x) h = h.0 x refl
  agreeing f g (terms.app s ts) h = ap (terms.app s) (all_agreeing f g ts h.1)

  all_agreeing : (f g : Variable → Term) (ts : Terms) → AllByRecursion (AgreeAt f g) (cells_of_all ts) → terms.substitute_all f ts ≡ terms.substitute_all g ts
  all_agreeing f g terms.none h = refl
  all_agreeing f g (terms.more t ts) h =
      ap (λ u. terms.more u (terms.substitute_all f ts)) (agreeing f g t (all_front (AgreeAt f g) (cells_of t) (cells_of_all ts) h))
      ∙ ap (terms.more (terms.substitute g t)) (all_agreeing f g ts (all_back (AgreeAt f g) (cells_of t) (cells_of_all ts) h))

equalizes_as : (f g : Variable → Term) (left right : List Cell) → AllByRecursion (AgreeAt f g) left → AllByRecursion (AgreeAt f g) right → Equalizes g left right → Equalizes f left right
equalizes_as f g left right on_left on_right h t u stands_t stands_u =
    agreeing f g t (subst (AllByRecursion (AgreeAt f g)) stands_t.cells_are on_left)
    ∙ h t u stands_t stands_u
    ∙ sym (agreeing f g u (subst (AllByRecursion (AgreeAt f g)) stands_u.cells_are on_right))

-- ---- what was selected
selected_images : {L K : Type 0} (P : L → K → Type 0) (ks : List K) (labels : List ℕ) (ls : List L) (ns : List ℕ) (q : ℕ) → AreImages P ks ls ns → AreImages P ks (select labels q ls) (select labels q ns)
selected_images P ks [] ls ns q h = tt
selected_images P ks (l ∷ labels) [] [] q h = tt
selected_images P ks (l ∷ labels) [] (n ∷ ns) q h = absurd h
selected_images P ks (l ∷ labels) (x ∷ ls) [] q h = absurd h
selected_images P ks (l ∷ labels) (x ∷ ls) (n ∷ ns) q h =
    by (l == q) (selected_images P ks labels ls ns q h.1)
  where
    by : (c : Bool) → AreImages P ks (select labels q ls) (select labels q ns) → AreImages P ks (cond c (x ∷ select labels q ls) (select labels q ls)) (cond c (n ∷ select labels q ns) (select labels q ns))
    by true rest = (h.0, rest)
    by false rest = rest

pub images_length : {L K : Type 0} (P : L → K → Type 0) (ks : List K) (ls : List L) (ns : List ℕ) → AreImages P ks ls ns → length ns ≡ length ls
images_length P ks [] [] h = refl
images_length P ks [] (n ∷ ns) h = absurd h
images_length P ks (l ∷ ls) [] h = absurd h
images_length P ks (l ∷ ls) (n ∷ ns) h = ap suc (images_length P ks ls ns h.1)

-- ---- the order
no_later_joined : (labels ns ms : List ℕ) → length ns ≡ length labels → length ms ≡ length labels → ((q : ℕ) → IsNoLater (select labels q ns) (select labels q ms)) → IsNoLater ns ms
no_later_joined [] [] ms n m h = tt
no_later_joined [] (k ∷ ns) ms n m h = absurd (omega (arith, n))
no_later_joined (l ∷ labels) [] ms n m h = absurd (omega (arith, n))
no_later_joined (l ∷ labels) (k ∷ ns) [] n m h = absurd (omega (arith, m))
no_later_joined (l ∷ labels) (k ∷ ns) (j ∷ ms) n m h =
    elim own [
      | inl less ↦ inl less
      | inr same ↦ inr (same.0, no_later_joined labels ns ms (omega (arith, n)) (omega (arith, m)) (λ q. rest q (l == q) same.0 (h q)))
    ]
  where
    own : (k < j) ⊎ ((k ≡ j) × IsNoLater (select labels l ns) (select labels l ms))
    own = subst (λ (c : Bool). IsNoLater (cond c (k ∷ select labels l ns) (select labels l ns)) (cond c (j ∷ select labels l ms) (select labels l ms))) (eq-eqb l l refl) (h l)

    rest : (q : ℕ) (c : Bool) → k ≡ j → IsNoLater (cond c (k ∷ select labels q ns) (select labels q ns)) (cond c (j ∷ select labels q ms) (select labels q ms)) → IsNoLater (select labels q ns) (select labels q ms)
    rest q true same given = elim given [
      | inl less ↦ absurd (omega (arith, less, same))
      | inr both ↦ both.1
    ]
    rest q false same given = given

-- ---- a finite map
abbrev listed : (Variable → Term) → List Variable → Substitution Symbol Variable
listed f [] = []
listed f (y ∷ ys) = (y, f y) ∷ listed f ys

listed_among : (f : Variable → Term) (ys : List Variable) (x : Variable) → IsAmong ys x → image same_variable (listed f ys) x ≡ f x
listed_among f [] x a = absurd a
listed_among f (y ∷ ys) x a = by (same_variable y x) refl (listed_among f ys x)
  where
    by : (b : Bool) → same_variable y x ≡ b → (IsAmong ys x → image same_variable (listed f ys) x ≡ f x) → cond b (f y) (image same_variable (listed f ys) x) ≡ f x
    by true e rest = ap f (variable_is y x e)
    by false e rest = elim a [
      | inl same ↦ (let bad : true ≡ false = sym (variable_self y) ∙ ap (same_variable y) same ∙ e in cc)
      | inr later ↦ rest later
    ]

listed_apart : (f : Variable → Term) (ys : List Variable) (x : Variable) → (IsAmong ys x → ⊥) → image same_variable (listed f ys) x ≡ terms.var x
listed_apart f [] x none = refl
listed_apart f (y ∷ ys) x none = by (same_variable y x) refl (listed_apart f ys x (λ later. none (inr later)))
  where
    by : (b : Bool) → same_variable y x ≡ b → image same_variable (listed f ys) x ≡ terms.var x → cond b (f y) (image same_variable (listed f ys) x) ≡ terms.var x
    by true e rest = absurd (none (inl (variable_is y x e)))
    by false e rest = rest

module _ (slots : Slots) where
  -- ---- the variables that may be bound
  abbrev of_cell : Cell → List Variable
  of_cell (cell.App s a n) = []
  of_cell (cell.Query n) = cond slots.freeze_query [] (query n ∷ [])
  of_cell (cell.Entry n) = cond slots.freeze_entry [] (entry n ∷ [])
  of_cell (cell.Ind n) = ind n ∷ []

  abbrev of_cells : List Cell → List Variable
  of_cells [] = []
  of_cells (c ∷ cs) = of_cell c ++ of_cells cs

  abbrev of_slices : Slices → List Variable
  of_slices [] = []
  of_slices (b ∷ bs) = of_cells b.now ++ of_slices bs

  own_variable : (x : Variable) → is_frozen slots x ≡ false → IsAmong (of_cell (variable_cell x)) x
  own_variable (query n) free = subst (λ (b : Bool). IsAmong (cond b [] (query n ∷ [])) (query n)) (sym free) (inl refl)
  own_variable (entry n) free = subst (λ (b : Bool). IsAmong (cond b [] (entry n ∷ [])) (entry n)) (sym free) (inl refl)
  own_variable (ind n) free = inl refl

  free_alone : (c : Cell) (x : Variable) → IsAmong (of_cell c) x → is_frozen slots x ≡ false
  free_alone (cell.App s a n) x h = absurd h
  free_alone (cell.Query n) x h = by slots.freeze_query refl h
    where
      by : (b : Bool) → slots.freeze_query ≡ b → IsAmong (cond b [] (query n ∷ [])) x → is_frozen slots x ≡ false
      by true e a = absurd a
      by false e a = elim a [
        | inl same ↦ subst (λ y. is_frozen slots y ≡ false) same e
        | inr none ↦ absurd none
      ]
  free_alone (cell.Entry n) x h = by slots.freeze_entry refl h
    where
      by : (b : Bool) → slots.freeze_entry ≡ b → IsAmong (cond b [] (entry n ∷ [])) x → is_frozen slots x ≡ false
      by true e a = absurd a
      by false e a = elim a [
        | inl same ↦ subst (λ y. is_frozen slots y ≡ false) same e
        | inr none ↦ absurd none
      ]
  free_alone (cell.Ind n) x h = elim h [
    | inl same ↦ subst (λ y. is_frozen slots y ≡ false) same refl
    | inr none ↦ absurd none
  ]

  free_in_cells : (cs : List Cell) (x : Variable) → IsAmong (of_cells cs) x → is_frozen slots x ≡ false
  free_in_cells [] x h = absurd h
  free_in_cells (c ∷ cs) x h = elim (among_parts (of_cell c) (of_cells cs) x h) [
    | inl first ↦ free_alone c x first
    | inr later ↦ free_in_cells cs x later
  ]

  free_in_slices : (bs : Slices) (x : Variable) → IsAmong (of_slices bs) x → is_frozen slots x ≡ false
  free_in_slices [] x h = absurd h
  free_in_slices (b ∷ bs) x h = elim (among_parts (of_cells b.now) (of_slices bs) x h) [
    | inl first ↦ free_in_cells b.now x first
    | inr later ↦ free_in_slices bs x later
  ]

  -- what is bound at the cells of these
  abbrev Covers : List Variable → Cell → Type 0
  Covers ys c = (x : Variable) → variable_cell x ≡ c → is_frozen slots x ≡ false → IsAmong ys x

  covers_more : (ys zs : List Variable) (cs : List Cell) → ((x : Variable) → IsAmong ys x → IsAmong zs x) → AllByRecursion (Covers ys) cs → AllByRecursion (Covers zs) cs
  covers_more ys zs [] more h = tt
  covers_more ys zs (c ∷ cs) more h = (λ x is free. more x (h.0 x is free), covers_more ys zs cs more h.1)

  covers_cells : (cs : List Cell) → AllByRecursion (Covers (of_cells cs)) cs
  covers_cells [] = tt
  covers_cells (c ∷ cs) = (
    λ x is free. among_front (of_cell c) (of_cells cs) x (subst (λ d. IsAmong (of_cell d) x) is (own_variable x free)),
    covers_more (of_cells cs) (of_cell c ++ of_cells cs) cs (among_back (of_cell c) (of_cells cs)) (covers_cells cs),
  )

  abbrev CoversSlice : List Variable → Bor (List Cell) → Type 0
  CoversSlice ys b = AllByRecursion (Covers ys) b.now

  covers_slices_more : (ys zs : List Variable) (bs : Slices) → ((x : Variable) → IsAmong ys x → IsAmong zs x) → AllByRecursion (CoversSlice ys) bs → AllByRecursion (CoversSlice zs) bs
  covers_slices_more ys zs [] more h = tt
  covers_slices_more ys zs (b ∷ bs) more h = (covers_more ys zs b.now more h.0, covers_slices_more ys zs bs more h.1)

  covers_slices : (bs : Slices) → AllByRecursion (CoversSlice (of_slices bs)) bs
  covers_slices [] = tt
  covers_slices (b ∷ bs) = (
    covers_more (of_cells b.now) (of_cells b.now ++ of_slices bs) b.now (among_front (of_cells b.now) (of_slices bs)) (covers_cells b.now),
    covers_slices_more (of_slices bs) (of_cells b.now ++ of_slices bs) bs (among_back (of_cells b.now) (of_slices bs)) (covers_slices bs),
  )

  -- ---- slots of variables that may be bound
  slot_if_free : (x : Variable) → is_frozen slots x ≡ false → free_slot slots (variable_cell x) ≡ Some (slot_of slots x)
  slot_if_free (query n) free = ap (λ (b : Bool). cond b None (Some n)) free
  slot_if_free (entry n) free = ap (λ (b : Bool). cond b None (Some (slot_of slots (entry n)))) free
  slot_if_free (ind n) free = refl

  module _ (owner : ℕ → ℕ) (targets : Slices) (fixed : AllByRecursion (λ b. AreFixed slots b.now) targets) (part : ℕ → Substitution Symbol Variable) (frozen : (q : ℕ) → IsSolution slots [] (part q)) where
    -- each variable goes where its part takes it
    abbrev goes : Variable → Term
    goes x = image same_variable (part (owner (slot_of slots x))) x

    module _ (ys : List Variable) (all_free : (x : Variable) → IsAmong ys x → is_frozen slots x ≡ false) where
      abbrev joined : Substitution Symbol Variable
      joined = listed goes ys

      stays_frozen : (x : Variable) → is_frozen slots x ≡ true → image same_variable joined x ≡ terms.var x
      stays_frozen x h = listed_apart goes ys x (λ a. let bad : true ≡ false = sym h ∙ all_free x a in cc)

      at_variable : (q : ℕ) (x : Variable) (b : Bool) → is_frozen slots x ≡ b → (is_frozen slots x ≡ false → IsAmong ys x) → (is_frozen slots x ≡ false → owner (slot_of slots x) ≡ q)
          → image same_variable joined x ≡ image same_variable (part q) x
      at_variable q x true h among own = stays_frozen x h ∙ sym ((frozen q).frozen x h)
      at_variable q x false h among own = listed_among goes ys x (among h) ∙ ap (λ k. image same_variable (part k) x) (own h)

      at_cells : (q : ℕ) (cs : List Cell) → AllByRecursion (Covers ys) cs → AllByRecursion (BelongsTo slots owner q) cs → AllByRecursion (AgreeAt (image same_variable joined) (image same_variable (part q))) cs
      at_cells q [] covered own = tt
      at_cells q (c ∷ cs) covered own = (
        λ x is. at_variable q x (is_frozen slots x) refl (covered.0 x is) (λ free. own.0 (slot_of slots x) (ap (free_slot slots) (sym is) ∙ slot_if_free x free)),
        at_cells q cs covered.1 own.1,
      )

      at_fixed : (q : ℕ) (cs : List Cell) → AreFixed slots cs → AllByRecursion (AgreeAt (image same_variable joined) (image same_variable (part q))) cs
      at_fixed q [] h = tt
      at_fixed q (c ∷ cs) h = (
        λ x is. at_variable q x (is_frozen slots x) refl (λ free. absurd (no_slot x free (ap (free_slot slots) is ∙ h.0))) (λ free. absurd (no_slot x free (ap (free_slot slots) is ∙ h.0))),
        at_fixed q cs h.1,
      )
        where
          no_slot : (x : Variable) → is_frozen slots x ≡ false → free_slot slots (variable_cell x) ≡ None → ⊥
          no_slot x free none = let bad : Some (slot_of slots x) ≡ None = sym (slot_if_free x free) ∙ none in cc

      fixed_item : (ks : Slices) (n : ℕ) (k : Bor (List Cell)) → AllByRecursion (λ b. AreFixed slots b.now) ks → item_at ks n ≡ Some k → AreFixed slots k.now
      fixed_item ks zero k h e = absurd (let bad : None ≡ Some k = e in cc)
      fixed_item [] (suc n) k h e = absurd (let bad : None ≡ Some k = e in cc)
      fixed_item (b ∷ ks) (suc zero) k h e = subst (λ (d : Bor (List Cell)). AreFixed slots d.now) (let same : b ≡ k = cc in same) h.0
      fixed_item (b ∷ ks) (suc (suc n)) k h e = fixed_item ks (suc n) k h.1 e

      abbrev Takes : Substitution Symbol Variable → Bor (List Cell) → Bor (List Cell) → Type 0
      Takes s l k = Equalizes (image same_variable s) l.now k.now

      images_joined : (labels : List ℕ) (bs : Slices) (ns : List ℕ) → length ns ≡ length labels → BelongToParts slots owner labels bs → AllByRecursion (CoversSlice ys) bs
          → ((q : ℕ) → AreImages (Takes (part q)) targets (select labels q bs) (select labels q ns)) → AreImages (Takes joined) targets bs ns
      images_joined [] [] [] size apart covered h = tt
      images_joined [] [] (n ∷ ns) size apart covered h = absurd (omega (arith, size))
      images_joined [] (b ∷ bs) ns size apart covered h = absurd apart
      images_joined (l ∷ labels) [] ns size apart covered h = absurd apart
      images_joined (l ∷ labels) (b ∷ bs) [] size apart covered h = absurd (omega (arith, size))
      images_joined (l ∷ labels) (b ∷ bs) (n ∷ ns) size apart covered h = (
        (own.0.0, own.0.1, equalizes_as (image same_variable joined) (image same_variable (part l)) b.now own.0.0.now (at_cells l b.now covered.0 apart.0) (at_fixed l own.0.0.now (fixed_item targets n own.0.0 fixed own.0.1)) own.0.2),
        images_joined labels bs ns (omega (arith, size)) apart.1 covered.1 (λ q. rest q (l == q) (h q)),
      )
        where
          own : AreImages (Takes (part l)) targets (b ∷ select labels l bs) (n ∷ select labels l ns)
          own = subst (λ (c : Bool). AreImages (Takes (part l)) targets (cond c (b ∷ select labels l bs) (select labels l bs)) (cond c (n ∷ select labels l ns) (select labels l ns))) (eq-eqb l l refl) (h l)

          rest : (q : ℕ) (c : Bool) → AreImages (Takes (part q)) targets (cond c (b ∷ select labels q bs) (select labels q bs)) (cond c (n ∷ select labels q ns) (select labels q ns)) → AreImages (Takes (part q)) targets (select labels q bs) (select labels q ns)
          rest q true given = given.1
          rest q false given = given

-- ---- the least map
-- each part has its least map: they make the least map of all
pub parts_least : (slots : Slots) (owner : ℕ → ℕ) (labels : List ℕ) (literals targets : Slices) (ns : List ℕ) → BelongToParts slots owner labels literals → AllByRecursion (λ b. AreFixed slots b.now) targets
    → length ns ≡ length labels → length literals ≡ length labels → ((q : ℕ) → IsLeast (CanEnd slots targets [] (select labels q literals)) (select labels q ns))
    → IsLeast (CanEnd slots targets [] literals) ns
parts_least slots owner labels literals targets ns apart fixed size sizes h = record {
  is_one = (
    joined slots owner targets fixed part frozen ys free,
    record { frozen = stays_frozen slots owner targets fixed part frozen ys free; equal = tt },
    images_joined slots owner targets fixed part frozen ys free labels literals ns size apart (covers_slices slots literals) (λ q. (h q).is_one.2),
  );
  no_later = λ ms p. no_later_joined labels ns ms size (images_length (λ l k. Equalizes (image same_variable p.0) l.now k.now) targets literals ms p.2 ∙ sizes)
      (λ q. (h q).no_later (select labels q ms) (p.0, p.1, selected_images (λ l k. Equalizes (image same_variable p.0) l.now k.now) targets labels literals ms q p.2));
}
  where
    part : ℕ → Substitution Symbol Variable
    part q = (h q).is_one.0

    frozen : (q : ℕ) → IsSolution slots [] (part q)
    frozen q = (h q).is_one.1

    ys : List Variable
    ys = of_slices slots literals

    free : (x : Variable) → IsAmong ys x → is_frozen slots x ≡ false
    free = free_in_slices slots literals

-- one part has no map: then there is none
pub part_without_map : (slots : Slots) (labels : List ℕ) (literals targets : Slices) (q : ℕ) → ((ms : List ℕ) → CanEnd slots targets [] (select labels q literals) ms → ⊥)
    → (ms : List ℕ) → CanEnd slots targets [] literals ms → ⊥
part_without_map slots labels literals targets q none ms p =
    none (select labels q ms) (p.0, p.1, selected_images (λ l k. Equalizes (image same_variable p.0) l.now k.now) targets labels literals ms q p.2)

-- ---- labels that were looked at
module _ (slots : Slots) (owner : ℕ → ℕ) where
  -- one literal more
  pub apart_more : (labels : List ℕ) (bs : Slices) (d : Bor (List Cell)) (e i : ℕ) → length labels ≡ length bs → i < length bs → BelongToParts slots owner (take i labels) (take i bs)
      → AllByRecursion (BelongsTo slots owner (get_or labels i e)) (get_or bs i d).now → BelongToParts slots owner (take (suc i) labels) (take (suc i) bs)
  apart_more [] [] d e i size within apart own = absurd (omega (arith, within))
  apart_more [] (b ∷ bs) d e i size within apart own = absurd (omega (arith, size))
  apart_more (l ∷ labels) [] d e i size within apart own = absurd (omega (arith, within))
  apart_more (l ∷ labels) (b ∷ bs) d e zero size within apart own = (own, tt)
  apart_more (l ∷ labels) (b ∷ bs) d e (suc i) size within apart own = (apart.0, apart_more labels bs d e i (omega (arith, size)) (omega (arith, within)) apart.1 own)

  -- all are one part
  pub one_part : (bs : Slices) → (λ (k : ℕ). 0) ≡ owner → BelongToParts slots owner (replicate (length bs) 0) bs
  one_part [] all = tt
  one_part (b ∷ bs) all = (of_one b.now, one_part bs all)
    where
      of_one : (cs : List Cell) → AllByRecursion (BelongsTo slots owner 0) cs
      of_one [] = tt
      of_one (c ∷ cs) = (λ slot is. sym (ap (λ f. f slot) all), of_one cs)

pub all_taken_more : {A : Type 0} (P : A → Type 0) (xs : List A) (e : A) (i : ℕ) → i < length xs → AllByRecursion P (take i xs) → P (get_or xs i e) → AllByRecursion P (take (suc i) xs)
all_taken_more P [] e i within h own = absurd (omega (arith, within))
all_taken_more P (x ∷ xs) e zero within h own = (own, tt)
all_taken_more P (x ∷ xs) e (suc i) within h own = (h.0, all_taken_more P xs e i (omega (arith, within)) h.1 own)

pub all_below_one : (A : Type 0) (bs : List A) (n : ℕ) → n ≤ length bs → AllByRecursion (λ l. l < length bs) (replicate n 0)
all_below_one A bs zero h = tt
all_below_one A bs (suc n) h = (omega (arith, h), all_below_one A bs n (omega (arith, h)))

-- ---- labels that no literal has
none_selected : {A : Type 0} (n q : ℕ) (labels : List ℕ) (xs : List A) → AllByRecursion (λ l. l < n) labels → n ≤ q → select labels q xs ≡ []
none_selected n q [] xs below h = refl
none_selected n q (l ∷ labels) [] below h = refl
none_selected n q (l ∷ labels) (x ∷ xs) below h = by (l == q) refl (none_selected n q labels xs below.1 h)
  where
    by : (b : Bool) → (l == q) ≡ b → select labels q xs ≡ [] → cond b (x ∷ select labels q xs) (select labels q xs) ≡ []
    by true is rest = absurd (omega (arith, below.0, h, eqb-true l q is))
    by false is rest = rest

nothing_least : (slots : Slots) (targets : Slices) → IsLeast (CanEnd slots targets [] []) []
nothing_least slots targets = record {
  is_one = ([], record { frozen = λ x h. refl; equal = tt }, tt);
  no_later = λ ms p. tt;
}

pub without_literal : (slots : Slots) (targets literals : Slices) (labels ns : List ℕ) (n q : ℕ) → AllByRecursion (λ l. l < n) labels → n ≤ q
    → IsLeast (CanEnd slots targets [] (select labels q literals)) (select labels q ns)
without_literal slots targets literals labels ns n q below h =
    subst (λ bs. IsLeast (CanEnd slots targets [] bs) (select labels q ns)) (sym (none_selected n q labels literals below h))
    (subst (IsLeast (CanEnd slots targets [] [])) (sym (none_selected n q labels ns below h)) (nothing_least slots targets))

pub apart_size : (slots : Slots) (owner : ℕ → ℕ) (labels : List ℕ) (bs : Slices) → BelongToParts slots owner labels bs → length bs ≡ length labels
apart_size slots owner [] [] h = refl
apart_size slots owner [] (b ∷ bs) h = absurd h
apart_size slots owner (l ∷ labels) [] h = absurd h
apart_size slots owner (l ∷ labels) (b ∷ bs) h = ap suc (apart_size slots owner labels bs h.1)

pub select_size : {A B : Type 0} (labels : List ℕ) (q : ℕ) (xs : List A) (ys : List B) → length xs ≡ length ys → length (select labels q xs) ≡ length (select labels q ys)
select_size [] q xs ys h = refl
select_size (l ∷ labels) q [] [] h = refl
select_size (l ∷ labels) q [] (y ∷ ys) h = absurd (omega (arith, h))
select_size (l ∷ labels) q (x ∷ xs) [] h = absurd (omega (arith, h))
select_size (l ∷ labels) q (x ∷ xs) (y ∷ ys) h = by (l == q) (select_size labels q xs ys (omega (arith, h)))
  where
    by : (b : Bool) → length (select labels q xs) ≡ length (select labels q ys) → length (cond b (x ∷ select labels q xs) (select labels q xs)) ≡ length (cond b (y ∷ select labels q ys) (select labels q ys))
    by true rest = ap suc rest
    by false rest = rest

pub all_selected : {A : Type 0} (P : A → Type 0) (labels : List ℕ) (q : ℕ) (xs : List A) → AllByRecursion P xs → AllByRecursion P (select labels q xs)
all_selected P [] q xs h = tt
all_selected P (l ∷ labels) q [] h = tt
all_selected P (l ∷ labels) q (x ∷ xs) h = by (l == q) (all_selected P labels q xs h.1)
  where
    by : (b : Bool) → AllByRecursion P (select labels q xs) → AllByRecursion P (cond b (x ∷ select labels q xs) (select labels q xs))
    by true rest = (h.0, rest)
    by false rest = rest

-- one part more has its least map
pub least_more : (slots : Slots) (targets literals : Slices) (labels old new : List ℕ) (label : ℕ)
    → ((q : ℕ) → q < label → IsLeast (CanEnd slots targets [] (select labels q literals)) (select labels q old))
    → IsLeast (CanEnd slots targets [] (select labels label literals)) (select labels label new)
    → ((p : ℕ) → (p ≡ label → ⊥) → select labels p new ≡ select labels p old)
    → (q : ℕ) → q < label + 1 → IsLeast (CanEnd slots targets [] (select labels q literals)) (select labels q new)
least_more slots targets literals labels old new label before own others q less = by (q == label) refl
  where
    by : (b : Bool) → (q == label) ≡ b → IsLeast (CanEnd slots targets [] (select labels q literals)) (select labels q new)
    by true is = subst (λ k. IsLeast (CanEnd slots targets [] (select labels k literals)) (select labels k new)) (sym (eqb-true q label is)) own
    by false is =
        let apart : q ≡ label → ⊥ = λ same. let bad : true ≡ false = sym (eq-eqb q label same) ∙ is in cc in
        subst (IsLeast (CanEnd slots targets [] (select labels q literals))) (sym (others q apart)) (before q (omega (arith, less, apart)))
