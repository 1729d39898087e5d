-- The numbers of the terms from a place among cells on.
use Rattle.std.proofs.Common.{◌≡◌, ℕ, ◌+◌, ◌<◌, ◌≤◌, inl, inr, List, [], ◌∷◌, ◌++◌, length, drop, get_or, suc, zero, refl, sym, ◌∙◌, ap, subst, arith, append_assoc, append-nil, Some}
use Rattle.std.proofs.lemmas.List.{drop_more, drop_all}
use Rattle.std.specs.Prelude.{slice_get}
use Rattle.std.proofs.lemmas.Option.{same_Some}
use Rattle.si_defs.specs.Substitutions.{IsAmong}
use Rattle.si_defs.specs.Terms as terms
use Rattle.si_defs.proofs.ListLaws.{same_first, same_tail}
use Rattle.si_flat.specs.declared.Cell.{Cell}
use Rattle.si_flat.specs.declared.Cell.TheVariants as cell
use Rattle.si_flat.specs.Cells.{Variable, query, entry, ind, Term, Terms, variable_cell, cells_of, cells_of_all, IsSound, AreSound, StandsFor, IsWhole, join}
use Rattle.si_flat.proofs.Subterms.{StandsAmong, found_in, from_place}
use Rattle.si_unify.specs.declared.slots.Slots.{Slots}
use Rattle.si_unify.specs.Solving.{slot_of, AreInRange}
use Rattle.si_unify.proofs.Places.{variable_of-slot_of, in_range-variable}
use Rattle.si_unify.proofs.Reading.{same_term}
use Rattle.si_unify.proofs.Rows.{count-join}
use Rattle.si_form.specs.declared.classes.Node.{Node}
use Rattle.si_form.specs.Classes.{GrowsTo, HaveClasses, Applies, argument_count, slots_of, KnowsSlot, IsSlotsClass, NumbersCell, HasClass, AreTermsFrom, HaveRow, IsClassNumbering}
use Rattle.si_form.proofs.NodeLaws.{grows_on, still_known}

-- ---- rows of cells
-- a row that begins with the cells of others begins with them
pub record Splits (us row : Terms) (after : List Cell) : Type 0 where
  pub rest : Terms
  pub row_is : row ≡ join us rest
  pub sound : AreSound rest
  pub cells_are : cells_of_all rest ≡ after

some_cells : (u : Term) (cells : List Cell) → cells_of u ++ cells ≡ [] → ⊥
some_cells (terms.var x) cells e = cc
some_cells (terms.app s us) cells e = cc

pub splits : (us row : Terms) (after : List Cell) → AreSound us → AreSound row → cells_of_all us ++ after ≡ cells_of_all row → Splits us row after
splits terms.none row after su sr e = record { rest = row; row_is = refl; sound = sr; cells_are = sym e }
splits (terms.more u us) terms.none after su sr e = absurd (some_cells u (cells_of_all us ++ after) (sym (append_assoc (cells_of u) (cells_of_all us) after) ∙ e))
splits (terms.more u us) (terms.more t row) after su sr e =
    let first = same_term u t (cells_of_all us ++ after) (cells_of_all row) su.0 sr.0 (sym (append_assoc (cells_of u) (cells_of_all us) after) ∙ e) in
    let r = splits us row after su.1 sr.1 first.rest in
    record { rest = r.rest; row_is = ap (λ x. terms.more x row) (sym first.same) ∙ ap (terms.more u) r.row_is; sound = r.sound; cells_are = r.cells_are }

-- ---- one cell
slot_among : (slots : Slots) (x : Variable) (cells : List Cell) → IsAmong (slots_of slots (variable_cell x ∷ cells)) (slot_of slots x)
slot_among slots (query n) cells = inl refl
slot_among slots (entry n) cells = inl refl
slot_among slots (ind n) cells = inl refl

among_later : (slots : Slots) (c : Cell) (cells : List Cell) (slot : ℕ) → IsAmong (slots_of slots cells) slot → IsAmong (slots_of slots (c ∷ cells)) slot
among_later slots (cell.App s a n) cells slot h = h
among_later slots (cell.Query n) cells slot h = inr h
among_later slots (cell.Entry n) cells slot h = inr h
among_later slots (cell.Ind n) cells slot h = inr h

pub among_dropped : (slots : Slots) (cells : List Cell) (at slot : ℕ) → IsAmong (slots_of slots (drop at cells)) slot → IsAmong (slots_of slots cells) slot
among_dropped slots [] at slot h = elim at as (λ k. IsAmong (slots_of slots (drop k [])) slot → IsAmong (slots_of slots []) slot) [ zero ↦ (λ a. a) | suc k ↦ (λ a. a) ] h
among_dropped slots (c ∷ cells) zero slot h = h
among_dropped slots (c ∷ cells) (suc at) slot h = among_later slots c cells slot (among_dropped slots cells at slot h)

in_range_dropped : (slots : Slots) (cells : List Cell) (at : ℕ) → AreInRange slots cells → AreInRange slots (drop at cells)
in_range_dropped slots [] at h = elim at as (λ k. AreInRange slots (drop k [])) [ zero ↦ tt | suc k ↦ tt ]
in_range_dropped slots (c ∷ cells) zero h = h
in_range_dropped slots (c ∷ cells) (suc at) h = in_range_dropped slots cells at h.1

variable_numbered : (slots : Slots) (classes : List ℕ) (nodes nodes' : List Node) (numbers numbers' : List ℕ) (x : Variable) (n : ℕ) → NumbersCell slots classes nodes nodes' numbers numbers' (variable_cell x) n → IsSlotsClass slots classes nodes nodes' numbers numbers' x n
variable_numbered slots classes nodes nodes' numbers numbers' (query k) n h = h
variable_numbered slots classes nodes nodes' numbers numbers' (entry k) n h = h
variable_numbered slots classes nodes nodes' numbers numbers' (ind k) n h = h

module _ (slots : Slots) (classes : List ℕ) (cells : List Cell) (nodes1 nodes2 : List Node) (numbers1 numbers2 : List ℕ) (at n : ℕ) (c : Cell) (range : AreInRange slots cells) (numbered : NumbersCell slots classes nodes1 nodes2 numbers1 numbers2 c n) where
  row_more :
      (f : Variable → Term) (known : List Term) (t : Term)
      → StandsFor cells t
      → at < length cells
      → c ≡ get_or cells at (cell.App 0 0 0)
      → ((slot : ℕ) → IsAmong (slots_of slots cells) slot → KnowsSlot slots f known classes slot)
      → HaveRow slots f known nodes1 cells (at + 1) numbers1
      → HaveRow slots f known nodes2 cells at (n ∷ numbers2)
  row_more f known t stands less c_is knows h = by found.term (from_place cells at found) found.sound
    where
      found : StandsAmong cells at
      found = found_in cells at (t, stands) less

      place : drop at cells ≡ c ∷ drop (at + 1) cells
      place = drop_more cells at (cell.App 0 0 0) less ∙ ap (λ d. d ∷ drop (at + 1) cells) (sym c_is)

      by : (u : Term) → drop at cells ≡ cells_of u ++ found.after → IsSound u → HaveRow slots f known nodes2 cells at (n ∷ numbers2)
      by (terms.var x) from sound =
          let whole : c ∷ drop (at + 1) cells ≡ variable_cell x ∷ found.after = sym place ∙ from in
          let head : c ≡ variable_cell x = same_first whole in
          let own = variable_numbered slots classes nodes1 nodes2 numbers1 numbers2 x n (subst (λ d. NumbersCell slots classes nodes1 nodes2 numbers1 numbers2 d n) head numbered) in
          let here : drop at cells ≡ variable_cell x ∷ drop (at + 1) cells = place ∙ ap (λ d. d ∷ drop (at + 1) cells) head in
          let in_x = in_range-variable slots x (subst (AreInRange slots) here (in_range_dropped slots cells at range)).0 in
          let k = knows (slot_of slots x) (among_dropped slots cells at (slot_of slots x) (subst (λ l. IsAmong (slots_of slots l) (slot_of slots x)) (sym here) (slot_among slots x (drop (at + 1) cells)))) in
          let number_is : k.number ≡ n = same_Some k.number n (sym k.class_is ∙ own.2) in
          let image : slice_get known n ≡ Some (f x) = ap (slice_get known) (sym number_is) ∙ k.image_is ∙ ap (λ y. Some (f y)) (variable_of-slot_of slots x in_x) in
          let grown : GrowsTo slots known nodes2 h.known' = subst (λ l. GrowsTo slots known l h.known') (sym own.0) h.grows in
          record {
            known' = h.known';
            row = terms.more (terms.var x) h.row;
            grows = grown;
            sound = (tt, h.sound);
            cells_are = here ∙ ap (λ l. variable_cell x ∷ l) h.cells_are;
            numbers_are = (still_known slots known nodes2 h.known' n (f x) grown image, subst (λ l. HaveClasses f h.known' l h.row) (sym own.1) h.numbers_are);
          }
      by (terms.app s us) from sound =
          let whole : c ∷ drop (at + 1) cells ≡ cell.App s.number s.arity (1 + terms.sizes us) ∷ (cells_of_all us ++ found.after) = sym place ∙ from in
          let head : c ≡ cell.App s.number s.arity (1 + terms.sizes us) = same_first whole in
          let parts = splits us h.row found.after sound.1 h.sound (sym (same_tail whole) ∙ h.cells_are) in
          let applies : Applies nodes1 nodes2 numbers1 numbers2 s n = subst (λ d. NumbersCell slots classes nodes1 nodes2 numbers1 numbers2 d n) head numbered in
          let r = applies slots f h.known' us parts.rest h.grows.nodes_are (subst (HaveClasses f h.known' numbers1) parts.row_is h.numbers_are) sound.0 in
          record {
            known' = r.0;
            row = terms.more (terms.app s us) parts.rest;
            grows = grows_on slots known h.known' r.0 nodes1 nodes2 h.grows r.1;
            sound = (sound, parts.sound);
            cells_are = from ∙ ap (λ l. cells_of (terms.app s us) ++ l) (sym parts.cells_are);
            numbers_are = (r.2, r.3);
          }

-- ---- how many terms there are
takes_none : (x : Variable) → argument_count (variable_cell x) ≡ 0
takes_none (query n) = refl
takes_none (entry n) = refl
takes_none (ind n) = refl

pub row_begins : (cells : List Cell) (at count : ℕ) → length cells ≤ at → count ≡ 0 → AreTermsFrom cells at count
row_begins cells at count less none = record { row = terms.none; sound = tt; cells_are = drop_all at cells less; count_is = sym none }

-- the arguments of a cell are among them, and its term stands before the others
pub record StandsBefore (cells : List Cell) (at count : ℕ) (c : Cell) : Type 0 where
  pub enough : argument_count c ≤ count
  pub more : (left : ℕ) → count ≡ argument_count c + left → AreTermsFrom cells at (left + 1)

pub row_before :
    (cells : List Cell) (at before count : ℕ) (c : Cell)
    → IsWhole cells
    → before ≡ at + 1
    → at < length cells
    → c ≡ get_or cells at (cell.App 0 0 0)
    → AreTermsFrom cells before count
    → StandsBefore cells at count c
row_before cells at before count c whole is less c_is later = by found.term (from_place cells at found) found.sound
  where
    h : AreTermsFrom cells (at + 1) count
    h = subst (λ k. AreTermsFrom cells k count) is later

    found : StandsAmong cells at
    found = found_in cells at whole less

    place : drop at cells ≡ c ∷ drop (at + 1) cells
    place = drop_more cells at (cell.App 0 0 0) less ∙ ap (λ d. d ∷ drop (at + 1) cells) (sym c_is)

    by : (u : Term) → drop at cells ≡ cells_of u ++ found.after → IsSound u → StandsBefore cells at count c
    by (terms.var x) from sound =
        let all : c ∷ drop (at + 1) cells ≡ variable_cell x ∷ found.after = sym place ∙ from in
        let head : c ≡ variable_cell x = same_first all in
        let none : argument_count c ≡ 0 = ap argument_count head ∙ takes_none x in
        record {
          enough = omega (arith, none);
          more = λ left e. record {
            row = terms.more (terms.var x) h.row;
            sound = (tt, h.sound);
            cells_are = place ∙ ap (λ d. d ∷ drop (at + 1) cells) head ∙ ap (λ l. variable_cell x ∷ l) h.cells_are;
            count_is = omega (arith, h.count_is, e, none);
          };
        }
    by (terms.app s us) from sound =
        let all : c ∷ drop (at + 1) cells ≡ cell.App s.number s.arity (1 + terms.sizes us) ∷ (cells_of_all us ++ found.after) = sym place ∙ from in
        let head : c ≡ cell.App s.number s.arity (1 + terms.sizes us) = same_first all in
        let parts = splits us h.row found.after sound.1 h.sound (sym (same_tail all) ∙ h.cells_are) in
        let arity_is : argument_count c ≡ s.arity = ap argument_count head in
        let counts : terms.count h.row ≡ terms.count us + terms.count parts.rest = ap terms.count parts.row_is ∙ count-join us parts.rest in
        record {
          enough = omega (arith, counts, arity_is, sound.0, h.count_is);
          more = λ left e. record {
            row = terms.more (terms.app s us) parts.rest;
            sound = (sound, parts.sound);
            cells_are = from ∙ ap (λ l. cells_of (terms.app s us) ++ l) (sym parts.cells_are);
            count_is = omega (arith, counts, arity_is, sound.0, h.count_is, e);
          };
        }

-- ---- all cells
pub numbering_begins : (nodes : List Node) (slots : Slots) (classes : List ℕ) (cells : List Cell) (at : ℕ) (numbers : List ℕ) → length cells ≤ at → numbers ≡ [] → IsClassNumbering nodes nodes slots classes cells at numbers
numbering_begins nodes slots classes cells at numbers less none t f known stands are knows = record {
  known' = known;
  row = terms.none;
  grows = record { more = []; known_is = sym (append-nil known); nodes_are = are };
  sound = tt;
  cells_are = drop_all at cells less;
  numbers_are = subst (λ l. HaveClasses f known l terms.none) (sym none) tt;
}

pub numbering_more :
    (nodes nodes1 nodes2 : List Node) (slots : Slots) (classes : List ℕ) (cells : List Cell) (at before n : ℕ) (numbers1 numbers2 numbers3 : List ℕ) (c : Cell)
    → before ≡ at + 1
    → at < length cells
    → AreInRange slots cells
    → c ≡ get_or cells at (cell.App 0 0 0)
    → IsClassNumbering nodes nodes1 slots classes cells before numbers1
    → NumbersCell slots classes nodes1 nodes2 numbers1 numbers2 c n
    → numbers3 ≡ n ∷ numbers2
    → IsClassNumbering nodes nodes2 slots classes cells at numbers3
numbering_more nodes nodes1 nodes2 slots classes cells at before n numbers1 numbers2 numbers3 c is less range c_is h numbered pushed t f known stands are knows =
    subst (HaveRow slots f known nodes2 cells at) (sym pushed)
    (row_more slots classes cells nodes1 nodes2 numbers1 numbers2 at n c range numbered f known t stands less c_is knows
    (subst (λ k. HaveRow slots f known nodes1 cells k numbers1) is (h t f known stands are knows)))

pub numbering_ends :
    (nodes nodes1 nodes2 : List Node) (slots : Slots) (classes : List ℕ) (cells : List Cell) (before n : ℕ) (numbers1 numbers2 : List ℕ) (c : Cell)
    → before ≡ 0 + 1
    → 0 < length cells
    → AreInRange slots cells
    → c ≡ get_or cells 0 (cell.App 0 0 0)
    → IsClassNumbering nodes nodes1 slots classes cells before numbers1
    → NumbersCell slots classes nodes1 nodes2 numbers1 numbers2 c n
    → HasClass nodes nodes2 slots classes cells n
numbering_ends nodes nodes1 nodes2 slots classes cells before n numbers1 numbers2 c is less range c_is h numbered t f known stands are knows =
    let r = numbering_more nodes nodes1 nodes2 slots classes cells 0 before n numbers1 numbers2 (n ∷ numbers2) c is less range c_is h numbered refl t f known stands are knows in
    by r.row r.known' r.grows r.sound (sym (drop_none cells) ∙ r.cells_are) r.numbers_are
  where
    drop_none : (xs : List Cell) → drop 0 xs ≡ xs
    drop_none [] = refl
    drop_none (x ∷ xs) = refl

    by : (row : Terms) (known' : List Term) → GrowsTo slots known nodes2 known' → AreSound row → cells ≡ cells_of_all row → HaveClasses f known' (n ∷ numbers2) row → (known' : List Term) × GrowsTo slots known nodes2 known' × (slice_get known' n ≡ Some (terms.substitute f t))
    by terms.none known' grown sound e have = elim have [ ]
    by (terms.more u us) known' grown sound e have =
        let same = same_term u t (cells_of_all us) [] sound.0 stands.sound (sym e ∙ stands.cells_are ∙ sym (append-nil (cells_of t))) in
        (known', grown, have.0 ∙ ap (λ v. Some (terms.substitute f v)) same.same)
