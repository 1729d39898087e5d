-- The table of places beside the variables that were met.
use Rattle.std.proofs.Common.{◌≡◌, ℕ, suc, zero, ◌^◌, ◌+◌, ◌<◌, ◌≤◌, inl, inr, true, false, cond, not, append_assoc, append-nil, ◌||◌, List, [], ◌∷◌, ◌++◌, length, map, take, get_or, refl, sym, ◌∙◌, ap, subst, arith, Some, None, add-zero}
use Rattle.std.specs.Prelude.{slice_get, slice_set}
use Rattle.std.specs.List.{list_any, position_or_len}
use Rattle.std.proofs.lemmas.Bool.{eq-eqb}
use Rattle.std.proofs.lemmas.Bool.Decides.{eqb_tells, Decides-eqb}
use Rattle.std.proofs.lemmas.List.Sums.{position_or_len_is}
use Rattle.std.proofs.lemmas.List.Folds.{list_any_at}
use Rattle.std.proofs.lemmas.List.Recursion.{is_position_or_len}
use Rattle.si_term.proofs.Inserted.{swapped, inserted_length, inserted_extends, inserted-append, inserted-firsts}
use Rattle.std.proofs.lemmas.List.{map-append, take_more, take_all, length-take}
use Rattle.si_flat.proofs.NameLaws.{found_first, found_later}
use Rattle.si_flat.specs.Numbered.{place_in}
use Rattle.std.proofs.lemmas.Option.{slice_get_past, slice_get_read}
use Rattle.si_defs.proofs.ListLaws.{set_same, set_other, get_front}
use Rattle.si_defs.specs.Substitutions.{Grows}
use Rattle.si_flat.specs.Flattening.{FindsPlace, IsIndex}
use Rattle.indexmap.specs.IndexSet.{insert_all}
use Rattle.si_flat.specs.declared.Cell.{Cell}
use Rattle.si_flat.specs.declared.Cell.TheVariants as cell
use Rattle.si_entries.specs.Numbers.{same_number, AreAt, entry_numbers, cell_by_place, IsNumberedIn, numbered_anew}

-- ---- a number is looked for
-- the table leads to each number of the list
led_to : (places : List ℕ) (k : ℕ) (ns : List ℕ) (i d : ℕ) → AreAt places k ns → i < length ns → slice_get places (get_or ns i d) ≡ Some (k + i)
led_to places k [] i d h less = absurd (omega arith)
led_to places k (n ∷ ns) zero d h less = h.0 ∙ ap (λ m. Some m) (sym (add-zero k))
led_to places k (n ∷ ns) (suc i) d h less = led_to places (suc k) ns i d h.1 (omega arith) ∙ ap (λ m. Some m) (omega arith)

-- where it leads to the number, it is there for the first time
found : (places ns : List ℕ) (n p : ℕ) → AreAt places 0 ns → slice_get places n ≡ Some p → p < length ns → n ≡ get_or ns p n → FindsPlace (same_number n) ns (Some p)
found places ns n p h led within there =
    let passes : same_number n (get_or ns p n) ≡ true = eq-eqb n (get_or ns p n) there in (
      list_any_at (same_number n) ns p n within passes,
      position_or_len_is (same_number n) ns p n (omega arith) before (λ less. passes),
      within,
    ) where
      before : (k : ℕ) → k < p → same_number n (get_or ns k n) ≡ false
      before k less = elim (eqb_tells n (get_or ns k n)) [
        | inl same ↦
            let one : Some (0 + k) ≡ Some p = sym (led_to places 0 ns k n h (omega arith)) ∙ ap (slice_get places) (sym same.1) ∙ led in
            let bad : 0 + k ≡ p = cc in
            absurd (omega (arith, bad))
        | inr other ↦ other.0
      ]

-- where it leads to no such number, the list lacks it
lacks : (places : List ℕ) (k : ℕ) (ns : List ℕ) (n : ℕ) → AreAt places k ns → ((p : ℕ) → slice_get places n ≡ Some (k + p) → slice_get ns p ≡ Some n → ⊥) → list_any (same_number n) ns ≡ false
lacks places k [] n h none = refl
lacks places k (m ∷ ns) n h none = elim (eqb_tells n m) [
  | inl same ↦ absurd (none 0 (ap (slice_get places) same.1 ∙ h.0 ∙ ap (λ i. Some i) (sym (add-zero k))) (ap (λ i. Some i) (sym same.1)))
  | inr other ↦
      ap (λ b. b || list_any (same_number n) ns) other.0
      ∙ lacks places (suc k) ns n h.1 (λ p led there. none (suc p) (led ∙ ap (λ i. Some i) (omega arith)) there)
]

module _ (places ns : List ℕ) (n : ℕ) (h : AreAt places 0 ns) where
  pub not_led : length places ≤ n → list_any (same_number n) ns ≡ false
  not_led past = lacks places 0 ns n h (λ p led there. let none : slice_get places n ≡ None = slice_get_past places n past in cc)

  module _ (q : ℕ) (within : n < length places) (led : q ≡ get_or places n q) where
    there : slice_get places n ≡ Some q
    there = slice_get_read places (length places) n q refl within led

    pub led_past : length ns ≤ q → list_any (same_number n) ns ≡ false
    led_past past = lacks places 0 ns n h (λ p other item.
        let same : Some q ≡ Some (0 + p) = sym there ∙ other in
        let one : q ≡ 0 + p = cc in
        let none : slice_get ns p ≡ None = slice_get_past ns p (omega (arith, one, past)) in
        cc)

    pub led_elsewhere : (m : ℕ) → q < length ns → m ≡ get_or ns q m → (m ≡ n → ⊥) → list_any (same_number n) ns ≡ false
    led_elsewhere m inside is differs = lacks places 0 ns n h (λ p other item.
        let same : Some q ≡ Some (0 + p) = sym there ∙ other in
        let alike : q ≡ 0 + p = cc in
        let one : q ≡ p = omega (arith, alike) in
        let here : slice_get ns q ≡ Some m = slice_get_read ns (length ns) q m refl inside is in
        let equal : Some m ≡ Some n = sym here ∙ ap (slice_get ns) one ∙ item in
        differs cc)

    pub led_there : q < length ns → n ≡ get_or ns q n → FindsPlace (same_number n) ns (Some q)
    led_there inside is = found places ns n q h there inside is

-- ---- the list grows
at_grown : (places more : List ℕ) (k : ℕ) (ns : List ℕ) → AreAt places k ns → AreAt (places ++ more) k ns
at_grown places more k [] h = tt
at_grown places more k (n ∷ ns) h = (get_front places more n k h.0, at_grown places more (suc k) ns h.1)

pub at_reached : (old new ns : List ℕ) → Grows old new → AreAt old 0 ns → AreAt new 0 ns
at_reached old new ns grows h = subst (λ l. AreAt l 0 ns) (sym grows.1) (at_grown old grows.0 0 ns h)

at_pushed : (places : List ℕ) (k at n : ℕ) (ns : List ℕ) → AreAt places k ns → list_any (same_number n) ns ≡ false → n < length places → at ≡ k + length ns → AreAt (slice_set places n at) k (ns ++ n ∷ [])
at_pushed places k at n [] h new less is = (set_same places n at less ∙ ap (λ i. Some i) (is ∙ add-zero k), tt)
at_pushed places k at n (m ∷ ns) h new less is = elim (eqb_tells n m) [
  | inl same ↦ absurd (let bad : true ≡ false = sym (ap (λ b. b || list_any (same_number n) ns) same.0) ∙ new in cc)
  | inr other ↦ (
    set_other places n m at (λ same. other.1 (sym same)) ∙ h.0,
    at_pushed places (suc k) at n ns h.1 (sym (ap (λ b. b || list_any (same_number n) ns) other.0) ∙ new) less (is ∙ omega arith),
  )
]

pub at_met : (old places ns new : List ℕ) (n at : ℕ) → Grows old places → AreAt old 0 ns → list_any (same_number n) ns ≡ false → n < length places → at ≡ length ns → new ≡ ns ++ n ∷ [] → AreAt (slice_set places n at) 0 new
at_met old places ns new n at grows h lacked less is items = subst (AreAt (slice_set places n at) 0) (sym items) (at_pushed places 0 at n ns (at_reached old places ns grows h) lacked less (is ∙ omega arith))

-- ---- the number of a member
placed : (ns : List ℕ) (n : ℕ) → place_in same_number ns n ≡ position_or_len (same_number n) ns
placed ns n = is_position_or_len (λ l. place_in same_number l n) (same_number n) refl (λ m l. ap (λ b. cond b 0 (1 + place_in same_number l n)) (swapped same_number Decides-eqb m n)) ns

pub index_found : (ns : List ℕ) (n p : ℕ) → FindsPlace (same_number n) ns (Some p) → IsIndex same_number ns n p
index_found ns n p f more = placed (ns ++ more) n ∙ (found_first (same_number n) ns more p f).1

pub index_behind : (ns new : List ℕ) (n at : ℕ) → list_any (same_number n) ns ≡ false → new ≡ ns ++ n ∷ [] → at ≡ length ns → IsIndex same_number new n at
index_behind ns new n at lacked items is more =
    placed (new ++ more) n
    ∙ ap (position_or_len (same_number n)) (ap (λ l. l ++ more) items ∙ append_assoc ns (n ∷ []) more)
    ∙ (found_later (same_number n) ns (n ∷ more) lacked).1
    ∙ ap (λ b. length ns + cond (not b) (1 + position_or_len (same_number n) more) 0) (eq-eqb n n refl)
    ∙ omega (arith, is)

-- ---- cells are written
-- these cells were written, whatever is met later
pub record AreWritten (seen : List Cell) (met : List ℕ) (written : List Cell) : Type 0 where
  pub met_are : met ≡ insert_all same_number [] (entry_numbers seen)
  pub cells_are : (more : List ℕ) → written ≡ map (cell_by_place (met ++ more)) seen

pub numbers-append : (cells others : List Cell) → entry_numbers (cells ++ others) ≡ entry_numbers cells ++ entry_numbers others
numbers-append [] others = refl
numbers-append (cell.Entry n ∷ cells) others = ap (λ l. n ∷ l) (numbers-append cells others)
numbers-append (cell.App sym arity len ∷ cells) others = numbers-append cells others
numbers-append (cell.Query n ∷ cells) others = numbers-append cells others
numbers-append (cell.Ind n ∷ cells) others = numbers-append cells others

numbers_few : (cells : List Cell) → length (entry_numbers cells) ≤ length cells
numbers_few [] = omega arith
numbers_few (cell.Entry n ∷ cells) = omega (arith, numbers_few cells)
numbers_few (cell.App sym arity len ∷ cells) = omega (arith, numbers_few cells)
numbers_few (cell.Query n ∷ cells) = omega (arith, numbers_few cells)
numbers_few (cell.Ind n ∷ cells) = omega (arith, numbers_few cells)

met_few : (seen : List Cell) (met : List ℕ) (written : List Cell) → AreWritten seen met written → length met ≤ length seen
met_few seen met written w = omega (arith, ap length w.met_are, inserted_length same_number [] (entry_numbers seen), numbers_few seen)

written_more : (seen : List Cell) (c numbered : Cell) (met now : List ℕ) (written new : List Cell)
    → AreWritten seen met written → now ≡ insert_all same_number met (entry_numbers (c ∷ [])) → IsNumberedIn now c numbered → new ≡ written ++ numbered ∷ []
    → AreWritten (seen ++ c ∷ []) now new
written_more seen c numbered met now written new w grown is items =
    let later = inserted_extends same_number met (entry_numbers (c ∷ [])) in
    record {
      met_are =
          grown
          ∙ ap (λ l. insert_all same_number l (entry_numbers (c ∷ []))) w.met_are
          ∙ sym (inserted-append same_number [] (entry_numbers seen) (entry_numbers (c ∷ [])))
          ∙ ap (insert_all same_number []) (sym (numbers-append seen (c ∷ [])));
      cells_are = λ more.
          items
          ∙ ap (λ l. l ++ numbered ∷ []) (w.cells_are (later.0 ++ more)
          ∙ ap (λ l. map (cell_by_place l) seen) (sym (append_assoc met later.0 more) ∙ ap (λ l. l ++ more) (sym later.1 ∙ sym grown)))
          ∙ ap (λ d. map (cell_by_place (now ++ more)) seen ++ d ∷ []) (is more)
          ∙ sym (map-append (cell_by_place (now ++ more)) seen (c ∷ []));
    }

written_all : (cells : List Cell) (met : List ℕ) (written : List Cell) → AreWritten cells met written → written ≡ numbered_anew cells
written_all cells met written w =
    w.cells_are []
    ∙ ap (λ l. map (cell_by_place l) cells) (append-nil met ∙ w.met_are ∙ inserted-firsts same_number Decides-eqb (entry_numbers cells))

pub written_next : (cells : List Cell) (i : ℕ) (d numbered : Cell) (met now : List ℕ) (written new : List Cell)
    → i < length cells → AreWritten (take i cells) met written → now ≡ insert_all same_number met (entry_numbers (get_or cells i d ∷ [])) → IsNumberedIn now (get_or cells i d) numbered
    → new ≡ written ++ numbered ∷ []
    → AreWritten (take (i + 1) cells) now new
written_next cells i d numbered met now written new less w grown is items =
    subst (λ l. AreWritten l now new) (sym (take_more cells i d less)) (written_more (take i cells) (get_or cells i d) numbered met now written new w grown is items)

pub written_through : (cells : List Cell) (i : ℕ) (met : List ℕ) (written : List Cell) → length cells ≤ i → AreWritten (take i cells) met written → written ≡ numbered_anew cells
written_through cells i met written end w = written_all cells met written (subst (λ l. AreWritten l met written) (take_all i cells end) w)

pub few_met : (cells : List Cell) (i : ℕ) (met : List ℕ) (written : List Cell) → i < length cells → length cells < 2 ^ 32 → AreWritten (take i cells) met written → length met < 2 ^ 32
few_met cells i met written less few w = omega (arith, met_few (take i cells) met written w, length-take i cells)
