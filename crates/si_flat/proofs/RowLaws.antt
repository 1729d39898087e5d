-- A row of cells has one list of bindings.
use Rattle.std.proofs.Common.{◌≡◌, ℕ, zero, suc, ◌+◌, ◌-◌, ◌<◌, ◌≤◌, inl, inr, List, [], ◌∷◌, ◌++◌, length, take, drop, get_or, refl, ap, sym, ◌∙◌, subst, arith, length-append, append_assoc, append-nil}
use Rattle.std.proofs.lemmas.List.{map-append, take_rest, length-drop}
use Rattle.std.specs.Prelude.{slice_get, Option, None, Some}
use Rattle.std.specs.Iterator.{YieldsFirstBy}
use Rattle.si_defs.specs.Substitutions.{IsAmong, AreDistinct}
use Rattle.si_defs.proofs.ListLaws.{all_append, among_front, among_back, among_parts, same_first, same_tail}
use Rattle.std.proofs.Math.Seq.{drop-append_seam, take-append_seam}
use Rattle.si_flat.specs.declared.Cell.{Cell}
use Rattle.si_flat.specs.declared.Cell.TheVariants as cell
use Rattle.si_flat.specs.Cells.{IsWhole, span}
use Rattle.si_flat.specs.Rows.{CellPair, left_sides, pair_cells, row_of, AreWhole, first_span, pairs_in, pairs_of, IsRow, pair_of, IsPair}
use Rattle.si_flat.proofs.Subterms.{length-cells_of, span-first}

-- ---- lists of numbers
pub distinct_parts : (xs ys : List ℕ) → AreDistinct (xs ++ ys) → AreDistinct xs × AreDistinct ys × ((n : ℕ) → IsAmong xs n → IsAmong ys n → ⊥)
distinct_parts [] ys h = (tt, h, (λ n a b. a))
distinct_parts (x ∷ xs) ys h =
    let rest = distinct_parts xs ys h.1 in (
      ((λ a. h.0 (among_front xs ys x a)), rest.0),
      rest.1,
      (λ n a b. elim a [ inl e ↦ h.0 (among_back xs ys x (subst (IsAmong ys) (sym e) b)) | inr i ↦ rest.2 n i b ]),
    )

pub distinct_append : (xs ys : List ℕ) → AreDistinct xs → AreDistinct ys → ((n : ℕ) → IsAmong xs n → IsAmong ys n → ⊥) → AreDistinct (xs ++ ys)
distinct_append [] ys p q r = q
distinct_append (x ∷ xs) ys p q r = (
  (λ a. elim (among_parts xs ys x a) [ inl b ↦ p.0 b | inr b ↦ r x (inl refl) b ]),
  distinct_append xs ys p.1 q (λ n a b. r n (inr a) b),
)

-- ---- rows
-- a term at the front of some cells tells its length
pub span_told : (right rest : List Cell) (d : Cell) → IsWhole right → span (get_or (right ++ rest) 0 d) ≡ length right
span_told right rest d whole =
    subst (λ r. span (get_or (r ++ rest) 0 d) ≡ length r) (sym whole.1.cells_are)
    (span-first whole.0 rest d ∙ sym (length-cells_of whole.0))

pub first_length : (right rest : List Cell) → IsWhole right → first_span (right ++ rest) ≡ length right
first_length right rest whole = span_told right rest (cell.Query 0) whole

pub first_taken : (right rest : List Cell) → IsWhole right → take (first_span (right ++ rest)) (right ++ rest) ≡ right
first_taken right rest whole = ap (λ n. take n (right ++ rest)) (first_length right rest whole) ∙ take-append_seam right rest

pub first_dropped : (right rest : List Cell) → IsWhole right → drop (first_span (right ++ rest)) (right ++ rest) ≡ rest
first_dropped right rest whole = ap (λ n. drop n (right ++ rest)) (first_length right rest whole) ∙ drop-append_seam right rest

pub pairs_read : (most : ℕ) (bs : List CellPair) → AreWhole bs → length bs ≤ most → pairs_in most (row_of bs) ≡ bs
pairs_read zero [] whole less = refl
pairs_read zero (b ∷ bs) whole less = absurd (omega (arith, less))
pairs_read (suc most) [] whole less = refl
pairs_read (suc most) (b ∷ bs) whole less =
    let right = first_taken b.1 (row_of bs) whole.0 in
    let rest = ap (λ l. pairs_in most l) (first_dropped b.1 (row_of bs) whole.0) ∙ pairs_read most bs whole.1 (omega (arith, less)) in
    λ i. (b.0, right i) ∷ rest i

pub row_long : (bs : List CellPair) → length bs ≤ length (row_of bs)
row_long [] = omega arith
row_long (b ∷ bs) = omega (arith, row_long bs, length-append b.1 (row_of bs))

pub pairs_of_row : (bs : List CellPair) → AreWhole bs → pairs_of (row_of bs) ≡ bs
pairs_of_row bs whole = pairs_read (length (row_of bs)) bs whole (row_long bs)

-- the pairs of a row are its own
pub row_pairs : (cells : List Cell) (row : IsRow cells) → pairs_of cells ≡ row.pairs
row_pairs cells row = ap pairs_of row.row ∙ pairs_of_row row.pairs row.whole

pub row_append : (bs cs : List CellPair) → row_of (bs ++ cs) ≡ row_of bs ++ row_of cs
row_append [] cs = refl
row_append (b ∷ bs) cs = ap (λ l. pair_cells b ++ l) (row_append bs cs) ∙ sym (append_assoc (pair_cells b) (row_of bs) (row_of cs))

-- ---- one binding more
pub row_pushed : (cells new right : List Cell) (n : ℕ) → IsRow cells → IsWhole right → new ≡ cells ++ pair_cells (n, right) → IsRow new
row_pushed cells new right n row whole e = record {
  pairs = row.pairs ++ (n, right) ∷ [];
  whole = all_append (λ b. IsWhole b.1) row.pairs ((n, right) ∷ []) row.whole (whole, tt);
  row = e ∙ (λ i. row.row i ++ sym (append-nil (pair_cells (n, right))) i) ∙ sym (row_append row.pairs ((n, right) ∷ []));
}

pub pairs_pushed : (cells new right : List Cell) (n : ℕ) → IsRow cells → IsWhole right → new ≡ cells ++ pair_cells (n, right) → pairs_of new ≡ pairs_of cells ++ (n, right) ∷ []
unfolding row_pushed
pairs_pushed cells new right n row whole e =
    row_pairs new (row_pushed cells new right n row whole e) ∙ ap (λ l. l ++ (n, right) ∷ []) (sym (row_pairs cells row))

pub lefts_pushed : (bs : List CellPair) (b : CellPair) → AreDistinct (left_sides bs) → (IsAmong (left_sides bs) b.0 → ⊥) → AreDistinct (left_sides (bs ++ b ∷ []))
lefts_pushed bs b distinct new =
    subst AreDistinct (sym (map-append (λ c. c.0) bs (b ∷ [])))
    (distinct_append (left_sides bs) (b.0 ∷ []) distinct ((λ a. a), tt) (λ n a k. elim k [ inl e ↦ new (subst (IsAmong (left_sides bs)) (sym e) a) | inr h ↦ h ]))

pub few_pairs : (cells : List Cell) → IsRow cells → length (pairs_of cells) ≤ length cells
few_pairs cells row = omega (arith, ap length (row_pairs cells row), row_long row.pairs, ap length row.row)

-- ---- the first binding
pub record FirstPair (first : Cell) (after : List Cell) : Type 0 where
  pub left : ℕ
  pub right : List Cell
  pub rest : List CellPair
  pub whole : IsWhole right
  pub rest_whole : AreWhole rest
  pub first_is : first ≡ cell.Ind left
  pub after_is : after ≡ right ++ row_of rest

pub first_pair : (first : Cell) (after : List Cell) → IsRow (first ∷ after) → FirstPair first after
first_pair first after row = by row.pairs row.whole row.row where
  by : (bs : List CellPair) → AreWhole bs → first ∷ after ≡ row_of bs → FirstPair first after
  by [] whole e = cc
  by (b ∷ bs) whole e = record {
    left = b.0;
    right = b.1;
    rest = bs;
    whole = whole.0;
    rest_whole = whole.1;
    first_is = same_first e;
    after_is = same_tail e;
  }

-- a row that isn't empty, by its first binding
pub record Opened (cells : List Cell) : Type 0 where
  pub left : ℕ
  pub right : List Cell
  pub rest : List CellPair
  pub whole : IsWhole right
  pub rest_whole : AreWhole rest
  pub cells_are : cells ≡ (cell.Ind left ∷ right) ++ row_of rest
  pub after : take (length cells - 1) (drop 1 cells) ≡ right ++ row_of rest

pub opened : (cells : List Cell) → IsRow cells → 0 < length cells → Opened cells
opened [] row some = absurd (omega (arith, some))
opened (first ∷ after) row some =
    let f = first_pair first after row in
    record {
      left = f.left;
      right = f.right;
      rest = f.rest;
      whole = f.whole;
      rest_whole = f.rest_whole;
      cells_are = λ i. f.first_is i ∷ f.after_is i;
      after = take_rest (first ∷ after) 1 ∙ f.after_is;
    }

pub first_told : (cells : List Cell) (n : ℕ) (o : Opened cells) → n ≡ span (get_or (take (length cells - 1) (drop 1 cells)) 0 (cell.App 0 0 0)) → n ≡ length o.right
first_told cells n o e = e ∙ ap (λ l. span (get_or l 0 (cell.App 0 0 0))) o.after ∙ span_told o.right (row_of o.rest) (cell.App 0 0 0) o.whole

-- the cells of the first binding, and the others
pub record AreCut (cells pair rest : List Cell) : Type 0 where
  pub pair_is : IsPair pair
  pub rest_is : IsRow rest
  pub pairs : pairs_of cells ≡ pair_of pair ∷ pairs_of rest

pub cut_off : (cells pair rest others : List Cell) (o : Opened cells) → others ≡ drop (length o.right) (o.right ++ row_of o.rest) → pair ≡ take (length cells - length others) cells → rest ≡ drop (length cells - length others) cells → AreCut cells pair rest
cut_off cells pair rest others o others_are pair_are rest_are =
    let left_over : others ≡ row_of o.rest = others_are ∙ drop-append_seam o.right (row_of o.rest) in
    let first : List Cell = cell.Ind o.left ∷ o.right in
    let long : length cells - length others ≡ length first =
    omega (arith, ap length left_over, ap length o.cells_are, length-append o.right (row_of o.rest)) in
    let pair_is : pair ≡ first = pair_are ∙ (λ i. take (long i) (o.cells_are i)) ∙ take-append_seam first (row_of o.rest) in
    let rest_is : rest ≡ row_of o.rest = rest_are ∙ (λ i. drop (long i) (o.cells_are i)) ∙ drop-append_seam first (row_of o.rest) in
    record {
      pair_is = record { left = o.left; right = o.right; whole = o.whole; cells_are = pair_is };
      rest_is = record { pairs = o.rest; whole = o.rest_whole; row = rest_is };
      pairs =
          ap pairs_of o.cells_are
          ∙ pairs_of_row ((o.left, o.right) ∷ o.rest) (o.whole, o.rest_whole)
          ∙ (λ i. pair_of (sym pair_is i) ∷ (sym (pairs_of_row o.rest o.rest_whole) ∙ ap pairs_of (sym rest_is)) i);
    }

-- ---- a walk over the bindings
pub left_of_walk : (bs rest : List CellPair) (b : CellPair) (n : ℕ) → b ∷ rest ≡ drop n bs → (slice_get bs n ≡ Some b) × (rest ≡ drop (n + 1) bs)
left_of_walk bs rest b n e = by bs n e where
  by : (bs : List CellPair) (n : ℕ) → b ∷ rest ≡ drop n bs → (slice_get bs n ≡ Some b) × (rest ≡ drop (n + 1) bs)
  by [] zero e = cc
  by [] (suc n) e = cc
  by (c ∷ bs) zero e = (sym (ap Some (same_first e)), same_tail e)
  by (c ∷ bs) (suc n) e = let k = by bs n e in (k.0, (let turn : suc (n + 1) ≡ suc n + 1 = omega arith in subst (λ m. rest ≡ drop m (c ∷ bs)) turn k.1))

pub some_left : (bs : List CellPair) (n : ℕ) → n < length bs → drop n bs ≡ [] → ⊥
some_left bs n less e = omega (arith, length-drop n bs, ap length e, less)

nothing : (k : ℕ) → ◌≡◌ {A = List CellPair} [] (drop k [])
nothing zero = refl
nothing (suc k) = refl

pub none_after : (bs : List CellPair) (n : ℕ) → [] ≡ drop n bs → [] ≡ drop (n + 1) bs
none_after bs n e = by bs n e where
  by : (bs : List CellPair) (n : ℕ) → [] ≡ drop n bs → [] ≡ drop (n + 1) bs
  by [] n e = nothing (n + 1)
  by (c ∷ bs) zero e = cc
  by (c ∷ bs) (suc n) e = let turn : suc (n + 1) ≡ suc n + 1 = omega arith in subst (λ m. [] ≡ drop m (c ∷ bs)) turn (by bs n e)

pub walked : (bs left new : List CellPair) (r : Option CellPair) (n : ℕ) → left ≡ drop n bs → YieldsFirstBy (λ pair. pair) (λ rest. rest) left r new → new ≡ drop (n + 1) bs
walked bs left new None n e h = h.1 ∙ none_after bs n (sym h.0 ∙ e)
walked bs left new (Some b) n e h = (left_of_walk bs new b n (sym h ∙ e)).1
