-- Cells whose indicators get other numbers: how the loops over them go on.
use Rattle.std.proofs.Common.{◌≡◌, inl, ℕ, zero, suc, ◌+◌, ◌<◌, List, [], ◌∷◌, ◌++◌, length, set, drop, get_or, refl, sym, ◌∙◌, ap, subst, arith, length-append, length-set, append_assoc, append-nil}
use Rattle.std.proofs.lemmas.List.{drop_more, map-append}
use Rattle.si_defs.specs.Terms as terms
use Rattle.si_defs.specs.Substitutions.{IsAmong, AreDistinct}
use Rattle.si_defs.proofs.ListLaws.{all_front, all_back}
use Rattle.si_flat.specs.declared.Cell.{Cell}
use Rattle.si_flat.specs.declared.Cell.TheVariants as cell
use Rattle.si_flat.specs.Cells.{query, entry, ind, Term, Terms, cells_of, cells_of_all, IsSound, AreSound, StandsFor, IsWhole}
use Rattle.si_flat.specs.Rows.{CellPair, AreWhole, left_sides}
use Rattle.si_flat.proofs.RowLaws.{distinct_parts}
use Rattle.si_legal.specs.Bindings.{indicators, right_indicators}
use Rattle.si_legal.specs.Renumbering.{renumbered, renamed, renamed_bindings}
use Rattle.si_legal.proofs.Splitting.{indicators_all, indicators-more}
use Rattle.si_tree.specs.Decoding.{bindings_of}
use Rattle.si_tree.specs.Numbers.{AreBelow, indicators_in, rights_in, noted, noted_number, renumbered_cell, renumbered_cells, renumbered_pairs}
use Rattle.si_tree.proofs.DecodingLaws.{term_read}

-- ---- numbers that are noted
pub noted_long : (numbers : List ℕ) (next : ℕ) (ns : List ℕ) → length (noted numbers next ns) ≡ length numbers
noted_long numbers next [] = refl
noted_long numbers next (n ∷ ns) = noted_long (set numbers n next) (suc next) ns ∙ length-set numbers n next

pub noted_append : (numbers : List ℕ) (next : ℕ) (ns ms : List ℕ) → noted numbers next (ns ++ ms) ≡ noted (noted numbers next ns) (next + length ns) ms
noted_append numbers next [] ms = ap (λ k. noted numbers k ms) (omega arith)
noted_append numbers next (n ∷ ns) ms = noted_append (set numbers n next) (suc next) ns ms ∙ ap (λ k. noted (noted (set numbers n next) (suc next) ns) k ms) (omega arith)

-- So many are noted, and these are left.
pub record IsNoting (numbers : List ℕ) (first : ℕ) (all : List ℕ) (now : List ℕ) (next : ℕ) (left : List ℕ) : Type 0 where
  pub whole : noted now next left ≡ noted numbers first all
  pub count : next + length left ≡ first + length all
  pub known : AreBelow (length now) left

pub noting_begins : (numbers : List ℕ) (first : ℕ) (all : List ℕ) → AreBelow (length numbers) all → IsNoting numbers first all numbers first all
noting_begins numbers first all known = record { whole = refl; count = refl; known = known }

-- some more
pub noting_more : (numbers : List ℕ) (first : ℕ) (all now : List ℕ) (next : ℕ) (ns left after : List ℕ) (then : ℕ) → IsNoting numbers first all now next (ns ++ left) → after ≡ noted now next ns → then ≡ next + length ns → IsNoting numbers first all after then left
noting_more numbers first all now next ns left after then h is to = record {
  whole = (λ i. noted (is i) (to i) left) ∙ sym (noted_append now next ns left) ∙ h.whole;
  count = omega (arith, to, h.count, length-append ns left);
  known = subst (λ k. AreBelow k left) (sym (ap length is ∙ noted_long now next ns)) (all_back (λ n. n < length now) ns left h.known);
}

pub noting_ends : (numbers : List ℕ) (first : ℕ) (all now : List ℕ) (next : ℕ) (left : List ℕ) → IsNoting numbers first all now next left → left ≡ [] → (now ≡ noted numbers first all) × (next ≡ first + length all)
noting_ends numbers first all now next left h e =
    (ap (noted now next) (sym e) ∙ h.whole, omega (arith, h.count, ap length e))

-- ---- cells
indicators_in_append : (xs ys : List Cell) → indicators_in (xs ++ ys) ≡ indicators_in xs ++ indicators_in ys
indicators_in_append [] ys = refl
indicators_in_append (cell.Ind n ∷ xs) ys = ap (λ l. n ∷ l) (indicators_in_append xs ys)
indicators_in_append (cell.Query n ∷ xs) ys = indicators_in_append xs ys
indicators_in_append (cell.Entry n ∷ xs) ys = indicators_in_append xs ys
indicators_in_append (cell.App s arity len ∷ xs) ys = indicators_in_append xs ys

no_indicator : (c : Cell) (cells : List Cell) → ((n : ℕ) → c ≡ cell.Ind n → ⊥) → indicators_in (c ∷ cells) ≡ indicators_in cells
no_indicator (cell.Ind n) cells none = absurd (none n refl)
no_indicator (cell.Query n) cells none = refl
no_indicator (cell.Entry n) cells none = refl
no_indicator (cell.App s arity len) cells none = refl

pub skips : (cells : List Cell) (i : ℕ) (d : Cell) → i < length cells → ((n : ℕ) → get_or cells i d ≡ cell.Ind n → ⊥) → indicators_in (drop i cells) ≡ indicators_in (drop (i + 1) cells)
skips cells i d less none = ap indicators_in (drop_more cells i d less) ∙ no_indicator (get_or cells i d) (drop (i + 1) cells) none

pub meets : (cells : List Cell) (i : ℕ) (d : Cell) (n : ℕ) → i < length cells → get_or cells i d ≡ cell.Ind n → indicators_in (drop i cells) ≡ n ∷ indicators_in (drop (i + 1) cells)
meets cells i d n less is = ap indicators_in (drop_more cells i d less ∙ ap (λ c. c ∷ drop (i + 1) cells) is)

below_one : (bound : ℕ) (c : Cell) (cells : List Cell) → AreBelow bound (indicators_in (c ∷ cells)) → AreBelow bound (indicators_in (c ∷ [])) × AreBelow bound (indicators_in cells)
below_one bound (cell.Ind n) cells h = ((h.0, tt), h.1)
below_one bound (cell.Query n) cells h = (tt, h)
below_one bound (cell.Entry n) cells h = (tt, h)
below_one bound (cell.App s arity len) cells h = (tt, h)

pub below_at : (bound : ℕ) (cells : List Cell) (i : ℕ) (d : Cell) → i < length cells → AreBelow bound (indicators_in cells) → AreBelow bound (indicators_in (get_or cells i d ∷ []))
below_at bound [] i d less h = absurd (omega (arith, less))
below_at bound (c ∷ cells) zero d less h = (below_one bound c cells h).0
below_at bound (c ∷ cells) (suc i) d less h = below_at bound cells i d (omega (arith, less)) (below_one bound c cells h).1

-- ---- terms
module _ (to : ℕ → ℕ) where
  mutual
    same_size : (t : Term) → terms.size (renamed to t) ≡ terms.size t
    same_size (terms.var x) = refl
    same_size (terms.app s ts) = ap (λ n. 1 + n) (same_sizes ts)

    same_sizes : (ts : Terms) → terms.sizes (terms.rename_all (renumbered to) ts) ≡ terms.sizes ts
    same_sizes terms.none = refl
    same_sizes (terms.more t ts) = let first = same_size t in let rest = same_sizes ts in λ i. first i + rest i

  mutual
    pub cells_renamed : (t : Term) → cells_of (renamed to t) ≡ renumbered_cells to (cells_of t)
    cells_renamed (terms.var (query n)) = refl
    cells_renamed (terms.var (entry n)) = refl
    cells_renamed (terms.var (ind n)) = refl
    cells_renamed (terms.app s ts) =
        let len = same_sizes ts in
        let rest = row_renamed ts in
        λ i. cell.App s.number s.arity (1 + len i) ∷ rest i

    row_renamed : (ts : Terms) → cells_of_all (terms.rename_all (renumbered to) ts) ≡ renumbered_cells to (cells_of_all ts)
    row_renamed terms.none = refl
    row_renamed (terms.more t ts) =
        let first = cells_renamed t in
        let rest = row_renamed ts in
        (λ i. first i ++ rest i) ∙ sym (map-append (renumbered_cell to) (cells_of t) (cells_of_all ts))

  same_count : (ts : Terms) → terms.count (terms.rename_all (renumbered to) ts) ≡ terms.count ts
  same_count terms.none = refl
  same_count (terms.more t ts) = ap (λ n. 1 + n) (same_count ts)

  mutual
    pub sound_renamed : (t : Term) → IsSound t → IsSound (renamed to t)
    sound_renamed (terms.var x) sound = tt
    sound_renamed (terms.app s ts) sound = (same_count ts ∙ sound.0, all_sound_renamed ts sound.1)

    all_sound_renamed : (ts : Terms) → AreSound ts → AreSound (terms.rename_all (renumbered to) ts)
    all_sound_renamed terms.none sound = tt
    all_sound_renamed (terms.more t ts) sound = (sound_renamed t sound.0, all_sound_renamed ts sound.1)

  pub stands_renamed : (cells : List Cell) (t : Term) → StandsFor cells t → StandsFor (renumbered_cells to cells) (renamed to t)
  stands_renamed cells t stands = record {
    cells_are = ap (renumbered_cells to) stands.cells_are ∙ sym (cells_renamed t);
    sound = sound_renamed t stands.sound;
  }

  pub whole_renamed : (cells : List Cell) → IsWhole cells → IsWhole (renumbered_cells to cells)
  whole_renamed cells whole = (renamed to whole.0, stands_renamed cells whole.0 whole.1)

  pub all_whole_renamed : (bs : List CellPair) → AreWhole bs → AreWhole (renumbered_pairs to bs)
  all_whole_renamed [] whole = tt
  all_whole_renamed (b ∷ bs) whole = (whole_renamed b.1 whole.0, all_whole_renamed bs whole.1)

  -- they are read as bindings with those numbers
  pub pairs_read_renamed : (bs : List CellPair) → AreWhole bs → bindings_of (renumbered_pairs to bs) ≡ renamed_bindings to (bindings_of bs)
  pairs_read_renamed [] whole = refl
  pairs_read_renamed (b ∷ bs) whole =
      let t = whole.0.0 in
      let here = term_read (renumbered_cells to b.1) (renamed to t) (stands_renamed b.1 t whole.0.1) ∙ ap (renamed to) (sym (term_read b.1 t whole.0.1)) in
      let rest = pairs_read_renamed bs whole.1 in
      λ i. (to b.0, here i) ∷ rest i

-- the indicators in the cells of a term are its own
mutual
  pub indicators_of : (t : Term) → indicators_in (cells_of t) ≡ indicators t
  indicators_of (terms.var (query n)) = refl
  indicators_of (terms.var (entry n)) = refl
  indicators_of (terms.var (ind n)) = refl
  indicators_of (terms.app s ts) = row_indicators_of ts

  row_indicators_of : (ts : Terms) → indicators_in (cells_of_all ts) ≡ indicators_all ts
  row_indicators_of terms.none = refl
  row_indicators_of (terms.more t ts) =
      let first = indicators_of t in
      let rest = row_indicators_of ts in
      indicators_in_append (cells_of t) (cells_of_all ts) ∙ (λ i. first i ++ rest i) ∙ sym (indicators-more t ts)

pub rights_of : (bs : List CellPair) → AreWhole bs → rights_in bs ≡ right_indicators (bindings_of bs)
rights_of [] whole = refl
rights_of (b ∷ bs) whole =
    let t = whole.0.0 in
    let here = ap indicators_in whole.0.1.cells_are ∙ indicators_of t ∙ ap indicators (sym (term_read b.1 t whole.0.1)) in
    let rest = rights_of bs whole.1 in
    λ i. here i ++ rest i

-- ---- bindings
-- Some have been copied with other numbers, and these are left.
pub record AreRenumbering (numbers : List ℕ) (bindings all left : List CellPair) : Type 0 where
  pub whole : AreWhole left
  pub lefts : AreBelow (length numbers) (left_sides left)
  pub rights : AreBelow (length numbers) (rights_in left)
  pub distinct : AreDistinct (left_sides all ++ left_sides (renumbered_pairs (noted_number numbers) left))
  pub copied : renumbered_pairs (noted_number numbers) bindings ≡ all ++ renumbered_pairs (noted_number numbers) left

pub record Turn (numbers : List ℕ) (bindings all : List CellPair) (pair : CellPair) (rest : List CellPair) : Type 0 where
  pub left : pair.0 < length numbers
  pub right : AreBelow (length numbers) (indicators_in pair.1)
  pub new : IsAmong (left_sides all) (noted_number numbers pair.0) → ⊥
  pub is_whole : IsWhole (renumbered_cells (noted_number numbers) pair.1)
  pub then : AreRenumbering numbers bindings (all ++ (noted_number numbers pair.0, renumbered_cells (noted_number numbers) pair.1) ∷ []) rest

pub copying_turns : (numbers : List ℕ) (bindings all : List CellPair) (pair : CellPair) (rest : List CellPair) → AreRenumbering numbers bindings all (pair ∷ rest) → Turn numbers bindings all pair rest
copying_turns numbers bindings all pair rest h =
    let to = noted_number numbers in
    let one : CellPair = (to pair.0, renumbered_cells to pair.1) in
    let parts = distinct_parts (left_sides all) (left_sides (renumbered_pairs to (pair ∷ rest))) h.distinct in
    record {
      left = h.lefts.0;
      right = all_front (λ n. n < length numbers) (indicators_in pair.1) (rights_in rest) h.rights;
      new = λ a. parts.2 (to pair.0) a (inl refl);
      is_whole = whole_renamed to pair.1 h.whole.0;
      then = record {
        whole = h.whole.1;
        lefts = h.lefts.1;
        rights = all_back (λ n. n < length numbers) (indicators_in pair.1) (rights_in rest) h.rights;
        distinct =
            subst AreDistinct
            (sym (append_assoc (left_sides all) (to pair.0 ∷ []) (left_sides (renumbered_pairs to rest))) ∙ ap (λ l. l ++ left_sides (renumbered_pairs to rest)) (sym (map-append (λ b. b.0) all (one ∷ []))))
            h.distinct;
        copied = h.copied ∙ sym (append_assoc all (one ∷ []) (renumbered_pairs to rest));
      };
    }

pub copying_begins : (numbers : List ℕ) (bindings all left : List CellPair) → all ≡ [] → left ≡ bindings → AreWhole bindings → AreBelow (length numbers) (left_sides bindings) → AreBelow (length numbers) (rights_in bindings) → AreDistinct (left_sides (renumbered_pairs (noted_number numbers) bindings)) → AreRenumbering numbers bindings all left
copying_begins numbers bindings all left none same whole lefts rights distinct =
    subst (λ l. AreRenumbering numbers bindings l left) (sym none) (subst (AreRenumbering numbers bindings []) (sym same) (record {
      whole = whole;
      lefts = lefts;
      rights = rights;
      distinct = distinct;
      copied = refl;
    }))

pub copying_ends : (numbers : List ℕ) (bindings all left : List CellPair) → left ≡ [] → AreRenumbering numbers bindings all left → all ≡ renumbered_pairs (noted_number numbers) bindings
copying_ends numbers bindings all left none h =
    sym (append-nil all) ∙ ap (λ l. all ++ renumbered_pairs (noted_number numbers) l) (sym none) ∙ sym h.copied
