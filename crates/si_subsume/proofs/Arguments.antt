-- The arguments of a term, cut from its cells one after the other.
use Rattle.std.proofs.Common.{◌≡◌, ℕ, ◌+◌, ◌-◌, ◌<◌, ◌≤◌, List, [], ◌∷◌, ◌++◌, length, get_or, take, drop, refl, ap, sym, ◌∙◌, subst, arith, length-append, length-drop, drop-drop}
use Rattle.std.proofs.Math.Seq.{drop-append_seam}
use Rattle.std.proofs.Math.ListN.{drop_of_length-le}
use Rattle.std.specs.Borrow.{Bor}
use Rattle.si_defs.specs.Terms as terms
use Rattle.si_flat.specs.declared.Cell.{Cell}
use Rattle.si_flat.specs.declared.Cell.TheVariants as cell
use Rattle.si_flat.specs.Cells.{query, entry, ind, Term, Terms, cells_of, cells_of_all, AreSound, StandsFor, IsWhole, join}
use Rattle.si_unify.specs.Spots.{IsAt}
use Rattle.si_unify.proofs.Places.{at_unique, whole_at}
use Rattle.si_unify.proofs.Binding.{cut_stands}
use Rattle.si_defs.specs.Terms.{arguments}
use Rattle.si_subsume.specs.Maps.{arity_of, IsNoVariable, HasHeads, StandForAll}
use Rattle.si_unify.specs.declared.slots.Slots.{Slots}
use Rattle.si_unify.specs.Solving.{CellIsInRange, AreInRange}
use Rattle.si_unify.proofs.Rows.{join-more, join-none}
use Rattle.std.specs.List.{AllByRecursion}
use Rattle.si_defs.proofs.ListLaws.{all_front, all_back}
use Rattle.si_flat.proofs.Subterms.{cells_some, without_cells}
use Rattle.si_subsume.specs.Search.{Slices, IsSymbolCell, AreFlatLiterals}

stand_more : (bs : Slices) (ts : Terms) (b : Bor (List Cell)) (t : Term) → StandForAll bs ts → StandsFor b.now t → StandForAll (bs ++ b ∷ []) (join ts (terms.more t terms.none))
stand_more [] terms.none b t h one = (one, tt)
stand_more [] (terms.more u ts) b t h one = absurd h
stand_more (c ∷ bs) terms.none b t h one = absurd h
stand_more (c ∷ bs) (terms.more u ts) b t h one = (h.0, stand_more bs ts b t h.1 one)

-- So many were cut, and the others are left from the place on.
pub record IsCutting (cells : List Cell) (list : Slices) (at : ℕ) : Type 0 where
  pub term : Term
  pub stands : StandsFor cells term
  pub done : Terms
  pub left : Terms
  pub split : arguments term ≡ join done left
  pub cut : StandForAll list done
  pub from : drop at cells ≡ cells_of_all left
  pub sound : AreSound left

pub cutting_start : (cells : List Cell) (list : Slices) → list ≡ [] → IsWhole cells → IsCutting cells list 1
cutting_start cells list none (terms.var x, stands) = record {
  term = terms.var x;
  stands = stands;
  done = terms.none;
  left = terms.none;
  split = refl;
  cut = subst (λ bs. StandForAll bs terms.none) (sym none) tt;
  from = ap (drop 1) stands.cells_are;
  sound = tt;
}
cutting_start cells list none (terms.app s ts, stands) = record {
  term = terms.app s ts;
  stands = stands;
  done = terms.none;
  left = ts;
  split = refl;
  cut = subst (λ bs. StandForAll bs terms.none) (sym none) tt;
  from = ap (drop 1) stands.cells_are;
  sound = stands.sound.1;
}

some_left : (cells : List Cell) (at : ℕ) → at < length cells → drop at cells ≡ [] → ⊥
some_left cells at less e = omega (arith, less, length-drop at cells, ap length e)

-- the next one
pub record IsNextCut (cells : List Cell) (list : Slices) (at : ℕ) (piece : Bor (List Cell)) : Type 0 where
  pub goes_on : IsCutting cells (list ++ piece ∷ []) (at + length piece.now)
  pub some : 0 < length piece.now
  pub inside : at + length piece.now ≤ length cells

module _ (cells : List Cell) (list : Slices) (at : ℕ) (piece : Bor (List Cell))
    (less : at < length cells)
    (place : piece.now ≡ take (length piece.now) (drop at cells))
    (whole : IsWhole piece.now) where
  one_cut : (term : Term) (stands : StandsFor cells term) (done : Terms) (t : Term) (ts : Terms)
      → arguments term ≡ join done (terms.more t ts)
      → StandForAll list done
      → drop at cells ≡ cells_of t ++ cells_of_all ts
      → AreSound (terms.more t ts)
      → IsNextCut cells list at piece
  one_cut term stands done t ts split cut from sound =
      let at_place : IsAt cells at t = record { after = cells_of_all ts; from = from; sound = sound.0 } in
      let one = cut_stands cells piece.now at t at_place place whole in
      let long : length (cells_of t ++ cells_of_all ts) ≡ length cells - at = ap length (sym from) ∙ length-drop at cells in
      let size : length piece.now ≡ length (cells_of t) = ap length one.cells_are in
      record {
        goes_on = record {
          term = term;
          stands = stands;
          done = join done (terms.more t terms.none);
          left = ts;
          split = split ∙ sym (join-more done ts t);
          cut = stand_more list done piece t cut one;
          from =
              sym (drop-drop (length piece.now) at cells)
              ∙ (λ i. drop (size i) (from i))
              ∙ drop-append_seam (cells_of t) (cells_of_all ts);
          sound = sound.1;
        };
        some = omega (arith, size, cells_some t);
        inside = omega (arith, size, long, length-append (cells_of t) (cells_of_all ts), less);
      }

  pub next_cut : IsCutting cells list at → IsNextCut cells list at piece
  next_cut h = by h.left h.split h.from h.sound
    where
      by : (left : Terms) → arguments h.term ≡ join h.done left → drop at cells ≡ cells_of_all left → AreSound left → IsNextCut cells list at piece
      by terms.none split from sound = absurd (some_left cells at less from)
      by (terms.more t ts) split from sound = one_cut h.term h.stands h.done t ts split h.cut from sound

pub all_cut : (cells : List Cell) (list : Slices) (at : ℕ) → IsCutting cells list at → length cells ≤ at → (t : Term) → StandsFor cells t → StandForAll list (arguments t)
all_cut cells list at h end t stands =
    let same : t ≡ h.term = at_unique cells 0 t h.term (whole_at cells t stands) (whole_at cells h.term h.stands) in
    subst (StandForAll list) (sym (ap arguments same ∙ h.split ∙ ap (join h.done) (without_cells h.left (sym (sym (drop_of_length-le cells end) ∙ h.from))) ∙ join-none h.done)) h.cut

-- ---- arguments in range
module _ (slots : Slots) where
  headed : (cells : List Cell) (t : Term) → IsNoVariable t → StandsFor cells t → IsSymbolCell (get_or cells 0 (cell.App 0 0 0))
  headed cells (terms.var x) a stands = absurd a
  headed cells (terms.app s ts) a stands = subst (λ cs. IsSymbolCell (get_or cs 0 (cell.App 0 0 0))) (sym stands.cells_are) tt

  arguments_in_range : (list : Slices) (ts : Terms) → AllByRecursion IsNoVariable (terms.list ts) → StandForAll list ts → AllByRecursion (CellIsInRange slots) (cells_of_all ts) → AreFlatLiterals slots list
  arguments_in_range [] ts heads h range = tt
  arguments_in_range (b ∷ bs) terms.none heads h range = absurd h
  arguments_in_range (b ∷ bs) (terms.more t ts) heads h range = (
    record {
      whole = (t, h.0);
      headed = headed b.now t heads.0 h.0;
      in_range = subst (AreInRange slots) (sym h.0.cells_are) (all_front (CellIsInRange slots) (cells_of t) (cells_of_all ts) range);
    },
    arguments_in_range bs ts heads.1 h.1 (all_back (CellIsInRange slots) (cells_of t) (cells_of_all ts) range),
  )

  pub arguments_are_terms : (cells : List Cell) (list : Slices) (t : Term) → StandsFor cells t → StandForAll list (arguments t) → HasHeads cells → AreInRange slots cells → AreFlatLiterals slots list
  arguments_are_terms cells list (terms.var x) stands h heads range = arguments_in_range list terms.none tt h tt
  arguments_are_terms cells list (terms.app s ts) stands h heads range = arguments_in_range list ts (heads (terms.app s ts) stands) h (subst (AreInRange slots) stands.cells_are range).1

-- ---- how many
length-list : (list : Slices) (ts : Terms) → StandForAll list ts → length list ≡ terms.count ts
length-list [] terms.none h = refl
length-list [] (terms.more t ts) h = absurd h
length-list (b ∷ bs) terms.none h = absurd h
length-list (b ∷ bs) (terms.more t ts) h = omega (arith, length-list bs ts h.1)

-- there are as many as the first cell tells
pub length_told : (cells : List Cell) (list : Slices) → IsWhole cells → ((t : Term) → StandsFor cells t → StandForAll list (arguments t)) → length list ≡ arity_of (get_or cells 0 (cell.App 0 0 0))
length_told cells list (terms.var (query n), stands) h = length-list list terms.none (h (terms.var (query n)) stands) ∙ ap (λ cs. arity_of (get_or cs 0 (cell.App 0 0 0))) (sym stands.cells_are)
length_told cells list (terms.var (entry n), stands) h = length-list list terms.none (h (terms.var (entry n)) stands) ∙ ap (λ cs. arity_of (get_or cs 0 (cell.App 0 0 0))) (sym stands.cells_are)
length_told cells list (terms.var (ind n), stands) h = length-list list terms.none (h (terms.var (ind n)) stands) ∙ ap (λ cs. arity_of (get_or cs 0 (cell.App 0 0 0))) (sym stands.cells_are)
length_told cells list (terms.app s ts, stands) h = length-list list ts (h (terms.app s ts) stands) ∙ stands.sound.0 ∙ ap (λ cs. arity_of (get_or cs 0 (cell.App 0 0 0))) (sym stands.cells_are)
