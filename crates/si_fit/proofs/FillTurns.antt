-- Indicators that stand once among cells, and stay fresh while others are bound.
use Rattle.std.proofs.Common.{◌≡◌, inl, inr, ℕ, ◌+◌, ◌<◌, true, List, [], ◌∷◌, ◌++◌, length, take, drop, get_or, sym, ◌∙◌, ap, subst, drop-drop}
use Rattle.std.proofs.lemmas.List.{take-append-drop}
use Rattle.std.specs.List.{AllByRecursion}
use Rattle.si_defs.specs.Substitutions.{IsAmong}
use Rattle.si_defs.proofs.ListLaws.{all_at, all_from, all_drop, all_get, among_front, among_back}
use Rattle.si_flat.specs.declared.Cell.{Cell}
use Rattle.si_flat.specs.declared.Cell.TheVariants as cell
use Rattle.si_flat.specs.Cells.{ind, Term}
use Rattle.si_flat.specs.Rows.{CellPair, row_of}
use Rattle.si_trail.specs.Trails.{HasDistinctSlots}
use Rattle.si_unify.specs.declared.slots.Slots.{Slots}
use Rattle.si_unify.specs.Solving.{Pairs, IsSolution, HasSolved, AllowsSolving}
use Rattle.si_fit.specs.Ends.{EndsAt}
use Rattle.si_fit.specs.Fitting.{HasSolution}
use Rattle.si_fit.specs.Fresh.{StandOnce, IsUntold, AreFresh, IsNew}
use Rattle.si_fit.specs.Meeting.{HasMet}
use Rattle.si_fit.specs.declared.meeting.Met.TheVariants.{Equal}
use Rattle.si_fit.proofs.EndLaws.{no_cell}
use Rattle.si_fit.proofs.FreshLaws.{unmentioned, end_lacks, still_equal, still_unmentioned}

-- ---- once
pub once_front : (xs ys : List Cell) → StandOnce (xs ++ ys) → StandOnce xs
once_front [] ys h = tt
once_front (x ∷ xs) ys h = (λ n e a. h.0 n e (among_front xs ys x a), once_front xs ys h.1)

pub once_back : (xs ys : List Cell) → StandOnce (xs ++ ys) → StandOnce ys
once_back [] ys h = h
once_back (x ∷ xs) ys h = once_back xs ys h.1

pub once_apart : (xs ys : List Cell) (n : ℕ) → StandOnce (xs ++ ys) → IsAmong xs (cell.Ind n) → IsAmong ys (cell.Ind n) → ⊥
once_apart (x ∷ xs) ys n h (inl e) b = h.0 n e (subst (IsAmong (xs ++ ys)) (sym e) (among_back xs ys (cell.Ind n) b))
once_apart (x ∷ xs) ys n h (inr a) b = once_apart xs ys n h.1 a b
once_apart [] ys n h a b = absurd a

-- ---- parts of a list
among_whole : (k : ℕ) (xs : List Cell) (c : Cell) → IsAmong (drop k xs) c → IsAmong xs c
among_whole k xs c a = subst (λ l. IsAmong l c) (take-append-drop k xs) (among_back (take k xs) (drop k xs) c a)

among_cut : (k at : ℕ) (xs piece : List Cell) (c : Cell) → piece ≡ take k (drop at xs) → IsAmong piece c → IsAmong xs c
among_cut k at xs piece c e a =
    among_whole at xs c (subst (λ l. IsAmong l c) (take-append-drop k (drop at xs)) (among_front (take k (drop at xs)) (drop k (drop at xs)) c (subst (λ l. IsAmong l c) e a)))

-- ---- a walk over a term and a right side
module _ (slots : Slots) (pairs : Pairs) (left right : List Cell) (i j : ℕ) (one other : List Cell) (fresh : AllByRecursion (IsNew slots pairs left) (drop j right)) where
  -- one cell further
  pub still_new : AllByRecursion (IsNew slots pairs left) (drop (j + 1) right)
  still_new = subst (AllByRecursion (IsNew slots pairs left)) (drop-drop 1 j right) (all_drop (IsNew slots pairs left) 1 (drop j right) fresh)

  module _ (one_cut : one ≡ take (length one) (drop i left)) (other_cut : other ≡ take (length other) (drop j right)) where
    whole : other ++ drop (j + length other) right ≡ drop j right
    whole =
        ap (λ l. l ++ drop (j + length other) right) other_cut
        ∙ ap (λ l. take (length other) (drop j right) ++ l) (sym (drop-drop (length other) j right))
        ∙ take-append-drop (length other) (drop j right)

    pub first_new : 0 < length other → IsNew slots pairs one (get_or other 0 no_cell)
    first_new some n e =
        let h = all_get (λ c. IsAmong (drop j right) c) other 0 no_cell (all_from (λ c. IsAmong (drop j right) c) other (λ c a. subst (λ l. IsAmong l c) whole (among_front other (drop (j + length other) right) c a))) some in
        let new = all_at (IsNew slots pairs left) (drop j right) (get_or other 0 no_cell) fresh h n e in
        (new.0, λ a. new.1 (among_cut (length one) i left one (cell.Ind n) one_cut a))

    -- after two terms that were made equal
    pub new_on : (new : Pairs) (count : ℕ) → StandOnce right → HasMet slots pairs new one other Equal → AllowsSolving slots new count → HasDistinctSlots new → AllByRecursion (IsNew slots new left) (drop (j + length other) right)
    new_on new count once met ready distinct =
        all_from (IsNew slots new left) (drop (j + length other) right)
        (λ c a n e.
        let h = all_at (IsNew slots pairs left) (drop j right) c fresh (subst (λ l. IsAmong l c) whole (among_back other (drop (j + length other) right) c a)) n e in
        let rest : StandOnce (other ++ drop (j + length other) right) = subst StandOnce (sym whole) (once_back (take j right) (drop j right) (subst StandOnce (sym (take-append-drop j right)) once)) in (
          still_unmentioned slots pairs new one other n count met ready distinct h.0
              (λ b. h.1 (among_cut (length one) i left one (cell.Ind n) one_cut b))
              (λ b. once_apart other (drop (j + length other) right) n rest b (subst (IsAmong (drop (j + length other) right)) e a)),
          h.1,
        ))

-- ---- a left side and its right side
pub end_new : (slots : Slots) (pairs : Pairs) (left end right : List Cell) (count : ℕ) → HasSolution slots pairs → AllowsSolving slots pairs count → StandOnce (left ++ right) → AllByRecursion (IsUntold slots pairs) right → EndsAt slots pairs left end → AllByRecursion (IsNew slots pairs end) right
end_new slots pairs left end right count some ready once untold ends =
    all_from (IsNew slots pairs end) right
    (λ c a n e.
    let free : (t : Term) → IsSolution slots pairs ((ind n, t) ∷ some.0) = λ t. all_at (IsUntold slots pairs) right c untold a n some.0 t e some.1 in (
      unmentioned slots n some.0 pairs some.1 free ready.bindings ready.triangular,
      end_lacks slots n some.0 pairs some.1 free left end ends (λ b. once_apart left right n once b (subst (IsAmong right) e a)),
    ))

-- ---- the rows that are left
among_row : (rows : List CellPair) (row : CellPair) (c : Cell) → IsAmong rows row → IsAmong row.1 c → IsAmong (row_of rows) c
among_row (r ∷ rows) row c (inl e) a = inr (among_front r.1 (row_of rows) c (subst (λ q. IsAmong q.1 c) (sym e) a))
among_row (r ∷ rows) row c (inr b) a = inr (among_back r.1 (row_of rows) c (among_row rows row c b a))
among_row [] row c b a = absurd b

module _ (slots : Slots) (pairs : Pairs) (row : CellPair) (rest : List CellPair) (fresh : AreFresh slots pairs (row ∷ rest)) where
  pub row_once : StandOnce (cell.Ind row.0 ∷ row.1)
  row_once = once_front (cell.Ind row.0 ∷ row.1) (row_of rest) fresh.once

  pub still_fresh : (new : Pairs) → HasSolved slots pairs new (cell.Ind row.0 ∷ []) row.1 true → AreFresh slots new rest
  still_fresh new solved = record {
    once = once_back (cell.Ind row.0 ∷ row.1) (row_of rest) fresh.once;
    untold =
        all_from (λ r. AllByRecursion (IsUntold slots new) r.1) rest (λ r b. all_from (IsUntold slots new) r.1 (λ c a n s t e is.
        let apart : IsAmong (cell.Ind row.0 ∷ row.1) (cell.Ind n) → ⊥ = λ m. once_apart (cell.Ind row.0 ∷ row.1) (row_of rest) n fresh.once m (subst (IsAmong (row_of rest)) e (among_row rest r c b a)) in
        let before = (solved.1 s).0 is in
        let untold = all_at (IsUntold slots pairs) r.1 c (all_at (λ q. AllByRecursion (IsUntold slots pairs) q.1) rest r fresh.untold.1 b) a n s t e before.0 in
        (solved.1 ((ind n, t) ∷ s)).1 (
          untold,
          still_equal n t s (cell.Ind row.0 ∷ []) row.1 (λ m. apart (among_front (cell.Ind row.0 ∷ []) row.1 (cell.Ind n) m)) (λ m. apart (inr m)) before.1,
        )));
  }
