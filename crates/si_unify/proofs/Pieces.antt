-- Slices of what was handed in: of the two terms and of the values of a list of bindings.
use Rattle.std.proofs.Common.{◌≡◌, ℕ, ◌≤◌, inl, inr, true, false, cond, List, [], ◌∷◌, ◌++◌, length, take, drop, refl, sym, ◌∙◌, ap, arith, append-nil, append_assoc, length-append, Option, None, Some}
use Rattle.std.proofs.lemmas.List.{take-append-drop, length-drop, length-take}
use Rattle.std.specs.Prelude.{◌==◌, ◌+◌, ◌<◌}
use Rattle.std.specs.List.{AllByRecursion}
use Rattle.std.specs.Borrow.{Bor}
use Rattle.si_defs.proofs.ListLaws.{all_weaker, all_append}
use Rattle.si_flat.specs.declared.Cell.{Cell}
use Rattle.si_flat.specs.Cells.{Term, StandsFor}
use Rattle.si_trail.specs.Trails.{value_at}
use Rattle.si_unify.specs.declared.spots.Question.{Question}
use Rattle.si_unify.specs.Solving.{Pairs, slot_count, IsPieceOf, IsPieceOfValue, IsHandedIn, AreHandedIn}
use Rattle.si_unify.specs.Spots.{cells_now, text, IsAt}
use Rattle.si_unify.proofs.Places.{value_holds}

-- ---- slices
piece_itself : (cells : List Cell) → IsPieceOf cells cells
piece_itself cells = record { before = []; after = []; whole = sym (append-nil cells) }

no_cells : (cells : List Cell) → IsPieceOf cells []
no_cells cells = record { before = []; after = cells; whole = refl }

piece_of_piece : (cells part piece : List Cell) → IsPieceOf cells part → IsPieceOf part piece → IsPieceOf cells piece
piece_of_piece cells part piece h k = record {
  before = h.before ++ k.before;
  after = k.after ++ h.after;
  whole =
      h.whole
      ∙ ap (λ l. h.before ++ l ++ h.after) k.whole
      ∙ ap (λ l. l ++ h.after)
      (
      sym (append_assoc h.before (k.before ++ piece) k.after)
      ∙ ap (λ l. l ++ k.after) (sym (append_assoc h.before k.before piece))
      )
      ∙ append_assoc (h.before ++ k.before ++ piece) k.after h.after;
}

-- where a piece that was cut out ends
pub piece_ends : (cells piece : List Cell) (at : ℕ) → piece ≡ take (length piece) (drop at cells) → at < length cells → at + length piece ≤ length cells
piece_ends cells piece at e less =
    let few = ap length e ∙ length-take (length piece) (drop at cells) in
    omega (arith, few, length-drop at cells)

-- the cells of a term that stands among others
pub piece_at : (cells piece : List Cell) (at : ℕ) (t : Term) → IsAt cells at t → StandsFor piece t → IsPieceOf cells piece
piece_at cells piece at t stands whole = record {
  before = take at cells;
  after = stands.after;
  whole =
      sym (take-append-drop at cells)
      ∙ ap (λ l. take at cells ++ l) (stands.from ∙ ap (λ l. l ++ stands.after) (sym whole.cells_are))
      ∙ sym (append_assoc (take at cells) piece stands.after);
}

piece_within : (cells piece : List Cell) → IsPieceOf cells piece → length piece ≤ length cells
piece_within cells piece h = omega (arith, ap length h.whole, length-append (h.before ++ piece) h.after, length-append h.before piece)

-- ---- slices of values
each_itself : (pairs : Pairs) → AllByRecursion (λ pair. IsPieceOfValue pairs pair.1.now) pairs
each_itself [] = tt
each_itself (pair ∷ pairs) = (
  inl (piece_itself pair.1.now),
  all_weaker (λ p. IsPieceOfValue pairs p.1.now) (λ p. IsPieceOfValue (pair ∷ pairs) p.1.now) pairs (λ p h. inr h) (each_itself pairs),
)

piece_of_value : (pairs : Pairs) (part piece : List Cell) → IsPieceOfValue pairs part → IsPieceOf part piece → IsPieceOfValue pairs piece
piece_of_value [] part piece h k = elim h [ ]
piece_of_value (pair ∷ pairs) part piece h k =
    elim h [ inl own ↦ inl (piece_of_piece pair.1.now part piece own k) | inr other ↦ inr (piece_of_value pairs part piece other k) ]

-- ---- what was handed in
module _ (old : Pairs) (left right : List Cell) where
  pub handed_still : AreHandedIn old old left right
  handed_still = all_weaker (λ p. IsPieceOfValue old p.1.now) (λ p. IsHandedIn old left right p.1.now) old (λ p h. inr (inr h)) (each_itself old)

  pub handed_piece : (part piece : List Cell) → IsHandedIn old left right part → IsPieceOf part piece → IsHandedIn old left right piece
  handed_piece part piece h k =
      elim h [
        | inl of_left ↦ inl (piece_of_piece left part piece of_left k)
        | inr others ↦ elim others [ inl of_right ↦ inr (inl (piece_of_piece right part piece of_right k)) | inr of_value ↦ inr (inr (piece_of_value old part piece of_value k)) ]
      ]

  pub handed_one_more : (slot : ℕ) (v : Bor (List Cell)) → IsHandedIn old left right v.now → AreHandedIn old (old ++ (slot, v) ∷ []) left right
  handed_one_more slot v h = all_append (λ p. IsHandedIn old left right p.1.now) old ((slot, v) ∷ []) handed_still (h, tt)

  -- a slice of a value that is such a slice
  of_new : (mid : Pairs) (piece : List Cell) → AreHandedIn old mid left right → IsPieceOfValue mid piece → IsHandedIn old left right piece
  of_new [] piece all h = elim h [ ]
  of_new (pair ∷ mid) piece all h = elim h [ inl own ↦ handed_piece pair.1.now piece all.0 own | inr other ↦ of_new mid piece all.1 other ]

  handed_before : (mid : Pairs) (piece : List Cell) → AreHandedIn old mid left right → IsHandedIn mid left right piece → IsHandedIn old left right piece
  handed_before mid piece all h =
      elim h [ inl of_left ↦ inl of_left | inr others ↦ elim others [ inl of_right ↦ inr (inl of_right) | inr of_value ↦ of_new mid piece all of_value ] ]

pub handed_on : (old mid new : Pairs) (left right : List Cell) → AreHandedIn old mid left right → AreHandedIn mid new left right → AreHandedIn old new left right
handed_on old mid new left right a b =
    all_weaker (λ p. IsHandedIn mid left right p.1.now) (λ p. IsHandedIn old left right p.1.now) new (λ p h. handed_before old left right mid p.1.now a h) b

-- the text of each base
pub text_handed_in : (q : Question) (pairs : Pairs) (base : ℕ) → IsHandedIn pairs q.left.now q.right.now (text q pairs base)
text_handed_in q pairs base =
    elim (base == slot_count q.slots) as (λ b. IsHandedIn pairs q.left.now q.right.now (cond b q.left.now (cond (base == slot_count q.slots + 1) q.right.now (cells_now (value_at pairs base))))) [
      | true ↦ inl (piece_itself q.left.now)
      | false ↦
          elim (base == slot_count q.slots + 1) as (λ b. IsHandedIn pairs q.left.now q.right.now (cond b q.right.now (cells_now (value_at pairs base)))) [
            | true ↦ inr (inl (piece_itself q.right.now))
            | false ↦ value_handed_in (value_at pairs base) refl
          ]
    ]
  where
    value_handed_in : (o : Option (Bor (List Cell))) → value_at pairs base ≡ o → IsHandedIn pairs q.left.now q.right.now (cells_now o)
    value_handed_in None e = inl (no_cells q.left.now)
    value_handed_in (Some v) e = inr (inr (value_holds (λ p. IsPieceOfValue pairs p.1.now) pairs base v (each_itself pairs) e))

-- ---- lengths
-- what is handed in by none that is longer is no longer
module _ (n : ℕ) (left right : List Cell) (left_within : length left ≤ n) (right_within : length right ≤ n) (old : Pairs) (old_within : AllByRecursion (λ pair. length pair.1.now ≤ n) old) where
  value_within : (pairs : Pairs) (piece : List Cell) → AllByRecursion (λ pair. length pair.1.now ≤ n) pairs → IsPieceOfValue pairs piece → length piece ≤ n
  value_within [] piece all h = elim h [ ]
  value_within (pair ∷ pairs) piece all h =
      elim h [ inl own ↦ (let few = piece_within pair.1.now piece own in omega (arith, few, all.0)) | inr other ↦ value_within pairs piece all.1 other ]

  handed_within : (piece : List Cell) → IsHandedIn old left right piece → length piece ≤ n
  handed_within piece h =
      elim h [
        | inl of_left ↦ (let few = piece_within left piece of_left in omega (arith, few, left_within))
        | inr others ↦
            elim others [
              | inl of_right ↦ (let few = piece_within right piece of_right in omega (arith, few, right_within))
              | inr of_value ↦ value_within old piece old_within of_value
            ]
      ]

  pub all_within : (new : Pairs) → AreHandedIn old new left right → AllByRecursion (λ pair. length pair.1.now ≤ n) new
  all_within new h = all_weaker (λ p. IsHandedIn old left right p.1.now) (λ p. length p.1.now ≤ n) new (λ p k. handed_within p.1.now k) h
