-- Slices of cells, and lists of bindings, read from the front.
use Rattle.std.proofs.Common.{◌≡◌, ◌≢◌, ℕ, ◌+◌, ◌-◌, ◌≤◌, inl, inr, List, [], ◌∷◌, ◌++◌, length, length-append, take, drop, append_assoc, suc, zero, refl, sym, ◌∙◌, ap, subst, arith, Some}
use Rattle.std.proofs.lemmas.Bool.Decides.{eqb_tells}
use Rattle.std.proofs.lemmas.List.{take_all, take-append-drop, length-drop}
use Rattle.std.proofs.Math.Seq.{take-append_seam, drop-append_seam}
use Rattle.std.specs.Prelude.{slice_get}
use Rattle.std.specs.List.{AllByRecursion}
use Rattle.std.proofs.lemmas.Option.{same_Some}
use Rattle.si_defs.proofs.ListLaws.{all_got}
use Rattle.si_flat.specs.declared.Cell.{Cell}
use Rattle.si_trail.specs.Trails.{value_at, HasDistinctSlots, IsSlotOf}
use Rattle.si_unify.specs.Solving.{IsPieceOf}
use Rattle.si_unify.proofs.Lists.{apart_from}

-- ---- slices
module _ (cells piece : List Cell) where
  pub piece_length : (p : IsPieceOf cells piece) → length cells ≡ length p.before + length piece + length p.after
  piece_length p = ap (λ l. length l) p.whole ∙ omega (arith, length-append (p.before ++ piece) p.after, length-append p.before piece)

  piece_there : (p : IsPieceOf cells piece) → take (length piece) (drop (length p.before) cells) ≡ piece
  piece_there p =
      ap (λ l. take (length piece) (drop (length p.before) l)) (p.whole ∙ append_assoc p.before piece p.after)
      ∙ ap (take (length piece)) (drop-append_seam p.before (piece ++ p.after))
      ∙ take-append_seam piece p.after

  -- the slice doesn't begin at this place
  pub piece_here : (at : ℕ) → take (length piece) (take (length cells - at) (drop at cells)) ≡ piece → IsPieceOf cells piece
  piece_here at same =
      let here : take (length piece) (drop at cells) ≡ piece =
      ap (take (length piece)) (sym (take_all (length cells - at) (drop at cells) (omega (arith, length-drop at cells)))) ∙ same in
      record {
        before = take at cells;
        after = drop (length piece) (drop at cells);
        whole =
            sym (take-append-drop at cells)
            ∙ ap (λ l. take at cells ++ l) (sym (take-append-drop (length piece) (drop at cells)) ∙ ap (λ l. l ++ drop (length piece) (drop at cells)) here)
            ∙ sym (append_assoc (take at cells) piece (drop (length piece) (drop at cells)));
      }

  pub piece_later :
      (at : ℕ)
      → (take (length piece) (take (length cells - at) (drop at cells)) ≡ piece → ⊥)
      → ((p : IsPieceOf cells piece) → at ≤ length p.before)
      → (p : IsPieceOf cells piece)
      → at + 1 ≤ length p.before
  piece_later at differs before p =
      elim (eqb_tells at (length p.before)) [
        | inl same ↦
            absurd (differs (
            ap (take (length piece)) (take_all (length cells - at) (drop at cells) (omega (arith, length-drop at cells)))
            ∙ ap (λ n. take (length piece) (drop n cells)) same.1
            ∙ piece_there p
            ))
        | inr apart ↦ omega (arith, apart.1, before p)
      ]

-- ---- one item more
module _ {X : Type 0} (P : X → Type 0) where
  all_next : (xs : List X) (i : ℕ) (x : X) → slice_get xs i ≡ Some x → P x → AllByRecursion P (take i xs) → AllByRecursion P (take (suc i) xs)
  all_next [] i x e p h = tt
  all_next (y ∷ xs) zero x e p h = (subst P (sym (same_Some y x e)) p, first xs)
    where
      first : (ys : List X) → AllByRecursion P (take zero ys)
      first [] = tt
      first (z ∷ ys) = tt
  all_next (y ∷ xs) (suc i) x e p h = (h.0, all_next xs i x e p h.1)

  pub all_more : (xs : List X) (i : ℕ) (x : X) → slice_get xs i ≡ Some x → P x → AllByRecursion P (take i xs) → AllByRecursion P (take (i + 1) xs)
  all_more xs i x e p h = (let n : suc i ≡ i + 1 = omega arith in subst (λ m. AllByRecursion P (take m xs)) n (all_next xs i x e p h))

  pub all_begins : (xs : List X) → AllByRecursion P (take 0 xs)
  all_begins [] = tt
  all_begins (x ∷ xs) = tt

  pub all_ends : (xs : List X) (i : ℕ) → length xs ≤ i → AllByRecursion P (take i xs) → AllByRecursion P xs
  all_ends xs i full h = subst (AllByRecursion P) (take_all i xs full) h

-- ---- the pair of a slot
module _ {T : Type 0} where
  pub pair_at : (pairs : List (ℕ × T)) (n slot : ℕ) (v : T) → HasDistinctSlots pairs → IsSlotOf pairs n slot → value_at pairs slot ≡ Some v → slice_get pairs n ≡ Some (slot, v)
  pair_at [] n slot v distinct s bound = cc
  pair_at (p ∷ pairs) zero slot v distinct s bound =
      let pair : p ≡ (slot, s.0) = same_Some p (slot, s.0) s.1 in
      let own : p.0 ≡ slot = ap (λ q. q.0) pair in
      elim (eqb_tells p.0 slot) [
        | inl h ↦ let value : p.1 ≡ v = same_Some p.1 v (rw h.0 at bound) in ap Some (pair ∙ ap (λ w. (slot, w)) (sym (ap (λ q. q.1) pair) ∙ value))
        | inr h ↦ absurd (h.1 own)
      ]
  pair_at (p ∷ pairs) (suc n) slot v distinct s bound =
      elim (eqb_tells p.0 slot) [
        | inl h ↦ absurd (all_got (λ q. q.0 ≢ slot) pairs n (slot, s.0) (apart_from pairs slot (ap (value_at pairs) (sym h.1) ∙ distinct.0)) s.1 refl)
        | inr h ↦ pair_at pairs n slot v distinct.1 s (rw h.0 at bound)
      ]
