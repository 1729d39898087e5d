-- Spans of locations in one list.
use Rattle.std.proofs.Common.{◌≡◌, ◌⊎◌, inl, inr, ◌<◌, ◌≤◌, ◌+◌, ◌++◌, ◌∷◌, [], ℕ, zero, suc, List, drop, length, set, take, refl, sym, ◌∙◌, ap, subst, arith, length-append}
use Rattle.std.proofs.lemmas.Bool.Decides.{eqb_tells}
use Rattle.std.proofs.lemmas.List.{drop-append-le, get_or-set_other, get_or-set_same, get_or_append_left, get_or_past, get_or_push, length-drop, take-append-le}
use Rattle.std.proofs.Math.Seq.{drop-append_seam, take-length}
use Rattle.si_forest.specs.Locations.{Location}
use Rattle.si_forest.specs.declared.notes.Span.{Span}
use Rattle.si_forest.specs.Notes.{notes_in, no_span, keyed_span, IsSpanWithin, AreSpansWithin}

-- ---- one span
-- at the end of a list
pub span_last : (xs ys : List Location) (span : Span) → span.start ≡ length xs → span.len ≡ length ys → notes_in (xs ++ ys) span ≡ ys
span_last xs ys span start len =
    ap (λ n. take n (drop span.start (xs ++ ys))) len
    ∙ ap (λ n. take (length ys) (drop n (xs ++ ys))) start
    ∙ ap (take (length ys)) (drop-append_seam xs ys)
    ∙ take-length ys

-- in a list that has become longer
pub span_more : (xs ys : List Location) (span : Span) → IsSpanWithin (length xs) span → notes_in (xs ++ ys) span ≡ notes_in xs span
span_more xs ys span within =
    let front : span.start ≤ length xs = omega (arith, within) in
    let rest : span.len ≤ length (drop span.start xs) = omega (arith, within, length-drop span.start xs) in
    ap (take span.len) (drop-append-le span.start xs ys front) ∙ take-append-le span.len (drop span.start xs) ys rest

pub within_more : (xs ys : List Location) (spans : List Span) → AreSpansWithin (length xs) spans → AreSpansWithin (length (xs ++ ys)) spans
within_more xs ys spans within key = omega (arith, within key, length-append xs ys)

-- ---- all spans
-- a place more, with no span
pub none_more : (spans : List Span) (key : ℕ) → keyed_span (spans ++ no_span ∷ []) key ≡ keyed_span spans key
none_more [] zero = refl
none_more [] (suc key) = refl
none_more (span ∷ spans) zero = refl
none_more (span ∷ spans) (suc key) = none_more spans key

-- another span at one key
pub within_set : (n : ℕ) (spans : List Span) (key : ℕ) (span : Span) → key < length spans → AreSpansWithin n spans → IsSpanWithin n span → AreSpansWithin n (set spans key span)
within_set n spans key span place within fits k =
    elim (eqb_tells k key) as (λ _. IsSpanWithin n (keyed_span (set spans key span) k)) [
      | inl same ↦ subst (IsSpanWithin n) (sym (ap (keyed_span (set spans key span)) same.1 ∙ get_or-set_same spans key span no_span place)) fits
      | inr differs ↦ subst (IsSpanWithin n) (sym (get_or-set_other spans key k span no_span differs.1)) (within k)
    ]

-- ---- notes that are written one after the other
-- those of so many keys are written
pub record AreWritten (locations : List Location) (spans : List Span) (written : List Location) (made : List Span) : Type 0 where
  pub within : AreSpansWithin (length written) made
  pub same : (key : ℕ) → key < length made → notes_in written (keyed_span made key) ≡ notes_in locations (keyed_span spans key)

module _ (locations : List Location) (spans : List Span) where
  pub written_start : AreWritten locations spans [] []
  written_start = record {
    within = λ key. omega arith;
    same = λ key less. absurd (omega (arith, less));
  }

  module _ (written more : List Location) (made : List Span) (span : Span) (so_far : AreWritten locations spans written made) (more_is : notes_in (written ++ more) span ≡ more) (read : more ≡ notes_in locations (keyed_span spans (length made))) (fits : IsSpanWithin (length (written ++ more)) span) where
    pub written_more : AreWritten locations spans (written ++ more) (made ++ span ∷ [])
    written_more = record {
      within = λ key. elim (below_or key) as (λ _. IsSpanWithin (length (written ++ more)) (keyed_span (made ++ span ∷ []) key)) [
        | inl less ↦ subst (IsSpanWithin (length (written ++ more))) (sym (get_or_append_left made (span ∷ []) no_span key less)) (within_more written more made so_far.within key)
        | inr (inl last) ↦ subst (IsSpanWithin (length (written ++ more))) (sym (get_or_push made span no_span key (sym last))) fits
        | inr (inr past) ↦ subst (IsSpanWithin (length (written ++ more))) (sym (get_or_past (made ++ span ∷ []) key no_span past)) (omega arith)
      ];
      same = λ key less. elim (below_or key) as (λ _. notes_in (written ++ more) (keyed_span (made ++ span ∷ []) key) ≡ notes_in locations (keyed_span spans key)) [
        | inl before ↦ ap (notes_in (written ++ more)) (get_or_append_left made (span ∷ []) no_span key before) ∙ span_more written more (keyed_span made key) (so_far.within key) ∙ so_far.same key before
        | inr (inl last) ↦ ap (notes_in (written ++ more)) (get_or_push made span no_span key (sym last)) ∙ more_is ∙ read ∙ ap (λ k. notes_in locations (keyed_span spans k)) (sym last)
        | inr (inr past) ↦ absurd (omega (arith, less, past))
      ];
    } where
      by_order : (key n : ℕ) → (key < n) ⊎ ((key ≡ n) ⊎ (n + 1 ≤ key))
      by_order zero zero = inr (inl refl)
      by_order zero (suc n) = inl (omega arith)
      by_order (suc key) zero = inr (inr (omega arith))
      by_order (suc key) (suc n) = elim (by_order key n) as (λ _. (suc key < suc n) ⊎ ((suc key ≡ suc n) ⊎ (suc n + 1 ≤ suc key))) [
        | inl less ↦ inl (omega (arith, less))
        | inr (inl same) ↦ inr (inl (ap suc same))
        | inr (inr past) ↦ inr (inr (omega (arith, past)))
      ]

      below_or : (key : ℕ) → (key < length made) ⊎ ((key ≡ length made) ⊎ (length (made ++ span ∷ []) ≤ key))
      below_or key = simp length-append (by_order key (length made))

  -- at the end of all keys
  pub all_written : (written : List Location) (made : List Span) → length made ≡ length spans → AreWritten locations spans written made → (key : ℕ) → notes_in written (keyed_span made key) ≡ notes_in locations (keyed_span spans key)
  all_written written made long w key = elim (either key (length made)) as (λ _. notes_in written (keyed_span made key) ≡ notes_in locations (keyed_span spans key)) [
    | inl less ↦ w.same key less
    | inr past ↦ ap (notes_in written) (get_or_past made key no_span past) ∙ sym (ap (notes_in locations) (get_or_past spans key no_span (omega (arith, past, long))))
  ] where
    either : (key n : ℕ) → (key < n) ⊎ (n ≤ key)
    either key zero = inr (omega arith)
    either zero (suc n) = inl (omega arith)
    either (suc key) (suc n) = elim (either key n) as (λ _. (suc key < suc n) ⊎ (suc n ≤ suc key)) [
      | inl less ↦ inl (omega (arith, less))
      | inr past ↦ inr (omega (arith, past))
    ]
