-- The positions of some rows, gathered row by row.
use Rattle.std.proofs.Common.{◌≡◌, ℕ, suc, ◌+◌, ◌<◌, List, [], ◌∷◌, ◌++◌, length, drop, get_or, refl, sym, ap, ◌∙◌, subst, ◌⊎◌, inl, inr, append_assoc, append-nil, arith}
use Rattle.std.proofs.Math.Seq.{drop-cons}
use Rattle.si_lanes.specs.Rows.{ArePositions, AppendsPositions}

-- Up to this row the positions were appended to a list. Whatever positions the rows from here on
-- have, they come next.
pub record IsFiltered (P : List ℕ → Type 0) (rows : List (List ℕ)) (at : ℕ) (old now : List ℕ) : Type 0 where
  pub found : List ℕ
  pub appended : now ≡ old ++ found
  pub goes_on : (others : List ℕ) → ArePositions P at (drop at rows) others → ArePositions P 0 rows (found ++ others)

pub filtered_none : (P : List ℕ → Type 0) (rows : List (List ℕ)) (old : List ℕ) → IsFiltered P rows 0 old old
filtered_none P rows old = record { found = []; appended = sym (append-nil old); goes_on = λ others h. h }

-- the row here was tested: it has the property, and its position comes next, or it doesn't
pub filtered_more : (P : List ℕ → Type 0) (rows : List (List ℕ)) (at : ℕ) (old now next : List ℕ) → at < length rows → IsFiltered P rows at old now
    → (P (get_or rows at []) × (next ≡ now ++ at ∷ [])) ⊎ ((P (get_or rows at []) → ⊥) × (next ≡ now)) → IsFiltered P rows (at + 1) old next
filtered_more P rows at old now next within s (inl h) = record {
  found = s.found ++ at ∷ [];
  appended = h.1 ∙ ap (λ l. l ++ at ∷ []) s.appended ∙ append_assoc old s.found (at ∷ []);
  goes_on = λ others left.
      subst (λ l. ArePositions P 0 rows l) (sym (append_assoc s.found (at ∷ []) others))
      (s.goes_on (at ∷ others) (subst (λ rs. ArePositions P at rs (at ∷ others)) (sym (drop-cons rows at [] within))
      (inl (h.0, (others, subst (λ n. ArePositions P n (drop n rows) others) (let e : at + 1 ≡ suc at = omega arith in e) left, refl)))));
}
filtered_more P rows at old now next within s (inr h) = record {
  found = s.found;
  appended = h.1 ∙ s.appended;
  goes_on = λ others left.
      s.goes_on others (subst (λ rs. ArePositions P at rs others) (sym (drop-cons rows at [] within))
      (inr (h.0, subst (λ n. ArePositions P n (drop n rows) others) (let e : at + 1 ≡ suc at = omega arith in e) left)));
}

pub filtered_all : (P : List ℕ → Type 0) (rows : List (List ℕ)) (at : ℕ) (old now : List ℕ) → drop at rows ≡ [] → IsFiltered P rows at old now → AppendsPositions P rows old now
filtered_all P rows at old now end s =
    (s.found, subst (λ l. ArePositions P 0 rows l) (append-nil s.found) (s.goes_on [] (subst (λ rs. ArePositions P at rs []) (sym end) refl)), s.appended)
