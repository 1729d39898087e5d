-- Lists that have each thing once.
use Rattle.std.proofs.Common.{◌≡◌, ◌⊎◌, inl, inr, ◌≤◌, List, [], ◌∷◌, ◌++◌, length, refl, ap, sym, subst, arith}
use Rattle.std.proofs.lemmas.List.{length-append}
use Rattle.si_defs.specs.Substitutions.{IsAmong, AreDistinct}
use Rattle.si_defs.proofs.ListLaws.{among_front, among_back, among_parts}

module _ {X : Type 0} where
  pub distinct_both : (xs ys : List X) → AreDistinct xs → AreDistinct ys → ((x : X) → IsAmong xs x → IsAmong ys x → ⊥) → AreDistinct (xs ++ ys)
  distinct_both [] ys d e apart = e
  distinct_both (x ∷ xs) ys d e apart = (
    λ a. elim (among_parts xs ys x a) as (λ _. ⊥) [ inl b ↦ d.0 b | inr b ↦ apart x (inl refl) b ],
    distinct_both xs ys d.1 e (λ z a b. apart z (inr a) b),
  )

  -- ---- no more than the members of another list
  parted : (ys : List X) (x : X) → IsAmong ys x → (before : List X) × (after : List X) × (ys ≡ before ++ x ∷ after)
  parted [] x h = absurd h
  parted (y ∷ ys) x (inl e) = ([], ys, ap (λ z. z ∷ ys) e)
  parted (y ∷ ys) x (inr h) = let rest = parted ys x h in (y ∷ rest.0, rest.1, ap (λ l. y ∷ l) rest.2)

  pub no_more : (xs ys : List X) → AreDistinct xs → ((x : X) → IsAmong xs x → IsAmong ys x) → length xs ≤ length ys
  no_more [] ys distinct within = omega arith
  no_more (x ∷ xs) ys distinct within =
      let part = parted ys x (within x (inl refl)) in
      let rest = no_more xs (part.0 ++ part.1) distinct.1 (λ z h. other part.0 part.1 z h (among_parts part.0 (x ∷ part.1) z (subst (λ l. IsAmong l z) part.2 (within z (inr h))))) in
      omega (arith, rest, ap length part.2, length-append part.0 (x ∷ part.1), length-append part.0 part.1)
    where
      other : (before after : List X) (z : X) → IsAmong xs z → IsAmong before z ⊎ IsAmong (x ∷ after) z → IsAmong (before ++ after) z
      other before after z h (inl k) = among_front before after z k
      other before after z h (inr (inl e)) = absurd (distinct.0 (subst (IsAmong xs) (sym e) h))
      other before after z h (inr (inr k)) = among_back before after z k
