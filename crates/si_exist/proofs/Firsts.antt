-- The first of a list that has a property which can be told.
use Rattle.std.proofs.Common.{◌≡◌, ◌⊎◌, List, [], ◌∷◌, ◌++◌, inl, inr, refl, ap}
use Rattle.std.specs.List.{AllByRecursion}

abbrev pub OrNot : Type 0 → Type 0
OrNot P = P ⊎ (P → ⊥)

module _ {X : Type 0} (P : X → Type 0) where
  pub record HasFirst (xs : List X) : Type 0 where
    pub first : X
    pub has : P first
    pub before : List X
    pub after : List X
    pub parts : xs ≡ before ++ first ∷ after
    pub none_before : AllByRecursion (λ y. P y → ⊥) before

  pub first_or_none : ((x : X) → OrNot (P x)) → (xs : List X) → HasFirst xs ⊎ AllByRecursion (λ y. P y → ⊥) xs
  first_or_none tell [] = inr tt
  first_or_none tell (x ∷ xs) =
      elim (tell x) [
        | inl p ↦ inl (record { first = x; has = p; before = []; after = xs; parts = refl; none_before = tt })
        | inr p ↦
            elim (first_or_none tell xs) [
              | inl r ↦
                  inl (record { first = r.first; has = r.has; before = x ∷ r.before; after = r.after; parts = ap (λ l. x ∷ l) r.parts; none_before = (p, r.none_before) })
              | inr r ↦ inr (p, r)
            ]
      ]
