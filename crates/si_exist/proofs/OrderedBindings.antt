-- Bindings have an order where each bound variable of a right side has a lower rank than the left
-- side: at each place the first that none of those left uses.
use Rattle.std.proofs.Common.{◌≡◌, ◌⊎◌, ℕ, zero, suc, ◌+◌, ◌<◌, ◌≤◌, Bool, true, false, not, List, [], ◌∷◌, length, inl, inr, refl, sym, ◌∙◌, ap, subst, arith}
use Rattle.std.specs.Prelude.{filter}
use Rattle.std.specs.List.{AllByRecursion}
use Rattle.si_defs.specs.Terms.{Term, variables}
use Rattle.si_defs.specs.Substitutions.{lefts, rights, IsAmong}
use Rattle.si_defs.specs.Solutions.{order, IsTriangular, IsOrdered}
use Rattle.si_defs.proofs.ListLaws.{all_at, all_weaker}
use Rattle.si_flat.proofs.FirstPlaces.{among_filter, filter_among}
use Rattle.si_form.proofs.Carrying.{tabulate}
use Rattle.si_form.proofs.UnifierLaws.{among_tells}
use Rattle.si_exist.proofs.Firsts.{OrNot, HasFirst, first_or_none}
use Rattle.si_exist.proofs.MatchLists.{lefts_are}
use Rattle.si_exist.proofs.MostGeneral.{filter_shorter}

module _ {S V : Type 0} (same : V → V → Bool) (tells : (x y : V) → same x y ≡ true → x ≡ y) (itself : (x : V) → same x x ≡ true) (right : V → Term S V) where
  -- each of these variables, bound to its right side
  abbrev pub bound : List V → List (V × Term S V)
  bound xs = tabulate same tells itself right xs

  pub all_bound : (P : V × Term S V → Type 0) (xs : List V) → ((y : V) → IsAmong xs y → P (y, right y)) → AllByRecursion P (bound xs)
  all_bound P [] give = tt
  all_bound P (x ∷ xs) give = (give x (inl refl), all_bound P xs (λ y a. give y (inr a)))

  pub among_bound : (xs : List V) (y : V) → IsAmong xs y → IsAmong (bound xs) (y, right y)
  among_bound [] y a = absurd a
  among_bound (x ∷ xs) y (inl e) = inl (ap (λ z. (z, right z)) e)
  among_bound (x ∷ xs) y (inr a) = inr (among_bound xs y a)

  all_rights : (P : Term S V → Type 0) (xs : List V) → ((y : V) → IsAmong xs y → P (right y)) → AllByRecursion P (rights (bound xs))
  all_rights P [] give = tt
  all_rights P (x ∷ xs) give = (give x (inl refl), all_rights P xs (λ y a. give y (inr a)))

  at_rights : (P : Term S V → Type 0) (xs : List V) (y : V) → AllByRecursion P (rights (bound xs)) → IsAmong xs y → P (right y)
  at_rights P [] y h a = absurd a
  at_rights P (x ∷ xs) y h (inl e) = subst (λ z. P (right z)) e h.0
  at_rights P (x ∷ xs) y h (inr a) = at_rights P xs y h.1 a

  pub left_among_bound : (xs : List V) (x : V) → IsAmong xs x → IsAmong (lefts (bound xs)) x
  left_among_bound xs x a = subst (λ l. IsAmong l x) (sym (lefts_are same tells itself right xs)) a

  of_left : (xs : List V) (x : V) → IsAmong (lefts (bound xs)) x → IsAmong xs x
  of_left xs x a = subst (λ l. IsAmong l x) (lefts_are same tells itself right xs) a

  -- ---- the next one
  abbrev IsNext : List V → V → Type 0
  IsNext xs x = IsAmong (lefts (bound xs)) x × AllByRecursion (λ t. IsAmong (variables t) x → ⊥) (rights (bound xs))

  -- the same members, the same next one
  same_next : (xs ys : List V) → ((z : V) → IsAmong xs z → IsAmong ys z) → ((z : V) → IsAmong ys z → IsAmong xs z) → (x : V) → IsNext xs x → IsNext ys x
  same_next xs ys to from x h = (
    left_among_bound ys x (to x (of_left xs x h.0)),
    all_rights (λ t. IsAmong (variables t) x → ⊥) ys (λ y a. at_rights (λ t. IsAmong (variables t) x → ⊥) xs y h.1 (from y a)),
  )

  -- one of these whose right side has the variable
  record IsUsed (xs : List V) (x : V) : Type 0 where
    by : V
    among : IsAmong xs by
    inside : IsAmong (variables (right by)) x

  used_or_not : (xs : List V) (x : V) → IsUsed xs x ⊎ AllByRecursion (λ t. IsAmong (variables t) x → ⊥) (rights (bound xs))
  used_or_not [] x = inr tt
  used_or_not (y ∷ ys) x =
      elim (among_tells same tells itself (variables (right y)) x) [
        | inl a ↦ inl (record { by = y; among = inl refl; inside = a })
        | inr n ↦
            elim (used_or_not ys x) [
              | inl u ↦ inl (record { by = u.by; among = inr u.among; inside = u.inside })
              | inr rest ↦ inr (n, rest)
            ]
      ]

  next_or_not : (xs : List V) (x : V) → OrNot (IsNext xs x)
  next_or_not xs x =
      elim (among_tells same tells itself (lefts (bound xs)) x) [
        | inr n ↦ inr (λ h. n h.0)
        | inl a ↦
            elim (used_or_not xs x) [
              | inl u ↦ inr (λ h. at_rights (λ t. IsAmong (variables t) x → ⊥) xs u.by h.1 u.among u.inside)
              | inr free ↦ inl (a, free)
            ]
      ]

  module _ (rank : V → ℕ) where
    abbrev pub AreRanked : List V → Type 0
    AreRanked xs = (x y : V) → IsAmong xs x → IsAmong xs y → IsAmong (variables (right x)) y → rank y < rank x

    abbrev sum_of_ranks : List V → ℕ
    sum_of_ranks [] = 0
    sum_of_ranks (x ∷ xs) = rank x + sum_of_ranks xs

    within_sum : (xs : List V) (x : V) → IsAmong xs x → rank x ≤ sum_of_ranks xs
    within_sum [] x a = absurd a
    within_sum (y ∷ ys) x (inl e) = let here : rank y ≡ rank x = ap rank e in omega (arith, here)
    within_sum (y ∷ ys) x (inr a) = let r = within_sum ys x a in omega (arith, r)

    -- where each is used, ranks rise without end
    not_all_used : (xs : List V) → AreRanked xs → ((x : V) → IsAmong xs x → IsNext xs x → ⊥) → (n : ℕ) (x : V) → IsAmong xs x → sum_of_ranks xs < rank x + n → ⊥
    not_all_used xs ranked none_is zero x a more = let r = within_sum xs x a in absurd (omega (arith, r, more))
    not_all_used xs ranked none_is (suc n) x a more =
        elim (used_or_not xs x) [
          | inr free ↦ none_is x a (left_among_bound xs x a, free)
          | inl u ↦
              (let higher = ranked u.by x u.among a u.inside in
              not_all_used xs ranked none_is n u.by u.among (omega (arith, higher, more)))
        ]

    module _ (q e : Term S V) where
      pub record IsArranged (xs ys : List V) : Type 0 where
        pub to : (z : V) → IsAmong xs z → IsAmong ys z
        pub from : (z : V) → IsAmong ys z → IsAmong xs z
        pub triangular : IsTriangular same (bound ys)
        pub ordered : IsOrdered same q e (bound ys)

      abbrev others : V → List V → List V
      others x xs = filter (λ y. not (same x y)) xs

      -- the first that is next, and then the others
      first_then : (xs : List V) (r : HasFirst (IsNext xs) (order same q e)) → (ys : List V) × IsArranged (others r.first xs) ys → (ys : List V) × IsArranged xs ys
      first_then xs r (ys, h) = (
        r.first ∷ ys,
        record {
          to = to;
          from = from;
          triangular = (
            (λ l.
                let bad : false ≡ true =
                sym (ap not (itself r.first)) ∙ (among_filter (λ y. not (same r.first y)) xs r.first (h.from r.first (of_left ys r.first l))).1 in
                cc),
            here.1,
            h.triangular,
          );
          ordered = (
            (here, (r.before, r.after, r.parts, all_weaker (λ y. IsNext xs y → ⊥) (λ y. IsNext (r.first ∷ ys) y → ⊥) r.before (λ y k j. k (same_next (r.first ∷ ys) xs from to y j)) r.none_before)),
            h.ordered,
          );
        },
      )
        where
          by : (z : V) → IsAmong xs z → (b : Bool) → same r.first z ≡ b → IsAmong (r.first ∷ ys) z
          by z a true k = inl (tells r.first z k)
          by z a false k = inr (h.to z (filter_among (λ y. not (same r.first y)) xs z a (ap not k)))

          to : (z : V) → IsAmong xs z → IsAmong (r.first ∷ ys) z
          to z a = by z a (same r.first z) refl

          from : (z : V) → IsAmong (r.first ∷ ys) z → IsAmong xs z
          from z (inl k) = subst (IsAmong xs) k (of_left xs r.first r.has.0)
          from z (inr a) = (among_filter (λ y. not (same r.first y)) xs z (h.from z a)).0

          here : IsNext (r.first ∷ ys) r.first
          here = same_next xs (r.first ∷ ys) to from r.first r.has

      arranged_below : (n : ℕ) (xs : List V) → length xs < n → ((x : V) → IsAmong xs x → IsAmong (order same q e) x) → AreRanked xs → (ys : List V) × IsArranged xs ys
      arranged_below zero xs few inside ranked = absurd (omega (arith, few))
      arranged_below (suc n) [] few inside ranked = ([], record { to = λ z a. a; from = λ z a. a; triangular = tt; ordered = tt })
      arranged_below (suc n) (x ∷ xs) few inside ranked =
          elim (first_or_none (IsNext (x ∷ xs)) (next_or_not (x ∷ xs)) (order same q e)) [
            | inr k ↦
                absurd
                (
                not_all_used (x ∷ xs) ranked
                (λ y a. all_at (λ z. IsNext (x ∷ xs) z → ⊥) (order same q e) y k (inside y a))
                (suc (sum_of_ranks (x ∷ xs))) x (inl refl) (omega arith)
                )
            | inl r ↦
                (let fewer = filter_shorter (λ y. not (same r.first y)) (x ∷ xs) r.first (of_left (x ∷ xs) r.first r.has.0) (ap not (itself r.first)) in
                let old : (y : V) → IsAmong (others r.first (x ∷ xs)) y → IsAmong (x ∷ xs) y =
                λ y a. (among_filter (λ z. not (same r.first z)) (x ∷ xs) y a).0 in
                first_then (x ∷ xs) r
                (arranged_below n (others r.first (x ∷ xs)) (omega (arith, fewer, few)) (λ y a. inside y (old y a)) (λ y z a b. ranked y z (old y a) (old z b))))
          ]

      pub arranged : (xs : List V) → ((x : V) → IsAmong xs x → IsAmong (order same q e) x) → AreRanked xs → (ys : List V) × IsArranged xs ys
      arranged xs inside ranked = arranged_below (suc (length xs)) xs (omega arith) inside ranked
