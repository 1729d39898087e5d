-- A list that matches is the canonical one, and the only one.
use Rattle.std.proofs.Common.{◌≡◌, inl, inr, Bool, true, false, cond, not, List, [], ◌∷◌, refl, sym, ◌∙◌, ap, subst}
use Rattle.std.specs.Prelude.{filter}
use Rattle.std.specs.List.{AllByRecursion}
use Rattle.si_defs.specs.Terms.{Term, Terms, var, app, none, more, variables, variables_of_all, substitute, substitute_all, firsts}
use Rattle.si_defs.specs.Substitutions.{image, apply, lefts, rights, IsAmong, IsOn, AreDistinct}
use Rattle.si_defs.specs.Solutions.{bind, in_sequence, IsCanonicalMatch}
use Rattle.si_defs.proofs.ListLaws.{all_at, all_from, all_front, all_back, all_append, among_parts}
use Rattle.si_defs.proofs.TermLaws.{same_app, same_more}
use Rattle.si_flat.proofs.FirstPlaces.{among_filter, firsts_among}

-- ---- elements of lists
module _ {X : Type 0} where
  distinct_filter : (p : X → Bool) (xs : List X) → AreDistinct xs → AreDistinct (filter p xs)
  distinct_filter p [] h = tt
  distinct_filter p (x ∷ xs) h = by (p x) (distinct_filter p xs h.1)
    where
      by : (b : Bool) → AreDistinct (filter p xs) → AreDistinct (cond b (x ∷ filter p xs) (filter p xs))
      by true rest = (λ a. h.0 (among_filter p xs x a).0, rest)
      by false rest = rest

-- ---- terms
module _ {S V : Type 0} where
  mutual
    -- where f leaves each variable as it is, the term stays
    pub stays : (f : V → Term S V) (t : Term S V) → AllByRecursion (λ x. f x ≡ var x) (variables t) → substitute f t ≡ t
    stays f (var x) h = h.0
    stays f (app s ts) h = ap (app s) (all_stay f ts h)

    all_stay : (f : V → Term S V) (ts : Terms S V) → AllByRecursion (λ x. f x ≡ var x) (variables_of_all ts) → substitute_all f ts ≡ ts
    all_stay f none h = refl
    all_stay f (more t ts) h =
        ap (λ u. more u (substitute_all f ts)) (stays f t (all_front (λ x. f x ≡ var x) (variables t) (variables_of_all ts) h))
        ∙ ap (more t) (all_stay f ts (all_back (λ x. f x ≡ var x) (variables t) (variables_of_all ts) h))

  mutual
    -- two maps, one after the other, are one
    pub twice : (f g h : V → Term S V) (t : Term S V) → ((x : V) → substitute g (f x) ≡ h x) → substitute g (substitute f t) ≡ substitute h t
    twice f g h (var x) give = give x
    twice f g h (app s ts) give = ap (app s) (all_twice f g h ts give)

    all_twice : (f g h : V → Term S V) (ts : Terms S V) → ((x : V) → substitute g (f x) ≡ h x) → substitute_all g (substitute_all f ts) ≡ substitute_all h ts
    all_twice f g h none give = refl
    all_twice f g h (more t ts) give =
        ap (λ u. more u (substitute_all g (substitute_all f ts))) (twice f g h t give) ∙ ap (more (substitute h t)) (all_twice f g h ts give)

  mutual
    -- two maps that make one term of t agree at its variables
    pub agree : (f g : V → Term S V) (t : Term S V) → substitute f t ≡ substitute g t → AllByRecursion (λ x. f x ≡ g x) (variables t)
    agree f g (var x) e = (e, tt)
    agree f g (app s ts) e = all_agree f g ts (same_app s s (substitute_all f ts) (substitute_all g ts) e).1

    all_agree : (f g : V → Term S V) (ts : Terms S V) → substitute_all f ts ≡ substitute_all g ts → AllByRecursion (λ x. f x ≡ g x) (variables_of_all ts)
    all_agree f g none e = tt
    all_agree f g (more t ts) e =
        all_append (λ x. f x ≡ g x) (variables t) (variables_of_all ts)
        (agree f g t (same_more (substitute f t) (substitute g t) (substitute_all f ts) (substitute_all g ts) e).0)
        (all_agree f g ts (same_more (substitute f t) (substitute g t) (substitute_all f ts) (substitute_all g ts) e).1)

  mutual
    -- the variables of a variable's image are variables of the whole image
    pub inside_image : (P : V → Type 0) (f : V → Term S V) (t : Term S V) (x : V) → AllByRecursion P (variables (substitute f t)) → IsAmong (variables t) x → AllByRecursion P (variables (f x))
    inside_image P f (var y) x h a = elim a [ inl e ↦ subst (λ z. AllByRecursion P (variables (f z))) e h | inr n ↦ elim n [ ] ]
    inside_image P f (app s ts) x h a = inside_images P f ts x h a

    inside_images : (P : V → Type 0) (f : V → Term S V) (ts : Terms S V) (x : V) → AllByRecursion P (variables_of_all (substitute_all f ts)) → IsAmong (variables_of_all ts) x → AllByRecursion P (variables (f x))
    inside_images P f none x h a = elim a [ ]
    inside_images P f (more t ts) x h a =
        elim (among_parts (variables t) (variables_of_all ts) x a) [
          | inl b ↦ inside_image P f t x (all_front P (variables (substitute f t)) (variables_of_all (substitute_all f ts)) h) b
          | inr b ↦ inside_images P f ts x (all_back P (variables (substitute f t)) (variables_of_all (substitute_all f ts)) h) b
        ]

-- ---- first occurrences
module _ {V : Type 0} (same : V → V → Bool) (tells : (x y : V) → same x y ≡ true → x ≡ y) (itself : (x : V) → same x x ≡ true) where
  pub distinct_firsts : (xs : List V) → AreDistinct (firsts same xs)
  distinct_firsts [] = tt
  distinct_firsts (x ∷ xs) = (
    λ a. let bad : false ≡ true = sym (ap not (itself x)) ∙ (among_filter (λ z. not (same x z)) (firsts same xs) x a).1 in cc,
    distinct_filter (λ z. not (same x z)) (firsts same xs) (distinct_firsts xs),
  )

  pub differs : (x y : V) → (x ≡ y → ⊥) → same x y ≡ false
  differs x y apart = by (same x y) refl
    where
      by : (b : Bool) → same x y ≡ b → same x y ≡ false
      by true e = absurd (apart (tells x y e))
      by false e = e

-- ---- lists of bindings, where `same` tells variables apart
module _ {S V : Type 0} (same : V → V → Bool) (tells : (x y : V) → same x y ≡ true → x ≡ y) (itself : (x : V) → same x x ≡ true) where
  pub image_first : (x : V) (u : Term S V) (bs : List (V × Term S V)) → image same ((x, u) ∷ bs) x ≡ u
  image_first x u bs = ap (λ b. cond b u (image same bs x)) (itself x)

  pub image_other : (x y : V) (u : Term S V) (bs : List (V × Term S V)) → (x ≡ y → ⊥) → image same ((x, u) ∷ bs) y ≡ image same bs y
  image_other x y u bs apart = ap (λ b. cond b u (image same bs y)) (differs same tells itself x y apart)

  untouched : (bs : List (V × Term S V)) (y : V) → (IsAmong (lefts bs) y → ⊥) → image same bs y ≡ var y
  untouched [] y apart = refl
  untouched (b ∷ bs) y apart = image_other b.0 y b.1 bs (λ e. apart (inl e)) ∙ untouched bs y (λ a. apart (inr a))

  -- where no left side stands in a right side, one after the other is all at once
  module _ (P : V → Type 0) where
    all_at_once : (bs : List (V × Term S V)) (t : Term S V) → AllByRecursion (λ u. AllByRecursion P (variables u)) (rights bs) → ((x : V) → IsAmong (lefts bs) x → P x → ⊥) → in_sequence same bs t ≡ apply same bs t
    all_at_once [] t h apart = sym (stays (image same []) t (all_from (λ x. var x ≡ var x) (variables t) (λ x a. refl)))
    all_at_once (b ∷ bs) t h apart =
        all_at_once bs (bind same b.0 b.1 t) h.1 (λ x a p. apart x (inr a) p)
        ∙ twice (λ y. cond (same b.0 y) b.1 (var y)) (image same bs) (image same (b ∷ bs)) t
        (
        λ x. by x (same b.0 x)
        (
        stays (image same bs) b.1
        (all_from (λ y. image same bs y ≡ var y) (variables b.1) (λ y a. untouched bs y (λ k. apart y (inr k) (all_at P (variables b.1) y h.0 a))))
        )
        )
      where
        by : (x : V) (c : Bool) → substitute (image same bs) b.1 ≡ b.1 → substitute (image same bs) (cond c b.1 (var x)) ≡ cond c b.1 (image same bs x)
        by x true e = e
        by x false e = refl

  -- ---- there is at most one canonical match
  same_lists : (bs cs : List (V × Term S V)) → lefts bs ≡ lefts cs → AreDistinct (lefts bs) → AllByRecursion (λ x. image same bs x ≡ image same cs x) (lefts bs) → bs ≡ cs
  same_lists [] [] e d h = refl
  same_lists [] (c ∷ cs) e d h = cc
  same_lists (b ∷ bs) [] e d h = cc
  same_lists (b ∷ bs) (c ∷ cs) e d h =
      let left : b.0 ≡ c.0 = cc in
      let others : lefts bs ≡ lefts cs = cc in
      let right : b.1 ≡ c.1 =
      sym (image_first b.0 b.1 bs) ∙ h.0 ∙ ap (image same (c ∷ cs)) left ∙ image_first c.0 c.1 cs in
      let rest : bs ≡ cs =
      same_lists bs cs others d.1
      (
      all_from (λ x. image same bs x ≡ image same cs x) (lefts bs)
      (λ x a.
      sym (image_other b.0 x b.1 bs (λ k. d.0 (subst (IsAmong (lefts bs)) (sym k) a)))
      ∙ all_at (λ y. image same (b ∷ bs) y ≡ image same (c ∷ cs) y) (lefts bs) x h.1 a
      ∙ image_other c.0 x c.1 cs (λ k. d.0 (subst (IsAmong (lefts bs)) (sym (left ∙ k)) a)))
      ) in
      ap (λ x. (x, b.1) ∷ bs) left ∙ ap (λ u. (c.0, u) ∷ bs) right ∙ ap (λ l. c ∷ l) rest

  pub one_match : (q e : Term S V) (bs cs : List (V × Term S V)) → IsCanonicalMatch same q e bs → IsCanonicalMatch same q e cs → bs ≡ cs
  one_match q e bs cs h k =
      same_lists bs cs (h.each ∙ sym k.each) (subst AreDistinct (sym h.each) (distinct_firsts same tells itself (variables q)))
      (
      all_from (λ x. image same bs x ≡ image same cs x) (lefts bs)
      (λ x a.
      all_at (λ y. image same bs y ≡ image same cs y) (variables q) x
      (agree (image same bs) (image same cs) q (h.matches.takes ∙ sym k.matches.takes))
      (all_at (IsAmong (variables q)) (lefts bs) x h.matches.on a))
      )

  -- ---- a list that binds each variable, and takes q to e
  pub canonical_match :
      (P : V → Type 0) (q e : Term S V) (bs : List (V × Term S V))
      → lefts bs ≡ firsts same (variables q)
      → apply same bs q ≡ e
      → AllByRecursion P (variables e)
      → ((x : V) → IsAmong (variables q) x → P x → ⊥)
      → IsCanonicalMatch same q e bs
  canonical_match P q e bs each takes target apart = record {
    matches = record { on = on; takes = takes };
    achieves = (on, all_at_once P bs q clear (λ x a p. apart x (all_at (IsAmong (variables q)) (lefts bs) x on a) p) ∙ takes);
    each = each;
  }
    where
      on : IsOn (variables q) bs
      on = subst (AllByRecursion (IsAmong (variables q))) (sym each) (all_from (IsAmong (variables q)) (firsts same (variables q)) (λ x a. firsts_among same (variables q) x a))

      whole : AllByRecursion P (variables (apply same bs q))
      whole = subst (λ t. AllByRecursion P (variables t)) (sym takes) target

      right_of : (cs : List (V × Term S V)) → AreDistinct (lefts cs) → AllByRecursion (λ x. image same cs x ≡ image same bs x) (lefts cs) → AllByRecursion (IsAmong (variables q)) (lefts cs) → AllByRecursion (λ u. AllByRecursion P (variables u)) (rights cs)
      right_of [] d h a = tt
      right_of (c ∷ cs) d h a = (
        subst (λ u. AllByRecursion P (variables u)) (sym h.0 ∙ image_first c.0 c.1 cs) (inside_image P (image same bs) q c.0 whole a.0),
        right_of cs d.1
            (
            all_from (λ x. image same cs x ≡ image same bs x) (lefts cs)
            (λ x b.
            sym (image_other c.0 x c.1 cs (λ k. d.0 (subst (IsAmong (lefts cs)) (sym k) b)))
            ∙ all_at (λ y. image same (c ∷ cs) y ≡ image same bs y) (lefts cs) x h.1 b)
            )
            a.1,
      )

      clear : AllByRecursion (λ u. AllByRecursion P (variables u)) (rights bs)
      clear =
          right_of bs (subst AreDistinct (sym each) (distinct_firsts same tells itself (variables q)))
          (all_from (λ x. image same bs x ≡ image same bs x) (lefts bs) (λ x a. refl)) on
