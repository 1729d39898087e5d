-- Equations that some map solves have a triangular list with the same solutions (Robinson's
-- descent). The map shows that no equation fails, and that no variable stands in its own value.
use Rattle.std.proofs.Common.{◌≡◌, ℕ, zero, suc, ◌+◌, ◌<◌, ◌≤◌, Bool, true, false, cond, not, List, [], ◌∷◌, ◌++◌, length, inl, inr, refl, sym, ◌∙◌, ap, subst, arith}
use Rattle.std.specs.Prelude.{filter}
use Rattle.std.specs.List.{AllByRecursion}
use Rattle.si_defs.specs.Terms.{Term, Terms, var, app, none, more, variables, variables_of_all, substitute, substitute_all, size, sizes, count}
use Rattle.si_defs.specs.Substitutions.{Substitution, image, lefts, rights, IsAmong}
use Rattle.si_defs.specs.Solutions.{bind, IsTriangular, order}
use Rattle.si_defs.specs.Relations.{Unifies}
use Rattle.si_defs.proofs.ListLaws.{all_at, all_from, all_front, all_back, all_weaker, among_front, among_back, among_parts}
use Rattle.si_defs.proofs.TermLaws.{same_app, same_more}
use Rattle.si_flat.proofs.FirstPlaces.{among_filter, filter_among, among_firsts}
use Rattle.si_form.proofs.CanonicalLaws.{twice}
use Rattle.si_form.proofs.FoldedLaws.{images_inside}
use Rattle.si_form.proofs.GeneralLaws.{Solves, HasUnifiers}

abbrev pub Equations : Type 0 → Type 0 → Type 0
Equations S V = List (Term S V × Term S V)

-- ---- sizes
module _ {S V : Type 0} (f : V → Term S V) where
  mutual
    -- a variable's image is part of the whole image
    size_inside : (t : Term S V) (y : V) → IsAmong (variables t) y → size (f y) ≤ size (substitute f t)
    size_inside (var x) y a = elim a [ inl e ↦ (let same : size (f x) ≡ size (f y) = ap (λ z. size (f z)) e in omega (arith, same)) | inr n ↦ elim n [ ] ]
    size_inside (app s ts) y a = let r = sizes_inside ts y a in omega (arith, r)

    pub sizes_inside : (ts : Terms S V) (y : V) → IsAmong (variables_of_all ts) y → size (f y) ≤ sizes (substitute_all f ts)
    sizes_inside none y a = elim a [ ]
    sizes_inside (more t ts) y a =
        elim (among_parts (variables t) (variables_of_all ts) y a) [
          | inl b ↦ (let r = size_inside t y b in omega (arith, r))
          | inr b ↦ (let r = sizes_inside ts y b in omega (arith, r))
        ]

  -- no variable has the image of an application in which it stands
  not_inside : (x : V) (s : S) (ts : Terms S V) → f x ≡ substitute f (app s ts) → IsAmong (variables (app s ts)) x → ⊥
  not_inside x s ts e a = let r = sizes_inside ts x a in absurd (omega (arith, r, ap size e))

-- ---- shorter lists
module _ {V : Type 0} (p : V → Bool) where
  filter_no_longer : (xs : List V) → length (filter p xs) ≤ length xs
  filter_no_longer [] = omega arith
  filter_no_longer (x ∷ xs) = by (p x) (filter_no_longer xs)
    where
      by : (b : Bool) → length (filter p xs) ≤ length xs → length (cond b (x ∷ filter p xs) (filter p xs)) ≤ suc (length xs)
      by true r = omega (arith, r)
      by false r = omega (arith, r)

  pub filter_shorter : (xs : List V) (y : V) → IsAmong xs y → p y ≡ false → length (filter p xs) < length xs
  filter_shorter [] y a f = elim a [ ]
  filter_shorter (x ∷ xs) y a f = by (p x) refl a (filter_no_longer xs) (λ b. filter_shorter xs y b f)
    where
      by : (b : Bool) → p x ≡ b → IsAmong (x ∷ xs) y → length (filter p xs) ≤ length xs → (IsAmong xs y → length (filter p xs) < length xs) → length (cond b (x ∷ filter p xs) (filter p xs)) < suc (length xs)
      by false e b r go = omega (arith, r)
      by true e (inl k) r go = let bad : true ≡ false = sym e ∙ ap p k ∙ f in cc
      by true e (inr k) r go = let less = go k in omega (arith, less)

module _ {S V : Type 0} (same : V → V → Bool) (tells : (x y : V) → same x y ≡ true → x ≡ y) (itself : (x : V) → same x x ≡ true) where
  abbrev pub Equalizes : (V → Term S V) → Equations S V → Type 0
  Equalizes f es = AllByRecursion (λ e. substitute f e.0 ≡ substitute f e.1) es

  -- the variables of the equations are among these
  abbrev pub AreOf : List V → Equations S V → Type 0
  AreOf xs es = AllByRecursion (λ e. AllByRecursion (IsAmong xs) (variables e.0) × AllByRecursion (IsAmong xs) (variables e.1)) es

  abbrev weight : Equations S V → ℕ
  weight [] = 0
  weight (e ∷ es) = size e.0 + weight es

  pub record IsSolution (xs : List V) (es : Equations S V) (bs : List (V × Term S V)) : Type 0 where
    pub triangular : IsTriangular same bs
    pub every : (f : V → Term S V) → Equalizes f es → Solves f bs
    pub only : (f : V → Term S V) → Solves f bs → Equalizes f es
    pub known : AllByRecursion (λ b. IsAmong xs b.0 × AllByRecursion (IsAmong xs) (variables b.1)) bs

  abbrev pub IsSolvable : List V → Equations S V → Type 0
  IsSolvable xs es = (bs : List (V × Term S V)) × IsSolution xs es bs

  -- the same solutions, the same list
  through :
      (xs : List V) (es ds : Equations S V)
      → ((f : V → Term S V) → Equalizes f es → Equalizes f ds)
      → ((f : V → Term S V) → Equalizes f ds → Equalizes f es)
      → IsSolvable xs ds
      → IsSolvable xs es
  through xs es ds there back (bs, h) = (
    bs,
    record {
      triangular = h.triangular;
      every = λ f e. h.every f (there f e);
      only = λ f e. back f (h.only f e);
      known = h.known;
    },
  )

  -- ---- two rows of arguments
  abbrev paired : Terms S V → Terms S V → Equations S V → Equations S V
  paired none us es = es
  paired (more t ts) none es = es
  paired (more t ts) (more u us) es = (t, u) ∷ paired ts us es

  module _ (f : V → Term S V) where
    same_count : (ts us : Terms S V) → substitute_all f ts ≡ substitute_all f us → count ts ≡ count us
    same_count none none e = refl
    same_count none (more u us) e = cc
    same_count (more t ts) none e = cc
    same_count (more t ts) (more u us) e =
        ap (λ n. 1 + n) (same_count ts us (same_more (substitute f t) (substitute f u) (substitute_all f ts) (substitute_all f us) e).1)

    pairs_there : (ts us : Terms S V) (es : Equations S V) → substitute_all f ts ≡ substitute_all f us → Equalizes f es → Equalizes f (paired ts us es)
    pairs_there none us es e h = h
    pairs_there (more t ts) none es e h = h
    pairs_there (more t ts) (more u us) es e h =
        let parts = same_more (substitute f t) (substitute f u) (substitute_all f ts) (substitute_all f us) e in
        (parts.0, pairs_there ts us es parts.1 h)

    pairs_back : (ts us : Terms S V) (es : Equations S V) → count ts ≡ count us → Equalizes f (paired ts us es) → (substitute_all f ts ≡ substitute_all f us) × Equalizes f es
    pairs_back none none es c h = (refl, h)
    pairs_back none (more u us) es c h = absurd (omega (arith, c))
    pairs_back (more t ts) none es c h = absurd (omega (arith, c))
    pairs_back (more t ts) (more u us) es c h =
        let rest = pairs_back ts us es (omega (arith, c)) h.1 in
        (ap (λ v. more v (substitute_all f ts)) h.0 ∙ ap (more (substitute f u)) rest.0, rest.1)

  pairs_weight : (ts us : Terms S V) (es : Equations S V) → weight (paired ts us es) ≤ sizes ts + weight es
  pairs_weight none us es = omega arith
  pairs_weight (more t ts) none es = omega arith
  pairs_weight (more t ts) (more u us) es = let r = pairs_weight ts us es in omega (arith, r)

  pairs_of : (xs : List V) (ts us : Terms S V) (es : Equations S V) → AllByRecursion (IsAmong xs) (variables_of_all ts) → AllByRecursion (IsAmong xs) (variables_of_all us) → AreOf xs es → AreOf xs (paired ts us es)
  pairs_of xs none us es h k r = r
  pairs_of xs (more t ts) none es h k r = r
  pairs_of xs (more t ts) (more u us) es h k r = (
    (all_front (IsAmong xs) (variables t) (variables_of_all ts) h, all_front (IsAmong xs) (variables u) (variables_of_all us) k),
    pairs_of xs ts us es (all_back (IsAmong xs) (variables t) (variables_of_all ts) h) (all_back (IsAmong xs) (variables u) (variables_of_all us) k) r,
  )

  -- ---- a variable is bound
  module _ (x : V) (t : Term S V) where
    abbrev bound : Equations S V → Equations S V
    bound [] = []
    bound (e ∷ es) = (bind same x t e.0, bind same x t e.1) ∷ bound es

    abbrev others : List V → List V
    others xs = filter (λ y. not (same x y)) xs

    not_among_others : (xs : List V) → IsAmong (others xs) x → ⊥
    not_among_others xs a = let bad : false ≡ true = sym (ap not (itself x)) ∙ (among_filter (λ y. not (same x y)) xs x a).1 in cc

    -- where the variable has the value's image, binding it changes no image
    bind_stays : (f : V → Term S V) (u : Term S V) → f x ≡ substitute f t → substitute f (bind same x t u) ≡ substitute f u
    bind_stays f u e = twice (λ y. cond (same x y) t (var y)) f f u (λ y. by y (same x y) refl)
      where
        by : (y : V) (c : Bool) → same x y ≡ c → substitute f (cond c t (var y)) ≡ f y
        by y true k = sym e ∙ ap f (tells x y k)
        by y false k = refl

    bound_there : (f : V → Term S V) (es : Equations S V) → f x ≡ substitute f t → Equalizes f es → Equalizes f (bound es)
    bound_there f [] e h = tt
    bound_there f (d ∷ es) e h = (bind_stays f d.0 e ∙ h.0 ∙ sym (bind_stays f d.1 e), bound_there f es e h.1)

    bound_back : (f : V → Term S V) (es : Equations S V) → f x ≡ substitute f t → Equalizes f (bound es) → Equalizes f es
    bound_back f [] e h = tt
    bound_back f (d ∷ es) e h = (sym (bind_stays f d.0 e) ∙ h.0 ∙ bind_stays f d.1 e, bound_back f es e h.1)

    module _ (apart : IsAmong (variables t) x → ⊥) (xs : List V) (of_value : AllByRecursion (IsAmong xs) (variables t)) where
      other_is : (y : V) → (x ≡ y → ⊥) → IsAmong xs y → IsAmong (others xs) y
      other_is y differs a = by (same x y) refl
        where
          by : (c : Bool) → same x y ≡ c → IsAmong (others xs) y
          by true e = absurd (differs (tells x y e))
          by false e = filter_among (λ z. not (same x z)) xs y a (ap not e)

      value_of_others : AllByRecursion (IsAmong (others xs)) (variables t)
      value_of_others =
          all_from (IsAmong (others xs)) (variables t)
          (λ y a. other_is y (λ e. apart (subst (IsAmong (variables t)) (sym e) a)) (all_at (IsAmong xs) (variables t) y of_value a))

      bind_of_others : (u : Term S V) → AllByRecursion (IsAmong xs) (variables u) → AllByRecursion (IsAmong (others xs)) (variables (bind same x t u))
      bind_of_others u h =
          images_inside (IsAmong (others xs)) (λ y. cond (same x y) t (var y)) u
          (
          all_from (λ y. AllByRecursion (IsAmong (others xs)) (variables (cond (same x y) t (var y)))) (variables u)
          (λ y a. by y (all_at (IsAmong xs) (variables u) y h a) (same x y) refl)
          )
        where
          by : (y : V) → IsAmong xs y → (c : Bool) → same x y ≡ c → AllByRecursion (IsAmong (others xs)) (variables (cond c t (var y)))
          by y a true e = value_of_others
          by y a false e = (filter_among (λ z. not (same x z)) xs y a (ap not e), tt)

      bound_of_others : (es : Equations S V) → AreOf xs es → AreOf (others xs) (bound es)
      bound_of_others [] h = tt
      bound_of_others (e ∷ es) h = ((bind_of_others e.0 h.0.0, bind_of_others e.1 h.0.1), bound_of_others es h.1)

      -- the list of what is left, with the binding before it
      bound_first : (es : Equations S V) → IsAmong xs x → IsSolvable (others xs) (bound es) → IsSolvable xs ((var x, t) ∷ es)
      bound_first es a (bs, h) = (
        (x, t) ∷ bs,
        record {
          triangular = (λ l. not_among_others xs (left_of bs x h.known l), (apart, right_of bs h.known), h.triangular);
          every = λ f e. (e.0, h.every f (bound_there f es e.0 e.1));
          only = λ f e. (e.0, bound_back f es e.0 (h.only f e.1));
          known = ((a, of_value), all_weaker (λ b. IsAmong (others xs) b.0 × AllByRecursion (IsAmong (others xs)) (variables b.1)) (λ b. IsAmong xs b.0 × AllByRecursion (IsAmong xs) (variables b.1)) bs (λ b k. (weaker b.0 k.0, all_weaker (IsAmong (others xs)) (IsAmong xs) (variables b.1) weaker k.1)) h.known);
        },
      )
        where
          weaker : (y : V) → IsAmong (others xs) y → IsAmong xs y
          weaker y b = (among_filter (λ z. not (same x z)) xs y b).0

          left_of : (cs : List (V × Term S V)) (y : V) → AllByRecursion (λ b. IsAmong (others xs) b.0 × AllByRecursion (IsAmong (others xs)) (variables b.1)) cs → IsAmong (lefts cs) y → IsAmong (others xs) y
          left_of [] y k l = elim l [ ]
          left_of (c ∷ cs) y k (inl e) = subst (IsAmong (others xs)) e k.0.0
          left_of (c ∷ cs) y k (inr l) = left_of cs y k.1 l

          right_of : (cs : List (V × Term S V)) → AllByRecursion (λ b. IsAmong (others xs) b.0 × AllByRecursion (IsAmong (others xs)) (variables b.1)) cs → AllByRecursion (λ u. IsAmong (variables u) x → ⊥) (rights cs)
          right_of [] k = tt
          right_of (c ∷ cs) k = (λ b. not_among_others xs (all_at (IsAmong (others xs)) (variables c.1) x k.0.1 b), right_of cs k.1)

      fewer : IsAmong xs x → length (others xs) < length xs
      fewer a = filter_shorter (λ y. not (same x y)) xs x a (ap not (itself x))

  -- ---- the descent, by the number of variables left and by the equations' size
  abbrev SolvedBelow : (V → Term S V) → ℕ → Type 0
  SolvedBelow f n = (xs : List V) (es : Equations S V) → length xs < n → AreOf xs es → Equalizes f es → IsSolvable xs es

  bound_solved :
      (f : V → Term S V) (n : ℕ) (below : SolvedBelow f n) (xs : List V) (x : V) (t : Term S V) (es : Equations S V)
      → length xs < suc n
      → (IsAmong (variables t) x → ⊥)
      → AreOf xs ((var x, t) ∷ es)
      → Equalizes f ((var x, t) ∷ es)
      → IsSolvable xs ((var x, t) ∷ es)
  bound_solved f n below xs x t es few apart known h =
      let less = fewer x t apart xs known.0.1 known.0.0.0 in
      bound_first x t apart xs known.0.1 es known.0.0.0
      (below (others x t xs) (bound x t es) (omega (arith, less, few)) (bound_of_others x t apart xs known.0.1 es known.1) (bound_there x t f es h.0 h.1))

  by_weight :
      (f : V → Term S V) (n : ℕ) (below : SolvedBelow f n) (m : ℕ) (xs : List V) (es : Equations S V)
      → length xs < suc n
      → weight es < m
      → AreOf xs es
      → Equalizes f es
      → IsSolvable xs es
  by_weight f n below zero xs es few light known h = absurd (omega (arith, light))
  by_weight f n below (suc m) xs [] few light known h = ([], record { triangular = tt; every = λ g e. tt; only = λ g e. tt; known = tt })
  by_weight f n below (suc m) xs ((var x, var y) ∷ es) few light known h =
      by (same x y) refl (by_weight f n below m xs es few (omega (arith, light)) known.1 h.1)
    where
      by : (b : Bool) → same x y ≡ b → IsSolvable xs es → IsSolvable xs ((var x, var y) ∷ es)
      by true e rest = through xs ((var x, var y) ∷ es) es (λ g k. k.1) (λ g k. (ap g (tells x y e), k)) rest
      by false e rest =
          bound_solved f n below xs x (var y) es few
          (λ a. elim a [ inl k ↦ (let bad : true ≡ false = sym (itself x) ∙ ap (same x) (sym k) ∙ e in cc) | inr k ↦ elim k [ ] ])
          known h
  by_weight f n below (suc m) xs ((var x, app s ts) ∷ es) few light known h =
      bound_solved f n below xs x (app s ts) es few (not_inside f x s ts h.0) known h
  by_weight f n below (suc m) xs ((app s ts, var y) ∷ es) few light known h =
      through xs ((app s ts, var y) ∷ es) ((var y, app s ts) ∷ es) (λ g k. (sym k.0, k.1)) (λ g k. (sym k.0, k.1))
      (bound_solved f n below xs y (app s ts) es few (not_inside f y s ts (sym h.0)) ((known.0.1, known.0.0), known.1) (sym h.0, h.1))
  by_weight f n below (suc m) xs ((app s ts, app r us) ∷ es) few light known h =
      let parts = same_app s r (substitute_all f ts) (substitute_all f us) h.0 in
      let long = same_count f ts us parts.1 in
      let lighter = pairs_weight ts us es in
      through xs ((app s ts, app r us) ∷ es) (paired ts us es)
      (λ g k. pairs_there g ts us es (same_app s r (substitute_all g ts) (substitute_all g us) k.0).1 k.1)
      (λ g k. let rest = pairs_back g ts us es long k in
      (ap (λ z. app z (substitute_all g ts)) parts.0 ∙ ap (app r) rest.0, rest.1))
      (by_weight f n below m xs (paired ts us es) few (omega (arith, light, lighter)) (pairs_of xs ts us es known.0.0 known.0.1 known.1) (pairs_there f ts us es parts.1 h.1))

  solved_below : (f : V → Term S V) (n : ℕ) → SolvedBelow f n
  solved_below f zero xs es few known h = absurd (omega (arith, few))
  solved_below f (suc n) xs es few known h = by_weight f n (solved_below f n) (suc (weight es)) xs es few (omega arith) known h

  -- two terms that can be unified have a list whose solutions are their unifiers
  pub has_unifiers : (q e : Term S V) (s : Substitution S V) → Unifies same q e s → (bs : List (V × Term S V)) × HasUnifiers same tells itself q e bs × AllByRecursion (λ b. AllByRecursion (IsAmong (order same q e)) (variables b.1)) bs
  has_unifiers q e s h =
      let xs = variables q ++ variables e in
      let solved =
      solved_below (image same s) (suc (length xs)) xs ((q, e) ∷ []) (omega arith) (
        (
          all_from (IsAmong xs) (variables q) (λ x a. among_front (variables q) (variables e) x a),
          all_from (IsAmong xs) (variables e) (λ x a. among_back (variables q) (variables e) x a),
        ),
        tt,
      )
      (h, tt) in (
        solved.0,
        record {
          triangular = solved.1.triangular;
          every = λ u k. solved.1.every (image same u) (k, tt);
          only = λ u k. (solved.1.only (image same u) k).0;
        },
        all_weaker (λ b. IsAmong xs b.0 × AllByRecursion (IsAmong xs) (variables b.1)) (λ b. AllByRecursion (IsAmong (order same q e)) (variables b.1)) solved.0
            (λ b k. all_weaker (IsAmong xs) (IsAmong (order same q e)) (variables b.1) (λ x a. among_firsts same tells xs x a) k.1) solved.1.known,
      )
