-- What lists of bindings do to terms, they do to translated terms too.
use Rattle.std.proofs.Common.{◌≡◌, Bool, true, false, cond, not, List, [], ◌∷◌, ◌++◌, map, inl, inr, refl, sym, ◌∙◌, ap, subst}
use Rattle.std.specs.Prelude.{filter}
use Rattle.std.specs.List.{AllByRecursion}
use Rattle.std.proofs.lemmas.List.{map-append}
use Rattle.si_defs.specs.Terms.{Term, Terms, var, app, none, more, variables, substitute, substitute_all, firsts}
use Rattle.si_defs.specs.Substitutions.{image, apply, lefts, rights, IsAmong}
use Rattle.si_defs.specs.Solutions.{bind, in_sequence, IsTriangular, order}
use Rattle.si_defs.proofs.ListLaws.{all_at, all_from}
use Rattle.si_flat.proofs.FirstPlaces.{firsts_among}
use Rattle.si_form.proofs.CanonicalLaws.{differs}
use Rattle.si_form.proofs.Translating.{variable_made, substitute_made, translated_variables, translate_all, Translation, translated, translated_list, symbol_returns, variable_returns, Returns, AllReturn, ListReturns}
use Rattle.si_form.proofs.Carrying.{Vocabulary}

-- ---- lists under a map
module _ {X Y : Type 0} (g : X → Y) where
  pub among_map : (xs : List X) (x : X) → IsAmong xs x → IsAmong (map g xs) (g x)
  among_map [] x a = elim a [ ]
  among_map (z ∷ xs) x a = elim a [ inl e ↦ inl (ap g e) | inr b ↦ inr (among_map xs x b) ]

  pub among_mapped : (xs : List X) (y : Y) → IsAmong (map g xs) y → (x : X) × IsAmong xs x × (g x ≡ y)
  among_mapped [] y a = elim a [ ]
  among_mapped (z ∷ xs) y a =
      elim a [
        | inl e ↦ (z, inl refl, e)
        | inr b ↦ let r = among_mapped xs y b in (r.0, inr r.1, r.2)
      ]

  pub all_map : (P : Y → Type 0) (xs : List X) → ((x : X) → IsAmong xs x → P (g x)) → AllByRecursion P (map g xs)
  all_map P [] give = tt
  all_map P (x ∷ xs) give = (give x (inl refl), all_map P xs (λ y a. give y (inr a)))

  pub among_before : (back : Y → X) (xs : List X) (x : X) → AllByRecursion (λ z. back (g z) ≡ z) xs → back (g x) ≡ x → IsAmong (map g xs) (g x) → IsAmong xs x
  among_before back [] x h k a = elim a [ ]
  among_before back (z ∷ xs) x h k a =
      elim a [
        | inl e ↦ inl (sym h.0 ∙ ap back e ∙ k)
        | inr b ↦ inr (among_before back xs x h.1 k b)
      ]

module _ {S V R W : Type 0} (A : Vocabulary S V) (B : Vocabulary R W) (k : Translation S V R W) where
  -- ---- variables that return
  same_there : (x y : V) → variable_returns k x → variable_returns k y → B.same (k.variable x) (k.variable y) ≡ A.same x y
  same_there x y h m = by (A.same x y) refl
    where
      by : (b : Bool) → A.same x y ≡ b → B.same (k.variable x) (k.variable y) ≡ b
      by true e = ap (λ z. B.same (k.variable x) (k.variable z)) (sym (A.tells x y e)) ∙ B.itself (k.variable x)
      by false e =
          differs B.same B.tells B.itself (k.variable x) (k.variable y)
          (λ f. let is : x ≡ y = sym h ∙ ap k.variable_back f ∙ m in let bad : true ≡ false = sym (A.itself x) ∙ ap (A.same x) is ∙ e in cc)

  filter_there : (x : V) (ys : List V) → variable_returns k x → AllByRecursion (variable_returns k) ys → map k.variable (filter (λ y. not (A.same x y)) ys) ≡ filter (λ y. not (B.same (k.variable x) y)) (map k.variable ys)
  filter_there x [] h m = refl
  filter_there x (y ∷ ys) h m =
      by (A.same x y) (filter_there x ys h m.1)
      ∙ ap (λ b. cond (not b) (k.variable y ∷ filter (λ z. not (B.same (k.variable x) z)) (map k.variable ys)) (filter (λ z. not (B.same (k.variable x) z)) (map k.variable ys)))
      (sym (same_there x y h m.0))
    where
      by :
          (b : Bool)
          → map k.variable (filter (λ z. not (A.same x z)) ys) ≡ filter (λ z. not (B.same (k.variable x) z)) (map k.variable ys)
          → map k.variable (cond (not b) (y ∷ filter (λ z. not (A.same x z)) ys) (filter (λ z. not (A.same x z)) ys))
          ≡ cond (not b) (k.variable y ∷ filter (λ z. not (B.same (k.variable x) z)) (map k.variable ys)) (filter (λ z. not (B.same (k.variable x) z)) (map k.variable ys))
      by true rest = rest
      by false rest = ap (λ l. k.variable y ∷ l) rest

  firsts_there : (xs : List V) → AllByRecursion (variable_returns k) xs → firsts B.same (map k.variable xs) ≡ map k.variable (firsts A.same xs)
  firsts_there [] h = refl
  firsts_there (x ∷ xs) h =
      ap (λ l. k.variable x ∷ filter (λ y. not (B.same (k.variable x) y)) l) (firsts_there xs h.1)
      ∙ ap (λ l. k.variable x ∷ l)
      (
      sym
      (filter_there x (firsts A.same xs) h.0
      (all_from (variable_returns k) (firsts A.same xs) (λ y a. all_at (variable_returns k) xs y h.1 (firsts_among A.same xs y a))))
      )

  pub variables_return : (t : Term S V) → Returns k t → AllByRecursion (variable_returns k) (variables t)
  variables_return t h = all_from (variable_returns k) (variables t) (λ x a. variable_made (symbol_returns k) (variable_returns k) t x h a)

  pub firsts_of_there : (t : Term S V) → Returns k t → firsts B.same (variables (translated k t)) ≡ map k.variable (firsts A.same (variables t))
  firsts_of_there t h = ap (firsts B.same) (translated_variables k.symbol k.variable t) ∙ firsts_there (variables t) (variables_return t h)

  pub order_there : (q e : Term S V) → Returns k q → Returns k e → order B.same (translated k q) (translated k e) ≡ map k.variable (order A.same q e)
  order_there q e h m =
      ap (λ l. firsts B.same (l ++ variables (translated k e))) (translated_variables k.symbol k.variable q)
      ∙ ap (λ l. firsts B.same (map k.variable (variables q) ++ l)) (translated_variables k.symbol k.variable e)
      ∙ ap (firsts B.same) (sym (map-append k.variable (variables q) (variables e)))
      ∙ firsts_there (variables q ++ variables e)
      (both (variables q) (variables_return q h) (variables_return e m))
    where
      both : (xs : List V) → AllByRecursion (variable_returns k) xs → AllByRecursion (variable_returns k) (variables e) → AllByRecursion (variable_returns k) (xs ++ variables e)
      both [] c d = d
      both (x ∷ xs) c d = (c.0, both xs c.1 d)

  -- ---- substitutions
  mutual
    substituted_there : (ρ : W → Term R W) (σ : V → Term S V) (t : Term S V) → ((x : V) → variable_returns k x → ρ (k.variable x) ≡ translated k (σ x)) → Returns k t → substitute ρ (translated k t) ≡ translated k (substitute σ t)
    substituted_there ρ σ (var x) give h = give x h
    substituted_there ρ σ (app s ts) give h = ap (app (k.symbol s)) (all_substituted_there ρ σ ts give h.1)

    all_substituted_there : (ρ : W → Term R W) (σ : V → Term S V) (ts : Terms S V) → ((x : V) → variable_returns k x → ρ (k.variable x) ≡ translated k (σ x)) → AllReturn k ts → substitute_all ρ (translate_all k.symbol k.variable ts) ≡ translate_all k.symbol k.variable (substitute_all σ ts)
    all_substituted_there ρ σ none give h = refl
    all_substituted_there ρ σ (more t ts) give h =
        ap (λ u. more u (substitute_all ρ (translate_all k.symbol k.variable ts))) (substituted_there ρ σ t give h.0)
        ∙ ap (more (translated k (substitute σ t))) (all_substituted_there ρ σ ts give h.1)

  chosen_there : (b : Bool) (t u : Term S V) → cond b (translated k t) (translated k u) ≡ translated k (cond b t u)
  chosen_there true t u = refl
  chosen_there false t u = refl

  image_there : (bs : List (V × Term S V)) (x : V) → ListReturns k bs → variable_returns k x → image B.same (translated_list k bs) (k.variable x) ≡ translated k (image A.same bs x)
  image_there [] x h m = refl
  image_there (b ∷ bs) x h m =
      ap (λ c. cond c (translated k b.1) (image B.same (translated_list k bs) (k.variable x))) (same_there b.0 x h.0.0 m)
      ∙ ap (cond (A.same b.0 x) (translated k b.1)) (image_there bs x h.1 m)
      ∙ chosen_there (A.same b.0 x) b.1 (image A.same bs x)

  pub apply_there : (bs : List (V × Term S V)) (t : Term S V) → ListReturns k bs → Returns k t → apply B.same (translated_list k bs) (translated k t) ≡ translated k (apply A.same bs t)
  apply_there bs t h m = substituted_there (image B.same (translated_list k bs)) (image A.same bs) t (λ x c. image_there bs x h c) m

  bind_there : (x : V) (u t : Term S V) → variable_returns k x → Returns k t → bind B.same (k.variable x) (translated k u) (translated k t) ≡ translated k (bind A.same x u t)
  bind_there x u t h m =
      substituted_there (λ y. cond (B.same (k.variable x) y) (translated k u) (var y)) (λ y. cond (A.same x y) u (var y)) t
      (λ y c. ap (λ b. cond b (translated k u) (var (k.variable y))) (same_there x y h c) ∙ chosen_there (A.same x y) u (var y))
      m

  bind_returns : (x : V) (u t : Term S V) → Returns k u → Returns k t → Returns k (bind A.same x u t)
  bind_returns x u t h m = substitute_made (symbol_returns k) (variable_returns k) (λ y. cond (A.same x y) u (var y)) t m (λ y c. by y (A.same x y) c)
    where
      by : (y : V) (b : Bool) → variable_returns k y → Returns k (cond b u (var y))
      by y true c = h
      by y false c = c

  pub sequence_there : (bs : List (V × Term S V)) (t : Term S V) → ListReturns k bs → Returns k t → in_sequence B.same (translated_list k bs) (translated k t) ≡ translated k (in_sequence A.same bs t)
  sequence_there [] t h m = refl
  sequence_there (b ∷ bs) t h m =
      ap (in_sequence B.same (translated_list k bs)) (bind_there b.0 b.1 t h.0.0 m)
      ∙ sequence_there bs (bind A.same b.0 b.1 t) h.1 (bind_returns b.0 b.1 t h.0.1 m)

  -- ---- sides of bindings
  pub lefts_there : (bs : List (V × Term S V)) → lefts (translated_list k bs) ≡ map k.variable (lefts bs)
  lefts_there [] = refl
  lefts_there (b ∷ bs) = ap (λ l. k.variable b.0 ∷ l) (lefts_there bs)

  pub lefts_return : (bs : List (V × Term S V)) → ListReturns k bs → AllByRecursion (variable_returns k) (lefts bs)
  lefts_return [] h = tt
  lefts_return (b ∷ bs) h = (h.0.0, lefts_return bs h.1)

  pub left_before : (bs : List (V × Term S V)) (x : V) → ListReturns k bs → variable_returns k x → IsAmong (lefts (translated_list k bs)) (k.variable x) → IsAmong (lefts bs) x
  left_before bs x h m a = among_before k.variable k.variable_back (lefts bs) x (lefts_return bs h) m (subst (λ l. IsAmong l (k.variable x)) (lefts_there bs) a)

  variable_before : (t : Term S V) (x : V) → Returns k t → variable_returns k x → IsAmong (variables (translated k t)) (k.variable x) → IsAmong (variables t) x
  variable_before t x h m a =
      among_before k.variable k.variable_back (variables t) x (variables_return t h) m
      (subst (λ l. IsAmong l (k.variable x)) (translated_variables k.symbol k.variable t) a)

  pub variable_there : (t : Term S V) (x : V) → IsAmong (variables t) x → IsAmong (variables (translated k t)) (k.variable x)
  variable_there t x a = subst (λ l. IsAmong l (k.variable x)) (sym (translated_variables k.symbol k.variable t)) (among_map k.variable (variables t) x a)

  -- no right side has the variable
  pub clear_there : (bs : List (V × Term S V)) (x : V) → ListReturns k bs → variable_returns k x → AllByRecursion (λ t. IsAmong (variables t) x → ⊥) (rights bs) → AllByRecursion (λ t. IsAmong (variables t) (k.variable x) → ⊥) (rights (translated_list k bs))
  clear_there [] x h m c = tt
  clear_there (b ∷ bs) x h m c = (λ a. c.0 (variable_before b.1 x h.0.1 m a), clear_there bs x h.1 m c.1)

  pub clear_before : (bs : List (V × Term S V)) (x : V) → AllByRecursion (λ t. IsAmong (variables t) (k.variable x) → ⊥) (rights (translated_list k bs)) → AllByRecursion (λ t. IsAmong (variables t) x → ⊥) (rights bs)
  clear_before [] x c = tt
  clear_before (b ∷ bs) x c = (λ a. c.0 (variable_there b.1 x a), clear_before bs x c.1)

  pub triangular_there : (bs : List (V × Term S V)) → ListReturns k bs → IsTriangular A.same bs → IsTriangular B.same (translated_list k bs)
  triangular_there [] h c = tt
  triangular_there (b ∷ bs) h c = (
    λ a. c.0 (left_before bs b.0 h.1 h.0.0 a),
    clear_there (b ∷ bs) b.0 h h.0.0 c.1,
    triangular_there bs h.1 c.2,
  )
