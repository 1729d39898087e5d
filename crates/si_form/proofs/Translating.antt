-- Terms with other symbols and other variables, and back.
use Rattle.std.proofs.Common.{◌≡◌, List, [], ◌∷◌, ◌++◌, map, inl, inr, refl, sym, ◌∙◌, ap, subst}
use Rattle.std.specs.List.{AllByRecursion}
use Rattle.std.proofs.lemmas.List.{map-append}
use Rattle.si_defs.specs.Terms.{Term, Terms, var, app, none, more, variables, variables_of_all, symbols, symbols_of_all, substitute, substitute_all, rename, rename_all}
use Rattle.si_defs.specs.Substitutions.{IsAmong}
use Rattle.si_defs.proofs.ListLaws.{all_front, all_back, all_append, among_parts}

-- ---- the symbols and the variables of a term, each by a property
module _ {S V : Type 0} (P : S → Type 0) (Q : V → Type 0) where
  -- P holds of each symbol, and Q of each variable
  abbrev mutual
    pub IsMadeOf : Term S V → Type 0
    IsMadeOf (var x) = Q x
    IsMadeOf (app s ts) = P s × AreMadeOf ts

    pub AreMadeOf : Terms S V → Type 0
    AreMadeOf none = Unit {0}
    AreMadeOf (more t ts) = IsMadeOf t × AreMadeOf ts

  mutual
    pub variable_made : (t : Term S V) (x : V) → IsMadeOf t → IsAmong (variables t) x → Q x
    variable_made (var y) x h a = elim a [ inl e ↦ subst Q e h | inr n ↦ elim n [ ] ]
    variable_made (app r ts) x h a = variables_made ts x h.1 a

    pub variables_made : (ts : Terms S V) (x : V) → AreMadeOf ts → IsAmong (variables_of_all ts) x → Q x
    variables_made none x h a = elim a [ ]
    variables_made (more t ts) x h a =
        elim (among_parts (variables t) (variables_of_all ts) x a) [
          | inl b ↦ variable_made t x h.0 b
          | inr b ↦ variables_made ts x h.1 b
        ]

  mutual
    pub symbols_made : (t : Term S V) → IsMadeOf t → AllByRecursion P (symbols t)
    symbols_made (var x) h = tt
    symbols_made (app s ts) h = (h.0, all_symbols_made ts h.1)

    all_symbols_made : (ts : Terms S V) → AreMadeOf ts → AllByRecursion P (symbols_of_all ts)
    all_symbols_made none h = tt
    all_symbols_made (more t ts) h = all_append P (symbols t) (symbols_of_all ts) (symbols_made t h.0) (all_symbols_made ts h.1)

  -- what replaces a variable is part of the whole
  mutual
    pub image_made : (f : V → Term S V) (t : Term S V) (x : V) → IsMadeOf (substitute f t) → IsAmong (variables t) x → IsMadeOf (f x)
    image_made f (var y) x h a = elim a [ inl e ↦ subst (λ z. IsMadeOf (f z)) e h | inr n ↦ elim n [ ] ]
    image_made f (app s ts) x h a = images_made f ts x h.1 a

    pub images_made : (f : V → Term S V) (ts : Terms S V) (x : V) → AreMadeOf (substitute_all f ts) → IsAmong (variables_of_all ts) x → IsMadeOf (f x)
    images_made f none x h a = elim a [ ]
    images_made f (more t ts) x h a =
        elim (among_parts (variables t) (variables_of_all ts) x a) [
          | inl b ↦ image_made f t x h.0 b
          | inr b ↦ images_made f ts x h.1 b
        ]

  -- and the whole is made of what stays and what replaces
  mutual
    pub substitute_made : (f : V → Term S V) (t : Term S V) → IsMadeOf t → ((x : V) → Q x → IsMadeOf (f x)) → IsMadeOf (substitute f t)
    substitute_made f (var x) h give = give x h
    substitute_made f (app s ts) h give = (h.0, substitutes_made f ts h.1 give)

    substitutes_made : (f : V → Term S V) (ts : Terms S V) → AreMadeOf ts → ((x : V) → Q x → IsMadeOf (f x)) → AreMadeOf (substitute_all f ts)
    substitutes_made f none h give = tt
    substitutes_made f (more t ts) h give = (substitute_made f t h.0 give, substitutes_made f ts h.1 give)

-- the same symbols, and this of the variables
module _ {S V : Type 0} (P : S → Type 0) (Q Q' : V → Type 0) where
  mutual
    pub made_with : (t : Term S V) → IsMadeOf P Q t → AllByRecursion Q' (variables t) → IsMadeOf P Q' t
    made_with (var x) h q = q.0
    made_with (app s ts) h q = (h.0, all_made_with ts h.1 q)

    pub all_made_with : (ts : Terms S V) → AreMadeOf P Q ts → AllByRecursion Q' (variables_of_all ts) → AreMadeOf P Q' ts
    all_made_with none h q = tt
    all_made_with (more t ts) h q = (
      made_with t h.0 (all_front Q' (variables t) (variables_of_all ts) q),
      all_made_with ts h.1 (all_back Q' (variables t) (variables_of_all ts) q),
    )

-- a term with other variables
module _ {S U V : Type 0} (P : S → Type 0) (Q : V → Type 0) (g : U → V) where
  mutual
    pub renamed_made : (t : Term S U) → AllByRecursion P (symbols t) → AllByRecursion (λ x. Q (g x)) (variables t) → IsMadeOf P Q (rename g t)
    renamed_made (var x) p q = q.0
    renamed_made (app s ts) p q = (p.0, all_renamed_made ts p.1 q)

    all_renamed_made : (ts : Terms S U) → AllByRecursion P (symbols_of_all ts) → AllByRecursion (λ x. Q (g x)) (variables_of_all ts) → AreMadeOf P Q (rename_all g ts)
    all_renamed_made none p q = tt
    all_renamed_made (more t ts) p q = (
      renamed_made t (all_front P (symbols t) (symbols_of_all ts) p) (all_front (λ x. Q (g x)) (variables t) (variables_of_all ts) q),
      all_renamed_made ts (all_back P (symbols t) (symbols_of_all ts) p) (all_back (λ x. Q (g x)) (variables t) (variables_of_all ts) q),
    )

-- ---- other symbols and variables
module _ {S V R W : Type 0} (f : S → R) (g : V → W) where
  abbrev mutual
    pub translate : Term S V → Term R W
    translate (var x) = var (g x)
    translate (app s ts) = app (f s) (translate_all ts)

    pub translate_all : Terms S V → Terms R W
    translate_all none = none
    translate_all (more t ts) = more (translate t) (translate_all ts)

  abbrev pub translate_list : List (V × Term S V) → List (W × Term R W)
  translate_list [] = []
  translate_list (b ∷ bs) = (g b.0, translate b.1) ∷ translate_list bs

  mutual
    pub translated_variables : (t : Term S V) → variables (translate t) ≡ map g (variables t)
    translated_variables (var x) = refl
    translated_variables (app s ts) = all_translated_variables ts

    all_translated_variables : (ts : Terms S V) → variables_of_all (translate_all ts) ≡ map g (variables_of_all ts)
    all_translated_variables none = refl
    all_translated_variables (more t ts) =
        ap (λ l. l ++ variables_of_all (translate_all ts)) (translated_variables t)
        ∙ ap (λ l. map g (variables t) ++ l) (all_translated_variables ts)
        ∙ sym (map-append g (variables t) (variables_of_all ts))

-- other variables first
module _ {S U V R W : Type 0} (f : S → R) (g : V → W) (h : U → V) where
  mutual
    pub translate_renamed : (t : Term S U) → translate f (λ x. g (h x)) t ≡ translate f g (rename h t)
    translate_renamed (var x) = refl
    translate_renamed (app s ts) = ap (app (f s)) (all_translate_renamed ts)

    all_translate_renamed : (ts : Terms S U) → translate_all f (λ x. g (h x)) ts ≡ translate_all f g (rename_all h ts)
    all_translate_renamed none = refl
    all_translate_renamed (more t ts) =
        ap (λ u. more u (translate_all f (λ x. g (h x)) ts)) (translate_renamed t) ∙ ap (more (translate f g (rename h t))) (all_translate_renamed ts)

-- A translation, and the way back.
pub record Translation (S V R W : Type 0) : Type 0 where
  pub symbol : S → R
  pub variable : V → W
  pub symbol_back : R → S
  pub variable_back : W → V

abbrev pub back : {S V R W : Type 0} → Translation S V R W → Translation R W S V
back k = record { symbol = k.symbol_back; variable = k.variable_back; symbol_back = k.symbol; variable_back = k.variable }

module _ {S V R W : Type 0} (k : Translation S V R W) where
  abbrev pub translated : Term S V → Term R W
  translated t = translate k.symbol k.variable t

  abbrev pub translated_list : List (V × Term S V) → List (W × Term R W)
  translated_list bs = translate_list k.symbol k.variable bs

  -- there and back again it is the same
  abbrev pub symbol_returns : S → Type 0
  symbol_returns s = k.symbol_back (k.symbol s) ≡ s

  abbrev pub variable_returns : V → Type 0
  variable_returns x = k.variable_back (k.variable x) ≡ x

  abbrev pub Returns : Term S V → Type 0
  Returns t = IsMadeOf symbol_returns variable_returns t

  abbrev pub AllReturn : Terms S V → Type 0
  AllReturn ts = AreMadeOf symbol_returns variable_returns ts

  abbrev pub ListReturns : List (V × Term S V) → Type 0
  ListReturns bs = AllByRecursion (λ b. variable_returns b.0 × Returns b.1) bs

module _ {S V R W : Type 0} (k : Translation S V R W) where
  mutual
    pub returned : (t : Term S V) → Returns k t → translated (back k) (translated k t) ≡ t
    returned (var x) h = ap var h
    returned (app s ts) h = ap (λ r. app r (translate_all k.symbol_back k.variable_back (translate_all k.symbol k.variable ts))) h.0 ∙ ap (app s) (all_returned ts h.1)

    all_returned : (ts : Terms S V) → AllReturn k ts → translate_all k.symbol_back k.variable_back (translate_all k.symbol k.variable ts) ≡ ts
    all_returned none h = refl
    all_returned (more t ts) h =
        ap (λ u. more u (translate_all k.symbol_back k.variable_back (translate_all k.symbol k.variable ts))) (returned t h.0)
        ∙ ap (more t) (all_returned ts h.1)

  mutual
    pub returns_there : (t : Term S V) → Returns k t → Returns (back k) (translated k t)
    returns_there (var x) h = ap k.variable h
    returns_there (app s ts) h = (ap k.symbol h.0, all_return_there ts h.1)

    all_return_there : (ts : Terms S V) → AllReturn k ts → AllReturn (back k) (translate_all k.symbol k.variable ts)
    all_return_there none h = tt
    all_return_there (more t ts) h = (returns_there t h.0, all_return_there ts h.1)

  pub list_returned : (bs : List (V × Term S V)) → ListReturns k bs → translated_list (back k) (translated_list k bs) ≡ bs
  list_returned [] h = refl
  list_returned (b ∷ bs) h =
      ap (λ x. (x, translated (back k) (translated k b.1)) ∷ translated_list (back k) (translated_list k bs)) h.0.0
      ∙ ap (λ t. (b.0, t) ∷ translated_list (back k) (translated_list k bs)) (returned b.1 h.0.1)
      ∙ ap (λ l. b ∷ l) (list_returned bs h.1)
