-- Substitutions carried over to translated terms: relations are kept, and so is what every unifier
-- makes equal.
use Rattle.std.proofs.Common.{◌≡◌, ◌⊎◌, Bool, true, false, cond, List, [], ◌∷◌, ◌++◌, inl, inr, refl, sym, ◌∙◌, ap, subst}
use Rattle.std.specs.List.{AllByRecursion}
use Rattle.si_defs.specs.Terms.{Term, Terms, var, app, none, more, variables, variables_of_all, substitute, substitute_all}
use Rattle.si_defs.specs.Substitutions.{Substitution, image, apply, lefts, IsAmong}
use Rattle.si_defs.specs.declared.Relation.{Relation}
use Rattle.si_defs.specs.declared.Relation.TheVariants.{Variants, Instances, Generalizations, Unifiable}
use Rattle.si_defs.specs.Relations.{IsInstance, IsUnifiable, Relates}
use Rattle.si_defs.specs.Solutions.{AreJoined}
use Rattle.si_defs.proofs.ListLaws.{all_from, all_front, all_back, among_front, among_back}
use Rattle.si_form.proofs.Translating.{translate, translate_all, Translation, translated, symbol_returns, Returns, AllReturn}

-- Symbols and variables that are told apart, and more than one of each.
pub record Vocabulary (S V : Type 0) : Type 0 where
  pub same_symbol : S → S → Bool
  pub symbol_tells : (s r : S) → same_symbol s r ≡ true → s ≡ r
  pub symbol_itself : (s : S) → same_symbol s s ≡ true
  pub other : S → S
  pub differs : (s : S) → other s ≡ s → ⊥
  pub same : V → V → Bool
  pub tells : (x y : V) → same x y ≡ true → x ≡ y
  pub itself : (x : V) → same x x ≡ true
  pub first : V
  pub second : V
  pub apart : first ≡ second → ⊥

-- ---- the map h at these variables
module _ {R W : Type 0} (same : W → W → Bool) (tells : (x y : W) → same x y ≡ true → x ≡ y) (itself : (x : W) → same x x ≡ true) (h : W → Term R W) where
  abbrev pub tabulate : List W → Substitution R W
  tabulate [] = []
  tabulate (y ∷ ys) = (y, h y) ∷ tabulate ys

  pub image_tabulated : (ys : List W) (y : W) → IsAmong ys y → image same (tabulate ys) y ≡ h y
  image_tabulated [] y a = elim a [ ]
  image_tabulated (z ∷ ys) y a = by (same z y) refl (image_tabulated ys y)
    where
      by : (b : Bool) → same z y ≡ b → (IsAmong ys y → image same (tabulate ys) y ≡ h y) → cond b (h z) (image same (tabulate ys) y) ≡ h y
      by true e rest = ap h (tells z y e)
      by false e rest =
          elim a [
            | inl s ↦ (let bad : true ≡ false = sym (itself z) ∙ ap (same z) s ∙ e in cc)
            | inr b ↦ rest b
          ]

  lefts_tabulated : (ys : List W) → lefts (tabulate ys) ≡ ys
  lefts_tabulated [] = refl
  lefts_tabulated (y ∷ ys) = ap (λ l. y ∷ l) (lefts_tabulated ys)

-- ---- carried over
module _ {S V R W : Type 0} (B : Vocabulary R W) (k : Translation S V R W) where
  -- f goes by the translation at each symbol that returns
  abbrev pub GoesBy : (S → R) → Type 0
  GoesBy f = (s : S) → symbol_returns k s → f s ≡ k.symbol s

  module _ (f : S → R) (g : V → W) (goes_by : GoesBy f) (σ : V → Term S V) (ys : List W) where
    abbrev carrier : Substitution R W
    carrier = tabulate B.same B.tells B.itself (λ y. translate f g (σ (k.variable_back y))) ys

    mutual
      carried : (t : Term S V) → Returns k t → AllByRecursion (IsAmong ys) (variables (translated k t)) → apply B.same carrier (translated k t) ≡ translate f g (substitute σ t)
      carried (var x) h a =
          image_tabulated B.same B.tells B.itself (λ y. translate f g (σ (k.variable_back y))) ys (k.variable x) a.0
          ∙ ap (λ y. translate f g (σ y)) h
      carried (app s ts) h a =
          ap (λ r. app r (substitute_all (image B.same carrier) (translate_all k.symbol k.variable ts))) (sym (goes_by s h.0))
          ∙ ap (app (f s)) (all_carried ts h.1 a)

      all_carried : (ts : Terms S V) → AllReturn k ts → AllByRecursion (IsAmong ys) (variables_of_all (translate_all k.symbol k.variable ts)) → substitute_all (image B.same carrier) (translate_all k.symbol k.variable ts) ≡ translate_all f g (substitute_all σ ts)
      all_carried none h a = refl
      all_carried (more t ts) h a =
          ap (λ u. more u (substitute_all (image B.same carrier) (translate_all k.symbol k.variable ts)))
          (carried t h.0 (all_front (IsAmong ys) (variables (translated k t)) (variables_of_all (translate_all k.symbol k.variable ts)) a))
          ∙ ap (more (translate f g (substitute σ t)))
          (all_carried ts h.1 (all_back (IsAmong ys) (variables (translated k t)) (variables_of_all (translate_all k.symbol k.variable ts)) a))

-- a symbol returns, or it doesn't
module _ {S V R W : Type 0} (A : Vocabulary S V) (k : Translation S V R W) where
  pub returns_or_not : (s : S) → symbol_returns k s ⊎ (symbol_returns k s → ⊥)
  returns_or_not s = by (A.same_symbol (k.symbol_back (k.symbol s)) s) refl
    where
      by : (b : Bool) → A.same_symbol (k.symbol_back (k.symbol s)) s ≡ b → symbol_returns k s ⊎ (symbol_returns k s → ⊥)
      by true e = inl (A.symbol_tells (k.symbol_back (k.symbol s)) s e)
      by false e = inr (λ h. let bad : true ≡ false = sym (A.symbol_itself s) ∙ ap (λ z. A.same_symbol z s) (sym h) ∙ e in cc)

-- ---- relations are kept
module _ {S V R W : Type 0} (A : Vocabulary S V) (B : Vocabulary R W) (k : Translation S V R W) where
  unifiable_there : (q e : Term S V) → Returns k q → Returns k e → IsUnifiable A.same q e → IsUnifiable B.same (translated k q) (translated k e)
  unifiable_there q e h m s =
      let us = variables (translated k q) in
      let vs = variables (translated k e) in (
        carrier B k k.symbol k.variable (λ r c. refl) (image A.same s.0) (us ++ vs),
        carried B k k.symbol k.variable (λ r c. refl) (image A.same s.0) (us ++ vs) q h (all_from (IsAmong (us ++ vs)) us (λ x a. among_front us vs x a))
            ∙ ap (translated k) s.1
            ∙ sym (carried B k k.symbol k.variable (λ r c. refl) (image A.same s.0) (us ++ vs) e m (all_from (IsAmong (us ++ vs)) vs (λ x a. among_back us vs x a))),
      )

  instance_there : (q e : Term S V) → Returns k q → IsInstance A.same q e → IsInstance B.same (translated k q) (translated k e)
  instance_there q e h s =
      let us = variables (translated k q) in
      let all : AllByRecursion (IsAmong us) us = all_from (IsAmong us) us (λ x a. a) in (
        carrier B k k.symbol k.variable (λ r c. refl) (image A.same s.0) us,
        record {
          on = subst (AllByRecursion (IsAmong us)) (sym (lefts_tabulated B.same B.tells B.itself (λ y. translated k (image A.same s.0 (k.variable_back y))) us)) all;
          takes = carried B k k.symbol k.variable (λ r c. refl) (image A.same s.0) us q h all ∙ ap (translated k) s.1.takes;
        },
      )

  pub relates_there : (relation : Relation) (q e : Term S V) → Returns k q → Returns k e → Relates A.same relation q e → Relates B.same relation (translated k q) (translated k e)
  relates_there Unifiable q e h m r = unifiable_there q e h m r
  relates_there Instances q e h m r = instance_there q e h r
  relates_there Generalizations q e h m r = instance_there e q m r
  relates_there Variants q e h m r = (instance_there q e h r.0, instance_there e q m r.1)

  -- ---- translations that go by k where it returns tell all terms apart
  abbrev changed_at : S → R → S → R
  changed_at r c z = cond (A.same_symbol r z) c (k.symbol z)

  elsewhere : (r z : S) (c : R) → (r ≡ z → ⊥) → changed_at r c z ≡ k.symbol z
  elsewhere r z c distinct = by (A.same_symbol r z) refl
    where
      by : (b : Bool) → A.same_symbol r z ≡ b → cond b c (k.symbol z) ≡ k.symbol z
      by true e = absurd (distinct (A.symbol_tells r z e))
      by false e = refl

  parted : (r s : S) → (symbol_returns k r → ⊥) → (r ≡ s → ⊥) → (f : S → R) × GoesBy B k f × (f r ≡ f s → ⊥)
  parted r s lost distinct =
      let c = B.other (k.symbol s) in (
        changed_at r c,
        λ z h. elsewhere r z c (λ e. lost (subst (symbol_returns k) (sym e) h)),
        λ e. B.differs (k.symbol s) (sym (ap (λ b. cond b c (k.symbol r)) (A.symbol_itself r)) ∙ e ∙ elsewhere r s c distinct),
      )

  separate : (r s : S) → (r ≡ s → ⊥) → (f : S → R) × GoesBy B k f × (f r ≡ f s → ⊥)
  separate r s distinct =
      elim (returns_or_not A k r) [
        | inr lost ↦ parted r s lost distinct
        | inl h ↦
            elim (returns_or_not A k s) [
              | inr lost ↦ let p = parted s r lost (λ e. distinct (sym e)) in (p.0, p.1, λ e. p.2 (sym e))
              | inl m ↦ (k.symbol, λ z c. refl, λ e. distinct (sym h ∙ ap k.symbol_back e ∙ m))
            ]
      ]

  abbrev either : V → V → W
  either x z = cond (A.same x z) B.first B.second

  mutual
    separated : (t u : Term S V) → ((f : S → R) (g : V → W) → GoesBy B k f → translate f g t ≡ translate f g u) → t ≡ u
    separated (var x) (var y) give = ap var (by (A.same x y) refl)
      where
        picked : A.same x y ≡ false → translate k.symbol (either x) (var x) ≡ translate k.symbol (either x) (var y) → B.first ≡ B.second
        picked e f =
            let same : either x x ≡ either x y = cc in
            sym (ap (λ c. cond c B.first B.second) (A.itself x)) ∙ same ∙ ap (λ c. cond c B.first B.second) e

        by : (b : Bool) → A.same x y ≡ b → x ≡ y
        by true e = A.tells x y e
        by false e = absurd (B.apart (picked e (give k.symbol (either x) (λ s c. refl))))
    separated (var x) (app s us) give = let bad = give k.symbol k.variable (λ r c. refl) in cc
    separated (app r ts) (var y) give = let bad = give k.symbol k.variable (λ s c. refl) in cc
    separated (app r ts) (app s us) give = by (A.same_symbol r s) refl (all_separated ts us (λ f g h. arguments f g (give f g h)))
      where
        arguments : (f : S → R) (g : V → W) → app (f r) (translate_all f g ts) ≡ app (f s) (translate_all f g us) → translate_all f g ts ≡ translate_all f g us
        arguments f g h = cc

        head : (f : S → R) (g : V → W) → app (f r) (translate_all f g ts) ≡ app (f s) (translate_all f g us) → f r ≡ f s
        head f g h = cc

        by : (b : Bool) → A.same_symbol r s ≡ b → ts ≡ us → app r ts ≡ app s us
        by true e rest = ap (λ z. app z ts) (A.symbol_tells r s e) ∙ ap (app s) rest
        by false e rest =
            let p = separate r s (λ same. let bad : true ≡ false = sym (A.symbol_itself r) ∙ ap (A.same_symbol r) same ∙ e in cc) in
            absurd (p.2 (head p.0 k.variable (give p.0 k.variable p.1)))

    all_separated : (ts us : Terms S V) → ((f : S → R) (g : V → W) → GoesBy B k f → translate_all f g ts ≡ translate_all f g us) → ts ≡ us
    all_separated none none give = refl
    all_separated none (more u us) give = let bad = give k.symbol k.variable (λ s c. refl) in cc
    all_separated (more t ts) none give = let bad = give k.symbol k.variable (λ s c. refl) in cc
    all_separated (more t ts) (more u us) give =
        ap (λ v. more v ts) (separated t u (λ f g h. front f g (give f g h)))
        ∙ ap (more u) (all_separated ts us (λ f g h. behind f g (give f g h)))
      where
        front : (f : S → R) (g : V → W) → more (translate f g t) (translate_all f g ts) ≡ more (translate f g u) (translate_all f g us) → translate f g t ≡ translate f g u
        front f g h = cc

        behind : (f : S → R) (g : V → W) → more (translate f g t) (translate_all f g ts) ≡ more (translate f g u) (translate_all f g us) → translate_all f g ts ≡ translate_all f g us
        behind f g h = cc

  -- ---- what all unifiers of the translated terms make equal, all of the terms themselves do
  pub joined_back : (q e t u : Term S V) → Returns k q → Returns k e → Returns k t → Returns k u → AreJoined B.same (translated k q) (translated k e) (translated k t) (translated k u) → AreJoined A.same q e t u
  joined_back q e t u h m c d joined s unifies =
      let vq = variables (translated k q) in
      let ve = variables (translated k e) in
      let vt = variables (translated k t) in
      let vu = variables (translated k u) in
      let ys = vq ++ (ve ++ (vt ++ vu)) in
      separated (apply A.same s t) (apply A.same s u)
      (λ f g goes_by.
      sym (carried B k f g goes_by (image A.same s) ys t c (all_from (IsAmong ys) vt (λ x a. among_back vq (ve ++ (vt ++ vu)) x (among_back ve (vt ++ vu) x (among_front vt vu x a)))))
      ∙ joined (carrier B k f g goes_by (image A.same s) ys)
      (
      carried B k f g goes_by (image A.same s) ys q h (all_from (IsAmong ys) vq (λ x a. among_front vq (ve ++ (vt ++ vu)) x a))
      ∙ ap (translate f g) unifies
      ∙ sym (carried B k f g goes_by (image A.same s) ys e m (all_from (IsAmong ys) ve (λ x a. among_back vq (ve ++ (vt ++ vu)) x (among_front ve (vt ++ vu) x a))))
      )
      ∙ carried B k f g goes_by (image A.same s) ys u d (all_from (IsAmong ys) vu (λ x a. among_back vq (ve ++ (vt ++ vu)) x (among_back ve (vt ++ vu) x (among_back vt vu x a)))))
