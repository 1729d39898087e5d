-- A term, folded by the variables of the order: where the image of one of them stands, the first
-- such variable is written.
use Rattle.std.proofs.Common.{◌≡◌, ◌⊎◌, Bool, true, false, List, [], ◌∷◌, inl, inr, refl, sym, ◌∙◌, ap, subst}
use Rattle.std.specs.List.{AllByRecursion}
use Rattle.si_defs.specs.Terms.{Term, Terms, var, app, none, more, variables, variables_of_all, substitute, substitute_all}
use Rattle.si_defs.specs.Substitutions.{rights, IsAmong}
use Rattle.si_defs.specs.Solutions.{in_sequence, IsTriangular, order}
use Rattle.si_defs.proofs.ListLaws.{all_at, all_from, all_weaker, all_front, all_back, all_append}
use Rattle.si_defs.proofs.TermLaws.{same_app, same_more}
use Rattle.si_form.proofs.Carrying.{Vocabulary}
use Rattle.si_form.proofs.FoldedLaws.{sequence_inside, lefts_gone, Leads, IsFoldedBy, AreFoldedBy}
use Rattle.si_form.proofs.GeneralLaws.{general}
use Rattle.si_form.proofs.UnifierLaws.{sequence_is, free_stays}
use Rattle.si_exist.proofs.Firsts.{OrNot, HasFirst, first_or_none}

module _ {S V : Type 0} (A : Vocabulary S V) where
  -- ---- equal terms are told apart from others
  pub variable_or_not : (x y : V) → OrNot (x ≡ y)
  variable_or_not x y = by (A.same x y) refl
    where
      by : (b : Bool) → A.same x y ≡ b → OrNot (x ≡ y)
      by true e = inl (A.tells x y e)
      by false e = inr (λ k. let bad : true ≡ false = sym (A.itself x) ∙ ap (A.same x) k ∙ e in cc)

  symbol_or_not : (s r : S) → OrNot (s ≡ r)
  symbol_or_not s r = by (A.same_symbol s r) refl
    where
      by : (b : Bool) → A.same_symbol s r ≡ b → OrNot (s ≡ r)
      by true e = inl (A.symbol_tells s r e)
      by false e = inr (λ k. let bad : true ≡ false = sym (A.symbol_itself s) ∙ ap (A.same_symbol s) k ∙ e in cc)

  mutual
    pub term_or_not : (t u : Term S V) → OrNot (t ≡ u)
    term_or_not (var x) (var y) = elim (variable_or_not x y) [ inl e ↦ inl (ap var e) | inr e ↦ inr (λ k. e cc) ]
    term_or_not (var x) (app r us) = inr (λ k. cc)
    term_or_not (app s ts) (var y) = inr (λ k. cc)
    term_or_not (app s ts) (app r us) =
        elim (symbol_or_not s r) [
          | inl e ↦
              elim (row_or_not ts us) [
                | inl d ↦ inl (ap (λ z. app z ts) e ∙ ap (app r) d)
                | inr d ↦ inr (λ k. d (same_app s r ts us k).1)
              ]
          | inr e ↦ inr (λ k. e (same_app s r ts us k).0)
        ]

    row_or_not : (ts us : Terms S V) → OrNot (ts ≡ us)
    row_or_not none none = inl refl
    row_or_not none (more u us) = inr (λ k. cc)
    row_or_not (more t ts) none = inr (λ k. cc)
    row_or_not (more t ts) (more u us) =
        elim (term_or_not t u) [
          | inl e ↦
              elim (row_or_not ts us) [
                | inl d ↦ inl (ap (λ z. more z ts) e ∙ ap (more u) d)
                | inr d ↦ inr (λ k. d (same_more t u ts us k).1)
              ]
          | inr e ↦ inr (λ k. e (same_more t u ts us k).0)
        ]

  module _ (q e : Term S V) (f : V → Term S V) where
    -- the first of the order with this image
    abbrev pub IsLed : Term S V → Type 0
    IsLed t = HasFirst (λ y. t ≡ f y) (order A.same q e)

    pub led_or_not : (t : Term S V) → IsLed t ⊎ AllByRecursion (λ y. t ≡ f y → ⊥) (order A.same q e)
    led_or_not t = first_or_none (λ y. t ≡ f y) (λ y. term_or_not t (f y)) (order A.same q e)

    pub leads_itself : (t : Term S V) (r : IsLed t) → Leads A.same A.tells A.itself q e f r.first r.first
    leads_itself t r = (refl, (r.before, r.after, r.parts, all_weaker (λ y. t ≡ f y → ⊥) (λ y. f r.first ≡ f y → ⊥) r.before (λ y k j. k (r.has ∙ j)) r.none_before))

    -- a variable of the order that is its own image
    abbrev pub IsOwnImage : V → Type 0
    IsOwnImage z = IsAmong (order A.same q e) z × (f z ≡ var z)

    pub record IsFoldedOf (t u : Term S V) : Type 0 where
      pub image_is : substitute f u ≡ t
      pub leads : AllByRecursion (λ x. Leads A.same A.tells A.itself q e f x x) (variables u)
      pub folded : IsFoldedBy A.same A.tells A.itself q e f u

    pub record AreFoldedOf (ts us : Terms S V) : Type 0 where
      pub image_is : substitute_all f us ≡ ts
      pub leads : AllByRecursion (λ x. Leads A.same A.tells A.itself q e f x x) (variables_of_all us)
      pub folded : AreFoldedBy A.same A.tells A.itself q e f us

    led_by : (t : Term S V) → IsLed t → (u : Term S V) × IsFoldedOf t u
    led_by t r = (var r.first, record { image_is = sym r.has; leads = (leads_itself t r, tt); folded = tt })

    mutual
      pub folded_part : (t : Term S V) → AllByRecursion IsOwnImage (variables t) → (u : Term S V) × IsFoldedOf t u
      folded_part (var z) own =
          elim (led_or_not (var z)) [
            | inl r ↦ led_by (var z) r
            | inr k ↦ absurd (all_at (λ y. var z ≡ f y → ⊥) (order A.same q e) z k own.0.0 (sym own.0.1))
          ]
      folded_part (app s ts) own =
          elim (led_or_not (app s ts)) [
            | inl r ↦ led_by (app s ts) r
            | inr k ↦
                (let rest = folded_parts ts own in (
                  app s rest.0,
                  record {
                    image_is = ap (app s) rest.1.image_is;
                    leads = rest.1.leads;
                    folded = (all_weaker (λ y. app s ts ≡ f y → ⊥) (λ y. app s (substitute_all f rest.0) ≡ f y → ⊥) (order A.same q e) (λ y g j. g (ap (app s) (sym rest.1.image_is) ∙ j)) k, rest.1.folded);
                  },
                ))
          ]

      pub folded_parts : (ts : Terms S V) → AllByRecursion IsOwnImage (variables_of_all ts) → (us : Terms S V) × AreFoldedOf ts us
      folded_parts none own = (none, record { image_is = refl; leads = tt; folded = tt })
      folded_parts (more t ts) own =
          let first = folded_part t (all_front IsOwnImage (variables t) (variables_of_all ts) own) in
          let rest = folded_parts ts (all_back IsOwnImage (variables t) (variables_of_all ts) own) in (
            more first.0 rest.0,
            record {
              image_is = ap (λ z. more z (substitute_all f rest.0)) first.1.image_is ∙ ap (more t) rest.1.image_is;
              leads = all_append (λ x. Leads A.same A.tells A.itself q e f x x) (variables first.0) (variables_of_all rest.0) first.1.leads rest.1.leads;
              folded = (first.1.folded, rest.1.folded);
            },
          )

-- ---- the images that a most general list makes
module _ {S V : Type 0} (A : Vocabulary S V) (q e : Term S V) (ts : List (V × Term S V)) (triangular : IsTriangular A.same ts) (known : AllByRecursion (λ b. AllByRecursion (IsAmong (order A.same q e)) (variables b.1)) ts) where
  abbrev rights_known : (bs : List (V × Term S V)) → AllByRecursion (λ b. AllByRecursion (IsAmong (order A.same q e)) (variables b.1)) bs → AllByRecursion (λ u. AllByRecursion (IsAmong (order A.same q e)) (variables u)) (rights bs)
  rights_known [] h = tt
  rights_known (b ∷ bs) h = (h.0, rights_known bs h.1)

  -- each variable of an image is one of the order, and its own image
  pub own_images : (x : V) → IsAmong (order A.same q e) x → AllByRecursion (IsOwnImage A q e (general A.same A.tells A.itself ts)) (variables (general A.same A.tells A.itself ts x))
  own_images x a =
      subst (λ t. AllByRecursion (IsOwnImage A q e (general A.same A.tells A.itself ts)) (variables t)) (sequence_is A.same A.tells A.itself ts (var x))
      (
      all_from (IsOwnImage A q e (general A.same A.tells A.itself ts)) (variables (in_sequence A.same ts (var x)))
      (λ z v. (
        all_at (IsAmong (order A.same q e)) (variables (in_sequence A.same ts (var x))) z
            (sequence_inside A.same A.tells A.itself (IsAmong (order A.same q e)) ts (var x) (a, tt) (rights_known ts known)) v,
        sym (sequence_is A.same A.tells A.itself ts (var z))
            ∙ free_stays A.same A.tells A.itself ts z (λ l. lefts_gone A.same A.tells A.itself ts (var x) z triangular l v),
      ))
      )
