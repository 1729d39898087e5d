-- All symbols and variables of a canonical list are of the two terms.
use Rattle.std.proofs.Common.{◌≡◌, ◌⊎◌, List, [], ◌∷◌, ◌++◌, inl, inr, refl, sym, ◌∙◌, ap, subst}
use Rattle.std.specs.List.{AllByRecursion}
use Rattle.si_defs.specs.Terms.{Term, Terms, var, app, none, more, variables, variables_of_all, substitute, substitute_all}
use Rattle.si_defs.specs.Substitutions.{Substitution, image, apply, lefts, IsAmong, AreDistinct}
use Rattle.si_defs.specs.declared.Relation.{Relation}
use Rattle.si_defs.specs.declared.Relation.TheVariants.{Variants, Instances, Generalizations, Unifiable}
use Rattle.si_defs.specs.Relations.{Unifies}
use Rattle.si_defs.specs.Solutions.{order, AreJoined, IsMostGeneral, IsCanonicalUnifier, IsCanonicalMatch, IsCanonical}
use Rattle.si_defs.proofs.ListLaws.{all_at, all_from, among_front, among_back, among_parts}
use Rattle.si_flat.proofs.FirstPlaces.{firsts_among}
use Rattle.si_form.proofs.CanonicalLaws.{distinct_firsts, image_first, image_other}
use Rattle.si_form.proofs.UnifierLaws.{sequence_map, sequence_is}
use Rattle.si_form.proofs.Translating.{IsMadeOf, AreMadeOf, made_with, all_made_with, variable_made, variables_made, image_made, images_made, translate, translate_all}
use Rattle.si_form.proofs.Carrying.{Vocabulary, tabulate, image_tabulated}

-- P holds of each symbol of a list, and Q of each variable
abbrev pub IsListOf : {S V : Type 0} → (S → Type 0) → (V → Type 0) → List (V × Term S V) → Type 0
IsListOf P Q bs = AllByRecursion (λ b. Q b.0 × IsMadeOf P Q b.1) bs

module _ {S V : Type 0} (A : Vocabulary S V) (P : S → Type 0) (Q : V → Type 0) (decide : (s : S) → P s ⊎ (P s → ⊥)) where
  -- ---- where P doesn't hold, another symbol
  abbrev chosen : (s : S) → P s ⊎ (P s → ⊥) → S
  chosen s (inl h) = s
  chosen s (inr h) = A.other s

  abbrev changed : S → S
  changed s = chosen s (decide s)

  unchanged : (s : S) → P s → changed s ≡ s
  unchanged s h = by (decide s)
    where
      by : (d : P s ⊎ (P s → ⊥)) → chosen s d ≡ s
      by (inl k) = refl
      by (inr lost) = absurd (lost h)

  is_unchanged : (s : S) → changed s ≡ s → P s
  is_unchanged s h = by (decide s) h
    where
      by : (d : P s ⊎ (P s → ⊥)) → chosen s d ≡ s → P s
      by (inl k) e = k
      by (inr lost) e = absurd (A.differs s e)

  abbrev change : Term S V → Term S V
  change t = translate changed (λ x. x) t

  abbrev change_all : Terms S V → Terms S V
  change_all ts = translate_all changed (λ x. x) ts

  -- a substitution whose images are changed
  abbrev after : (V → Term S V) → List V → Substitution S V
  after σ ys = tabulate A.same A.tells A.itself (λ y. change (σ y)) ys

  module _ (σ : V → Term S V) (ys : List V) where
    mutual
      changed_after : (t : Term S V) → IsMadeOf P (IsAmong ys) t → apply A.same (after σ ys) t ≡ change (substitute σ t)
      changed_after (var x) h = image_tabulated A.same A.tells A.itself (λ y. change (σ y)) ys x h
      changed_after (app s ts) h =
          ap (λ r. app r (substitute_all (image A.same (after σ ys)) ts)) (sym (unchanged s h.0)) ∙ ap (app (changed s)) (all_changed_after ts h.1)

      all_changed_after : (ts : Terms S V) → AreMadeOf P (IsAmong ys) ts → substitute_all (image A.same (after σ ys)) ts ≡ change_all (substitute_all σ ts)
      all_changed_after none h = refl
      all_changed_after (more t ts) h =
          ap (λ u. more u (substitute_all (image A.same (after σ ys)) ts)) (changed_after t h.0)
          ∙ ap (more (change (substitute σ t))) (all_changed_after ts h.1)

  -- P holds of the symbols that stay as they are
  mutual
    stay : (σ ρ : V → Term S V) (t : Term S V) → substitute ρ t ≡ change (substitute σ t) → IsMadeOf P (λ x. Unit {0}) t
    stay σ ρ (var x) e = tt
    stay σ ρ (app s ts) e = (is_unchanged s (sym (head e)), all_stay σ ρ ts (arguments e))
      where
        head : app s (substitute_all ρ ts) ≡ app (changed s) (change_all (substitute_all σ ts)) → s ≡ changed s
        head h = cc

        arguments : app s (substitute_all ρ ts) ≡ app (changed s) (change_all (substitute_all σ ts)) → substitute_all ρ ts ≡ change_all (substitute_all σ ts)
        arguments h = cc

    all_stay : (σ ρ : V → Term S V) (ts : Terms S V) → substitute_all ρ ts ≡ change_all (substitute_all σ ts) → AreMadeOf P (λ x. Unit {0}) ts
    all_stay σ ρ none e = tt
    all_stay σ ρ (more t ts) e = (stay σ ρ t (front e), all_stay σ ρ ts (behind e))
      where
        front : more (substitute ρ t) (substitute_all ρ ts) ≡ more (change (substitute σ t)) (change_all (substitute_all σ ts)) → substitute ρ t ≡ change (substitute σ t)
        front h = cc

        behind : more (substitute ρ t) (substitute_all ρ ts) ≡ more (change (substitute σ t)) (change_all (substitute_all σ ts)) → substitute_all ρ ts ≡ change_all (substitute_all σ ts)
        behind h = cc

  -- ---- unifiers
  module _ (q e : Term S V) (of_order : AllByRecursion Q (order A.same q e)) where
    -- the changed substitution unifies the terms too
    abbrev IsLasting : Type 0
    IsLasting = (s : Substitution S V) (xs : List V) → Unifies A.same q e s → (ys : List V) × Unifies A.same q e (after (image A.same s) (ys ++ xs))

    module _ (lasting : IsLasting) (s : Substitution S V) (unifies : Unifies A.same q e s) where
      -- what all unifiers make equal to a variable is made of P
      joined_made : (x : V) (t : Term S V) → AreJoined A.same q e (var x) t → IsMadeOf P (λ y. Unit {0}) t
      joined_made x t joined =
          let r = lasting s (x ∷ []) unifies in
          let ys = r.0 ++ x ∷ [] in
          stay (image A.same s) (image A.same (after (image A.same s) ys)) t
          (
          sym (joined (after (image A.same s) ys) r.1)
          ∙ changed_after (image A.same s) ys (var x) (among_back r.0 (x ∷ []) x (inl refl))
          ∙ ap change (joined s unifies)
          )

      joined_list :
          (bs : List (V × Term S V))
          → IsMostGeneral A.same q e bs
          → AllByRecursion (λ b. IsAmong (order A.same q e) b.0 × AllByRecursion (IsAmong (order A.same q e)) (variables b.1)) bs
          → IsListOf P Q bs
      joined_list [] most known = tt
      joined_list (b ∷ bs) most known = (
        (
          all_at Q (order A.same q e) b.0 of_order known.0.0,
          made_with P (λ x. Unit {0}) Q b.1 (joined_made b.0 b.1 (λ r u. (most r u).0))
              (all_from Q (variables b.1) (λ x a. all_at Q (order A.same q e) x of_order (all_at (IsAmong (order A.same q e)) (variables b.1) x known.0.1 a))),
        ),
        joined_list bs (λ r u. (most r u).1) known.1,
      )

    unifier_made : IsLasting → (bs : List (V × Term S V)) → IsCanonicalUnifier A.same q e bs → IsListOf P Q bs
    unifier_made lasting bs h =
        joined_list lasting (sequence_map A.same A.tells A.itself bs)
        (sym (sequence_is A.same A.tells A.itself bs q) ∙ h.achieves ∙ sequence_is A.same A.tells A.itself bs e)
        bs h.most_general h.known

  of_both : (q e : Term S V) → ((x : V) → IsAmong (variables q) x → Q x) → ((x : V) → IsAmong (variables e) x → Q x) → AllByRecursion Q (order A.same q e)
  of_both q e in_q in_e =
      all_from Q (order A.same q e)
      (λ x a.
      elim (among_parts (variables q) (variables e) x (firsts_among A.same (variables q ++ variables e) x a)) [
        | inl b ↦ in_q x b
        | inr b ↦ in_e x b
      ])

  -- ---- matches
  images_of :
      (cs bs : List (V × Term S V))
      → AreDistinct (lefts cs)
      → AllByRecursion (λ x. Q x × IsMadeOf P Q (image A.same bs x) × (image A.same cs x ≡ image A.same bs x)) (lefts cs)
      → IsListOf P Q cs
  images_of [] bs d h = tt
  images_of (c ∷ cs) bs d h = (
    (h.0.0, subst (IsMadeOf P Q) (sym h.0.2 ∙ image_first A.same A.tells A.itself c.0 c.1 cs) h.0.1),
    images_of cs bs d.1
        (
        all_from (λ x. Q x × IsMadeOf P Q (image A.same bs x) × (image A.same cs x ≡ image A.same bs x)) (lefts cs)
        (λ x a.
        let r = all_at (λ y. Q y × IsMadeOf P Q (image A.same bs y) × (image A.same (c ∷ cs) y ≡ image A.same bs y)) (lefts cs) x h.1 a in
        (r.0, r.1, sym (image_other A.same A.tells A.itself c.0 x c.1 cs (λ e. d.0 (subst (IsAmong (lefts cs)) (sym e) a))) ∙ r.2))
        ),
  )

  match_made : (q e : Term S V) (bs : List (V × Term S V)) → IsCanonicalMatch A.same q e bs → ((x : V) → IsAmong (variables q) x → Q x × IsMadeOf P Q (image A.same bs x)) → IsListOf P Q bs
  match_made q e bs h give =
      images_of bs bs (subst AreDistinct (sym h.each) (distinct_firsts A.same A.tells A.itself (variables q)))
      (
      all_from (λ x. Q x × IsMadeOf P Q (image A.same bs x) × (image A.same bs x ≡ image A.same bs x)) (lefts bs)
      (λ x a. let r = give x (all_at (IsAmong (variables q)) (lefts bs) x h.matches.on a) in (r.0, r.1, refl))
      )

  -- ---- of two terms
  module _ (q e : Term S V) (q_made : IsMadeOf P Q q) (e_made : IsMadeOf P Q e) where
    lasting : (s : Substitution S V) (xs : List V) → Unifies A.same q e s → (ys : List V) × Unifies A.same q e (after (image A.same s) (ys ++ xs))
    lasting s xs unifies =
        let us = variables q in
        let vs = variables e in
        let ys = (us ++ vs) ++ xs in (
          us ++ vs,
          changed_after (image A.same s) ys q
              (made_with P Q (IsAmong ys) q q_made (all_from (IsAmong ys) us (λ x a. among_front (us ++ vs) xs x (among_front us vs x a))))
              ∙ ap change unifies
              ∙ sym (changed_after (image A.same s) ys e (made_with P Q (IsAmong ys) e e_made (all_from (IsAmong ys) vs (λ x a. among_front (us ++ vs) xs x (among_back us vs x a))))),
        )

    pub order_made : AllByRecursion Q (order A.same q e)
    order_made = of_both q e (λ x a. variable_made P Q q x q_made a) (λ x a. variable_made P Q e x e_made a)

    matched : (bs : List (V × Term S V)) → IsCanonicalMatch A.same q e bs → IsListOf P Q bs
    matched bs h = match_made q e bs h (λ x a. (variable_made P Q q x q_made a, image_made P Q (image A.same bs) q x (subst (IsMadeOf P Q) (sym h.matches.takes) e_made) a))

  pub canonical_made : (relation : Relation) (q e : Term S V) (bs : List (V × Term S V)) → IsMadeOf P Q q → IsMadeOf P Q e → IsCanonical A.same relation q e bs → IsListOf P Q bs
  canonical_made Unifiable q e bs q_made e_made h = unifier_made q e (order_made q e q_made e_made) (lasting q e q_made e_made) bs h
  canonical_made Instances q e bs q_made e_made h = matched q e q_made e_made bs h
  canonical_made Generalizations q e bs q_made e_made h = matched e q e_made q_made bs h
  canonical_made Variants q e bs q_made e_made h = matched q e q_made e_made bs h.1

  -- ---- of two terms with heads, by their arguments alone
  module _ (s r : S) (ts us : Terms S V) (ts_made : AreMadeOf P Q ts) (us_made : AreMadeOf P Q us) where
    lasting_inside : (m : Substitution S V) (xs : List V) → Unifies A.same (app s ts) (app r us) m → (ys : List V) × Unifies A.same (app s ts) (app r us) (after (image A.same m) (ys ++ xs))
    lasting_inside m xs unifies =
        let qs = variables_of_all ts in
        let es = variables_of_all us in
        let ys = (qs ++ es) ++ xs in
        let ρ = image A.same (after (image A.same m) ys) in
        let rows : substitute_all ρ ts ≡ substitute_all ρ us =
        all_changed_after (image A.same m) ys ts (all_made_with P Q (IsAmong ys) ts ts_made (all_from (IsAmong ys) qs (λ x a. among_front (qs ++ es) xs x (among_front qs es x a))))
        ∙ ap change_all (arguments unifies)
        ∙ sym (all_changed_after (image A.same m) ys us (all_made_with P Q (IsAmong ys) us us_made (all_from (IsAmong ys) es (λ x a. among_front (qs ++ es) xs x (among_back qs es x a))))) in
        (qs ++ es, ap (λ z. app z (substitute_all ρ ts)) (head unifies) ∙ ap (app r) rows)
      where
        head : app s (substitute_all (image A.same m) ts) ≡ app r (substitute_all (image A.same m) us) → s ≡ r
        head h = cc

        arguments : app s (substitute_all (image A.same m) ts) ≡ app r (substitute_all (image A.same m) us) → substitute_all (image A.same m) ts ≡ substitute_all (image A.same m) us
        arguments h = cc

    matched_inside : (bs : List (V × Term S V)) → IsCanonicalMatch A.same (app s ts) (app r us) bs → IsListOf P Q bs
    matched_inside bs h =
        match_made (app s ts) (app r us) bs h
        (λ x a. (variables_made P Q ts x ts_made a, images_made P Q (image A.same bs) ts x (subst (AreMadeOf P Q) (sym (arguments h.matches.takes)) us_made) a))
      where
        arguments : app s (substitute_all (image A.same bs) ts) ≡ app r us → substitute_all (image A.same bs) ts ≡ us
        arguments e = cc

  pub canonical_made_inside : (relation : Relation) (s r : S) (ts us : Terms S V) (bs : List (V × Term S V)) → AreMadeOf P Q ts → AreMadeOf P Q us → IsCanonical A.same relation (app s ts) (app r us) bs → IsListOf P Q bs
  canonical_made_inside Unifiable s r ts us bs ts_made us_made h =
      unifier_made (app s ts) (app r us) (of_both (app s ts) (app r us) (λ x a. variables_made P Q ts x ts_made a) (λ x a. variables_made P Q us x us_made a))
      (lasting_inside s r ts us ts_made us_made) bs h
  canonical_made_inside Instances s r ts us bs ts_made us_made h = matched_inside s r ts us ts_made us_made bs h
  canonical_made_inside Generalizations s r ts us bs ts_made us_made h = matched_inside r s us ts us_made ts_made bs h
  canonical_made_inside Variants s r ts us bs ts_made us_made h = matched_inside s r ts us ts_made us_made bs h.1
