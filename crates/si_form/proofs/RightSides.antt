-- The right sides that a most general map makes, folded by leaders, make a canonical list.
use Rattle.std.proofs.Common.{◌≡◌, ◌≢◌, ℕ, ◌+◌, ◌<◌, ◌≤◌, inl, inr, Bool, true, false, List, [], ◌∷◌, suc, zero, refl, sym, ◌∙◌, ap, subst, arith, Option, Some, None}
use Rattle.std.proofs.lemmas.Bool.Decides.{eqb_tells}
use Rattle.std.proofs.lemmas.Bool.{eq-eqb}
use Rattle.std.specs.List.{AllByRecursion}
use Rattle.std.proofs.lemmas.Option.{same_Some}
use Rattle.si_defs.specs.Terms as terms
use Rattle.si_defs.specs.Substitutions.{lefts, IsAmong}
use Rattle.si_defs.specs.Solutions.{order}
use Rattle.si_defs.proofs.ListLaws.{all_at, all_from, all_front, all_back, all_append}
use Rattle.si_flat.specs.Cells.{Variable, same_variable, Term, Terms}
use Rattle.si_unify.specs.declared.slots.Slots.{Slots}
use Rattle.si_unify.specs.Solving.{slot_count, variable_of}
use Rattle.si_form.specs.Folding.{same_terms, or_slot, leader_below, leader, variable_or, folded, folded_all}
use Rattle.si_form.specs.Ordering.{IsListed, AreOrdered}
use Rattle.si_form.specs.Unifying.{StaysFree, IsApplication, ImagesStay, right_by, right_side, IsToBind, HasUses, listed_bindings}
use Rattle.si_flat.proofs.VariableLaws.{variable_is, variable_self}
use Rattle.si_form.proofs.UnifierLaws.{first_unique}
use Rattle.si_form.proofs.FoldedLaws.{Leads, IsFoldedBy, AreFoldedBy, IsFoldedInsideBy, IsFree, IsFoldedList}
use Rattle.si_form.proofs.FoldingLaws.{terms_tell, terms_itself}
use Rattle.si_form.proofs.OrderedLaws.{variables_of_slots, parts_at, left_of, listed_all, triangular_of, ordered_of}

module _ (slots : Slots) (f : Variable → Term) where
  -- ---- leaders
  -- w is the first slot below k with this image
  pub record IsLed (k w : ℕ) (t : Term) : Type 0 where
    pub below : w < k
    pub image_is : f (variable_of slots w) ≡ t
    pub first : (j : ℕ) → j < w → f (variable_of slots j) ≡ t → ⊥

  pub none_led : (k : ℕ) (t : Term) → leader_below slots f k t ≡ None → (j : ℕ) → j < k → f (variable_of slots j) ≡ t → ⊥
  none_led zero t e j less same = omega (arith, less)
  none_led (suc k) t e j less same = by (leader_below slots f k t) refl (same_terms (f (variable_of slots k)) t) refl (λ p l. none_led k t p j l same)
    where
      lower : j ≢ k → j < k
      lower apart = omega (arith, apart, less)

      by : (o : Option ℕ) → leader_below slots f k t ≡ o → (b : Bool) → same_terms (f (variable_of slots k)) t ≡ b → (leader_below slots f k t ≡ None → j < k → ⊥) → ⊥
      by (Some w) p b q later = let bad : Some w ≡ None = sym (ap (λ o. or_slot o (same_terms (f (variable_of slots k)) t) k) p) ∙ e in cc
      by None p true q later = let bad : Some k ≡ None = sym (ap (λ o. or_slot o (same_terms (f (variable_of slots k)) t) k) p ∙ ap (λ b. or_slot None b k) q) ∙ e in cc
      by None p false q later =
          elim (eqb_tells j k) [
            | inl h ↦ (let bad : true ≡ false = sym (terms_itself t) ∙ ap (λ u. same_terms u t) (sym same ∙ ap (λ i. f (variable_of slots i)) h.1) ∙ q in cc)
            | inr h ↦ later p (lower h.1)
          ]

  pub led : (k w : ℕ) (t : Term) → leader_below slots f k t ≡ Some w → IsLed k w t
  led zero w t e = cc
  led (suc k) w t e = by (leader_below slots f k t) refl (same_terms (f (variable_of slots k)) t) refl (λ l. led k w t l)
    where
      by : (o : Option ℕ) → leader_below slots f k t ≡ o → (b : Bool) → same_terms (f (variable_of slots k)) t ≡ b → (leader_below slots f k t ≡ Some w → IsLed k w t) → IsLed (suc k) w t
      by (Some v) p b q later =
          let same : v ≡ w = same_Some v w (sym (ap (λ o. or_slot o (same_terms (f (variable_of slots k)) t) k) p) ∙ e) in
          let r = later (p ∙ ap Some same) in
          record { below = omega (arith, r.below); image_is = r.image_is; first = r.first }
      by None p true q later =
          let same : k ≡ w = same_Some k w (sym (ap (λ o. or_slot o (same_terms (f (variable_of slots k)) t) k) p ∙ ap (λ b. or_slot None b k) q) ∙ e) in
          subst (λ i. IsLed (suc k) i t) same (record { below = omega arith; image_is = terms_tell (f (variable_of slots k)) t q; first = none_led k t p })
      by None p false q later = let bad : None ≡ Some w = sym (ap (λ o. or_slot o (same_terms (f (variable_of slots k)) t) k) p ∙ ap (λ b. or_slot None b k) q) ∙ e in cc

  -- ---- folded terms
  -- a variable that leads itself
  abbrev pub LeadsItself : Variable → Type 0
  LeadsItself y = (w : ℕ) × (w < slot_count slots) × (y ≡ variable_of slots w) × (leader slots f (f (variable_of slots w)) ≡ Some w)

  pub no_leader : {P : Type 0} (y : Variable) → StaysFree slots f y → leader slots f (terms.var y) ≡ None → P
  no_leader y s e = absurd (none_led (slot_count slots) (terms.var y) e s.0 s.1 (ap f (sym s.2) ∙ s.3))

  mutual
    unfolds : (t : Term) → AllByRecursion (StaysFree slots f) (terms.variables t) → (o : Option ℕ) → leader slots f t ≡ o → terms.substitute f (variable_or slots f o (folded slots f t)) ≡ t
    unfolds t h (Some w) e = (led (slot_count slots) w t e).image_is
    unfolds (terms.var y) h None e = no_leader y h.0 e
    unfolds (terms.app s ts) h None e = ap (terms.app s) (all_unfold ts h)

    all_unfold : (ts : Terms) → AllByRecursion (StaysFree slots f) (terms.variables_of_all ts) → terms.substitute_all f (folded_all slots f ts) ≡ ts
    all_unfold terms.none h = refl
    all_unfold (terms.more t ts) h =
        ap (λ u. terms.more u (terms.substitute_all f (folded_all slots f ts))) (unfolds t (all_front (StaysFree slots f) (terms.variables t) (terms.variables_of_all ts) h) (leader slots f t) refl)
        ∙ ap (terms.more t) (all_unfold ts (all_back (StaysFree slots f) (terms.variables t) (terms.variables_of_all ts) h))

  leads_itself : (t : Term) (w : ℕ) → leader slots f t ≡ Some w → LeadsItself (variable_of slots w)
  leads_itself t w e = let l = led (slot_count slots) w t e in (w, l.below, refl, ap (leader slots f) l.image_is ∙ e)

  mutual
    leads_all : (t : Term) → AllByRecursion (StaysFree slots f) (terms.variables t) → (o : Option ℕ) → leader slots f t ≡ o → AllByRecursion LeadsItself (terms.variables (variable_or slots f o (folded slots f t)))
    leads_all t h (Some w) e = (leads_itself t w e, tt)
    leads_all (terms.var y) h None e = no_leader y h.0 e
    leads_all (terms.app s ts) h None e = leads_every ts h

    leads_every : (ts : Terms) → AllByRecursion (StaysFree slots f) (terms.variables_of_all ts) → AllByRecursion LeadsItself (terms.variables_of_all (folded_all slots f ts))
    leads_every terms.none h = tt
    leads_every (terms.more t ts) h =
        all_append LeadsItself (terms.variables (variable_or slots f (leader slots f t) (folded slots f t))) (terms.variables_of_all (folded_all slots f ts))
        (leads_all t (all_front (StaysFree slots f) (terms.variables t) (terms.variables_of_all ts) h) (leader slots f t) refl)
        (leads_every ts (all_back (StaysFree slots f) (terms.variables t) (terms.variables_of_all ts) h))

  -- no folded term is longer than one that f takes to the same term
  mutual
    pub no_longer : (u t : Term) (known : AllByRecursion (λ y. (j : ℕ) × (j < slot_count slots) × (y ≡ variable_of slots j)) (terms.variables u)) → terms.substitute f u ≡ t → (o : Option ℕ) → leader slots f t ≡ o → terms.size (variable_or slots f o (folded slots f t)) ≤ terms.size u
    no_longer (terms.var y) t known e (Some w) l = omega arith
    no_longer (terms.app s us) t known e (Some w) l = omega arith
    no_longer (terms.var y) t known e None l = absurd (none_led (slot_count slots) t l known.0.0 known.0.1 (ap f (sym known.0.2) ∙ e))
    no_longer (terms.app s us) t known e None l =
        subst (λ v. terms.size (folded slots f v) ≤ terms.size (terms.app s us)) e (let k = none_longer us known in omega (arith, k))

    pub none_longer : (us : Terms) (known : AllByRecursion (λ y. (j : ℕ) × (j < slot_count slots) × (y ≡ variable_of slots j)) (terms.variables_of_all us)) → terms.sizes (folded_all slots f (terms.substitute_all f us)) ≤ terms.sizes us
    none_longer terms.none known = omega arith
    none_longer (terms.more u us) known =
        let k = no_longer u (terms.substitute f u) (all_front (λ y. (j : ℕ) × (j < slot_count slots) × (y ≡ variable_of slots j)) (terms.variables u) (terms.variables_of_all us) known) refl (leader slots f (terms.substitute f u)) refl in
        let r = none_longer us (all_back (λ y. (j : ℕ) × (j < slot_count slots) × (y ≡ variable_of slots j)) (terms.variables u) (terms.variables_of_all us) known) in
        omega (arith, k, r)

  -- ---- right sides
  pub right_of_follower : (k w : ℕ) → leader slots f (f (variable_of slots k)) ≡ Some w → w ≢ k → right_side slots f k ≡ terms.var (variable_of slots w)
  right_of_follower k w l apart =
      ap (right_by slots f k) l ∙ elim (eqb_tells w k) [ inl h ↦ absurd (apart h.1) | inr h ↦ rw h.0 refl ]

  pub right_of_leader : (k : ℕ) → leader slots f (f (variable_of slots k)) ≡ Some k → right_side slots f k ≡ folded slots f (f (variable_of slots k))
  right_of_leader k l = ap (right_by slots f k) l ∙ rw (eq-eqb k k refl) refl

  folded_app : (t : Term) → IsApplication t → AllByRecursion (StaysFree slots f) (terms.variables t) → (terms.substitute f (folded slots f t) ≡ t) × AllByRecursion LeadsItself (terms.variables (folded slots f t))
  folded_app (terms.var y) a h = let bad : terms.var y ≡ terms.app a.0 a.1 = a.2 in cc
  folded_app (terms.app s ts) a h = (ap (terms.app s) (all_unfold ts h), leads_every ts h)

  -- what is known of a right side
  pub record IsRight (k : ℕ) (r : Term) : Type 0 where
    pub solves : f (variable_of slots k) ≡ terms.substitute f r
    pub leads : AllByRecursion LeadsItself (terms.variables r)

  pub right_is : ImagesStay slots f → (k : ℕ) → IsToBind slots f k → IsRight k (right_side slots f k)
  right_is stays k b =
      elim b.1 [
        | inl follows ↦
            subst (IsRight k) (sym (right_of_follower k follows.0 follows.1 follows.2)) (record {
              solves = sym (led (slot_count slots) follows.0 (f (variable_of slots k)) follows.1).image_is;
              leads = (leads_itself (f (variable_of slots k)) follows.0 follows.1, tt);
            })
        | inr leads ↦
            let r = folded_app (f (variable_of slots k)) leads.1 (stays k b.0) in
            subst (IsRight k) (sym (right_of_leader k leads.0)) (record { solves = sym r.0; leads = r.1 })
      ]

  module _ (q e : Term) (order_is : order same_variable q e ≡ variables_of_slots slots 0 (slot_count slots)) where
    slot_in : (n k : ℕ) (y : Variable) → IsAmong (variables_of_slots slots k n) y → (j : ℕ) × (j < k + n) × (y ≡ variable_of slots j)
    slot_in zero k y a = elim a [ ]
    slot_in (suc n) k y a = elim a [ inl s ↦ (k, omega arith, sym s) | inr b ↦ (let r = slot_in n (suc k) y b in (r.0, omega (arith, r.1), r.2)) ]

    among_from : (n k d j : ℕ) → j ≡ k + d → d < n → IsAmong (variables_of_slots slots k n) (variable_of slots j)
    among_from zero k d j s less = absurd (omega (arith, less))
    among_from (suc n) k zero j s less = inl (ap (variable_of slots) (omega (arith, s)))
    among_from (suc n) k (suc d) j s less = inr (among_from n (suc k) d j (omega (arith, s)) (omega (arith, less)))

    slot_of_known : (y : Variable) → IsAmong (order same_variable q e) y → (j : ℕ) × (j < slot_count slots) × (y ≡ variable_of slots j)
    slot_of_known y a = let r = slot_in (slot_count slots) 0 y (subst (λ l. IsAmong l y) order_is a) in (r.0, omega (arith, r.1), r.2)

    known_slot : (j : ℕ) → j < slot_count slots → IsAmong (order same_variable q e) (variable_of slots j)
    known_slot j less = subst (λ l. IsAmong l (variable_of slots j)) (sym order_is) (among_from (slot_count slots) 0 j j (omega arith) less)

    -- the leader of a slot leads it
    leads_of : (x : Variable) (w : ℕ) → leader slots f (f x) ≡ Some w → Leads same_variable variable_is variable_self q e f x (variable_of slots w)
    leads_of x w l =
        let h = led (slot_count slots) w (f x) l in
        let p = parts_at slots 0 (slot_count slots) w w (omega arith) h.below in (
          sym h.image_is,
          (
            p.before,
            p.after,
            order_is ∙ p.whole,
            all_from (λ y. f x ≡ f y → ⊥) p.before
                (λ y a s. let r = all_at (λ z. (j : ℕ) × (z ≡ variable_of slots j) × (j < w)) p.before y p.lower a in h.first r.0 r.2 (ap f (sym r.1) ∙ sym s)),
          ),
        )

    leader_is : (x w : Variable) → Leads same_variable variable_is variable_self q e f x w → (k : ℕ) → leader slots f (f x) ≡ Some k → variable_of slots k ≡ w
    leader_is x w h k l =
        let m = leads_of x k l in
        first_unique (λ y. f x ≡ f y) (λ y. f x ≡ f y) m.1.0 m.1.1 h.1.0 h.1.1 (variable_of slots k) w (sym m.1.2 ∙ h.1.2) m.0 h.0 m.1.3 h.1.3 (λ z p. p) (λ z p. p)

    has_leader : (k : ℕ) → k < slot_count slots → (w : ℕ) × (leader slots f (f (variable_of slots k)) ≡ Some w)
    has_leader k less = by (leader slots f (f (variable_of slots k))) refl
      where
        by : (o : Option ℕ) → leader slots f (f (variable_of slots k)) ≡ o → (w : ℕ) × (leader slots f (f (variable_of slots k)) ≡ Some w)
        by None l = absurd (none_led (slot_count slots) (f (variable_of slots k)) l k less refl)
        by (Some w) l = (w, l)

    mutual
      folds : (t : Term) → AllByRecursion (StaysFree slots f) (terms.variables t) → (o : Option ℕ) → leader slots f t ≡ o → IsFoldedBy same_variable variable_is variable_self q e f (variable_or slots f o (folded slots f t))
      folds t h (Some w) l = tt
      folds (terms.var y) h None l = no_leader y h.0 l
      folds (terms.app s ts) h None l = (
        all_from (λ y. terms.substitute f (terms.app s (folded_all slots f ts)) ≡ f y → ⊥) (order same_variable q e)
            (λ y a j. let r = slot_of_known y a in none_led (slot_count slots) (terms.app s ts) l r.0 r.1 (ap f (sym r.2) ∙ sym j ∙ ap (terms.app s) (all_unfold ts h))),
        all_folds ts h,
      )

      all_folds : (ts : Terms) → AllByRecursion (StaysFree slots f) (terms.variables_of_all ts) → AreFoldedBy same_variable variable_is variable_self q e f (folded_all slots f ts)
      all_folds terms.none h = tt
      all_folds (terms.more t ts) h = (
        folds t (all_front (StaysFree slots f) (terms.variables t) (terms.variables_of_all ts) h) (leader slots f t) refl,
        all_folds ts (all_back (StaysFree slots f) (terms.variables t) (terms.variables_of_all ts) h),
      )

    -- ---- right sides
    folded_in : (t : Term) → AllByRecursion (StaysFree slots f) (terms.variables t) → IsFoldedInsideBy same_variable variable_is variable_self q e f (folded slots f t)
    folded_in (terms.var y) h = tt
    folded_in (terms.app s ts) h = all_folds ts h

    inside_is : ImagesStay slots f → (k : ℕ) → IsToBind slots f k → IsFoldedInsideBy same_variable variable_is variable_self q e f (right_side slots f k)
    inside_is stays k b =
        elim b.1 [
          | inl follows ↦ subst (IsFoldedInsideBy same_variable variable_is variable_self q e f) (sym (right_of_follower k follows.0 follows.1 follows.2)) tt
          | inr leads ↦ subst (IsFoldedInsideBy same_variable variable_is variable_self q e f) (sym (right_of_leader k leads.0)) (folded_in (f (variable_of slots k)) (stays k b.0))
        ]

    module _ (used : ℕ → Option (List ℕ)) (ks : List ℕ) (ordered : AreOrdered used ks) (to_bind : (k : ℕ) → IsListed used k → IsToBind slots f k) (of_bind : (k : ℕ) → IsToBind slots f k → IsListed used k) (has : (k : ℕ) → IsListed used k → HasUses used slots (right_side slots f) k) (stays : ImagesStay slots f) where
      each : (P : Variable × Term → Type 0) (some : List ℕ) → AllByRecursion (IsListed used) some → ((k : ℕ) → IsListed used k → P (variable_of slots k, right_side slots f k)) → AllByRecursion P (listed_bindings slots (right_side slots f) some)
      each P [] l give = tt
      each P (k ∷ some) l give = (give k l.0, each P some l.1 give)

      all_bindings : (P : Variable × Term → Type 0) → ((k : ℕ) → IsListed used k → P (variable_of slots k, right_side slots f k)) → AllByRecursion P (listed_bindings slots (right_side slots f) ks)
      all_bindings P give = each P ks (listed_all used [] ks ordered.next) give

      pair_among : (some : List ℕ) (k : ℕ) → IsAmong some k → IsAmong (listed_bindings slots (right_side slots f) some) (variable_of slots k, right_side slots f k)
      pair_among [] k a = elim a [ ]
      pair_among (j ∷ some) k a = elim a [ inl s ↦ inl (ap (λ i. (variable_of slots i, right_side slots f i)) s) | inr b ↦ inr (pair_among some k b) ]

      pub folded_list : IsFoldedList same_variable variable_is variable_self q e f (listed_bindings slots (right_side slots f) ks)
      folded_list = record {
        triangular = triangular_of used slots (right_side slots f) q e (slot_count slots) order_is (λ k l. (to_bind k l).0) has [] ks ordered.next;
        ordered = ordered_of used slots (right_side slots f) q e (slot_count slots) order_is (λ k l. (to_bind k l).0) has [] ks ordered.next ordered.all;
        solves = all_bindings (λ b. f b.0 ≡ terms.substitute f b.1) (λ k l. (right_is stays k (to_bind k l)).solves);
        known =
            all_bindings (λ b. IsAmong (order same_variable q e) b.0 × AllByRecursion (IsAmong (order same_variable q e)) (terms.variables b.1))
            (λ k l. (
              known_slot k (to_bind k l).0,
              all_from (IsAmong (order same_variable q e)) (terms.variables (right_side slots f k))
                  (λ y a. let r = all_at LeadsItself (terms.variables (right_side slots f k)) y (right_is stays k (to_bind k l)).leads a in subst (IsAmong (order same_variable q e)) (sym r.2) (known_slot r.0 r.1)),
            ));
        leaders =
            all_bindings (λ b. AllByRecursion (λ x. Leads same_variable variable_is variable_self q e f x x) (terms.variables b.1))
            (λ k l.
            all_from (λ x. Leads same_variable variable_is variable_self q e f x x) (terms.variables (right_side slots f k))
            (λ y a.
            let r = all_at LeadsItself (terms.variables (right_side slots f k)) y (right_is stays k (to_bind k l)).leads a in
            subst (λ x. Leads same_variable variable_is variable_self q e f x x) (sym r.2) (leads_of (variable_of slots r.0) r.0 r.3)));
        followers = λ x w a leads differs. follows x w (slot_of_known x a) leads differs;
        folded = all_bindings (λ b. IsFoldedInsideBy same_variable variable_is variable_self q e f b.1) (λ k l. inside_is stays k (to_bind k l));
        free = λ y a apart. frees y (slot_of_known y a) apart;
      }
        where
          follows : (x w : Variable) → (j : ℕ) × (j < slot_count slots) × (x ≡ variable_of slots j) → Leads same_variable variable_is variable_self q e f x w → (w ≡ x → ⊥) → IsAmong (listed_bindings slots (right_side slots f) ks) (x, terms.var w)
          follows x w s leads differs =
              let own = has_leader s.0 s.1 in
              let w_is : variable_of slots own.0 ≡ w = leader_is x w leads own.0 (ap (λ y. leader slots f (f y)) s.2 ∙ own.1) in
              let apart : own.0 ≢ s.0 = λ same. differs (sym w_is ∙ ap (variable_of slots) same ∙ sym s.2) in
              let listed = of_bind s.0 (s.1, inl (own.0, own.1, apart)) in
              subst (λ p. IsAmong (listed_bindings slots (right_side slots f) ks) p)
              (
              ap (λ t. (variable_of slots s.0, t)) (right_of_follower s.0 own.0 own.1 apart ∙ ap (λ v. terms.var v) w_is)
              ∙ ap (λ v. (v, terms.var w)) (sym s.2)
              )
              (pair_among ks s.0 (ordered.all s.0 listed))

          free_by : (y : Variable) (t : Term) → f y ≡ t → (IsApplication t → ⊥) → Leads same_variable variable_is variable_self q e f y y → IsFree same_variable variable_is variable_self q e f y
          free_by y (terms.var z) e none leads = record { leads = leads; stands = z; image_is = e }
          free_by y (terms.app s ts) e none leads = absurd (none (s, ts, refl))

          frees : (y : Variable) → (j : ℕ) × (j < slot_count slots) × (y ≡ variable_of slots j) → (IsAmong (lefts (listed_bindings slots (right_side slots f) ks)) y → ⊥) → IsFree same_variable variable_is variable_self q e f y
          frees y s apart =
              let own = has_leader s.0 s.1 in
              let not_listed : IsListed used s.0 → ⊥ =
              λ l. apart (subst (IsAmong (lefts (listed_bindings slots (right_side slots f) ks))) (sym s.2) (left_of used slots (right_side slots f) ks s.0 (ordered.all s.0 l))) in
              elim (eqb_tells own.0 s.0) [
                | inl same ↦
                    let leads_self : leader slots f (f (variable_of slots s.0)) ≡ Some s.0 = own.1 ∙ ap Some same.1 in
                    subst (IsFree same_variable variable_is variable_self q e f) (sym s.2)
                    (free_by (variable_of slots s.0) (f (variable_of slots s.0)) refl (λ a. not_listed (of_bind s.0 (s.1, inr (leads_self, a)))) (leads_of (variable_of slots s.0) s.0 leads_self))
                | inr differs ↦ absurd (not_listed (of_bind s.0 (s.1, inl (own.0, own.1, differs.1))))
              ]
