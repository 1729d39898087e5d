-- A list that binds each variable to its leader, or a leader to a folded term, is canonical.
use Rattle.std.proofs.Common.{◌≡◌, inl, inr, Bool, true, false, cond, List, [], ◌∷◌, ◌++◌, refl, sym, ◌∙◌, ap, subst}
use Rattle.std.specs.List.{AllByRecursion}
use Rattle.si_defs.specs.Terms.{Term, Terms, var, app, none, more, variables, variables_of_all, substitute, substitute_all}
use Rattle.si_defs.specs.Substitutions.{apply, lefts, rights, IsAmong}
use Rattle.si_defs.specs.Solutions.{bind, in_sequence, IsTriangular, order, AreJoined, IsFirstOf, IsLeader, IsFolded, AreFolded, IsFoldedInside, IsOrdered, IsCanonicalUnifier}
use Rattle.si_defs.proofs.ListLaws.{all_at, all_from, all_front, all_back, all_append, among_front, among_back}
use Rattle.si_defs.proofs.TermLaws.{same_app, same_more}
use Rattle.si_flat.proofs.FirstPlaces.{among_firsts}
use Rattle.si_form.proofs.UnifierLaws.{first_unique, pair_of_right}
use Rattle.si_form.proofs.GeneralLaws.{Solves, solved_stays, general, HasUnifiers, general_unifies, equal_of_joined, joined_of_equal}

module _ {S V : Type 0} where
  mutual
    pub images_inside : (P : V → Type 0) (f : V → Term S V) (t : Term S V) → AllByRecursion (λ y. AllByRecursion P (variables (f y))) (variables t) → AllByRecursion P (variables (substitute f t))
    images_inside P f (var x) h = h.0
    images_inside P f (app s ts) h = all_images_inside P f ts h

    all_images_inside : (P : V → Type 0) (f : V → Term S V) (ts : Terms S V) → AllByRecursion (λ y. AllByRecursion P (variables (f y))) (variables_of_all ts) → AllByRecursion P (variables_of_all (substitute_all f ts))
    all_images_inside P f none h = tt
    all_images_inside P f (more t ts) h =
        all_append P (variables (substitute f t)) (variables_of_all (substitute_all f ts))
        (images_inside P f t (all_front (λ y. AllByRecursion P (variables (f y))) (variables t) (variables_of_all ts) h))
        (all_images_inside P f ts (all_back (λ y. AllByRecursion P (variables (f y))) (variables t) (variables_of_all ts) h))

module _ {S V : Type 0} (same : V → V → Bool) (tells : (x y : V) → same x y ≡ true → x ≡ y) (itself : (x : V) → same x x ≡ true) where
  bound_inside : (P : V → Type 0) (x : V) (u t : Term S V) → AllByRecursion (λ y. same x y ≡ false → P y) (variables t) → AllByRecursion P (variables u) → AllByRecursion P (variables (bind same x u t))
  bound_inside P x u t h k =
      images_inside P (λ y. cond (same x y) u (var y)) t
      (all_from (λ y. AllByRecursion P (variables (cond (same x y) u (var y)))) (variables t) (λ y a. by y (same x y) (all_at (λ z. same x z ≡ false → P z) (variables t) y h a)))
    where
      by : (y : V) (c : Bool) → (c ≡ false → P y) → AllByRecursion P (variables (cond c u (var y)))
      by y true give = k
      by y false give = (give refl, tt)

  pub sequence_inside : (P : V → Type 0) (bs : List (V × Term S V)) (t : Term S V) → AllByRecursion P (variables t) → AllByRecursion (λ u. AllByRecursion P (variables u)) (rights bs) → AllByRecursion P (variables (in_sequence same bs t))
  sequence_inside P [] t h k = h
  sequence_inside P (b ∷ bs) t h k =
      sequence_inside P bs (bind same b.0 b.1 t)
      (bound_inside P b.0 b.1 t (all_from (λ y. same b.0 y ≡ false → P y) (variables t) (λ y a e. all_at P (variables t) y h a)) k.0)
      k.1

  -- no left side is left
  pub lefts_gone : (bs : List (V × Term S V)) (t : Term S V) (x : V) → IsTriangular same bs → IsAmong (lefts bs) x → IsAmong (variables (in_sequence same bs t)) x → ⊥
  lefts_gone [] t x h a v = elim a [ ]
  lefts_gone (b ∷ bs) t x h a v =
      elim a [
        | inl e ↦ all_at (IsNot b.0) (variables (in_sequence same bs (bind same b.0 b.1 t))) x (inside b.0 h.1.0 h.1.1) v e
        | inr k ↦ lefts_gone bs (bind same b.0 b.1 t) x h.2 k v
      ]
    where
      IsNot : V → V → Type 0
      IsNot x y = x ≡ y → ⊥

      apart : (x : V) (u : Term S V) → (IsAmong (variables u) x → ⊥) → AllByRecursion (IsNot x) (variables u)
      apart x u outside = all_from (IsNot x) (variables u) (λ y a e. outside (subst (IsAmong (variables u)) (sym e) a))

      inside : (x : V) → (IsAmong (variables b.1) b.0 → ⊥) → AllByRecursion (λ u. IsAmong (variables u) b.0 → ⊥) (rights bs) → AllByRecursion (IsNot b.0) (variables (in_sequence same bs (bind same b.0 b.1 t)))
      inside x own others =
          sequence_inside (IsNot b.0) bs (bind same b.0 b.1 t)
          (
          bound_inside (IsNot b.0) b.0 b.1 t
          (all_from (λ y. same b.0 y ≡ false → IsNot b.0 y) (variables t) (λ y a e k. let bad : true ≡ false = sym (itself b.0) ∙ ap (same b.0) k ∙ e in cc))
          (apart b.0 b.1 own)
          )
          (all_from (λ u. AllByRecursion (IsNot b.0) (variables u)) (rights bs) (λ u a. apart b.0 u (all_at (λ w. IsAmong (variables w) b.0 → ⊥) (rights bs) u others a)))

  module _ (q e : Term S V) (f : V → Term S V) where
    -- w is the first variable with the image of x
    abbrev pub Leads : V → V → Type 0
    Leads x w = IsFirstOf same q e (λ y. f x ≡ f y) w

    -- no part of the term that is no variable has the image of a variable
    abbrev mutual
      pub IsFoldedBy : Term S V → Type 0
      IsFoldedBy (var x) = Unit {0}
      IsFoldedBy (app s ts) = AllByRecursion (λ y. substitute f (app s ts) ≡ f y → ⊥) (order same q e) × AreFoldedBy ts

      pub AreFoldedBy : Terms S V → Type 0
      AreFoldedBy none = Unit {0}
      AreFoldedBy (more t ts) = IsFoldedBy t × AreFoldedBy ts

    abbrev pub IsFoldedInsideBy : Term S V → Type 0
    IsFoldedInsideBy (var x) = Unit {0}
    IsFoldedInsideBy (app s ts) = AreFoldedBy ts

    -- a variable that is bound to nothing
    pub record IsFree (y : V) : Type 0 where
      pub leads : Leads y y
      pub stands : V
      pub image_is : f y ≡ var stands

    -- what a canonical list is, told by f
    pub record IsFoldedList (bs : List (V × Term S V)) : Type 0 where
      pub triangular : IsTriangular same bs
      pub ordered : IsOrdered same q e bs
      pub solves : Solves f bs
      pub known : AllByRecursion (λ b. IsAmong (order same q e) b.0 × AllByRecursion (IsAmong (order same q e)) (variables b.1)) bs
      pub leaders : AllByRecursion (λ b. AllByRecursion (λ x. Leads x x) (variables b.1)) bs
      pub followers : (x w : V) → IsAmong (order same q e) x → Leads x w → (w ≡ x → ⊥) → IsAmong bs (x, var w)
      pub folded : AllByRecursion (λ b. IsFoldedInsideBy b.1) bs
      pub free : (y : V) → IsAmong (order same q e) y → (IsAmong (lefts bs) y → ⊥) → IsFree y

    abbrev IsLeft : List (V × Term S V) → V → Type 0
    IsLeft bs y = IsAmong (order same q e) y × (IsAmong (lefts bs) y → ⊥)

    module _ (bs : List (V × Term S V)) (h : IsFoldedList bs) where
      one_free : (a b : V) → IsFree a → IsFree b → f a ≡ f b → a ≡ b
      one_free a b p r j =
          first_unique (λ y. f a ≡ f y) (λ y. f b ≡ f y) p.leads.1.0 p.leads.1.1 r.leads.1.0 r.leads.1.1 a b
          (sym p.leads.1.2 ∙ r.leads.1.2) p.leads.0 r.leads.0 p.leads.1.3 r.leads.1.3
          (λ z k. sym j ∙ k)
          (λ z k. j ∙ k)

      mutual
        one_term : (t u : Term S V) → AllByRecursion IsFree (variables t) → AllByRecursion IsFree (variables u) → substitute f t ≡ substitute f u → t ≡ u
        one_term (var a) (var b) p r j = ap var (one_free a b p.0 r.0 j)
        one_term (var a) (app s us) p r j = let bad : var p.0.stands ≡ app s (substitute_all f us) = sym p.0.image_is ∙ j in cc
        one_term (app s ts) (var b) p r j = let bad : app s (substitute_all f ts) ≡ var r.0.stands = j ∙ r.0.image_is in cc
        one_term (app s ts) (app r us) p k j =
            let parts = same_app s r (substitute_all f ts) (substitute_all f us) j in
            ap (λ x. app x ts) parts.0 ∙ ap (app r) (one_row ts us p k parts.1)

        one_row : (ts us : Terms S V) → AllByRecursion IsFree (variables_of_all ts) → AllByRecursion IsFree (variables_of_all us) → substitute_all f ts ≡ substitute_all f us → ts ≡ us
        one_row none none p r j = refl
        one_row none (more u us) p r j = cc
        one_row (more t ts) none p r j = cc
        one_row (more t ts) (more u us) p r j =
            let parts = same_more (substitute f t) (substitute f u) (substitute_all f ts) (substitute_all f us) j in
            ap (λ x. more x ts)
            (one_term t u (all_front IsFree (variables t) (variables_of_all ts) p) (all_front IsFree (variables u) (variables_of_all us) r) parts.0)
            ∙ ap (more u)
            (one_row ts us (all_back IsFree (variables t) (variables_of_all ts) p) (all_back IsFree (variables u) (variables_of_all us) r) parts.1)

      -- what the list makes of a term has free variables alone
      all_free : (t : Term S V) → AllByRecursion (IsAmong (order same q e)) (variables t) → AllByRecursion IsFree (variables (in_sequence same bs t))
      all_free t known =
          all_from IsFree (variables (in_sequence same bs t))
          (λ y a. h.free y (all_at (IsAmong (order same q e)) (variables (in_sequence same bs t)) y (sequence_inside (IsAmong (order same q e)) bs t known rights_known) a) (λ l. lefts_gone bs t y h.triangular l a))
        where
          rights_known : AllByRecursion (λ u. AllByRecursion (IsAmong (order same q e)) (variables u)) (rights bs)
          rights_known =
              all_from (λ u. AllByRecursion (IsAmong (order same q e)) (variables u)) (rights bs)
              (λ u a. let r = pair_of_right bs u a in
              (all_at (λ b. IsAmong (order same q e) b.0 × AllByRecursion (IsAmong (order same q e)) (variables b.1)) bs (r.0, u) h.known r.1).1)

      achieves_by : (t u : Term S V) → AllByRecursion (IsAmong (order same q e)) (variables t) → AllByRecursion (IsAmong (order same q e)) (variables u) → substitute f t ≡ substitute f u → in_sequence same bs t ≡ in_sequence same bs u
      achieves_by t u known_t known_u j =
          one_term (in_sequence same bs t) (in_sequence same bs u) (all_free t known_t) (all_free u known_u)
          (solved_stays same tells itself f bs t h.solves ∙ j ∙ sym (solved_stays same tells itself f bs u h.solves))

  -- ---- such a list is canonical
  module _ (q e : Term S V) (ts : List (V × Term S V)) (has : HasUnifiers same tells itself q e ts) where
    abbrev f : V → Term S V
    f = general same tells itself ts

    to_joined : (t u : Term S V) → substitute f t ≡ substitute f u → AreJoined same q e t u
    to_joined t u j = joined_of_equal same tells itself q e ts has t u j

    of_joined : (t u : Term S V) → AreJoined same q e t u → substitute f t ≡ substitute f u
    of_joined t u j = equal_of_joined same tells itself q e ts has t u j

    leads_of_leader : (x w : V) → IsLeader same q e x w → Leads q e f x w
    leads_of_leader x w l = (
      of_joined (var x) (var w) l.0,
      (
        l.1.0,
        l.1.1,
        l.1.2,
        all_from (λ y. f x ≡ f y → ⊥) l.1.0 (λ y a j. all_at (λ z. AreJoined same q e (var x) (var z) → ⊥) l.1.0 y l.1.3 a (to_joined (var x) (var y) j)),
      ),
    )

    leader_of_leads : (x w : V) → Leads q e f x w → IsLeader same q e x w
    leader_of_leads x w l = (
      to_joined (var x) (var w) l.0,
      (
        l.1.0,
        l.1.1,
        l.1.2,
        all_from (λ y. AreJoined same q e (var x) (var y) → ⊥) l.1.0 (λ y a j. all_at (λ z. f x ≡ f z → ⊥) l.1.0 y l.1.3 a (of_joined (var x) (var y) j)),
      ),
    )

    mutual
      folded_of : (t : Term S V) → IsFoldedBy q e f t → IsFolded same q e t
      folded_of (var x) h = tt
      folded_of (app s us) h = (
        all_from (λ y. AreJoined same q e (app s us) (var y) → ⊥) (order same q e)
            (λ y a j. all_at (λ z. substitute f (app s us) ≡ f z → ⊥) (order same q e) y h.0 a (of_joined (app s us) (var y) j)),
        all_folded_of us h.1,
      )

      all_folded_of : (us : Terms S V) → AreFoldedBy q e f us → AreFolded same q e us
      all_folded_of none h = tt
      all_folded_of (more t us) h = (folded_of t h.0, all_folded_of us h.1)

    inside_of : (t : Term S V) → IsFoldedInsideBy q e f t → IsFoldedInside same q e t
    inside_of (var x) h = tt
    inside_of (app s us) h = all_folded_of us h

    variables_known : (t : Term S V) → ((y : V) → IsAmong (variables t) y → IsAmong (variables q ++ variables e) y) → AllByRecursion (IsAmong (order same q e)) (variables t)
    variables_known t give = all_from (IsAmong (order same q e)) (variables t) (λ y a. among_firsts same tells (variables q ++ variables e) y (give y a))

    pub canonical_of_folded : (bs : List (V × Term S V)) → IsFoldedList q e f bs → IsCanonicalUnifier same q e bs
    canonical_of_folded bs h = record {
      triangular = h.triangular;
      achieves =
          achieves_by q e f bs h q e
          (variables_known q (λ y a. among_front (variables q) (variables e) y a))
          (variables_known e (λ y a. among_back (variables q) (variables e) y a))
          (general_unifies same tells itself q e ts has);
      most_general = λ s u.
          all_from (λ b. apply same s (var b.0) ≡ apply same s b.1) bs
          (λ b a. to_joined (var b.0) b.1 (all_at (λ c. f c.0 ≡ substitute f c.1) bs b h.solves a) s u);
      known = h.known;
      leaders =
          all_from (λ b. AllByRecursion (λ x. IsLeader same q e x x) (variables b.1)) bs
          (λ b a.
          all_from (λ x. IsLeader same q e x x) (variables b.1)
          (λ x v. leader_of_leads x x (all_at (λ y. Leads q e f y y) (variables b.1) x (all_at (λ c. AllByRecursion (λ y. Leads q e f y y) (variables c.1)) bs b h.leaders a) v)));
      followers = λ x w a l differs. h.followers x w a (leads_of_leader x w l) differs;
      folded =
          all_from (λ b. IsFoldedInside same q e b.1) bs
          (λ b a. inside_of b.1 (all_at (λ c. IsFoldedInsideBy q e f c.1) bs b h.folded a));
      ordered = h.ordered;
    }
