-- Two terms are joined where a triangular list makes them equal whose solutions are the unifiers.
use Rattle.std.proofs.Common.{◌≡◌, inl, inr, Bool, true, false, cond, List, [], ◌∷◌, refl, sym, ◌∙◌, ap, subst}
use Rattle.std.specs.List.{AllByRecursion}
use Rattle.si_defs.specs.Terms.{Term, var, variables, substitute}
use Rattle.si_defs.specs.Substitutions.{Substitution, image, lefts, rights, IsAmong}
use Rattle.si_defs.specs.Relations.{Unifies}
use Rattle.si_defs.specs.Solutions.{bind, in_sequence, IsTriangular, AreJoined}
use Rattle.si_defs.proofs.ListLaws.{all_at, all_from}
use Rattle.si_form.proofs.CanonicalLaws.{stays, twice, differs}
use Rattle.si_form.proofs.UnifierLaws.{sequence_map, sequence_is, left_among, right_among}

module _ {S V : Type 0} where
  -- f makes each left side equal to its right side
  abbrev pub Solves : (V → Term S V) → List (V × Term S V) → Type 0
  Solves f bs = AllByRecursion (λ b. f b.0 ≡ substitute f b.1) bs

module _ {S V : Type 0} (same : V → V → Bool) (tells : (x y : V) → same x y ≡ true → x ≡ y) (itself : (x : V) → same x x ≡ true) where
  -- where f solves the list, the list changes no image
  pub solved_stays : (f : V → Term S V) (bs : List (V × Term S V)) (t : Term S V) → Solves f bs → substitute f (in_sequence same bs t) ≡ substitute f t
  solved_stays f [] t h = refl
  solved_stays f (b ∷ bs) t h =
      solved_stays f bs (bind same b.0 b.1 t) h.1
      ∙ twice (λ y. cond (same b.0 y) b.1 (var y)) f f t (λ y. by y (same b.0 y) refl)
    where
      by : (y : V) (c : Bool) → same b.0 y ≡ c → substitute f (cond c b.1 (var y)) ≡ f y
      by y true e = sym h.0 ∙ ap f (tells b.0 y e)
      by y false e = refl

  bind_apart : (x : V) (u t : Term S V) → (IsAmong (variables t) x → ⊥) → bind same x u t ≡ t
  bind_apart x u t apart =
      stays (λ y. cond (same x y) u (var y)) t
      (
      all_from (λ y. cond (same x y) u (var y) ≡ var y) (variables t)
      (λ y a. ap (λ c. cond c u (var y)) (differs same tells itself x y (λ e. apart (subst (IsAmong (variables t)) (sym e) a))))
      )

  -- a triangular list solves itself
  sequence_solves : (bs : List (V × Term S V)) (p : V × Term S V) → IsTriangular same bs → IsAmong bs p → in_sequence same bs (var p.0) ≡ in_sequence same bs p.1
  sequence_solves [] p h a = elim a [ ]
  sequence_solves (b ∷ bs) p h a =
      elim a [
        | inl e ↦
            subst (λ r. in_sequence same (b ∷ bs) (var r.0) ≡ in_sequence same (b ∷ bs) r.1) e
            (ap (in_sequence same bs) (ap (λ c. cond c b.1 (var b.0)) (itself b.0) ∙ sym (bind_apart b.0 b.1 b.1 h.1.0)))
        | inr k ↦
            ap (in_sequence same bs)
            (ap (λ c. cond c b.1 (var p.0)) (differs same tells itself b.0 p.0 (λ e. h.0 (subst (IsAmong (lefts bs)) (sym e) (left_among bs p k)))))
            ∙ sequence_solves bs p h.2 k
            ∙ sym
            (
            ap (in_sequence same bs)
            (bind_apart b.0 b.1 p.1 (all_at (λ t. IsAmong (variables t) b.0 → ⊥) (rights bs) p.1 h.1.1 (right_among bs p k)))
            )
      ]

  -- the map that the list makes
  abbrev pub general : List (V × Term S V) → V → Term S V
  general bs = image same (sequence_map same tells itself bs)

  pub general_solves : (bs : List (V × Term S V)) → IsTriangular same bs → Solves (general bs) bs
  general_solves bs h =
      all_from (λ b. general bs b.0 ≡ substitute (general bs) b.1) bs
      (λ b a. sym (sequence_is same tells itself bs (var b.0)) ∙ sequence_solves bs b h a ∙ sequence_is same tells itself bs b.1)

  -- the solutions of the list are the unifiers
  pub record HasUnifiers (q e : Term S V) (bs : List (V × Term S V)) : Type 0 where
    pub triangular : IsTriangular same bs
    pub every : (s : Substitution S V) → Unifies same q e s → Solves (image same s) bs
    pub only : (s : Substitution S V) → Solves (image same s) bs → Unifies same q e s

  module _ (q e : Term S V) (bs : List (V × Term S V)) (h : HasUnifiers q e bs) where
    pub general_unifies : substitute (general bs) q ≡ substitute (general bs) e
    general_unifies = h.only (sequence_map same tells itself bs) (general_solves bs h.triangular)

    pub equal_of_joined : (t u : Term S V) → AreJoined same q e t u → substitute (general bs) t ≡ substitute (general bs) u
    equal_of_joined t u j = j (sequence_map same tells itself bs) general_unifies

    pub joined_of_equal : (t u : Term S V) → substitute (general bs) t ≡ substitute (general bs) u → AreJoined same q e t u
    joined_of_equal t u equal s unifies =
        through t ∙ ap (substitute (image same s)) (sequence_is same tells itself bs t ∙ equal ∙ sym (sequence_is same tells itself bs u)) ∙ sym (through u)
      where
        through : (v : Term S V) → substitute (image same s) v ≡ substitute (image same s) (in_sequence same bs v)
        through v = sym (solved_stays (image same s) bs v (h.every s unifies))
