-- There is at most one canonical list of a unification.
use Rattle.std.proofs.Common.{◌≡◌, ◌⊎◌, inl, inr, Bool, true, false, cond, List, [], ◌∷◌, ◌++◌, refl, sym, ◌∙◌, ap, subst}
use Rattle.std.specs.List.{AllByRecursion}
use Rattle.si_defs.specs.Terms.{Term, Terms, var, app, none, more, variables, variables_of_all, substitute, substitute_all}
use Rattle.si_defs.specs.Substitutions.{Substitution, image, apply, lefts, rights, IsAmong}
use Rattle.si_defs.specs.Relations.{Unifies}
use Rattle.si_defs.specs.Solutions.{bind, in_sequence, IsTriangular, order, AreJoined, IsLeader, IsFolded, AreFolded, IsFoldedInside, IsOrdered, IsCanonicalUnifier}
use Rattle.si_defs.proofs.ListLaws.{all_at, all_from, all_front, all_back}
use Rattle.si_form.proofs.CanonicalLaws.{stays, twice}

-- ---- the first of a list with a property
pub first_unique : {X : Type 0} (P Q : X → Type 0) (b1 a1 b2 a2 : List X) (x y : X) → b1 ++ x ∷ a1 ≡ b2 ++ y ∷ a2 → P x → Q y → AllByRecursion (λ z. P z → ⊥) b1 → AllByRecursion (λ z. Q z → ⊥) b2 → ((z : X) → P z → Q z) → ((z : X) → Q z → P z) → x ≡ y
first_unique P Q [] a1 [] a2 x y e p q h k to from = cc
first_unique P Q [] a1 (z ∷ b2) a2 x y e p q h k to from = let same : x ≡ z = cc in absurd (k.0 (subst Q same (to x p)))
first_unique P Q (z ∷ b1) a1 [] a2 x y e p q h k to from = let same : z ≡ y = cc in absurd (h.0 (subst P (sym same) (from y q)))
first_unique P Q (z ∷ b1) a1 (w ∷ b2) a2 x y e p q h k to from =
    let rest : b1 ++ x ∷ a1 ≡ b2 ++ y ∷ a2 = cc in
    first_unique P Q b1 a1 b2 a2 x y rest p q h.1 k.1 to from

-- ---- pairs of a list
pub left_among : {S V : Type 0} (bs : List (V × Term S V)) (p : V × Term S V) → IsAmong bs p → IsAmong (lefts bs) p.0
left_among [] p a = elim a [ ]
left_among (b ∷ bs) p a = elim a [ inl e ↦ inl (ap (λ x. x.0) e) | inr k ↦ inr (left_among bs p k) ]

pub right_among : {S V : Type 0} (bs : List (V × Term S V)) (p : V × Term S V) → IsAmong bs p → IsAmong (rights bs) p.1
right_among [] p a = elim a [ ]
right_among (b ∷ bs) p a = elim a [ inl e ↦ inl (ap (λ x. x.1) e) | inr k ↦ inr (right_among bs p k) ]

pub pair_of_left : {S V : Type 0} (bs : List (V × Term S V)) (x : V) → IsAmong (lefts bs) x → (t : Term S V) × IsAmong bs (x, t)
pair_of_left [] x a = elim a [ ]
pair_of_left (b ∷ bs) x a =
    elim a [
      | inl e ↦ (b.1, inl (ap (λ y. (y, b.1)) e))
      | inr k ↦ let r = pair_of_left bs x k in (r.0, inr r.1)
    ]

pub pair_of_right : {S V : Type 0} (bs : List (V × Term S V)) (t : Term S V) → IsAmong (rights bs) t → (x : V) × IsAmong bs (x, t)
pair_of_right [] t a = elim a [ ]
pair_of_right (b ∷ bs) t a =
    elim a [
      | inl e ↦ (b.0, inl (ap (λ u. (b.0, u)) e))
      | inr k ↦ let r = pair_of_right bs t k in (r.0, inr r.1)
    ]

module _ {V : Type 0} (same : V → V → Bool) (tells : (x y : V) → same x y ≡ true → x ≡ y) (itself : (x : V) → same x x ≡ true) where
  pub among_tells : (xs : List V) (x : V) → IsAmong xs x ⊎ (IsAmong xs x → ⊥)
  among_tells [] x = inr (λ a. elim a [ ])
  among_tells (y ∷ ys) x = by (same y x) refl (among_tells ys x)
    where
      by : (c : Bool) → same y x ≡ c → IsAmong ys x ⊎ (IsAmong ys x → ⊥) → IsAmong (y ∷ ys) x ⊎ (IsAmong (y ∷ ys) x → ⊥)
      by true e r = inl (inl (tells y x e))
      by false e r =
          elim r [
            | inl a ↦ inl (inr a)
            | inr n ↦ inr (λ a. elim a [ inl f ↦ (let bad : true ≡ false = sym (itself x) ∙ ap (λ z. same z x) (sym f) ∙ e in cc) | inr k ↦ n k ])
          ]

module _ {S V : Type 0} (same : V → V → Bool) (tells : (x y : V) → same x y ≡ true → x ≡ y) (itself : (x : V) → same x x ≡ true) where
  -- a left side has one right side
  one_right : (bs : List (V × Term S V)) (x : V) (t u : Term S V) → IsTriangular same bs → IsAmong bs (x, t) → IsAmong bs (x, u) → t ≡ u
  one_right [] x t u h a b = elim a [ ]
  one_right (p ∷ bs) x t u h a b =
      elim a [
        | inl e ↦
            elim b [
              | inl f ↦ sym (ap (λ y. y.1) e) ∙ ap (λ y. y.1) f
              | inr k ↦ absurd (h.0 (subst (IsAmong (lefts bs)) (sym (ap (λ y. y.0) e)) (left_among bs (x, u) k)))
            ]
        | inr j ↦
            elim b [
              | inl f ↦ absurd (h.0 (subst (IsAmong (lefts bs)) (sym (ap (λ y. y.0) f)) (left_among bs (x, t) j)))
              | inr k ↦ one_right bs x t u h.2 j k
            ]
      ]

  -- a left side isn't in its own right side
  not_inside : (bs : List (V × Term S V)) (x : V) (t : Term S V) → IsTriangular same bs → IsAmong bs (x, t) → IsAmong (variables t) x → ⊥
  not_inside [] x t h a v = elim a [ ]
  not_inside (p ∷ bs) x t h a v =
      elim a [
        | inl e ↦ h.1.0 (subst (λ r. IsAmong (variables r.1) r.0) (sym e) v)
        | inr k ↦ not_inside bs x t h.2 k v
      ]

  -- ---- one after the other as one map
  abbrev pub sequence_map : List (V × Term S V) → Substitution S V
  sequence_map [] = []
  sequence_map (b ∷ bs) = (b.0, in_sequence same bs b.1) ∷ sequence_map bs

  pub sequence_is : (bs : List (V × Term S V)) (t : Term S V) → in_sequence same bs t ≡ apply same (sequence_map bs) t
  sequence_is [] t = sym (stays (image same []) t (all_from (λ x. var x ≡ var x) (variables t) (λ x a. refl)))
  sequence_is (b ∷ bs) t =
      sequence_is bs (bind same b.0 b.1 t)
      ∙ twice (λ y. cond (same b.0 y) b.1 (var y)) (image same (sequence_map bs)) (image same (sequence_map (b ∷ bs))) t (λ y. by y (same b.0 y) (sym (sequence_is bs b.1)))
    where
      by : (y : V) (c : Bool) → substitute (image same (sequence_map bs)) b.1 ≡ in_sequence same bs b.1 → substitute (image same (sequence_map bs)) (cond c b.1 (var y)) ≡ cond c (in_sequence same bs b.1) (image same (sequence_map bs) y)
      by y true e = e
      by y false e = refl

  pub free_stays : (bs : List (V × Term S V)) (y : V) → (IsAmong (lefts bs) y → ⊥) → in_sequence same bs (var y) ≡ var y
  free_stays [] y apart = refl
  free_stays (b ∷ bs) y apart = by (same b.0 y) refl (free_stays bs y (λ a. apart (inr a)))
    where
      by : (c : Bool) → same b.0 y ≡ c → in_sequence same bs (var y) ≡ var y → in_sequence same bs (cond c b.1 (var y)) ≡ var y
      by true e h = absurd (apart (inl (tells b.0 y e)))
      by false e h = h

  sequence_of_app : (bs : List (V × Term S V)) (s : S) (ts : Terms S V) → (us : Terms S V) × (in_sequence same bs (app s ts) ≡ app s us)
  sequence_of_app [] s ts = (ts, refl)
  sequence_of_app (b ∷ bs) s ts = sequence_of_app bs s (substitute_all (λ y. cond (same b.0 y) b.1 (var y)) ts)

  module _ (q e : Term S V) where
    abbrev J : Term S V → Term S V → Type 0
    J t u = AreJoined same q e t u

    joined_back : (t u : Term S V) → J t u → J u t
    joined_back t u j s h = sym (j s h)

    joined_on : (t u v : Term S V) → J t u → J u v → J t v
    joined_on t u v j k s h = j s h ∙ k s h

    -- the first one joined is one for all that are joined
    one_leader : (a b : V) → IsLeader same q e a a → IsLeader same q e b b → J (var a) (var b) → a ≡ b
    one_leader a b h k j =
        first_unique (λ y. J (var a) (var y)) (λ y. J (var b) (var y)) h.1.0 h.1.1 k.1.0 k.1.1 a b (sym h.1.2 ∙ k.1.2) h.0 k.0 h.1.3 k.1.3
        (λ z p. joined_on (var b) (var a) (var z) (joined_back (var a) (var b) j) p)
        (λ z p. joined_on (var a) (var b) (var z) j p)

    -- rows whose terms are joined, place by place
    abbrev Joined : Terms S V → Terms S V → Type 0
    Joined none none = Unit {0}
    Joined none (more u us) = ⊥
    Joined (more t ts) none = ⊥
    Joined (more t ts) (more u us) = J t u × Joined ts us

    module _ (unifier : Substitution S V) (unifies : Unifies same q e unifier) where
      joined_rows : (ts us : Terms S V) → ((s : Substitution S V) → Unifies same q e s → substitute_all (image same s) ts ≡ substitute_all (image same s) us) → Joined ts us
      joined_rows none none give = tt
      joined_rows none (more u us) give = let bad = give unifier unifies in cc
      joined_rows (more t ts) none give = let bad = give unifier unifies in cc
      joined_rows (more t ts) (more u us) give = (λ s h. first s (give s h), joined_rows ts us (λ s h. rest s (give s h)))
        where
          first : (s : Substitution S V) → more (apply same s t) (substitute_all (image same s) ts) ≡ more (apply same s u) (substitute_all (image same s) us) → apply same s t ≡ apply same s u
          first s h = cc

          rest : (s : Substitution S V) → more (apply same s t) (substitute_all (image same s) ts) ≡ more (apply same s u) (substitute_all (image same s) us) → substitute_all (image same s) ts ≡ substitute_all (image same s) us
          rest s h = cc

      joined_heads : (s r : S) (ts us : Terms S V) → J (app s ts) (app r us) → (s ≡ r) × Joined ts us
      joined_heads s r ts us j = (head (j unifier unifies), joined_rows ts us (λ m h. arguments m (j m h)))
        where
          head : app s (substitute_all (image same unifier) ts) ≡ app r (substitute_all (image same unifier) us) → s ≡ r
          head h = cc

          arguments : (m : Substitution S V) → app s (substitute_all (image same m) ts) ≡ app r (substitute_all (image same m) us) → substitute_all (image same m) ts ≡ substitute_all (image same m) us
          arguments m h = cc

      -- the variables are leaders and known
      abbrev IsTidy : V → Type 0
      IsTidy x = IsLeader same q e x x × IsAmong (order same q e) x

      mutual
        same_folded : (t u : Term S V) → AllByRecursion IsTidy (variables t) → AllByRecursion IsTidy (variables u) → IsFolded same q e t → IsFolded same q e u → J t u → t ≡ u
        same_folded (var a) (var b) h k f g j = ap var (one_leader a b h.0.0 k.0.0 j)
        same_folded (var a) (app r us) h k f g j = absurd (all_at (λ y. J (app r us) (var y) → ⊥) (order same q e) a g.0 h.0.1 (joined_back (var a) (app r us) j))
        same_folded (app s ts) (var b) h k f g j = absurd (all_at (λ y. J (app s ts) (var y) → ⊥) (order same q e) b f.0 k.0.1 j)
        same_folded (app s ts) (app r us) h k f g j =
            let heads = joined_heads s r ts us j in
            ap (λ x. app x ts) heads.0 ∙ ap (app r) (same_rows ts us h k f.1 g.1 heads.1)

        same_rows : (ts us : Terms S V) → AllByRecursion IsTidy (variables_of_all ts) → AllByRecursion IsTidy (variables_of_all us) → AreFolded same q e ts → AreFolded same q e us → Joined ts us → ts ≡ us
        same_rows none none h k f g j = refl
        same_rows none (more u us) h k f g j = elim j [ ]
        same_rows (more t ts) none h k f g j = elim j [ ]
        same_rows (more t ts) (more u us) h k f g j =
            ap (λ x. more x ts)
            (
            same_folded t u
            (all_front IsTidy (variables t) (variables_of_all ts) h)
            (all_front IsTidy (variables u) (variables_of_all us) k) f.0 g.0 j.0
            )
            ∙ ap (more u)
            (same_rows ts us (all_back IsTidy (variables t) (variables_of_all ts) h) (all_back IsTidy (variables u) (variables_of_all us) k) f.1 g.1 j.1)

    -- ---- the same pairs
    module _ (bs : List (V × Term S V)) (h : IsCanonicalUnifier same q e bs) where
      abbrev unifier_of : Substitution S V
      unifier_of = sequence_map bs

      unifies_by : Unifies same q e (sequence_map bs)
      unifies_by = sym (sequence_is bs q) ∙ h.achieves ∙ sequence_is bs e

      joined_pair : (x : V) (t : Term S V) → IsAmong bs (x, t) → J (var x) t
      joined_pair x t a s u = all_at (λ b. apply same s (var b.0) ≡ apply same s b.1) bs (x, t) (h.most_general s u) a

      -- a right side that is a variable is the leader of its left side
      leader_of : (x a : V) → IsAmong bs (x, var a) → IsLeader same q e x a
      leader_of x a p =
          let leader : IsLeader same q e a a = (all_at (λ b. AllByRecursion (λ y. IsLeader same q e y y) (variables b.1)) bs (x, var a) h.leaders p).0 in
          let j : J (var x) (var a) = joined_pair x (var a) p in (
            j,
            (
              leader.1.0,
              leader.1.1,
              leader.1.2,
              all_from (λ y. J (var x) (var y) → ⊥) leader.1.0
                  (λ y b k. all_at (λ z. J (var a) (var z) → ⊥) leader.1.0 y leader.1.3 b (joined_on (var a) (var x) (var y) (joined_back (var x) (var a) j) k)),
            ),
          )

      tidy_side : (x : V) (t : Term S V) → IsAmong bs (x, t) → AllByRecursion (λ y. IsLeader same q e y y × IsAmong (order same q e) y) (variables t)
      tidy_side x t p =
          all_from (λ y. IsLeader same q e y y × IsAmong (order same q e) y) (variables t)
          (λ y a. (
            all_at (λ z. IsLeader same q e z z) (variables t) y (all_at (λ b. AllByRecursion (λ z. IsLeader same q e z z) (variables b.1)) bs (x, t) h.leaders p) a,
            all_at (IsAmong (order same q e)) (variables t) y
                (all_at (λ b. IsAmong (order same q e) b.0 × AllByRecursion (IsAmong (order same q e)) (variables b.1)) bs (x, t) h.known p).1 a,
          ))

    module _ (bs cs : List (V × Term S V)) (h : IsCanonicalUnifier same q e bs) (k : IsCanonicalUnifier same q e cs) where
      -- a variable that is bound to its leader in one list is so in the other
      follows_too : (x a : V) → IsAmong bs (x, var a) → IsAmong cs (x, var a)
      follows_too x a p =
          k.followers x a
          (all_at (λ b. IsAmong (order same q e) b.0 × AllByRecursion (IsAmong (order same q e)) (variables b.1)) bs (x, var a) h.known p).0
          (leader_of bs h x a p)
          (λ is. not_inside bs x (var a) h.triangular p (inl is))

    module _ (bs cs : List (V × Term S V)) (h : IsCanonicalUnifier same q e bs) (k : IsCanonicalUnifier same q e cs) where
      bound_too : (x : V) (s : S) (ts : Terms S V) → IsAmong bs (x, app s ts) → IsAmong (lefts cs) x
      bound_too x s ts p =
          elim (among_tells same tells itself (lefts cs) x) [
            | inl a ↦ a
            | inr free ↦
                let told : in_sequence same cs (var x) ≡ in_sequence same cs (app s ts) =
                sequence_is cs (var x) ∙ joined_pair bs h x (app s ts) p (sequence_map cs) (unifies_by cs k) ∙ sym (sequence_is cs (app s ts)) in
                let shape = sequence_of_app cs s ts in
                let bad : var x ≡ app s shape.0 = sym (free_stays cs x free) ∙ told ∙ shape.1 in
                cc
          ]

      same_right : (x : V) (s : S) (ts : Terms S V) (u : Term S V) → IsAmong bs (x, app s ts) → IsAmong cs (x, u) → u ≡ app s ts
      same_right x s ts (var b) p c = let other = follows_too cs bs k h x b c in sym (one_right bs x (app s ts) (var b) h.triangular p other)
      same_right x s ts (app r us) p c =
          let j : J (app s ts) (app r us) = joined_on (app s ts) (var x) (app r us) (joined_back (var x) (app s ts) (joined_pair bs h x (app s ts) p)) (joined_pair cs k x (app r us) c) in
          let heads = joined_heads (sequence_map bs) (unifies_by bs h) s r ts us j in
          let rows =
          same_rows (sequence_map bs) (unifies_by bs h) ts us (tidy_side bs h x (app s ts) p) (tidy_side cs k x (app r us) c)
          (all_at (λ b. IsFoldedInside same q e b.1) bs (x, app s ts) h.folded p)
          (all_at (λ b. IsFoldedInside same q e b.1) cs (x, app r us) k.folded c) heads.1 in
          sym (ap (λ y. app y ts) heads.0 ∙ ap (app r) rows)

      same_pair : (x : V) (t : Term S V) → IsAmong bs (x, t) → IsAmong cs (x, t)
      same_pair x (var a) p = follows_too bs cs h k x a p
      same_pair x (app s ts) p =
          let other = pair_of_left cs x (bound_too x s ts p) in
          subst (λ u. IsAmong cs (x, u)) (same_right x s ts other.0 p other.1) other.1

    -- ---- the same order
    same_order :
        (bs cs : List (V × Term S V))
        → IsTriangular same bs
        → IsTriangular same cs
        → IsOrdered same q e bs
        → IsOrdered same q e cs
        → ((p : V × Term S V) → IsAmong bs p → IsAmong cs p)
        → ((p : V × Term S V) → IsAmong cs p → IsAmong bs p)
        → bs ≡ cs
    same_order [] [] tb tc ob oc to from = refl
    same_order [] (c ∷ cs) tb tc ob oc to from = elim (from c (inl refl)) [ ]
    same_order (b ∷ bs) [] tb tc ob oc to from = elim (to b (inl refl)) [ ]
    same_order (b ∷ bs) (c ∷ cs) tb tc ob oc to from =
        let left : b.0 ≡ c.0 =
        first_unique (Free (b ∷ bs)) (Free (c ∷ cs)) ob.0.1.0 ob.0.1.1 oc.0.1.0 oc.0.1.1 b.0 c.0 (sym ob.0.1.2 ∙ oc.0.1.2) ob.0.0 oc.0.0 ob.0.1.3 oc.0.1.3
        (free_too (b ∷ bs) (c ∷ cs) to from) (free_too (c ∷ cs) (b ∷ bs) from to) in
        let heads : b ≡ c =
        elim (to b (inl refl)) [
          | inl same_one ↦ sym same_one
          | inr later ↦ absurd (tc.0 (subst (IsAmong (lefts cs)) left (left_among cs b later)))
        ] in
        let behind : (p : V × Term S V) → IsAmong bs p → IsAmong cs p =
        λ p a.
        elim (to p (inr a)) [
          | inl first ↦ absurd (tb.0 (subst (IsAmong (lefts bs)) (sym (ap (λ z. z.0) (heads ∙ first))) (left_among bs p a)))
          | inr k ↦ k
        ] in
        let behind_too : (p : V × Term S V) → IsAmong cs p → IsAmong bs p =
        λ p a.
        elim (from p (inr a)) [
          | inl first ↦ absurd (tc.0 (subst (IsAmong (lefts cs)) (sym (ap (λ z. z.0) (sym heads ∙ first))) (left_among cs p a)))
          | inr k ↦ k
        ] in
        ap (λ x. x ∷ bs) heads ∙ ap (λ l. c ∷ l) (same_order bs cs tb.2 tc.2 ob.1 oc.1 behind behind_too)
      where
        Free : List (V × Term S V) → V → Type 0
        Free l x = IsAmong (lefts l) x × AllByRecursion (λ t. IsAmong (variables t) x → ⊥) (rights l)

        free_too : (l m : List (V × Term S V)) → ((p : V × Term S V) → IsAmong l p → IsAmong m p) → ((p : V × Term S V) → IsAmong m p → IsAmong l p) → (x : V) → Free l x → Free m x
        free_too l m to from x f =
            let pair = pair_of_left l x f.0 in (
              left_among m (x, pair.0) (to (x, pair.0) pair.1),
              all_from (λ t. IsAmong (variables t) x → ⊥) (rights m)
                  (λ t a v. let r = pair_of_right m t a in all_at (λ u. IsAmong (variables u) x → ⊥) (rights l) t f.1 (right_among l (r.0, t) (from (r.0, t) r.1)) v),
            )

    -- two canonical lists of one unification are the same list
    pub one_unifier : (bs cs : List (V × Term S V)) → IsCanonicalUnifier same q e bs → IsCanonicalUnifier same q e cs → bs ≡ cs
    one_unifier bs cs h k =
        same_order bs cs h.triangular k.triangular h.ordered k.ordered
        (λ p a. same_pair bs cs h k p.0 p.1 a)
        (λ p a. same_pair cs bs k h p.0 p.1 a)
