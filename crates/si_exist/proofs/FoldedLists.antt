-- Terms that can be unified have a canonical list: each variable of the order is bound to its
-- leader, or as the leader to its folded image, and the bindings are put in order.
use Rattle.std.proofs.Common.{◌≡◌, ℕ, ◌+◌, ◌*◌, ◌<◌, Bool, true, false, List, ◌∷◌, ◌++◌, inl, inr, refl, sym, ◌∙◌, ap, subst, arith}
use Rattle.std.specs.Prelude.{filter}
use Rattle.std.specs.List.{AllByRecursion}
use Rattle.si_defs.specs.Terms.{Term, var, app, variables, substitute, substitute_all, size, sizes}
use Rattle.si_defs.specs.Substitutions.{Substitution, IsAmong}
use Rattle.si_defs.specs.Relations.{Unifies}
use Rattle.si_defs.specs.Solutions.{order, IsCanonicalUnifier}
use Rattle.si_defs.proofs.ListLaws.{all_at, all_weaker, among_back}
use Rattle.si_flat.proofs.FirstPlaces.{among_filter, filter_among}
use Rattle.si_form.proofs.Carrying.{Vocabulary}
use Rattle.si_form.proofs.FoldedLaws.{Leads, IsFoldedInsideBy, IsFree, IsFoldedList, canonical_of_folded}
use Rattle.si_form.proofs.GeneralLaws.{general}
use Rattle.si_form.proofs.UnifierLaws.{first_unique, among_tells}
use Rattle.si_exist.proofs.FoldedParts.{variable_or_not, IsLed, led_or_not, leads_itself, IsOwnImage, folded_parts, own_images}
use Rattle.si_exist.proofs.MostGeneral.{sizes_inside, has_unifiers}
use Rattle.si_exist.proofs.OrderedBindings.{bound, all_bound, among_bound, left_among_bound, AreRanked, IsArranged, arranged}

-- a right side that is a variable comes before the others of its size
abbrev late : {S V : Type 0} → Term S V → ℕ
late (var x) = 1
late (app s ts) = 0

module _ {S V : Type 0} (A : Vocabulary S V) (q e : Term S V) (f : V → Term S V) where
  abbrev Leading : V → V → Type 0
  Leading x w = Leads A.same A.tells A.itself q e f x w

  one_leader : (x v w : V) → Leading x v → Leading x w → v ≡ w
  one_leader x v w h k =
      first_unique (λ y. f x ≡ f y) (λ y. f x ≡ f y) h.1.0 h.1.1 k.1.0 k.1.1 v w (sym h.1.2 ∙ k.1.2) h.0 k.0 h.1.3 k.1.3 (λ z p. p) (λ z p. p)

  leader_known : (x w : V) → Leading x w → IsAmong (order A.same q e) w
  leader_known x w h = subst (λ l. IsAmong l w) (sym h.1.2) (among_back h.1.0 (w ∷ h.1.1) w (inl refl))

  -- the right side of a variable
  record IsSide (x : V) (t : Term S V) : Type 0 where
    solves : f x ≡ substitute f t
    leads : AllByRecursion (λ y. Leading y y) (variables t)
    folded : IsFoldedInsideBy A.same A.tells A.itself q e f t
    follows : (w : V) → Leading x w → (w ≡ x → ⊥) → t ≡ var w
    leader_first : Leading x x → late t ≡ 0
    lower : (y : V) → IsAmong (variables t) y → 2 * size (f y) < 2 * size (f x) + late t

  -- a variable is free, or has a right side, or it isn't one of the order
  data Side (x : V) : Type 0 where
    free : IsFree A.same A.tells A.itself q e f x → Side x
    bound_to : (t : Term S V) → IsSide x t → Side x
    unknown : (IsAmong (order A.same q e) x → ⊥) → Side x

  follower : (x : V) (r : IsLed A q e f (f x)) → (r.first ≡ x → ⊥) → IsSide x (var r.first)
  follower x r differs = record {
    solves = r.has;
    leads = (leads_itself A q e f (f x) r, tt);
    folded = tt;
    follows = λ w h k. ap var (one_leader x r.first w (r.has, (r.before, r.after, r.parts, r.none_before)) h);
    leader_first = λ h. absurd (differs (one_leader x r.first x (r.has, (r.before, r.after, r.parts, r.none_before)) h));
    lower = λ y a.
        elim a [
          | inl k ↦ (let same_size : size (f x) ≡ size (f y) = ap size r.has ∙ ap (λ z. size (f z)) k in omega (arith, same_size))
          | inr n ↦ absurd n
        ];
  }

  leading : (x : V) → Leading x x → (t : Term S V) → f x ≡ t → AllByRecursion (IsOwnImage A q e f) (variables t) → Side x
  leading x h (var z) is own = free (record { leads = h; stands = z; image_is = is })
  leading x h (app s ts) is own =
      let rest = folded_parts A q e f ts own in
      let image_is : f x ≡ app s (substitute_all f rest.0) = is ∙ ap (app s) (sym rest.1.image_is) in
      bound_to (app s rest.0)
      (record {
        solves = image_is;
        leads = rest.1.leads;
        folded = rest.1.folded;
        follows = λ w k differs. absurd (differs (one_leader x w x k h));
        leader_first = λ k. refl;
        lower = λ y a.
            let less = sizes_inside f rest.0 y a in
            let whole : size (f x) ≡ 1 + sizes (substitute_all f rest.0) = ap size image_is in
            omega (arith, less, whole);
      })

  module _ (images : (x : V) → IsAmong (order A.same q e) x → AllByRecursion (IsOwnImage A q e f) (variables (f x))) where
    side_of : (x : V) → Side x
    side_of x =
        elim (among_tells A.same A.tells A.itself (order A.same q e) x) [
          | inr n ↦ unknown n
          | inl a ↦
              elim (led_or_not A q e f (f x)) [
                | inr k ↦ absurd (all_at (λ y. f x ≡ f y → ⊥) (order A.same q e) x k a refl)
                | inl r ↦
                    elim (variable_or_not A r.first x) [
                      | inl k ↦ leading x (refl, subst (λ w. (before : List V) × (after : List V) × (order A.same q e ≡ before ++ w ∷ after) × AllByRecursion (λ y. f x ≡ f y → ⊥) before) k (r.before, r.after, r.parts, r.none_before)) (f x) refl (images x a)
                      | inr n ↦ bound_to (var r.first) (follower x r n)
                    ]
              ]
        ]

    abbrev is_bound_by : {x : V} → Side x → Bool
    is_bound_by (free h) = false
    is_bound_by (bound_to t h) = true
    is_bound_by (unknown n) = false

    abbrev right_by : {x : V} → Side x → Term S V
    right_by {x} (free h) = var x
    right_by (bound_to t h) = t
    right_by {x} (unknown n) = var x

    abbrev right : V → Term S V
    right x = right_by (side_of x)

    -- those of the order that are bound
    abbrev bound_ones : List V
    bound_ones = filter (λ x. is_bound_by (side_of x)) (order A.same q e)

    side_is : (x : V) → IsAmong bound_ones x → IsSide x (right x)
    side_is x a = by (side_of x) (among_filter (λ y. is_bound_by (side_of y)) (order A.same q e) x a).1
      where
        by : (s : Side x) → is_bound_by s ≡ true → IsSide x (right_by s)
        by (free h) k = let bad : false ≡ true = k in cc
        by (bound_to t h) k = h
        by (unknown n) k = let bad : false ≡ true = k in cc

    free_otherwise : (x : V) → IsAmong (order A.same q e) x → (IsAmong bound_ones x → ⊥) → IsFree A.same A.tells A.itself q e f x
    free_otherwise x a out = by (side_of x) (λ k. out (filter_among (λ y. is_bound_by (side_of y)) (order A.same q e) x a k))
      where
        by : (s : Side x) → (is_bound_by s ≡ true → ⊥) → IsFree A.same A.tells A.itself q e f x
        by (free h) k = h
        by (bound_to t h) k = absurd (k refl)
        by (unknown n) k = absurd (n a)

    -- a variable with another leader is bound to it
    follower_bound : (x w : V) → IsAmong (order A.same q e) x → Leading x w → (w ≡ x → ⊥) → IsAmong bound_ones x × (right x ≡ var w)
    follower_bound x w a h differs = by (side_of x) (filter_among (λ y. is_bound_by (side_of y)) (order A.same q e) x a)
      where
        by : (s : Side x) → (is_bound_by s ≡ true → IsAmong bound_ones x) → IsAmong bound_ones x × (right_by s ≡ var w)
        by (free k) give = absurd (differs (one_leader x w x h k.leads))
        by (bound_to t k) give = (give refl, k.follows w h differs)
        by (unknown n) give = absurd (n a)

    -- ---- ranks
    abbrev rank : V → ℕ
    rank x = 2 * size (f x) + late (right x)

    are_ranked : AreRanked A.same A.tells A.itself right rank bound_ones
    are_ranked x y a b inside =
        let less = (side_is x a).lower y inside in
        let first = (side_is y b).leader_first (all_at (λ z. Leading z z) (variables (right x)) y (side_is x a).leads inside) in
        omega (arith, less, first)

    -- ---- the list
    in_order : (ys : List V) × IsArranged A.same A.tells A.itself right rank q e bound_ones ys
    in_order =
        arranged A.same A.tells A.itself right rank q e bound_ones
        (λ x a. (among_filter (λ y. is_bound_by (side_of y)) (order A.same q e) x a).0)
        are_ranked

    pub a_folded_list : (bs : List (V × Term S V)) × IsFoldedList A.same A.tells A.itself q e f bs
    a_folded_list = (
      bound A.same A.tells A.itself right in_order.0,
      record {
        triangular = in_order.1.triangular;
        ordered = in_order.1.ordered;
        solves = each (λ b. f b.0 ≡ substitute f b.1) (λ x a. (side_is x a).solves);
        known = each (λ b. IsAmong (order A.same q e) b.0 × AllByRecursion (IsAmong (order A.same q e)) (variables b.1))
            (λ x a. (
              (among_filter (λ y. is_bound_by (side_of y)) (order A.same q e) x a).0,
              all_weaker (λ y. Leading y y) (IsAmong (order A.same q e)) (variables (right x)) (λ y h. leader_known y y h) (side_is x a).leads,
            ));
        leaders = each (λ b. AllByRecursion (λ y. Leading y y) (variables b.1)) (λ x a. (side_is x a).leads);
        followers = λ x w a h differs.
            let found = follower_bound x w a h differs in
            subst (λ t. IsAmong (bound A.same A.tells A.itself right in_order.0) (x, t)) found.1
            (among_bound A.same A.tells A.itself right in_order.0 x (in_order.1.to x found.0));
        folded = each (λ b. IsFoldedInsideBy A.same A.tells A.itself q e f b.1) (λ x a. (side_is x a).folded);
        free = λ y a out. free_otherwise y a (λ b. out (left_among_bound A.same A.tells A.itself right in_order.0 y (in_order.1.to y b)));
      },
    )
      where
        each : (P : V × Term S V → Type 0) → ((x : V) → IsAmong bound_ones x → P (x, right x)) → AllByRecursion P (bound A.same A.tells A.itself right in_order.0)
        each P give = all_bound A.same A.tells A.itself right P in_order.0 (λ x a. give x (in_order.1.from x a))

pub canonical_list : {S V : Type 0} (A : Vocabulary S V) (q e : Term S V) (s : Substitution S V) → Unifies A.same q e s → (bs : List (V × Term S V)) × IsCanonicalUnifier A.same q e bs
canonical_list A q e s unifies =
    let found = has_unifiers A.same A.tells A.itself q e s unifies in
    let list = a_folded_list A q e (general A.same A.tells A.itself found.0) (own_images A q e found.0 found.1.triangular found.2) in
    (list.0, canonical_of_folded A.same A.tells A.itself q e found.0 found.1 list.0 list.1)
