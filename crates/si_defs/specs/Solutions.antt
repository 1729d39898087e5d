-- Solution lists, and the one canonical list of each relation (this project's profile; the most
-- general unifier is Robinson's, 1965).
use Rattle.std.specs.Prelude.{◌≡◌, Bool, cond, List, [], ◌∷◌, ◌++◌}
use Rattle.std.specs.List.{AllByRecursion}
use Rattle.si_defs.specs.Terms.{Term, Terms, var, app, none, more, variables, substitute, firsts}
use Rattle.si_defs.specs.Substitutions.{Substitution, apply, lefts, rights, IsAmong, IsOn}
use Rattle.si_defs.specs.declared.Relation.{Relation}
use Rattle.si_defs.specs.declared.Relation.TheVariants.{Variants, Instances, Generalizations, Unifiable}
use Rattle.si_defs.specs.Relations.{Unifies, Matches, Relates}

module _ {S V : Type 0} (same : V → V → Bool) where
  -- one binding applied, and a list of bindings applied one after the other from the left
  abbrev pub bind : V → Term S V → Term S V → Term S V
  bind x u t = substitute (λ y. cond (same x y) u (var y)) t

  abbrev pub in_sequence : List (V × Term S V) → Term S V → Term S V
  in_sequence [] t = t
  in_sequence (b ∷ bs) t = in_sequence bs (bind b.0 b.1 t)

  -- each left side stands once, and in no right side from its own binding on
  abbrev pub IsTriangular : List (V × Term S V) → Type 0
  IsTriangular [] = Unit {0}
  IsTriangular (b ∷ bs) =
      (IsAmong (lefts bs) b.0 → ⊥)
      × AllByRecursion (λ t. IsAmong (variables t) b.0 → ⊥) (b.1 ∷ rights bs)
      × IsTriangular bs

  -- applied in sequence, the list is a solution of the relation
  abbrev pub Achieves : Relation → Term S V → Term S V → List (V × Term S V) → Type 0
  Achieves Unifiable q e bs = in_sequence bs q ≡ in_sequence bs e
  Achieves Instances q e bs = IsOn (variables q) bs × (in_sequence bs q ≡ e)
  Achieves Generalizations q e bs = IsOn (variables e) bs × (in_sequence bs e ≡ q)
  Achieves Variants q e bs = IsOn (variables q) bs × (in_sequence bs q ≡ e)

  -- every unifier makes each left side equal to its right side
  abbrev pub IsMostGeneral : Term S V → Term S V → List (V × Term S V) → Type 0
  IsMostGeneral q e bs = (s : Substitution S V) → Unifies same q e s
      → AllByRecursion (λ b. apply same s (var b.0) ≡ apply same s b.1) bs

  -- the list binds each of these variables, in the order of their first occurrence
  abbrev pub BindsEach : List V → List (V × Term S V) → Type 0
  BindsEach xs bs = lefts bs ≡ firsts same xs

  -- ---- the canonical list of a unification
  module _ (q e : Term S V) where
    -- the variables of both, those of q first
    abbrev pub order : List V
    order = firsts same (variables q ++ variables e)

    -- every unifier makes both equal
    abbrev pub AreJoined : Term S V → Term S V → Type 0
    AreJoined t u = (s : Substitution S V) → Unifies same q e s → apply same s t ≡ apply same s u

    -- x stands in the order, and none of these that stands before it does
    abbrev pub IsFirstOf : (V → Type 0) → V → Type 0
    IsFirstOf P x =
        P x × ((before : List V) × (after : List V) × (order ≡ before ++ x ∷ after)
        × AllByRecursion (λ y. P y → ⊥) before)

    -- w is the first of the variables that are joined with x
    abbrev pub IsLeader : V → V → Type 0
    IsLeader x w = IsFirstOf (λ y. AreJoined (var x) (var y)) w

    -- no part of the term that is no variable is joined with a variable, the term itself included
    abbrev mutual
      pub IsFolded : Term S V → Type 0
      IsFolded (var x) = Unit {0}
      IsFolded (app s ts) =
          AllByRecursion (λ y. AreJoined (app s ts) (var y) → ⊥) order × AreFolded ts

      pub AreFolded : Terms S V → Type 0
      AreFolded none = Unit {0}
      AreFolded (more t ts) = IsFolded t × AreFolded ts

    -- the same of the proper parts alone
    abbrev pub IsFoldedInside : Term S V → Type 0
    IsFoldedInside (var x) = Unit {0}
    IsFoldedInside (app s ts) = AreFolded ts

    -- at each place stands the first of the left sides from there on that is in no right side from
    -- there on
    abbrev pub IsOrdered : List (V × Term S V) → Type 0
    IsOrdered [] = Unit {0}
    IsOrdered (b ∷ bs) =
        IsFirstOf (λ x. IsAmong (lefts (b ∷ bs)) x
        × AllByRecursion (λ t. IsAmong (variables t) x → ⊥) (rights (b ∷ bs))) b.0
        × IsOrdered bs

    pub record IsCanonicalUnifier (bs : List (V × Term S V)) : Type 0 where
      pub triangular : IsTriangular bs
      pub achieves : Achieves Unifiable q e bs
      pub most_general : IsMostGeneral q e bs
      pub known : AllByRecursion
          (λ b. IsAmong order b.0 × AllByRecursion (IsAmong order) (variables b.1)) bs
      pub leaders : AllByRecursion (λ b. AllByRecursion (λ x. IsLeader x x) (variables b.1)) bs
      pub followers : (x w : V) → IsAmong order x → IsLeader x w → (w ≡ x → ⊥)
          → IsAmong bs (x, var w)
      pub folded : AllByRecursion (λ b. IsFoldedInside b.1) bs
      pub ordered : IsOrdered bs

  -- The canonical list of a match binds each variable of q, in the order of first occurrence, to
  -- its image: all at once, and so also one after the other, it takes q to e.
  pub record IsCanonicalMatch (q e : Term S V) (bs : List (V × Term S V)) : Type 0 where
    pub matches : Matches same q e bs
    pub achieves : Achieves Instances q e bs
    pub each : BindsEach (variables q) bs

  -- the canonical list of each relation; there is none where the relation fails
  abbrev pub IsCanonical : Relation → Term S V → Term S V → List (V × Term S V) → Type 0
  IsCanonical Unifiable q e bs = IsCanonicalUnifier q e bs
  IsCanonical Instances q e bs = IsCanonicalMatch q e bs
  IsCanonical Generalizations q e bs = IsCanonicalMatch e q bs
  IsCanonical Variants q e bs = Relates same Variants q e × IsCanonicalMatch q e bs
