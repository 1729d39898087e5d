-- The four relations between a query q and a candidate e whose variables are apart. Unifiable terms
-- and instances are Robinson's (1965); generalizations and variants are defined from instances.
-- Each says that a substitution exists.
use Rattle.std.specs.Prelude.{◌≡◌, Bool}
use Rattle.si_defs.specs.Terms.{Term, variables}
use Rattle.si_defs.specs.Substitutions.{Substitution, apply, IsOn}
use Rattle.si_defs.specs.declared.Relation.{Relation}
use Rattle.si_defs.specs.declared.Relation.TheVariants.{Variants, Instances, Generalizations, Unifiable}

module _ {S V : Type 0} (same : V → V → Bool) where
  -- the map makes both equal
  abbrev pub Unifies : Term S V → Term S V → Substitution S V → Type 0
  Unifies q e s = apply same s q ≡ apply same s e

  -- the map replaces variables of q alone, and takes q to e
  pub record Matches (q e : Term S V) (s : Substitution S V) : Type 0 where
    pub on : IsOn (variables q) s
    pub takes : apply same s q ≡ e

  abbrev pub IsUnifiable : Term S V → Term S V → Type 0
  IsUnifiable q e = (s : Substitution S V) × Unifies q e s

  -- e is an instance of q
  abbrev pub IsInstance : Term S V → Term S V → Type 0
  IsInstance q e = (s : Substitution S V) × Matches q e s

  abbrev pub Relates : Relation → Term S V → Term S V → Type 0
  Relates Unifiable q e = IsUnifiable q e
  Relates Instances q e = IsInstance q e
  Relates Generalizations q e = IsInstance e q
  Relates Variants q e = IsInstance q e × IsInstance e q
