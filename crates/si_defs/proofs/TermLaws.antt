-- Terms: each has a symbol or a variable, and equal terms have equal parts.
use Rattle.std.proofs.Common.{◌≡◌, ◌<◌, refl, arith}
use Rattle.si_defs.specs.Terms.{Term, Terms, var, app, none, more, size, count}

module _ {S V : Type 0} where
  pub size_some : (t : Term S V) → 0 < size t
  size_some (var x) = omega arith
  size_some (app s ts) = omega arith

  pub no_arguments : (ts : Terms S V) → count ts ≡ 0 → ts ≡ none
  no_arguments none e = refl
  no_arguments (more t ts) e = absurd (omega (arith, e))

  pub same_app : (s r : S) (ts us : Terms S V) → app s ts ≡ app r us → (s ≡ r) × (ts ≡ us)
  same_app s r ts us e = (cc, cc)

  pub same_more : (t u : Term S V) (ts us : Terms S V) → more t ts ≡ more u us → (t ≡ u) × (ts ≡ us)
  same_more t u ts us e = (cc, cc)
