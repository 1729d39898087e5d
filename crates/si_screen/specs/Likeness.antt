-- Where one term has all symbols of another one, as it has where a substitution takes that one to
-- it.
use Rattle.std.specs.Prelude.{◌≡◌, List}
use Rattle.si_defs.specs.Terms.{var, app, none, more}
use Rattle.si_defs.specs.Clauses.{Term, Terms, Literal}
use Rattle.std.specs.List.{AllByRecursion}
use Rattle.si_term.specs.Meaning.{literal_of}
use Rattle.si_term.specs.declared.clause.Literal as program

-- wherever the term has a symbol, the target has the same one
abbrev mutual
  pub IsLike : Term → Term → Type 0
  IsLike (var x) u = Unit {0}
  IsLike (app s ts) (var y) = ⊥
  IsLike (app s ts) (app r us) = (s ≡ r) × AreLike ts us

  -- the same of terms in two rows, as far as both go
  pub AreLike : Terms → Terms → Type 0
  AreLike none us = Unit {0}
  AreLike (more t ts) none = Unit {0}
  AreLike (more t ts) (more u us) = IsLike t u × AreLike ts us

-- the target has the literal's sign, and its symbols
pub record IsLiteralLike (literal target : Literal) : Type 0 where
  pub sign : literal.positive ≡ target.positive
  pub atom : IsLike literal.atom target.atom

-- none of these is like the literal
abbrev pub HasNoTarget : List program.Literal → program.Literal → Type 0
HasNoTarget targets l =
    AllByRecursion (λ k. IsLiteralLike (literal_of l) (literal_of k) → ⊥) targets

-- one of these is like the literal
abbrev pub HasTarget : List program.Literal → program.Literal → Type 0
HasTarget targets l = HasNoTarget targets l → ⊥
