-- The weight of a term: its occurrences of symbols and variables that are no indicators. A path's
-- term gets heavier with each node, and is no heavier than a term that it can become.
use Rattle.std.proofs.Common.{ℕ, ◌+◌, ◌<◌, ◌≤◌, inl, inr, List, ap, subst, arith}
use Rattle.si_defs.specs.Terms as terms
use Rattle.si_defs.specs.Substitutions.{IsAmong, image}
use Rattle.si_defs.proofs.ListLaws.{among_parts}
use Rattle.si_flat.specs.Cells.{query, entry, ind, same_variable, Term, Terms}
use Rattle.si_legal.specs.Bindings.{Binding, IsIndicator, indicators, applied, substitution_of}
use Rattle.si_legal.proofs.Splitting.{indicators_all, indicators-more}
use Rattle.si_changes.proofs.HeadLaws.{image_keeps}
use Rattle.si_changes.proofs.ComposeLaws.{bound}

abbrev mutual
  pub weight : Term → ℕ
  weight (terms.var (query n)) = 1
  weight (terms.var (entry n)) = 1
  weight (terms.var (ind n)) = 0
  weight (terms.app s ts) = 1 + weights ts

  pub weights : Terms → ℕ
  weights terms.none = 0
  weights (terms.more t ts) = weight t + weights ts

abbrev pub applied_all : List Binding → Terms → Terms
applied_all bs ts = terms.substitute_all (image same_variable (substitution_of bs)) ts

mutual
  pub not_lighter : (bs : List Binding) (t : Term) → weight t ≤ weight (applied bs t)
  not_lighter bs (terms.var (query n)) = omega (arith, ap weight ((image_keeps bs).queries n))
  not_lighter bs (terms.var (entry n)) = omega (arith, ap weight ((image_keeps bs).entries n))
  not_lighter bs (terms.var (ind n)) = omega arith
  not_lighter bs (terms.app s ts) = omega (arith, none_lighter bs ts)

  none_lighter : (bs : List Binding) (ts : Terms) → weights ts ≤ weights (applied_all bs ts)
  none_lighter bs terms.none = omega arith
  none_lighter bs (terms.more t ts) = omega (arith, not_lighter bs t, none_lighter bs ts)

-- what is bound to an indicator that occurs is added
mutual
  pub heavier : (bs : List Binding) (t : Term) (n : ℕ) → IsAmong (indicators t) n → weight t + weight (bound bs n) ≤ weight (applied bs t)
  heavier bs (terms.var (query m)) n a = absurd a
  heavier bs (terms.var (entry m)) n a = absurd a
  heavier bs (terms.var (ind m)) n (inl e) = subst (λ k. 0 + weight (bound bs k) ≤ weight (bound bs m)) e (omega arith)
  heavier bs (terms.var (ind m)) n (inr a) = absurd a
  heavier bs (terms.app s ts) n a = omega (arith, all_heavier bs ts n a)

  all_heavier : (bs : List Binding) (ts : Terms) (n : ℕ) → IsAmong (indicators_all ts) n → weights ts + weight (bound bs n) ≤ weights (applied_all bs ts)
  all_heavier bs terms.none n a = absurd a
  all_heavier bs (terms.more t ts) n a = elim (among_parts (indicators t) (indicators_all ts) n (subst (λ l. IsAmong l n) (indicators-more t ts) a)) as (λ _. weights (terms.more t ts) + weight (bound bs n) ≤ weights (applied_all bs (terms.more t ts))) [
    | inl first ↦ omega (arith, heavier bs t n first, none_lighter bs ts)
    | inr later ↦ omega (arith, not_lighter bs t, all_heavier bs ts n later)
  ]

pub some_weight : (t : Term) → (IsIndicator t → ⊥) → 0 < weight t
some_weight (terms.var (query n)) h = omega arith
some_weight (terms.var (entry n)) h = omega arith
some_weight (terms.var (ind n)) h = absurd (h tt)
some_weight (terms.app s ts) h = omega arith

mutual
  pub no_heavier_than_large : (t : Term) → weight t ≤ terms.size t
  no_heavier_than_large (terms.var (query n)) = omega arith
  no_heavier_than_large (terms.var (entry n)) = omega arith
  no_heavier_than_large (terms.var (ind n)) = omega arith
  no_heavier_than_large (terms.app s ts) = omega (arith, none_heavier ts)

  none_heavier : (ts : Terms) → weights ts ≤ terms.sizes ts
  none_heavier terms.none = omega arith
  none_heavier (terms.more t ts) = omega (arith, no_heavier_than_large t, none_heavier ts)
