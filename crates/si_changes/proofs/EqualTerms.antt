-- Two terms are equal, or they are not.
use Rattle.std.proofs.Common.{◌≡◌, ◌⊎◌, inl, inr, Bool, true, false, refl, ap, sym, ◌∙◌, subst}
use Rattle.std.proofs.lemmas.Bool.{false≢true}
use Rattle.std.proofs.lemmas.Bool.Decides.{eqb_tells}
use Rattle.si_defs.specs.Terms as terms
use Rattle.si_defs.proofs.TermLaws.{same_app, same_more}
use Rattle.si_flat.specs.Cells.{Symbol, Variable, same_variable, Term, Terms}
use Rattle.si_flat.proofs.VariableLaws.{variable_is, variable_self}

variable_or_not : (x y : Variable) → (x ≡ y) ⊎ (x ≡ y → ⊥)
variable_or_not x y = by (same_variable x y) refl where
  by : (b : Bool) → same_variable x y ≡ b → (x ≡ y) ⊎ (x ≡ y → ⊥)
  by true e = inl (variable_is x y e)
  by false e = inr (λ p. false≢true (sym e ∙ subst (λ z. same_variable x z ≡ true) p (variable_self x)))

symbol_or_not : (s r : Symbol) → (s ≡ r) ⊎ (s ≡ r → ⊥)
symbol_or_not s r =
    elim (eqb_tells s.number r.number) as (λ _. (s ≡ r) ⊎ (s ≡ r → ⊥)) [
      | inl p ↦ elim (eqb_tells s.arity r.arity) as (λ _. (s ≡ r) ⊎ (s ≡ r → ⊥)) [
        | inl q ↦ inl (λ i. record { number = p.1 i; arity = q.1 i })
        | inr q ↦ inr (λ e. q.1 (ap (λ x. x.arity) e))
      ]
      | inr p ↦ inr (λ e. p.1 (ap (λ x. x.number) e))
    ]

same_var : (x y : Variable) → ◌≡◌ {A = Term} (terms.var x) (terms.var y) → x ≡ y
same_var x y e = cc

mutual
  pub term_or_not : (t u : Term) → (t ≡ u) ⊎ (t ≡ u → ⊥)
  term_or_not (terms.var x) (terms.var y) = elim (variable_or_not x y) [ inl e ↦ inl (ap terms.var e) | inr h ↦ inr (λ e. h (same_var x y e)) ]
  term_or_not (terms.var x) (terms.app r us) = inr (λ e. cc)
  term_or_not (terms.app s ts) (terms.var y) = inr (λ e. cc)
  term_or_not (terms.app s ts) (terms.app r us) =
      elim (symbol_or_not s r) as (λ _. (terms.app s ts ≡ terms.app r us) ⊎ (terms.app s ts ≡ terms.app r us → ⊥)) [
        | inl p ↦ elim (terms_or_not ts us) as (λ _. (terms.app s ts ≡ terms.app r us) ⊎ (terms.app s ts ≡ terms.app r us → ⊥)) [
          | inl q ↦ inl (λ i. terms.app (p i) (q i))
          | inr q ↦ inr (λ e. q (same_app s r ts us e).1)
        ]
        | inr p ↦ inr (λ e. p (same_app s r ts us e).0)
      ]

  pub terms_or_not : (ts us : Terms) → (ts ≡ us) ⊎ (ts ≡ us → ⊥)
  terms_or_not terms.none terms.none = inl refl
  terms_or_not terms.none (terms.more u us) = inr (λ e. cc)
  terms_or_not (terms.more t ts) terms.none = inr (λ e. cc)
  terms_or_not (terms.more t ts) (terms.more u us) =
      elim (term_or_not t u) as (λ _. (terms.more t ts ≡ terms.more u us) ⊎ (terms.more t ts ≡ terms.more u us → ⊥)) [
        | inl p ↦ elim (terms_or_not ts us) as (λ _. (terms.more t ts ≡ terms.more u us) ⊎ (terms.more t ts ≡ terms.more u us → ⊥)) [
          | inl q ↦ inl (λ i. terms.more (p i) (q i))
          | inr q ↦ inr (λ e. q (same_more t u ts us e).1)
        ]
        | inr p ↦ inr (λ e. p (same_more t u ts us e).0)
      ]
