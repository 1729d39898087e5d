-- The most specific linear generalization of two terms, from those of their arguments.
use Rattle.std.proofs.Common.{◌≡◌, ℕ, zero, suc, ◌≤◌, ◌⊎◌, ◌↔◌, inl, inr, Bool, true, false, List, [], ◌∷◌, None, Some, refl, sym, ◌∙◌, subst}
use Rattle.std.proofs.lemmas.Option.{same_Some}
use Rattle.si_defs.specs.Terms as terms
use Rattle.si_flat.specs.Cells.{Symbol, Variable, query, entry, ind, Term, Terms}
use Rattle.si_legal.specs.Bindings.{IsIndicator}
use Rattle.si_legal.specs.Generalizations.{same_head, argument_in, argument, StandsAt, HasPosition, AgreeAbove, IsFresh, IsCommonHead, IsCommonTerm}

-- ---- one position
pub common_head : (next : ℕ) (a b c : Term) → (IsIndicator a → ⊥) → ((same_head a b ≡ true) × (same_head a c ≡ true)) ⊎ ((same_head a b ≡ false) × IsFresh next c) → IsCommonHead next a b c
common_head next (terms.var (query n)) b c plain h = h
common_head next (terms.var (entry n)) b c plain h = h
common_head next (terms.var (ind n)) b c plain h = absurd (plain tt)
common_head next (terms.app s ts) b c plain h = h

-- at the root each of the three is the term itself
at_root : (next : ℕ) (t u c a b d : Term) → IsCommonHead next t u c → a ≡ t → b ≡ u → d ≡ c → IsCommonHead next a b d
at_root next t u c a b d h p q r = subst (λ x. IsCommonHead next x b d) (sym p) (subst (λ x. IsCommonHead next t x d) (sym q) (subst (λ x. IsCommonHead next t u x) (sym r) h))

no_argument : (x : Variable) (n : ℕ) (t : Term) → argument n (terms.var x) ≡ Some t → ⊥
no_argument x n t e = cc

true_not_false : (b : Bool) → b ≡ true → b ≡ false → ⊥
true_not_false b p q = cc

-- where a variable stands for the two terms, whose own positions don't go on
bare : (next : ℕ) (t u : Term) (x : Variable) → IsCommonHead next t u (terms.var x) → ((n : ℕ) (a b : Term) → argument n t ≡ Some a → argument n u ≡ Some b → same_head t u ≡ true → ⊥) → IsCommonTerm next t u (terms.var x)
bare next t u x head ends = record { positions = places; heads = there } where
  places : (path : List ℕ) → HasPosition (terms.var x) path ↔ (HasPosition t path × HasPosition u path × AgreeAbove path t u)
  places [] = ((λ h. ((t, refl), (u, refl), tt)), (λ h. (terms.var x, refl)))
  places (n ∷ path) = (
    (λ h. absurd (no_argument x n h.1.0 h.1.1)),
    (λ h. absurd (ends n h.0.1.0 h.1.1.0 h.0.1.1 h.1.1.1 h.2.0)),
  )

  there : (path : List ℕ) (a b d : Term) → StandsAt path t a → StandsAt path u b → StandsAt path (terms.var x) d → IsCommonHead next a b d
  there [] a b d p q r = at_root next t u (terms.var x) a b d head p q r
  there (n ∷ path) a b d p q r = absurd (no_argument x n r.0 r.1)

-- an indicator stays
pub common_kept : (next n : ℕ) (u : Term) → IsCommonTerm next (terms.var (ind n)) u (terms.var (ind n))
common_kept next n u = bare next (terms.var (ind n)) u (ind n) refl (λ m a b p q s. no_argument (ind n) m a p)

-- and so does a variable that both have
pub common_variable : (next : ℕ) (x : Variable) (u : Term) → (IsIndicator (terms.var x) → ⊥) → same_head (terms.var x) u ≡ true → same_head (terms.var x) (terms.var x) ≡ true → IsCommonTerm next (terms.var x) u (terms.var x)
common_variable next x u plain same self = bare next (terms.var x) u x (common_head next (terms.var x) u (terms.var x) plain (inl (same, self))) (λ m a b p q s. no_argument x m a p)

-- different heads give way to a fresh indicator
pub common_fresh : (next n : ℕ) (t u : Term) → (IsIndicator t → ⊥) → same_head t u ≡ false → next ≤ n → IsCommonTerm next t u (terms.var (ind n))
common_fresh next n t u plain apart fresh =
    bare next t u (ind n)
    (common_head next t u (terms.var (ind n)) plain (inr (apart, (n, fresh, refl))))
    (λ m a b p q s. true_not_false (same_head t u) s apart)

-- ---- arguments
abbrev pub AreCommonTerms : ℕ → Terms → Terms → Terms → Type 0
AreCommonTerms next terms.none terms.none terms.none = Unit {0}
AreCommonTerms next (terms.more t ts) (terms.more u us) (terms.more c cs) = IsCommonTerm next t u c × AreCommonTerms next ts us cs
AreCommonTerms next _ _ _ = ⊥

-- the arguments with one number
record CommonArgument (next n : ℕ) (ts us cs : Terms) : Type 0 where
  t : Term
  u : Term
  c : Term
  t_is : argument_in n ts ≡ Some t
  u_is : argument_in n us ≡ Some u
  c_is : argument_in n cs ≡ Some c
  common : IsCommonTerm next t u c

-- one of the three has an argument with this number
abbrev HasArgument : ℕ → Terms → Type 0
HasArgument n ts = (t : Term) × (argument_in n ts ≡ Some t)

common_argument : (next n : ℕ) (ts us cs : Terms) → AreCommonTerms next ts us cs → HasArgument n ts ⊎ HasArgument n cs → CommonArgument next n ts us cs
common_argument next n terms.none terms.none terms.none h (inl e) = absurd (by e.1) where
  by : None ≡ Some e.0 → ⊥
  by p = cc
common_argument next n terms.none terms.none terms.none h (inr e) = absurd (by e.1) where
  by : None ≡ Some e.0 → ⊥
  by p = cc
common_argument next n terms.none terms.none (terms.more c cs) h e = absurd h
common_argument next n terms.none (terms.more u us) cs h e = absurd h
common_argument next n (terms.more t ts) terms.none cs h e = absurd h
common_argument next n (terms.more t ts) (terms.more u us) terms.none h e = absurd h
common_argument next zero (terms.more t ts) (terms.more u us) (terms.more c cs) h (inl e) = absurd (by e.1) where
  by : None ≡ Some e.0 → ⊥
  by p = cc
common_argument next zero (terms.more t ts) (terms.more u us) (terms.more c cs) h (inr e) = absurd (by e.1) where
  by : None ≡ Some e.0 → ⊥
  by p = cc
common_argument next (suc zero) (terms.more t ts) (terms.more u us) (terms.more c cs) h e = record { t = t; u = u; c = c; t_is = refl; u_is = refl; c_is = refl; common = h.0 }
common_argument next (suc (suc n)) (terms.more t ts) (terms.more u us) (terms.more c cs) h e =
    let k = common_argument next (suc n) ts us cs h.1 e in
    record { t = k.t; u = k.u; c = k.c; t_is = k.t_is; u_is = k.u_is; c_is = k.c_is; common = k.common }

pub common_app : (next : ℕ) (s r : Symbol) (ts us cs : Terms) → same_head (terms.app s ts) (terms.app r us) ≡ true → same_head (terms.app s ts) (terms.app s cs) ≡ true → AreCommonTerms next ts us cs → IsCommonTerm next (terms.app s ts) (terms.app r us) (terms.app s cs)
common_app next s r ts us cs same self all = record { positions = places; heads = there } where
  down : (n : ℕ) (path : List ℕ) → CommonArgument next n ts us cs → HasPosition (terms.app s cs) (n ∷ path) → HasPosition (terms.app s ts) (n ∷ path) × HasPosition (terms.app r us) (n ∷ path) × AgreeAbove (n ∷ path) (terms.app s ts) (terms.app r us)
  down n path k h =
      let inside : StandsAt path k.c h.0 = subst (λ x. StandsAt path x h.0) (same_Some h.1.0 k.c (sym h.1.1 ∙ k.c_is)) h.1.2 in
      let both = (k.common.positions path).0 (h.0, inside) in (
        (both.0.0, (k.t, k.t_is, both.0.1)),
        (both.1.0, (k.u, k.u_is, both.1.1)),
        (
          same,
          (λ a b p q. subst (λ x. AgreeAbove path x b) (same_Some k.t a (sym k.t_is ∙ p)) (subst (λ y. AgreeAbove path k.t y) (same_Some k.u b (sym k.u_is ∙ q)) both.2)),
        ),
      )

  up : (n : ℕ) (path : List ℕ) → CommonArgument next n ts us cs → HasPosition (terms.app s ts) (n ∷ path) × HasPosition (terms.app r us) (n ∷ path) × AgreeAbove (n ∷ path) (terms.app s ts) (terms.app r us) → HasPosition (terms.app s cs) (n ∷ path)
  up n path k h =
      let one : StandsAt path k.t h.0.0 = subst (λ x. StandsAt path x h.0.0) (same_Some h.0.1.0 k.t (sym h.0.1.1 ∙ k.t_is)) h.0.1.2 in
      let two : StandsAt path k.u h.1.0 = subst (λ x. StandsAt path x h.1.0) (same_Some h.1.1.0 k.u (sym h.1.1.1 ∙ k.u_is)) h.1.1.2 in
      let c = (k.common.positions path).1 ((h.0.0, one), (h.1.0, two), h.2.1 k.t k.u k.t_is k.u_is) in
      (c.0, (k.c, k.c_is, c.1))

  places : (path : List ℕ) → HasPosition (terms.app s cs) path ↔ (HasPosition (terms.app s ts) path × HasPosition (terms.app r us) path × AgreeAbove path (terms.app s ts) (terms.app r us))
  places [] = ((λ h. ((terms.app s ts, refl), (terms.app r us, refl), tt)), (λ h. (terms.app s cs, refl)))
  places (n ∷ path) = (
    (λ h. down n path (common_argument next n ts us cs all (inr (h.1.0, h.1.1))) h),
    (λ h. up n path (common_argument next n ts us cs all (inl (h.0.1.0, h.0.1.1))) h),
  )

  there : (path : List ℕ) (a b d : Term) → StandsAt path (terms.app s ts) a → StandsAt path (terms.app r us) b → StandsAt path (terms.app s cs) d → IsCommonHead next a b d
  there [] a b d p q e = at_root next (terms.app s ts) (terms.app r us) (terms.app s cs) a b d (inl (same, self)) p q e
  there (n ∷ path) a b d p q e =
      let k = common_argument next n ts us cs all (inl (p.0, p.1)) in
      k.common.heads path a b d
      (subst (λ x. StandsAt path x a) (same_Some p.0 k.t (sym p.1 ∙ k.t_is)) p.2)
      (subst (λ x. StandsAt path x b) (same_Some q.0 k.u (sym q.1 ∙ k.u_is)) q.2)
      (subst (λ x. StandsAt path x d) (same_Some e.0 k.c (sym e.1 ∙ k.c_is)) e.2)
