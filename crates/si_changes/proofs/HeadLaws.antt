-- Heads of terms: when two have the same, and that a substitution leaves it.
use Rattle.std.proofs.Common.{◌≡◌, inl, inr, ℕ, Bool, true, false, cond, ◌&&◌, ◌==◌, List, [], ◌∷◌, refl, ap, sym, ◌∙◌, subst}
use Rattle.std.proofs.lemmas.Bool.{eq-eqb, eqb-true, and_parts}
use Rattle.std.proofs.lemmas.Bool.Decides.{eqb_tells}
use Rattle.si_defs.specs.Terms as terms
use Rattle.si_defs.specs.Substitutions.{image, IsAmong, AreDistinct}
use Rattle.si_defs.proofs.ListLaws.{among_parts}
use Rattle.si_defs.proofs.TermLaws.{same_app, same_more}
use Rattle.si_flat.specs.Cells.{Variable, query, entry, ind, same_variable, Term, Terms}
use Rattle.si_flat.specs.Rows.{left_sides}
use Rattle.si_flat.proofs.VariableLaws.{variable_is, variable_self}
use Rattle.si_legal.specs.Bindings.{Binding, IsIndicator, indicators_among, substitution_of}
use Rattle.si_legal.specs.Generalizations.{same_head}
use Rattle.si_legal.proofs.SplitLaws.{binding_left}

true_not_false : (b : Bool) → b ≡ true → b ≡ false → ⊥
true_not_false b p q = cc

pub same_head_self : (t : Term) → same_head t t ≡ true
same_head_self (terms.var x) = variable_self x
same_head_self (terms.app s ts) = λ i. eq-eqb s.number s.number refl i && eq-eqb s.arity s.arity refl i

pub own_head : (t : Term) → same_head t t ≡ false → ⊥
own_head t e = true_not_false (same_head t t) (same_head_self t) e

-- two terms that have the head of a third have the same
pub heads_meet : (a t u : Term) → same_head a t ≡ true → same_head a u ≡ true → same_head t u ≡ true
heads_meet (terms.var x) (terms.var y) (terms.var z) p q = subst (λ v. same_variable v z ≡ true) (variable_is x y p) q
heads_meet (terms.var x) (terms.var y) (terms.app r us) p q = cc
heads_meet (terms.var x) (terms.app r ts) u p q = cc
heads_meet (terms.app s ss) (terms.var y) u p q = cc
heads_meet (terms.app s ss) (terms.app r ts) (terms.var z) p q = cc
heads_meet (terms.app s ss) (terms.app r ts) (terms.app l us) p q =
    let one = and_parts (s.number == r.number) (s.arity == r.arity) p in
    let two = and_parts (s.number == l.number) (s.arity == l.arity) q in
    λ i.
    eq-eqb r.number l.number (sym (eqb-true s.number r.number one.0) ∙ eqb-true s.number l.number two.0) i
    && eq-eqb r.arity l.arity (sym (eqb-true s.arity r.arity one.1) ∙ eqb-true s.arity l.arity two.1) i

pub same_head_back : (t u : Term) → same_head t u ≡ true → same_head u t ≡ true
same_head_back t u e = heads_meet t u t e (same_head_self t)

pub heads_differ_back : (t u : Term) → same_head t u ≡ false → same_head u t ≡ false
heads_differ_back t u e = by (same_head u t) refl where
  by : (b : Bool) → same_head u t ≡ b → b ≡ false
  by true p = absurd (true_not_false (same_head t u) (same_head_back u t p) e)
  by false p = refl

-- whose head is another's, that has none of a third
pub head_apart : (a t u : Term) → same_head a t ≡ true → same_head t u ≡ false → same_head a u ≡ false
head_apart a t u p q = by (same_head a u) refl where
  by : (b : Bool) → same_head a u ≡ b → b ≡ false
  by true e = absurd (true_not_false (same_head t u) (heads_meet a t u p e) q)
  by false e = refl

-- no term has two different heads
pub no_common_head : (a t u : Term) → same_head a t ≡ true → same_head a u ≡ true → same_head t u ≡ false → ⊥
no_common_head a t u p q r = true_not_false (same_head t u) (heads_meet a t u p q) r

-- ---- substitutions that replace none but indicators
pub record ReplacesIndicators (f : Variable → Term) : Type 0 where
  pub queries : (n : ℕ) → f (query n) ≡ terms.var (query n)
  pub entries : (n : ℕ) → f (entry n) ≡ terms.var (entry n)

-- they leave a head that is no indicator
pub head_stays : (f : Variable → Term) (a t : Term) → ReplacesIndicators f → (IsIndicator t → ⊥) → same_head a t ≡ true → same_head (terms.substitute f a) t ≡ true
head_stays f (terms.var (query n)) t keeps plain e = subst (λ x. same_head x t ≡ true) (sym (keeps.queries n)) e
head_stays f (terms.var (entry n)) t keeps plain e = subst (λ x. same_head x t ≡ true) (sym (keeps.entries n)) e
head_stays f (terms.var (ind n)) (terms.var (query m)) keeps plain e = cc
head_stays f (terms.var (ind n)) (terms.var (entry m)) keeps plain e = cc
head_stays f (terms.var (ind n)) (terms.var (ind m)) keeps plain e = absurd (plain tt)
head_stays f (terms.var (ind n)) (terms.app s ts) keeps plain e = cc
head_stays f (terms.app s ss) (terms.var x) keeps plain e = cc
head_stays f (terms.app s ss) (terms.app r ts) keeps plain e = e

pub image_keeps : (bs : List Binding) → ReplacesIndicators (image same_variable (substitution_of bs))
image_keeps [] = record { queries = (λ n. refl); entries = (λ n. refl) }
image_keeps (b ∷ bs) = let rest = image_keeps bs in record { queries = rest.queries; entries = rest.entries }

pub image_bound : (bs : List Binding) (n : ℕ) (t : Term) → AreDistinct (left_sides bs) → IsAmong bs (n, t) → image same_variable (substitution_of bs) (ind n) ≡ t
image_bound [] n t distinct a = absurd a
image_bound (b ∷ bs) n t distinct (inl e) = ap (λ h. cond h b.1 (image same_variable (substitution_of bs) (ind n))) (eq-eqb b.0 n (ap (λ p. p.0) e)) ∙ ap (λ p. p.1) e
image_bound (b ∷ bs) n t distinct (inr a) = elim (eqb_tells b.0 n) as (λ _. image same_variable (substitution_of (b ∷ bs)) (ind n) ≡ t) [
  | inl h ↦ absurd (distinct.0 (subst (IsAmong (left_sides bs)) (sym h.1) (binding_left bs n t a)))
  | inr h ↦ ap (λ e. cond e b.1 (image same_variable (substitution_of bs) (ind n))) h.0 ∙ image_bound bs n t distinct.1 a
]

-- ---- substitutions and the variables of a term
mutual
  pub substitute_twice : (f g : Variable → Term) (t : Term) → terms.substitute g (terms.substitute f t) ≡ terms.substitute (λ x. terms.substitute g (f x)) t
  substitute_twice f g (terms.var x) = refl
  substitute_twice f g (terms.app s ts) = ap (terms.app s) (substitute_all_twice f g ts)

  pub substitute_all_twice : (f g : Variable → Term) (ts : Terms) → terms.substitute_all g (terms.substitute_all f ts) ≡ terms.substitute_all (λ x. terms.substitute g (f x)) ts
  substitute_all_twice f g terms.none = refl
  substitute_all_twice f g (terms.more t ts) = λ i. terms.more (substitute_twice f g t i) (substitute_all_twice f g ts i)

-- two that give the same give the same for each variable
mutual
  pub same_images : (f g : Variable → Term) (t : Term) (x : Variable) → terms.substitute f t ≡ terms.substitute g t → IsAmong (terms.variables t) x → f x ≡ g x
  same_images f g (terms.var y) x e (inl h) = subst (λ z. f z ≡ g z) h e
  same_images f g (terms.var y) x e (inr a) = absurd a
  same_images f g (terms.app s ts) x e a = same_images_all f g ts x (same_app s s (terms.substitute_all f ts) (terms.substitute_all g ts) e).1 a

  pub same_images_all : (f g : Variable → Term) (ts : Terms) (x : Variable) → terms.substitute_all f ts ≡ terms.substitute_all g ts → IsAmong (terms.variables_of_all ts) x → f x ≡ g x
  same_images_all f g terms.none x e a = absurd a
  same_images_all f g (terms.more t ts) x e a =
      let both = same_more (terms.substitute f t) (terms.substitute g t) (terms.substitute_all f ts) (terms.substitute_all g ts) e in
      elim (among_parts (terms.variables t) (terms.variables_of_all ts) x a) as (λ _. f x ≡ g x) [
        | inl b ↦ same_images f g t x both.0 b
        | inr b ↦ same_images_all f g ts x both.1 b
      ]

pub indicator_variable : (xs : List Variable) (n : ℕ) → IsAmong (indicators_among xs) n → IsAmong xs (ind n)
indicator_variable [] n a = absurd a
indicator_variable (query m ∷ xs) n a = inr (indicator_variable xs n a)
indicator_variable (entry m ∷ xs) n a = inr (indicator_variable xs n a)
indicator_variable (ind m ∷ xs) n (inl e) = inl (ap ind e)
indicator_variable (ind m ∷ xs) n (inr a) = inr (indicator_variable xs n a)
