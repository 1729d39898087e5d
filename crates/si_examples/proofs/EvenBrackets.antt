-- A formula closes as many round brackets as it opens.
use Rattle.std.proofs.Common.{◌≡◌, ℕ, zero, suc, ◌+◌, Bool, true, false, ◌==◌, cond, List, [], ◌∷◌, ◌++◌, codes, refl, ap, sym, subst, inl, inr, arith}
use Rattle.std.specs.Prelude.{replicate}
use Rattle.std.proofs.lemmas.List.{append_cancel_right}
use Rattle.si_defs.specs.Bytes.{Bytes}
use Rattle.si_defs.specs.Terms as terms
use Rattle.si_defs.specs.Symbols.{Symbol}
use Rattle.si_defs.specs.Clauses.{Term, Terms, Literal}
use Rattle.si_defs.specs.Tokens.{Token, mark, lower, upper}
use Rattle.si_defs.specs.Grammar.{left_bracket, right_bracket, comma, full_stop, not_equal, IsHead, IsConstant, IsTerm, AreMoreTerms, AreSides, IsAtom, IsInequation, IsSignedAtom, AreMoreLiterals, IsDisjunction, IsFormula, IsExtra, clause_item, include_item}
use Rattle.si_defs.specs.declared.SymKind.{SymKind}
use Rattle.si_defs.specs.declared.SymKind.TheVariants.{Word, Dollar, Number, Distinct, Equal}
use Rattle.si_defs.specs.declared.TokenKind.{TokenKind}
use Rattle.si_defs.specs.declared.TokenKind.TheVariants as token
use Rattle.si_examples.specs.Grammar.{NoOpenBracket}
use Rattle.si_examples.proofs.Formulas.{third_kind, other_kind}

-- 1 where the token is this mark
abbrev one : ℕ → Token → ℕ
one c t = of t.kind t.text where
  of : TokenKind → Bytes → ℕ
  of token.Mark (d ∷ []) = cond (d == c) 1 0
  of kind text = 0

-- how often the mark stands in the tokens
abbrev marks : ℕ → List Token → ℕ
marks c [] = 0
marks c (t ∷ ts) = one c t + marks c ts

-- ---- of tokens
marks-append : (c : ℕ) (ts us : List Token) → marks c (ts ++ us) ≡ marks c ts + marks c us
marks-append c [] us = omega arith
marks-append c (t ∷ ts) us = let h = marks-append c ts us in omega arith

abbrev IsEven : List Token → Type 0
IsEven ts = marks 40 ts ≡ marks 41 ts

-- neither bracket
abbrev IsNeutral : Token → Type 0
IsNeutral t = (one 40 t ≡ 0) × (one 41 t ≡ 0)

even_append : (ts us : List Token) → IsEven ts → IsEven us → IsEven (ts ++ us)
even_append ts us h k = omega (arith, marks-append 40 ts us, marks-append 41 ts us)

even_more : (t : Token) (ts : List Token) → IsNeutral t → IsEven ts → IsEven (t ∷ ts)
even_more t ts n h = omega arith

even_one : (t : Token) → IsNeutral t → IsEven (t ∷ [])
even_one t n = omega arith

-- tokens in brackets
even_bracketed : (ts : List Token) → IsEven ts → IsEven (left_bracket ∷ ts ++ right_bracket ∷ [])
even_bracketed ts h = omega (arith, marks-append 40 ts (right_bracket ∷ []), marks-append 41 ts (right_bracket ∷ []))

-- a head and its arguments in brackets
even_applied : (t : Token) (ts us : List Token) → IsNeutral t → IsEven ts → IsEven us → IsEven (t ∷ left_bracket ∷ ts ++ us ++ right_bracket ∷ [])
even_applied t ts us n h k = even_more t (left_bracket ∷ ts ++ us ++ right_bracket ∷ []) n (even_bracketed (ts ++ us) (even_append ts us h k))

neutral : (t u : Token) → t ≡ u → IsNeutral u → IsNeutral t
neutral t u e n = subst IsNeutral (sym e) n

head_neutral : (kind : SymKind) (text : Bytes) (t : Token) → IsHead kind text t → IsNeutral t
head_neutral Word text t (inl e) = neutral t _ e (refl, refl)
head_neutral Word text t (inr e) = neutral t _ e (refl, refl)
head_neutral Dollar text t e = neutral t _ e (refl, refl)
head_neutral Number text t h = absurd h
head_neutral Distinct text t h = absurd h
head_neutral Equal text t h = absurd h

constant_neutral : (kind : SymKind) (text : Bytes) (t : Token) → IsConstant kind text t → IsNeutral t
constant_neutral Number text t e = neutral t _ e (refl, refl)
constant_neutral Distinct text t e = neutral t _ e (refl, refl)
constant_neutral Word text t h = head_neutral Word text t h
constant_neutral Dollar text t h = head_neutral Dollar text t h
constant_neutral Equal text t h = absurd h

-- the same tokens
even : (ts us : List Token) → ts ≡ us → IsEven us → IsEven ts
even ts us e h = subst IsEven (sym e) h

-- ---- of terms, literals and formulas
mutual
  term_even : (t : Term) (ts : List Token) → IsTerm t ts → IsEven ts
  term_even (terms.var x) ts h = even ts _ h refl
  term_even (terms.app s terms.none) ts h = let k = h.2 in even ts _ k.2 (even_one k.0 (constant_neutral s.kind s.text k.0 k.1))
  term_even (terms.app s (terms.more u us)) ts h =
      let k = h.2 in
      even ts _ k.6 (even_applied k.0 k.1 k.2 (head_neutral s.kind s.text k.0 k.3) (term_even u k.1 k.4) (more_even us k.2 k.5))

  more_even : (us : Terms) (ts : List Token) → AreMoreTerms us ts → IsEven ts
  more_even terms.none ts h = even ts _ h refl
  more_even (terms.more u us) ts h = even ts _ h.4 (even_more comma (h.0 ++ h.1) (refl, refl) (even_append h.0 h.1 (term_even u h.0 h.2) (more_even us h.1 h.3)))

sides_even : (sign : Token) (s : Symbol) (u : Term) (us : Terms) (ts : List Token) → IsNeutral sign → AreSides sign s u us ts → IsEven ts
sides_even sign s u terms.none ts n h = absurd h
sides_even sign s u (terms.more r terms.none) ts n h =
    let k = h.1 in
    even ts _ k.4 (even_append k.0 (sign ∷ k.1) (term_even u k.0 k.2) (even_more sign k.1 n (term_even r k.1 k.3)))
sides_even sign s u (terms.more r (terms.more v vs)) ts n h = absurd h

atom_even : (atom : Term) (ts : List Token) → IsAtom atom ts → IsEven ts
atom_even (terms.var x) ts h = absurd h
atom_even (terms.app s terms.none) ts h = let k = h.2 in even ts _ k.2 (even_one k.0 (head_neutral s.kind s.text k.0 k.1))
atom_even (terms.app s (terms.more u us)) ts (inl h) =
    let k = h.2 in
    even ts _ k.6 (even_applied k.0 k.1 k.2 (head_neutral s.kind s.text k.0 k.3) (term_even u k.1 k.4) (more_even us k.2 k.5))
atom_even (terms.app s (terms.more u us)) ts (inr h) = sides_even (mark 61) s u us ts (refl, refl) h

inequation_even : (atom : Term) (ts : List Token) → IsInequation atom ts → IsEven ts
inequation_even (terms.var x) ts h = absurd h
inequation_even (terms.app s terms.none) ts h = absurd h
inequation_even (terms.app s (terms.more u us)) ts h = sides_even not_equal s u us ts (refl, refl) h

signed_even : (positive : Bool) (atom : Term) (ts : List Token) → IsSignedAtom positive atom ts → IsEven ts
signed_even true atom ts h = atom_even atom ts h
signed_even false atom ts (inl h) = even ts _ h.2 (even_more (mark 126) h.0 (refl, refl) (atom_even atom h.0 h.1))
signed_even false atom ts (inr (inl h)) = even ts _ h.2 (even_more (mark 126) (left_bracket ∷ h.0 ++ right_bracket ∷ []) (refl, refl) (even_bracketed h.0 (atom_even atom h.0 h.1)))
signed_even false atom ts (inr (inr h)) = inequation_even atom ts h

literals_even : (ls : List Literal) (ts : List Token) → AreMoreLiterals ls ts → IsEven ts
literals_even [] ts h = even ts _ h refl
literals_even (l ∷ ls) ts h =
    even ts _ h.4 (even_more (mark 124) (h.0 ++ h.1) (refl, refl) (even_append h.0 h.1 (signed_even l.positive l.atom h.0 h.2) (literals_even ls h.1 h.3)))

disjunction_even : (ls : List Literal) (ts : List Token) → IsDisjunction ls ts → IsEven ts
disjunction_even [] ts h = absurd h
disjunction_even (l ∷ ls) ts h = even ts _ h.4 (even_append h.0 h.1 (signed_even l.positive l.atom h.0 h.2) (literals_even ls h.1 h.3))

-- a bracket, any number of times
lefts : (n : ℕ) → (marks 40 (replicate n left_bracket) ≡ n) × (marks 41 (replicate n left_bracket) ≡ 0)
lefts zero = (refl, refl)
lefts (suc n) = let h = lefts n in (omega arith, omega arith)

-- and the closing one
rights : (n : ℕ) → (marks 41 (replicate n right_bracket) ≡ n) × (marks 40 (replicate n right_bracket) ≡ 0)
rights zero = (refl, refl)
rights (suc n) = let h = rights n in (omega arith, omega arith)

pub formula_even : (ls : List Literal) (ts : List Token) → IsFormula ls ts → IsEven ts
formula_even ls ts h =
    let n = h.0 in
    let d = disjunction_even ls h.1 h.2 in
    let l = lefts n in
    let r = rights n in
    even ts _ h.3
    (omega (
      arith,
      marks-append 40 (replicate n left_bracket ++ h.1) (replicate n right_bracket),
      marks-append 41 (replicate n left_bracket ++ h.1) (replicate n right_bracket),
      marks-append 40 (replicate n left_bracket) h.1,
      marks-append 41 (replicate n left_bracket) h.1,
    ))

-- ---- `p(X`
abbrev open_atom : List Token
open_atom = lower (codes "p") ∷ left_bracket ∷ upper (codes "X") ∷ []

-- where an item is read its formula and the annotations
abbrev behind_head : List Token → List Token
behind_head (t₁ ∷ t₂ ∷ t₃ ∷ t₄ ∷ t₅ ∷ t₆ ∷ ts) = ts
behind_head ts = []

-- no comma stands there
no_comma : (formula extra : List Token) (t : Token) → t ≡ comma → open_atom ≡ formula ++ t ∷ extra → ⊥
no_comma formula extra t e h =
    let n : one 44 t ≡ 1 = ap (one 44) e in
    let m : 0 ≡ marks 44 (formula ++ t ∷ extra) = ap (marks 44) h in
    absurd (omega (arith, marks-append 44 formula (t ∷ extra)))

-- so neither annotations nor a formula make it up
parts : (ls : List Literal) (formula extra : List Token) → IsFormula ls formula → IsExtra extra → open_atom ≡ formula ++ extra → ⊥
parts ls formula [] f x e =
    let h = formula_even ls formula f in
    let l : 1 ≡ marks 40 (formula ++ []) = ap (marks 40) e in
    let r : 0 ≡ marks 41 (formula ++ []) = ap (marks 41) e in
    absurd (omega (arith, marks-append 40 formula [], marks-append 41 formula []))
parts ls formula (t ∷ extra) f x e = no_comma formula extra t x.0 e

pub no_open_bracket : NoOpenBracket
no_open_bracket (clause_item c) h =
    let e : open_atom ++ right_bracket ∷ full_stop ∷ [] ≡ h.1 ++ h.2 ++ right_bracket ∷ full_stop ∷ [] = ap behind_head h.6 in
    parts c.literals h.1 h.2 h.4 h.5 (append_cancel_right open_atom (h.1 ++ h.2) (right_bracket ∷ full_stop ∷ []) e)
no_open_bracket (include_item file selection) h = other_kind (ap third_kind h.2)
