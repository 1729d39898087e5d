-- Which token a formula begins with.
use Rattle.std.proofs.Common.{◌≡◌, ℕ, zero, suc, Bool, true, false, List, [], ◌∷◌, ◌++◌, codes, refl, ap, sym, ◌∙◌, subst, ◌⊎◌, inl, inr}
use Rattle.std.specs.Prelude.{replicate}
use Rattle.std.proofs.lemmas.Bool.{false≢true}
use Rattle.si_defs.specs.Bytes.{Bytes}
use Rattle.si_defs.specs.Terms as terms
use Rattle.si_defs.specs.Symbols.{Symbol}
use Rattle.si_defs.specs.Clauses.{Term, Terms, Literal}
use Rattle.si_defs.specs.Tokens.{Token, mark, lower, upper}
use Rattle.si_defs.specs.Grammar.{left_bracket, right_bracket, comma, full_stop, IsHead, IsConstant, IsTerm, AreSides, IsAtom, IsInequation, IsSignedAtom, IsLiteral, IsDisjunction, IsFormula, Item, clause_item, include_item, IsItem}
use Rattle.si_defs.specs.declared.SymKind.{SymKind}
use Rattle.si_defs.specs.declared.SymKind.TheVariants.{Word, Dollar, Number, Distinct, Equal}
use Rattle.si_defs.specs.declared.TokenKind.{TokenKind}
use Rattle.si_defs.specs.declared.TokenKind.TheVariants as token
use Rattle.si_defs.proofs.ListLaws.{same_first}
use Rattle.si_examples.proofs.Differ.{marks_differ}

abbrev is_no_mark : Token → Bool
is_no_mark t = of t.kind where
  of : TokenKind → Bool
  of token.Mark = false
  of kind = true

-- the tokens begin with one that is no mark
abbrev BeginsBare : List Token → Type 0
BeginsBare ts = (t : Token) × (us : List Token) × (is_no_mark t ≡ true) × (ts ≡ t ∷ us)

-- or with such a one, or a bracket, after a sign, or with a bracket
abbrev pub Opens : List Token → Type 0
Opens ts =
    BeginsBare ts
    ⊎ (((us : List Token) × BeginsBare us × (ts ≡ mark 126 ∷ us))
    ⊎ (((us : List Token) × (ts ≡ mark 126 ∷ left_bracket ∷ us))
    ⊎ ((us : List Token) × (ts ≡ left_bracket ∷ us))))

-- ---- which tokens they begin with
head_bare : (kind : SymKind) (text : Bytes) (t : Token) → IsHead kind text t → is_no_mark t ≡ true
head_bare Word text t (inl e) = subst (λ u. is_no_mark u ≡ true) (sym e) refl
head_bare Word text t (inr e) = subst (λ u. is_no_mark u ≡ true) (sym e) refl
head_bare Dollar text t e = subst (λ u. is_no_mark u ≡ true) (sym e) refl
head_bare Number text t h = absurd h
head_bare Distinct text t h = absurd h
head_bare Equal text t h = absurd h

constant_bare : (kind : SymKind) (text : Bytes) (t : Token) → IsConstant kind text t → is_no_mark t ≡ true
constant_bare Number text t e = subst (λ u. is_no_mark u ≡ true) (sym e) refl
constant_bare Distinct text t e = subst (λ u. is_no_mark u ≡ true) (sym e) refl
constant_bare Word text t h = head_bare Word text t h
constant_bare Dollar text t h = head_bare Dollar text t h
constant_bare Equal text t h = absurd h

term_bare : (t : Term) (ts : List Token) → IsTerm t ts → BeginsBare ts
term_bare (terms.var x) ts h = (upper x, [], refl, h)
term_bare (terms.app s terms.none) ts h = let k = h.2 in (k.0, [], constant_bare s.kind s.text k.0 k.1, k.2)
term_bare (terms.app s (terms.more u us)) ts h = let k = h.2 in (k.0, _, head_bare s.kind s.text k.0 k.3, k.6)

sides_bare : (sign : Token) (s : Symbol) (u : Term) (us : Terms) (ts : List Token) → AreSides sign s u us ts → BeginsBare ts
sides_bare sign s u terms.none ts h = absurd h
sides_bare sign s u (terms.more r terms.none) ts h =
    let k = h.1 in
    let b = term_bare u k.0 k.2 in
    (b.0, b.1 ++ sign ∷ k.1, b.2, k.4 ∙ ap (λ vs. vs ++ sign ∷ k.1) b.3)
sides_bare sign s u (terms.more r (terms.more v vs)) ts h = absurd h

atom_bare : (atom : Term) (ts : List Token) → IsAtom atom ts → BeginsBare ts
atom_bare (terms.var x) ts h = absurd h
atom_bare (terms.app s terms.none) ts h = let k = h.2 in (k.0, [], head_bare s.kind s.text k.0 k.1, k.2)
atom_bare (terms.app s (terms.more u us)) ts (inl h) = let k = h.2 in (k.0, _, head_bare s.kind s.text k.0 k.3, k.6)
atom_bare (terms.app s (terms.more u us)) ts (inr h) = sides_bare (mark 61) s u us ts h

inequation_bare : (atom : Term) (ts : List Token) → IsInequation atom ts → BeginsBare ts
inequation_bare (terms.var x) ts h = absurd h
inequation_bare (terms.app s terms.none) ts h = absurd h
inequation_bare (terms.app s (terms.more u us)) ts h = sides_bare _ s u us ts h

signed_opens : (positive : Bool) (atom : Term) (ts : List Token) → IsSignedAtom positive atom ts → Opens ts
signed_opens true atom ts h = inl (atom_bare atom ts h)
signed_opens false atom ts (inl h) = inr (inl (h.0, atom_bare atom h.0 h.1, h.2))
signed_opens false atom ts (inr (inl h)) = inr (inr (inl (_, h.2)))
signed_opens false atom ts (inr (inr h)) = inl (inequation_bare atom ts h)

pub literal_opens : (l : Literal) (ts : List Token) → IsLiteral l ts → Opens ts
literal_opens l ts h = signed_opens l.positive l.atom ts h

bare_append : (ts us : List Token) → BeginsBare ts → BeginsBare (ts ++ us)
bare_append ts us b = (b.0, b.1 ++ us, b.2, ap (λ vs. vs ++ us) b.3)

opens_append : (ts us : List Token) → Opens ts → Opens (ts ++ us)
opens_append ts us (inl b) = inl (bare_append ts us b)
opens_append ts us (inr (inl k)) = inr (inl (k.0 ++ us, bare_append k.0 us k.1, ap (λ vs. vs ++ us) k.2))
opens_append ts us (inr (inr (inl k))) = inr (inr (inl (k.0 ++ us, ap (λ vs. vs ++ us) k.1)))
opens_append ts us (inr (inr (inr k))) = inr (inr (inr (k.0 ++ us, ap (λ vs. vs ++ us) k.1)))

disjunction_opens : (ls : List Literal) (ts : List Token) → IsDisjunction ls ts → Opens ts
disjunction_opens [] ts h = absurd h
disjunction_opens (l ∷ ls) ts h = subst Opens (sym h.4) (opens_append h.0 h.1 (literal_opens l h.0 h.2))

-- a formula begins with a bracket, a sign or a token that is no mark
pub formula_opens : (ls : List Literal) (ts : List Token) → IsFormula ls ts → Opens ts
formula_opens ls ts h = by h.0 h.1 h.2 h.3 where
  by : (n : ℕ) (inner : List Token) → IsDisjunction ls inner → ts ≡ replicate n left_bracket ++ inner ++ replicate n right_bracket → Opens ts
  by zero inner d e = subst Opens (sym e) (opens_append inner [] (disjunction_opens ls inner d))
  by (suc n) inner d e = inr (inr (inr (replicate n left_bracket ++ inner ++ replicate (suc n) right_bracket, e)))

-- the kind of the third token, which is a name in a clause and a file in an include
abbrev pub third_kind : List Token → TokenKind
third_kind (t ∷ u ∷ v ∷ vs) = v.kind
third_kind ts = token.Mark

pub other_kind : token.Lower ≡ token.Single → ⊥
other_kind e = cc

rest_of : List Token → List Token
rest_of [] = []
rest_of (t ∷ ts) = ts

-- the tokens of an item that begins with `cnf`, up to its formula
abbrev pub front : List Token → List Token
front ts = lower (codes "cnf") ∷ left_bracket ∷ lower (codes "c2") ∷ comma ∷ lower (codes "axiom") ∷ comma ∷ ts

-- a formula stands there
pub item_opens : (item : Item) (ts : List Token) → IsItem item (front ts) → Opens ts
unfolding rest_of
item_opens (clause_item c) ts h =
    let e : ts ≡ h.1 ++ h.2 ++ right_bracket ∷ full_stop ∷ [] = ap (λ us. rest_of (rest_of (rest_of (rest_of (rest_of (rest_of us)))))) h.6 in
    subst Opens (sym e) (opens_append (h.1 ++ h.2) (right_bracket ∷ full_stop ∷ []) (opens_append h.1 h.2 (formula_opens c.literals h.1 h.4)))
item_opens (include_item file selection) ts h = absurd (other_kind (ap third_kind h.2))

-- tokens that begin with a mark
bare_not : (t : Token) (ts : List Token) → is_no_mark t ≡ false → BeginsBare (t ∷ ts) → ⊥
bare_not t ts h b =
    let e : b.0 ≡ t = cc in
    false≢true (sym h ∙ subst (λ u. is_no_mark u ≡ true) e b.2)

-- `)` begins no formula
pub bracket_opens : (ts : List Token) → Opens (right_bracket ∷ ts) → ⊥
bracket_opens ts (inl b) = bare_not right_bracket ts refl b
bracket_opens ts (inr (inl k)) = marks_differ 41 126 refl (same_first k.2)
bracket_opens ts (inr (inr (inl k))) = marks_differ 41 126 refl (same_first k.1)
bracket_opens ts (inr (inr (inr k))) = marks_differ 41 40 refl (same_first k.1)

-- nor does a sign before `)`
pub sign_opens : (ts : List Token) → Opens (mark 126 ∷ right_bracket ∷ ts) → ⊥
unfolding rest_of
sign_opens ts (inl b) = bare_not (mark 126) (right_bracket ∷ ts) refl b
sign_opens ts (inr (inl k)) = bare_not right_bracket ts refl (subst BeginsBare (sym (ap rest_of k.2)) k.1)
sign_opens ts (inr (inr (inl k))) = marks_differ 41 40 refl (same_first (ap rest_of k.1))
sign_opens ts (inr (inr (inr k))) = marks_differ 126 40 refl (same_first k.1)
