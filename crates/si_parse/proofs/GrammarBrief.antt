-- Clauses without their annotations: the readers give the same of them.
use Rattle.std.proofs.Common.{◌≡◌, ℕ, zero, suc, ◌<◌, ◌≤◌, Bool, true, false, List, [], ◌∷◌, ◌++◌, replicate, length, Option, refl, sym, ap, ◌∙◌, subst, ◌⊎◌, inl, inr, append_assoc, arith, IsTrue}
use Rattle.std.specs.Prelude.{codes}
use Rattle.std.proofs.lemmas.Option.{none-some}
use Rattle.std.proofs.lemmas.List.{length-append, length-map}
use Rattle.si_defs.specs.Bytes.{Bytes}
use Rattle.si_defs.specs.Terms as terms
use Rattle.si_defs.specs.Clauses.{Clause, Term, Terms, Literal}
use Rattle.si_defs.specs.Symbols.{Symbol}
use Rattle.si_defs.specs.Substitutions.{IsAmong}
use Rattle.si_defs.specs.Texts.{languages}
use Rattle.si_defs.specs.Tokens.{Token, mark, lower, upper}
use Rattle.si_defs.specs.Grammar.{IsTerm, AreMoreTerms, IsHead, IsConstant, IsAtom, IsInequation, AreSides, IsSignedAtom, AreMoreLiterals, IsDisjunction, IsFormula, IsName, IsExtra, IsClause, Selection, open_behind, left_bracket, right_bracket, comma, full_stop, not_equal, balances}
use Rattle.si_defs.specs.declared.SymKind.{SymKind}
use Rattle.si_defs.specs.declared.SymKind.TheVariants.{Word, Dollar, Number, Distinct, Equal}
use Rattle.si_defs.specs.declared.TokenKind.{TokenKind}
use Rattle.si_defs.specs.declared.TokenKind.TheVariants as token
use Rattle.si_defs.proofs.ListLaws.{same_first, same_tail}
use Rattle.si_lex.specs.Annotations.{IsComma, HasNoComma, BeginsClause, LeavesOut}
use Rattle.si_lex.specs.FullStops.{HasNoFullStop, depth_from}
use Rattle.si_lex.specs.Lexemes.{token_of, tokens_of}
use Rattle.si_lex.specs.declared.lexeme.Lexeme.{Lexeme}
use Rattle.si_lex.specs.declared.lexing.TokensEnd.{TokensEnd}
use Rattle.si_lex.proofs.BracketLaws.{balanced_open}
use Rattle.si_lex.proofs.LexingLaws.{depth_append}
use Rattle.si_parse.specs.GrammarRules.{IsInclude}
use Rattle.si_parse.specs.Parsing.{ReadsTokens, Anything}
use Rattle.si_parse.specs.Reading.{AreForeign, IsFaultAt, IsNoItem}
use Rattle.si_parse.specs.declared.item.Read.{Read}
use Rattle.si_parse.specs.declared.item.Read.TheVariants as read
use Rattle.si_parse.proofs.GrammarNotes.{Beside, ends, goes_on, beside}
use Rattle.si_parse.proofs.GrammarStops.{Flat, flat_depth, flat_name, one_more, one_less, replicate_last}
use Rattle.si_parse.proofs.GrammarTerms.{head_constant, marks_apart}

-- ---- inside a bracket
-- these tokens have no comma with one bracket open, and close no more than they open
abbrev IsInside : ℕ → List Token → Type 0
IsInside d [] = Unit {0}
IsInside d (t ∷ ts) = (IsComma d t → ⊥) × ((0 < open_behind d t) × IsInside (open_behind d t) ts)

-- wherever a bracket is open, and they leave as many open
abbrev Calm : List Token → Type 0
Calm ts = (d : ℕ) → IsInside (suc d) ts × (depth_from (suc d) ts ≡ suc d)

-- wherever two are
abbrev Deep : List Token → Type 0
Deep ts = (d : ℕ) → IsInside (suc (suc d)) ts × (depth_from (suc (suc d)) ts ≡ suc (suc d))

calm_deep : (ts : List Token) → Calm ts → Deep ts
calm_deep ts h d = h (suc d)

-- ---- one after another
inside_append : (d : ℕ) (ts us : List Token) → IsInside d ts → IsInside (depth_from d ts) us → IsInside d (ts ++ us)
inside_append d [] us h k = k
inside_append d (t ∷ ts) us h k = (h.0, (h.1.0, inside_append (open_behind d t) ts us h.1.1 k))

calm_none : Calm []
calm_none d = (tt, refl)

deep_none : Deep []
deep_none d = (tt, refl)

calm_append : (ts us : List Token) → Calm ts → Calm us → Calm (ts ++ us)
calm_append ts us h k d = (
  inside_append (suc d) ts us (h d).0 (subst (λ n. IsInside n us) (sym (h d).1) (k d).0),
  depth_append (suc d) ts us ∙ ap (λ n. depth_from n us) (h d).1 ∙ (k d).1,
)

deep_append : (ts us : List Token) → Deep ts → Deep us → Deep (ts ++ us)
deep_append ts us h k d = (
  inside_append (suc (suc d)) ts us (h d).0 (subst (λ n. IsInside n us) (sym (h d).1) (k d).0),
  depth_append (suc (suc d)) ts us ∙ ap (λ n. depth_from n us) (h d).1 ∙ (k d).1,
)

calm_at : {ts us : List Token} → ts ≡ us → Calm us → Calm ts
calm_at e h = subst Calm (sym e) h

deep_at : {ts us : List Token} → ts ≡ us → Deep us → Deep ts
deep_at e h = subst Deep (sym e) h

-- ---- single tokens
-- a token that is neither a bracket nor a comma
abbrev Plain : Token → Type 0
Plain t = Flat t × (t ≡ comma → ⊥)

plain_at : {t u : Token} → t ≡ u → Plain u → Plain t
plain_at e h = subst Plain (sym e) h

above : (d : ℕ) → 0 < suc d
above d = omega arith

calm_plain : (t : Token) (ts : List Token) → Plain t → Calm ts → Calm (t ∷ ts)
calm_plain t ts h k d =
    let same = flat_depth (suc d) t h.0 in (
      (λ c. h.1 c.1, (subst (λ n. 0 < n) (sym same) (above d), subst (λ n. IsInside n ts) (sym same) (k d).0)),
      ap (λ n. depth_from n ts) same ∙ (k d).1,
    )

-- where two brackets are open it may be a comma
deep_flat : (t : Token) (ts : List Token) → Flat t → Deep ts → Deep (t ∷ ts)
deep_flat t ts h k d =
    let same = flat_depth (suc (suc d)) t h in (
      (λ c. absurd (omega (arith, c.0)), (subst (λ n. 0 < n) (sym same) (above (suc d)), subst (λ n. IsInside n ts) (sym same) (k d).0)),
      ap (λ n. depth_from n ts) same ∙ (k d).1,
    )

-- ---- brackets
left_no_comma : left_bracket ≡ comma → ⊥
left_no_comma e = marks_apart 40 44 (λ f. absurd (omega (arith, f))) e

right_no_comma : right_bracket ≡ comma → ⊥
right_no_comma e = marks_apart 41 44 (λ f. absurd (omega (arith, f))) e

calm_round : (ts : List Token) → Deep ts → Calm (left_bracket ∷ ts ++ right_bracket ∷ [])
calm_round ts h d =
    let open_now = one_more (suc d) in
    let closed_now : depth_from (suc (suc d)) (right_bracket ∷ []) ≡ suc d = one_less (suc d) in
    let closing : IsInside (suc (suc d)) (right_bracket ∷ []) = (λ c. right_no_comma c.1, (subst (λ n. 0 < n) (sym closed_now) (above d), tt)) in (
      (
        λ c. left_no_comma c.1,
        (
          subst (λ n. 0 < n) (sym open_now) (above (suc d)),
          subst (λ n. IsInside n (ts ++ right_bracket ∷ [])) (sym open_now)
              (inside_append (suc (suc d)) ts (right_bracket ∷ []) (h d).0 (subst (λ n. IsInside n (right_bracket ∷ [])) (sym (h d).1) closing)),
        ),
      ),
      ap (λ n. depth_from n (ts ++ right_bracket ∷ [])) open_now ∙ depth_append (suc (suc d)) ts (right_bracket ∷ []) ∙ ap (λ n. depth_from n (right_bracket ∷ [])) (h d).1 ∙ closed_now,
    )

-- ---- terms
kind_no_comma : (t : Token) → (t.kind ≡ token.Mark → ⊥) → t ≡ comma → ⊥
kind_no_comma t n e = n (ap (λ (x : Token). x.kind) e)

plain_kind : (kind : TokenKind) (text : Bytes) → Flat (record { kind = kind; text = text }) → (kind ≡ token.Mark → ⊥) → Plain (record { kind = kind; text = text })
plain_kind kind text f n = (f, kind_no_comma (record { kind = kind; text = text }) n)

plain_constant : (kind : SymKind) (text : Bytes) (t : Token) → IsConstant kind text t → Plain t
plain_constant Word text t (inl e) = plain_at e (plain_kind token.Lower text (refl, refl) (λ f. cc))
plain_constant Word text t (inr e) = plain_at e (plain_kind token.Single text (refl, refl) (λ f. cc))
plain_constant Dollar text t e = plain_at e (plain_kind token.Dollar text (refl, refl) (λ f. cc))
plain_constant Number text t e = plain_at e (plain_kind token.Int text (refl, refl) (λ f. cc))
plain_constant Distinct text t e = plain_at e (plain_kind token.Double text (refl, refl) (λ f. cc))
plain_constant Equal text t e = absurd e

plain_mark : (c : ℕ) → Flat (mark c) → (c ≡ 44 → ⊥) → Plain (mark c)
plain_mark c f n = (f, marks_apart c 44 n)

calm_applied : (kind : SymKind) (text : Bytes) (t : Token) (first others ts : List Token) → IsHead kind text t → Calm first → Deep others → ts ≡ t ∷ left_bracket ∷ first ++ others ++ right_bracket ∷ [] → Calm ts
calm_applied kind text t first others ts head h k e =
    calm_at e (calm_plain t (left_bracket ∷ (first ++ others) ++ right_bracket ∷ []) (plain_constant kind text t (head_constant kind text t head))
    (calm_round (first ++ others) (deep_append first others (calm_deep first h) k)))

mutual
  calm_term : (m : Term) (ts : List Token) → IsTerm m ts → Calm ts
  calm_term (terms.var x) ts e = calm_at e (calm_plain (upper x) [] (plain_kind token.Upper x (refl, refl) (λ f. cc)) calm_none)
  calm_term (terms.app s terms.none) ts (side, arity, (t, constant, e)) = calm_at e (calm_plain t [] (plain_constant s.kind s.text t constant) calm_none)
  calm_term (terms.app s (terms.more u us)) ts (side, arity, (t, first, others, head, one, all, e)) =
      calm_applied s.kind s.text t first others ts head (calm_term u first one) (deep_more us others all) e

  deep_more : (us : Terms) (ts : List Token) → AreMoreTerms us ts → Deep ts
  deep_more terms.none ts e = deep_at e deep_none
  deep_more (terms.more u us) ts (first, others, one, all, e) =
      deep_at e (deep_flat comma (first ++ others) (refl, refl) (deep_append first others (calm_deep first (calm_term u first one)) (deep_more us others all)))

-- ---- literals and formulas
calm_sides : (sign : Token) (s : Symbol) (l : Term) (us : Terms) (ts : List Token) → Plain sign → AreSides sign s l us ts → Calm ts
calm_sides sign s l terms.none ts plain h = absurd h
calm_sides sign s l (terms.more r terms.none) ts plain (is, (left, right, one, two, e)) =
    calm_at e (calm_append left (sign ∷ right) (calm_term l left one) (calm_plain sign right plain (calm_term r right two)))
calm_sides sign s l (terms.more r (terms.more u us)) ts plain h = absurd h

calm_atom : (m : Term) (ts : List Token) → IsAtom m ts → Calm ts
calm_atom (terms.var x) ts h = absurd h
calm_atom (terms.app s terms.none) ts (side, arity, (t, head, e)) = calm_at e (calm_plain t [] (plain_constant s.kind s.text t (head_constant s.kind s.text t head)) calm_none)
calm_atom (terms.app s (terms.more u us)) ts (inl (side, arity, (t, first, others, head, one, all, e))) =
    calm_applied s.kind s.text t first others ts head (calm_term u first one) (deep_more us others all) e
calm_atom (terms.app s (terms.more u us)) ts (inr h) = calm_sides (mark 61) s u us ts (plain_mark 61 (refl, refl) (λ f. absurd (omega (arith, f)))) h

calm_inequation : (m : Term) (ts : List Token) → IsInequation m ts → Calm ts
calm_inequation (terms.var x) ts h = absurd h
calm_inequation (terms.app s terms.none) ts h = absurd h
calm_inequation (terms.app s (terms.more u us)) ts h = calm_sides not_equal s u us ts (plain_kind token.NotEqual (codes "!=") (refl, refl) (λ f. cc)) h

plain_tilde : Plain (mark 126)
plain_tilde = plain_mark 126 (refl, refl) (λ f. absurd (omega (arith, f)))

plain_bar : Plain (mark 124)
plain_bar = plain_mark 124 (refl, refl) (λ f. absurd (omega (arith, f)))

calm_signed : (positive : Bool) (m : Term) (ts : List Token) → IsSignedAtom positive m ts → Calm ts
calm_signed true m ts h = calm_atom m ts h
calm_signed false m ts (inl (us, h, e)) = calm_at e (calm_plain (mark 126) us plain_tilde (calm_atom m us h))
calm_signed false m ts (inr (inl (us, h, e))) =
    calm_at e (calm_plain (mark 126) (left_bracket ∷ us ++ right_bracket ∷ []) plain_tilde (calm_round us (calm_deep us (calm_atom m us h))))
calm_signed false m ts (inr (inr h)) = calm_inequation m ts h

calm_literals : (ls : List Literal) (ts : List Token) → AreMoreLiterals ls ts → Calm ts
calm_literals [] ts e = calm_at e calm_none
calm_literals (l ∷ ls) ts (first, others, one, all, e) =
    calm_at e (calm_plain (mark 124) (first ++ others) plain_bar (calm_append first others (calm_signed l.positive l.atom first one) (calm_literals ls others all)))

calm_disjunction : (ls : List Literal) (ts : List Token) → IsDisjunction ls ts → Calm ts
calm_disjunction [] ts h = absurd h
calm_disjunction (l ∷ ls) ts (first, others, one, all, e) = calm_at e (calm_append first others (calm_signed l.positive l.atom first one) (calm_literals ls others all))

calm_brackets : (n : ℕ) (ts : List Token) → Calm ts → Calm ((replicate n left_bracket ++ ts) ++ replicate n right_bracket)
calm_brackets zero ts h = calm_append ts [] h calm_none
calm_brackets (suc n) ts h =
    calm_at (ap (λ x. left_bracket ∷ (replicate n left_bracket ++ ts) ++ x) (replicate_last n right_bracket)
    ∙ ap (λ x. left_bracket ∷ x) (sym (append_assoc (replicate n left_bracket ++ ts) (replicate n right_bracket) (right_bracket ∷ []))))
    (calm_round ((replicate n left_bracket ++ ts) ++ replicate n right_bracket) (calm_deep ((replicate n left_bracket ++ ts) ++ replicate n right_bracket) (calm_brackets n ts h)))

calm_formula : (ls : List Literal) (ts : List Token) → IsFormula ls ts → Calm ts
calm_formula ls ts (n, inner, h, e) = calm_at e (calm_brackets n inner (calm_disjunction ls inner h))

-- ---- where a formula ends
-- a comma, or the end of the clause
abbrev GoesOn : List Token → Type 0
GoesOn xs = ((rest : List Token) × (xs ≡ comma ∷ rest)) ⊎ ((rest : List Token) × (xs ≡ right_bracket ∷ full_stop ∷ rest))

-- a comma, or a closing bracket
abbrev Closes : List Token → Type 0
Closes ys = ((rest : List Token) × (ys ≡ comma ∷ rest)) ⊎ ((rest : List Token) × (ys ≡ right_bracket ∷ rest))

-- after the clause's bracket none is open
none_open : (d : ℕ) (t : Token) → d ≡ 1 → t ≡ right_bracket → open_behind d t ≡ 0
none_open d t e f = ap (λ n. open_behind n t) e ∙ ap (open_behind 1) f

stop_no_comma : full_stop ≡ comma → ⊥
stop_no_comma e = marks_apart 46 44 (λ f. absurd (omega (arith, f))) e

stop_no_bracket : full_stop ≡ right_bracket → ⊥
stop_no_bracket e = marks_apart 46 41 (λ f. absurd (omega (arith, f))) e

no_stop_closes : (ys rest : List Token) → Closes ys → full_stop ∷ rest ≡ ys → ⊥
no_stop_closes ys rest (inl (r, y)) e = stop_no_comma (same_first (e ∙ y))
no_stop_closes ys rest (inr (r, y)) e = stop_no_bracket (same_first (e ∙ y))

-- A formula ends where the first comma with one bracket open stands, or the bracket that closes the
-- clause before its full stop.
same_end : (d : ℕ) (formula inner xs ys : List Token) → IsInside d formula → depth_from d formula ≡ 1 → HasNoComma zero d inner → HasNoFullStop d inner → depth_from d inner ≡ 1
    → GoesOn xs → Closes ys → formula ++ xs ≡ inner ++ ys → (formula ≡ inner) × (xs ≡ ys)
same_end d [] [] xs ys i a n s b x y e = (refl, e)
same_end d [] (t ∷ inner) xs ys i a n s b (inl (r, x)) y e = absurd (n.0 (a, sym (same_first (sym x ∙ e))))
same_end d [] (t ∷ inner) xs ys i a n s b (inr (r, x)) y e = absurd (by inner s.1 (same_tail (sym x ∙ e))) where
  closed : open_behind d t ≡ 0
  closed = none_open d t a (sym (same_first (sym x ∙ e)))

  by : (us : List Token) → HasNoFullStop (open_behind d t) us → full_stop ∷ r ≡ us ++ ys → ⊥
  by [] h f = no_stop_closes ys r y f
  by (u ∷ us) h f = h.0 (closed, sym (same_first f))
same_end d (t ∷ formula) [] xs ys i a n s b x (inl (r, y)) e = absurd (i.0 (b, same_first (e ∙ y)))
same_end d (t ∷ formula) [] xs ys i a n s b x (inr (r, y)) e = absurd (omega (arith, i.1.0, none_open d t b (same_first (e ∙ y))))
same_end d (t ∷ formula) (u ∷ inner) xs ys i a n s b x y e =
    let same : u ≡ t = sym (same_first e) in
    let h =
    same_end (open_behind d t) formula inner xs ys i.1.1 a (subst (λ v. HasNoComma zero (open_behind d v) inner) same n.1) (subst (λ v. HasNoFullStop (open_behind d v) inner) same s.1)
    (subst (λ v. depth_from (open_behind d v) inner ≡ 1) same b) x y (same_tail e) in
    (ap (λ v. v ∷ formula) (sym same) ∙ ap (λ v. u ∷ v) h.0, h.1)

-- ---- the heading of a clause
-- a list that begins with at most as many tokens as another has begins that one
front_split : (xs tail front rest : List Token) → xs ++ tail ≡ front ++ rest → length xs ≤ length front → (inner : List Token) × (front ≡ xs ++ inner) × (tail ≡ inner ++ rest)
front_split [] tail front rest e l = (front, refl, e)
front_split (x ∷ xs) tail [] rest e l = absurd (omega (arith, l))
front_split (x ∷ xs) tail (f ∷ front) rest e l =
    let h = front_split xs tail front rest (same_tail e) (omega (arith, l)) in
    (h.0, ap (λ y. y ∷ front) (sym (same_first e)) ∙ ap (λ y. x ∷ y) h.1, h.2)

abbrev heading : Token → Bytes → List Token
heading name role = lower (codes "cnf") ∷ left_bracket ∷ name ∷ comma ∷ lower role ∷ comma ∷ []

-- the tokens of a clause after its heading
module _ (c : Clause) (name : Token) (is_name : IsName c.name name) (front inner : List Token) (e : front ≡ heading name c.role ++ inner) where
  depth_of : open_behind 1 name ≡ 1
  depth_of = flat_depth 1 name (flat_name c.name.kind c.name.text name is_name)

  heading_comma : HasNoComma 6 0 front → HasNoComma zero 1 inner
  heading_comma h = subst (λ n. HasNoComma zero n inner) depth_of (subst (λ x. HasNoComma 6 0 x) e h)

  heading_stop : HasNoFullStop 0 front → HasNoFullStop 1 inner
  heading_stop h = let k = subst (λ x. HasNoFullStop 0 x) e h in subst (λ n. HasNoFullStop n inner) depth_of k.1.1.1.1.1.1

  heading_depth : depth_from 0 front ≡ 1 → depth_from 1 inner ≡ 1
  heading_depth h = ap (λ n. depth_from n inner) (sym depth_of) ∙ sym (ap (depth_from 0) e) ∙ h

-- the tokens of a clause and what follows them, in the order in which they are read
clause_order : (front formula extra rest : List Token) → (front ++ ((formula ++ extra) ++ right_bracket ∷ full_stop ∷ [])) ++ rest ≡ front ++ (formula ++ (extra ++ right_bracket ∷ full_stop ∷ rest))
clause_order front formula extra rest =
    append_assoc front ((formula ++ extra) ++ right_bracket ∷ full_stop ∷ []) rest
    ∙ ap (λ x. front ++ x) (append_assoc (formula ++ extra) (right_bracket ∷ full_stop ∷ []) rest ∙ append_assoc formula extra (right_bracket ∷ full_stop ∷ rest))

-- ---- clauses
formula_ends : (extra rest : List Token) → IsExtra extra → GoesOn (extra ++ right_bracket ∷ full_stop ∷ rest)
formula_ends [] rest h = inr (rest, refl)
formula_ends (t ∷ ts) rest h = inl (ts ++ right_bracket ∷ full_stop ∷ rest, ap (λ x. x ∷ ts ++ right_bracket ∷ full_stop ∷ rest) h.0)

same_notes : (notes rest behind : List Token) (ns : List Token) → IsTrue (balances ns []) → IsTrue (balances notes []) → ns ++ right_bracket ∷ rest ≡ notes ++ right_bracket ∷ behind → rest ≡ behind
same_notes notes rest behind ns h k e = by (beside ns notes right_bracket [] [] rest behind (balanced_open ns [] h) (balanced_open notes [] k) e) where
  by : Beside ns notes right_bracket [] rest behind → rest ≡ behind
  by (ends f g h k) = k
  by (goes_on next f) = absurd (none-some next f)

module _ (ts left : List Token) (h : LeavesOut ts left) where
  -- a clause at the front of all tokens stands without its annotations at the front of the others
  without : (c : Clause) (used rest : List Token) → ts ≡ used ++ rest → IsClause c used → (front : List Token) × (left ≡ front ++ rest) × IsClause c front
  without c used rest e (name, formula, extra, is_name, is_formula, is_extra, u) = by extra is_extra same.1 where
    order : heading name c.role ++ (formula ++ (extra ++ right_bracket ∷ full_stop ∷ rest)) ≡ h.front ++ (comma ∷ (h.notes ++ right_bracket ∷ h.rest))
    order = sym (clause_order (heading name c.role) formula extra rest) ∙ sym (ap (λ x. x ++ rest) u) ∙ sym e ∙ h.whole ∙ append_assoc h.front (comma ∷ h.notes) (right_bracket ∷ h.rest)

    split : (inner : List Token) × (h.front ≡ heading name c.role ++ inner) × (formula ++ (extra ++ right_bracket ∷ full_stop ∷ rest) ≡ inner ++ (comma ∷ (h.notes ++ right_bracket ∷ h.rest)))
    split = front_split (heading name c.role) (formula ++ (extra ++ right_bracket ∷ full_stop ∷ rest)) h.front (comma ∷ (h.notes ++ right_bracket ∷ h.rest)) order (omega (arith, h.long))

    calm : IsInside 1 formula × (depth_from 1 formula ≡ 1)
    calm = calm_formula c.literals formula is_formula 0

    same : (formula ≡ split.0) × (extra ++ right_bracket ∷ full_stop ∷ rest ≡ comma ∷ (h.notes ++ right_bracket ∷ h.rest))
    same =
        same_end 1 formula split.0 (extra ++ right_bracket ∷ full_stop ∷ rest) (comma ∷ (h.notes ++ right_bracket ∷ h.rest)) calm.0 calm.1
        (heading_comma c name is_name h.front split.0 split.1 h.no_comma) (heading_stop c name is_name h.front split.0 split.1 h.no_stop)
        (heading_depth c name is_name h.front split.0 split.1 h.depth) (formula_ends extra rest is_extra) (inl (h.notes ++ right_bracket ∷ h.rest, refl)) split.2

    bare : List Token
    bare = heading name c.role ++ ((formula ++ []) ++ right_bracket ∷ full_stop ∷ [])

    found : full_stop ∷ rest ≡ h.rest → (front : List Token) × (left ≡ front ++ rest) × IsClause c front
    found f = (
      bare,
      h.without ∙ ap (λ x. x ++ right_bracket ∷ h.rest) (split.1 ∙ ap (λ x. heading name c.role ++ x) (sym same.0))
          ∙ append_assoc (heading name c.role) formula (right_bracket ∷ h.rest) ∙ ap (λ x. heading name c.role ++ (formula ++ right_bracket ∷ x)) (sym f)
          ∙ sym (clause_order (heading name c.role) formula [] rest),
      (name, formula, [], is_name, is_formula, tt, refl),
    )

    by : (extra : List Token) → IsExtra extra → extra ++ right_bracket ∷ full_stop ∷ rest ≡ comma ∷ (h.notes ++ right_bracket ∷ h.rest)
        → (front : List Token) × (left ≡ front ++ rest) × IsClause c front
    by [] is f = absurd (right_no_comma (same_first f))
    by (x ∷ ns) is f = found (same_notes h.notes (full_stop ∷ rest) h.rest ns is.2 h.balanced (same_tail f))

  -- and a clause at the front of the others stands with them at the front of all
  with_notes : (c : Clause) (used rest : List Token) → left ≡ used ++ rest → IsClause c used → (front : List Token) × (ts ≡ front ++ rest) × IsClause c front
  with_notes c used rest e (name, formula, extra, is_name, is_formula, is_extra, u) = by extra is_extra same.1 where
    order : heading name c.role ++ (formula ++ (extra ++ right_bracket ∷ full_stop ∷ rest)) ≡ h.front ++ (right_bracket ∷ h.rest)
    order = sym (clause_order (heading name c.role) formula extra rest) ∙ sym (ap (λ x. x ++ rest) u) ∙ sym e ∙ h.without

    split : (inner : List Token) × (h.front ≡ heading name c.role ++ inner) × (formula ++ (extra ++ right_bracket ∷ full_stop ∷ rest) ≡ inner ++ (right_bracket ∷ h.rest))
    split = front_split (heading name c.role) (formula ++ (extra ++ right_bracket ∷ full_stop ∷ rest)) h.front (right_bracket ∷ h.rest) order (omega (arith, h.long))

    calm : IsInside 1 formula × (depth_from 1 formula ≡ 1)
    calm = calm_formula c.literals formula is_formula 0

    same : (formula ≡ split.0) × (extra ++ right_bracket ∷ full_stop ∷ rest ≡ right_bracket ∷ h.rest)
    same =
        same_end 1 formula split.0 (extra ++ right_bracket ∷ full_stop ∷ rest) (right_bracket ∷ h.rest) calm.0 calm.1 (heading_comma c name is_name h.front split.0 split.1 h.no_comma)
        (heading_stop c name is_name h.front split.0 split.1 h.no_stop) (heading_depth c name is_name h.front split.0 split.1 h.depth) (formula_ends extra rest is_extra) (inr (h.rest, refl)) split.2

    noted : List Token
    noted = heading name c.role ++ ((formula ++ comma ∷ h.notes) ++ right_bracket ∷ full_stop ∷ [])

    found : full_stop ∷ rest ≡ h.rest → (front : List Token) × (ts ≡ front ++ rest) × IsClause c front
    found f = (
      noted,
      h.whole ∙ append_assoc h.front (comma ∷ h.notes) (right_bracket ∷ h.rest)
          ∙ ap (λ x. x ++ comma ∷ (h.notes ++ right_bracket ∷ h.rest)) (split.1 ∙ ap (λ x. heading name c.role ++ x) (sym same.0))
          ∙ append_assoc (heading name c.role) formula (comma ∷ (h.notes ++ right_bracket ∷ h.rest))
          ∙ ap (λ x. heading name c.role ++ (formula ++ comma ∷ (h.notes ++ right_bracket ∷ x))) (sym f)
          ∙ sym (clause_order (heading name c.role) formula (comma ∷ h.notes) rest),
      (name, formula, comma ∷ h.notes, is_name, is_formula, (refl, h.some, h.balanced), refl),
    )

    by : (extra : List Token) → IsExtra extra → extra ++ right_bracket ∷ full_stop ∷ rest ≡ right_bracket ∷ h.rest → (front : List Token) × (ts ≡ front ++ rest) × IsClause c front
    by [] is f = found (same_tail f)
    by (x ∷ ns) is f = absurd (right_no_comma (sym (same_first f) ∙ is.0))

  -- so reading the others is reading all
  pub brief_clause : {result : Option (Clause × List Token)} → ReadsTokens IsClause Anything left result → ReadsTokens IsClause Anything ts result
  brief_clause p = record {
    found = λ c rest e. let u = p.found c rest e in with_notes c u.0 rest u.1 u.2;
    every = λ c used rest e is any. let u = without c used rest e is in p.every c u.0 rest u.1 u.2 tt;
  }

  -- ---- other items
  clause_front : (front behind : List Token) → BeginsClause front → BeginsClause (front ++ behind)
  clause_front [] behind b = absurd b
  clause_front (t ∷ front) behind b = b

  pub all_begin : BeginsClause ts
  all_begin = subst BeginsClause (sym (h.whole ∙ append_assoc h.front (comma ∷ h.notes) (right_bracket ∷ h.rest))) (clause_front h.front (comma ∷ (h.notes ++ right_bracket ∷ h.rest)) h.word)

  pub others_begin : BeginsClause left
  others_begin = subst BeginsClause (sym h.without) (clause_front h.front (right_bracket ∷ h.rest) h.word)

  no_include : (xs used rest : List Token) (i : Bytes × Selection) → BeginsClause xs → xs ≡ used ++ rest → IsInclude i used → ⊥
  no_include xs used rest i b e (names, selection, f) =
      let words : lower (codes "include") ≡ lower (codes "cnf") = subst BeginsClause (e ∙ ap (λ x. x ++ rest) f) b in
      absurd (omega (arith, ap length (ap (λ (t : Token). t.text) words)))

  pub brief_include : {result : Option ((Bytes × Selection) × List Token)} → ReadsTokens IsInclude Anything left result → ReadsTokens IsInclude Anything ts result
  brief_include p = record {
    found = λ i rest e. let u = p.found i rest e in absurd (no_include left u.0 rest i others_begin u.1 u.2);
    every = λ i used rest e is any. absurd (no_include ts used rest i all_begin e is);
  }

  abbrev first_byte : Bytes → ℕ
  first_byte [] = 0
  first_byte (c ∷ cs) = c

  language_apart : (word : Bytes) → IsAmong languages word → first_byte word ≡ 99 → ⊥
  language_apart word (inl e) f = absurd (omega (arith, ap first_byte e, f))
  language_apart word (inr (inl e)) f = absurd (omega (arith, ap first_byte e, f))
  language_apart word (inr (inr (inl e))) f = absurd (omega (arith, ap first_byte e, f))
  language_apart word (inr (inr (inr (inl e)))) f = absurd (omega (arith, ap first_byte e, f))
  language_apart word (inr (inr (inr (inr (inl e))))) f = absurd (omega (arith, ap first_byte e, f))
  language_apart word (inr (inr (inr (inr (inr e))))) f = e

  not_foreign : (xs : List Token) → BeginsClause xs → AreForeign xs → ⊥
  not_foreign [] b f = f
  not_foreign (t ∷ []) b f = f
  not_foreign (t ∷ u ∷ us) b f = language_apart t.text f.0.1 (ap (λ (x : Token). first_byte x.text) b)

  fault_of : (xs ys : List Token) (place : ℕ) (result : Read) → BeginsClause xs → BeginsClause ys → IsFaultAt xs place result → IsFaultAt ys place result
  fault_of xs ys place (read.Language p) a b f = absurd (not_foreign xs a f.1)
  fault_of xs ys place (read.Syntax p) a b f = (f.0, not_foreign ys b)
  fault_of xs ys place (read.Cnf c end) a b f = absurd f
  fault_of xs ys place (read.Include file s end) a b f = absurd f
  fault_of xs ys place read.End a b f = absurd f

  no_item_of : (xs ys : List Token) (place : ℕ) (why : TokensEnd) (result : Read) → BeginsClause xs → BeginsClause ys → IsNoItem xs place why result → IsNoItem ys place why result
  no_item_of [] ys place why result a b f = absurd a
  no_item_of (x ∷ xs) [] place why result a b f = absurd b
  no_item_of (x ∷ xs) (y ∷ ys) place why result a b f = fault_of (x ∷ xs) (y ∷ ys) place result a b f

  pub brief_no_item : (place : ℕ) (why : TokensEnd) (result : Read) → IsNoItem left place why result → IsNoItem ts place why result
  brief_no_item place why result f = no_item_of left ts place why result others_begin all_begin f

-- no more tokens are left than there are
pub left_fewer : (ts left : List Token) → LeavesOut ts left → length left ≤ length ts
left_fewer ts left h =
    omega (arith, ap length h.whole, ap length h.without, length-append (h.front ++ comma ∷ h.notes) (right_bracket ∷ h.rest), length-append h.front (comma ∷ h.notes), length-append h.front (right_bracket ∷ h.rest))

-- ---- all tokens of an item, or without annotations
pub few_of : {all kept : List Lexeme} → (all ≡ kept) ⊎ LeavesOut (tokens_of all) (tokens_of kept) → length kept ≤ length all
few_of {all = all} {kept = kept} h = by h where
  by : (all ≡ kept) ⊎ LeavesOut (tokens_of all) (tokens_of kept) → length kept ≤ length all
  by (inl e) = omega (arith, ap length e)
  by (inr out) = omega (arith, left_fewer (tokens_of all) (tokens_of kept) out, length-map all token_of, length-map kept token_of)

module _ {all kept slice : List Lexeme} (h : (all ≡ kept) ⊎ LeavesOut (tokens_of all) (tokens_of kept)) where
  pub clause_of_all : {result : Option (Clause × List Token)} → slice ≡ kept → ReadsTokens IsClause Anything (tokens_of slice) result → ReadsTokens IsClause Anything (tokens_of all) result
  clause_of_all {result = result} s p = by h where
    q : ReadsTokens IsClause Anything (tokens_of kept) result
    q = subst (λ x. ReadsTokens IsClause Anything (tokens_of x) result) s p

    by : (all ≡ kept) ⊎ LeavesOut (tokens_of all) (tokens_of kept) → ReadsTokens IsClause Anything (tokens_of all) result
    by (inl e) = subst (λ x. ReadsTokens IsClause Anything (tokens_of x) result) (sym e) q
    by (inr out) = brief_clause (tokens_of all) (tokens_of kept) out q

  pub include_of_all : {result : Option ((Bytes × Selection) × List Token)} → slice ≡ kept → ReadsTokens IsInclude Anything (tokens_of slice) result
      → ReadsTokens IsInclude Anything (tokens_of all) result
  include_of_all {result = result} s p = by h where
    q : ReadsTokens IsInclude Anything (tokens_of kept) result
    q = subst (λ x. ReadsTokens IsInclude Anything (tokens_of x) result) s p

    by : (all ≡ kept) ⊎ LeavesOut (tokens_of all) (tokens_of kept) → ReadsTokens IsInclude Anything (tokens_of all) result
    by (inl e) = subst (λ x. ReadsTokens IsInclude Anything (tokens_of x) result) (sym e) q
    by (inr out) = brief_include (tokens_of all) (tokens_of kept) out q

  pub no_item_of_all : slice ≡ kept → (place : ℕ) (why : TokensEnd) (result : Read) → IsNoItem (tokens_of slice) place why result → IsNoItem (tokens_of all) place why result
  no_item_of_all s place why result f = by h where
    g : IsNoItem (tokens_of kept) place why result
    g = subst (λ x. IsNoItem (tokens_of x) place why result) s f

    by : (all ≡ kept) ⊎ LeavesOut (tokens_of all) (tokens_of kept) → IsNoItem (tokens_of all) place why result
    by (inl e) = subst (λ x. IsNoItem (tokens_of x) place why result) (sym e) g
    by (inr out) = brief_no_item (tokens_of all) (tokens_of kept) out place why result g
