-- In the tokens of an item the only full stop outside brackets is the last token.
use Rattle.std.proofs.Common.{◌≡◌, ℕ, zero, suc, ◌+◌, ◌-◌, Bool, true, false, List, [], ◌∷◌, ◌++◌, replicate, length, Option, Some, None, refl, sym, ap, ◌∙◌, subst, append_assoc, arith, inl, inr, IsTrue}
use Rattle.std.specs.Prelude.{codes}
use Rattle.std.specs.Option.{option_map_or}
use Rattle.std.proofs.lemmas.Bool.{false≢true}
use Rattle.si_defs.specs.Bytes.{Bytes}
use Rattle.si_defs.specs.Terms as terms
use Rattle.si_defs.specs.Clauses.{Term, Terms, Literal, Name}
use Rattle.si_defs.specs.Symbols.{Symbol}
use Rattle.si_defs.specs.Tokens.{Token, mark, lower, AreBlanks, Begins}
use Rattle.si_defs.specs.Grammar.{IsTerm, AreMoreTerms, IsHead, IsConstant, IsAtom, IsInequation, AreSides, IsSignedAtom, AreMoreLiterals, IsDisjunction, IsFormula, IsName, AreMoreNames, Selection, IsSelection, IsExtra, Item, clause_item, include_item, IsItem, Bracket, round, square, neither, opening_of, closing_of, closed, brackets_behind, balances, open_behind, left_bracket, right_bracket, comma, full_stop, not_equal}
use Rattle.si_defs.specs.Grammar as grammar
use Rattle.si_defs.specs.declared.SymKind.{SymKind}
use Rattle.si_defs.specs.declared.SymKind.TheVariants.{Word, Dollar, Number, Distinct, Equal}
use Rattle.si_defs.specs.declared.NameKind.{NameKind}
use Rattle.si_defs.specs.declared.NameKind.TheVariants as named
use Rattle.si_defs.specs.declared.TokenKind.TheVariants.{Single}
use Rattle.si_defs.specs.Texts.{BeginsWithItem}
use Rattle.si_lex.specs.FullStops.{IsFullStop, HasNoFullStop, GoesToFullStop, EndsAtFullStop, depth_from}
use Rattle.si_lex.proofs.TokenLaws.{blanks_none}
use Rattle.si_lex.proofs.BracketLaws.{step_depth}
use Rattle.si_lex.proofs.LexingLaws.{no_stop_append, depth_append}
use Rattle.si_parse.proofs.GrammarTerms.{head_constant}

-- Inside brackets these tokens have no full stop outside them, and leave as many open as before.
abbrev pub Level : List Token → Type 0
Level ts = (d : ℕ) → HasNoFullStop (suc d) ts × (depth_from (suc d) ts ≡ suc d)

-- inside brackets no full stop is outside
inside : (d : ℕ) (t : Token) → IsFullStop (suc d) t → ⊥
inside d t h = absurd (omega (arith, h.0))

-- ---- one after another
ends_append : (d : ℕ) (ts us : List Token) → HasNoFullStop d ts → EndsAtFullStop (depth_from d ts) us → EndsAtFullStop d (ts ++ us)
ends_append d [] us h k = k
ends_append d (t ∷ ts) us h k = inr (h.0, ends_append (open_behind d t) ts us h.1 k)

level_none : Level []
level_none d = (tt, refl)

level_append : (ts us : List Token) → Level ts → Level us → Level (ts ++ us)
level_append ts us h k d = (
  no_stop_append (suc d) ts us (h d).0 (subst (λ n. HasNoFullStop n us) (sym (h d).1) (k d).0),
  depth_append (suc d) ts us ∙ ap (λ n. depth_from n us) (h d).1 ∙ (k d).1,
)

level_at : {ts us : List Token} → ts ≡ us → Level us → Level ts
level_at e h = subst Level (sym e) h

-- ---- single tokens
-- a token that is no bracket
abbrev pub Flat : Token → Type 0
Flat t = (opening_of t ≡ neither) × (closing_of t ≡ neither)

pub flat_depth : (d : ℕ) (t : Token) → Flat t → open_behind d t ≡ d
flat_depth d t h = rw (h.0, h.1) refl

level_flat : (t : Token) (ts : List Token) → Flat t → Level ts → Level (t ∷ ts)
level_flat t ts h k d = ((inside d t, subst (λ n. HasNoFullStop n ts) (sym (flat_depth (suc d) t h)) (k d).0), ap (λ n. depth_from n ts) (flat_depth (suc d) t h) ∙ (k d).1)

pub flat_at : {t u : Token} → t ≡ u → Flat u → Flat t
flat_at e h = subst Flat (sym e) h

-- ---- brackets
pub one_more : (d : ℕ) → d + 1 ≡ suc d
one_more d = omega arith

pub one_less : (d : ℕ) → suc d - 1 ≡ d
one_less d = omega arith

-- tokens between brackets
level_round : (ts : List Token) → Level ts → Level (left_bracket ∷ ts ++ right_bracket ∷ [])
level_round ts h d =
    let open_now = one_more (suc d) in
    let closed_now : depth_from (suc (suc d)) (right_bracket ∷ []) ≡ suc d = one_less (suc d) in (
      (
        inside d left_bracket,
        subst (λ n. HasNoFullStop n (ts ++ right_bracket ∷ [])) (sym open_now)
            (no_stop_append (suc (suc d)) ts (right_bracket ∷ []) (h (suc d)).0 (subst (λ n. HasNoFullStop n (right_bracket ∷ [])) (sym (h (suc d)).1) (inside (suc d) right_bracket, tt))),
      ),
      ap (λ n. depth_from n (ts ++ right_bracket ∷ [])) open_now ∙ depth_append (suc (suc d)) ts (right_bracket ∷ []) ∙ ap (λ n. depth_from n (right_bracket ∷ [])) (h (suc d)).1 ∙ closed_now,
    )

level_square : (ts : List Token) → Level ts → Level (mark 91 ∷ ts ++ mark 93 ∷ [])
level_square ts h d =
    let open_now = one_more (suc d) in
    let closed_now : depth_from (suc (suc d)) (mark 93 ∷ []) ≡ suc d = one_less (suc d) in (
      (
        inside d (mark 91),
        subst (λ n. HasNoFullStop n (ts ++ mark 93 ∷ [])) (sym open_now)
            (no_stop_append (suc (suc d)) ts (mark 93 ∷ []) (h (suc d)).0 (subst (λ n. HasNoFullStop n (mark 93 ∷ [])) (sym (h (suc d)).1) (inside (suc d) (mark 93), tt))),
      ),
      ap (λ n. depth_from n (ts ++ mark 93 ∷ [])) open_now ∙ depth_append (suc (suc d)) ts (mark 93 ∷ []) ∙ ap (λ n. depth_from n (mark 93 ∷ [])) (h (suc d)).1 ∙ closed_now,
    )

-- ---- terms
pub flat_constant : (kind : SymKind) (text : Bytes) (t : Token) → IsConstant kind text t → Flat t
flat_constant Word text t (inl e) = flat_at e (refl, refl)
flat_constant Word text t (inr e) = flat_at e (refl, refl)
flat_constant Dollar text t e = flat_at e (refl, refl)
flat_constant Number text t e = flat_at e (refl, refl)
flat_constant Distinct text t e = flat_at e (refl, refl)
flat_constant Equal text t e = absurd e

-- arguments in brackets after a head
level_applied : (kind : SymKind) (text : Bytes) (t : Token) (first others ts : List Token) → IsHead kind text t → Level first → Level others → ts ≡ t ∷ left_bracket ∷ first ++ others ++ right_bracket ∷ [] → Level ts
level_applied kind text t first others ts head h k e =
    level_at e (level_flat t (left_bracket ∷ (first ++ others) ++ right_bracket ∷ []) (flat_constant kind text t (head_constant kind text t head)) (level_round (first ++ others) (level_append first others h k)))

mutual
  level_term : (m : Term) (ts : List Token) → IsTerm m ts → Level ts
  level_term (terms.var x) ts e = level_at e (level_flat _ [] (refl, refl) level_none)
  level_term (terms.app s terms.none) ts (side, arity, (t, constant, e)) = level_at e (level_flat t [] (flat_constant s.kind s.text t constant) level_none)
  level_term (terms.app s (terms.more u us)) ts (side, arity, (t, first, others, head, one, all, e)) =
      level_applied s.kind s.text t first others ts head (level_term u first one) (level_more us others all) e

  level_more : (us : Terms) (ts : List Token) → AreMoreTerms us ts → Level ts
  level_more terms.none ts e = level_at e level_none
  level_more (terms.more u us) ts (first, others, one, all, e) =
      level_at e (level_flat comma (first ++ others) (refl, refl) (level_append first others (level_term u first one) (level_more us others all)))

-- ---- literals and formulas
level_sides : (sign : Token) (s : Symbol) (l : Term) (us : Terms) (ts : List Token) → Flat sign → AreSides sign s l us ts → Level ts
level_sides sign s l terms.none ts flat h = absurd h
level_sides sign s l (terms.more r terms.none) ts flat (is, (left, right, one, two, e)) =
    level_at e (level_append left (sign ∷ right) (level_term l left one) (level_flat sign right flat (level_term r right two)))
level_sides sign s l (terms.more r (terms.more u us)) ts flat h = absurd h

level_atom : (m : Term) (ts : List Token) → IsAtom m ts → Level ts
level_atom (terms.var x) ts h = absurd h
level_atom (terms.app s terms.none) ts (side, arity, (t, head, e)) = level_at e (level_flat t [] (flat_constant s.kind s.text t (head_constant s.kind s.text t head)) level_none)
level_atom (terms.app s (terms.more u us)) ts (inl (side, arity, (t, first, others, head, one, all, e))) =
    level_applied s.kind s.text t first others ts head (level_term u first one) (level_more us others all) e
level_atom (terms.app s (terms.more u us)) ts (inr h) = level_sides (mark 61) s u us ts (refl, refl) h

level_inequation : (m : Term) (ts : List Token) → IsInequation m ts → Level ts
level_inequation (terms.var x) ts h = absurd h
level_inequation (terms.app s terms.none) ts h = absurd h
level_inequation (terms.app s (terms.more u us)) ts h = level_sides not_equal s u us ts (refl, refl) h

level_signed : (positive : Bool) (m : Term) (ts : List Token) → IsSignedAtom positive m ts → Level ts
level_signed true m ts h = level_atom m ts h
level_signed false m ts (inl (us, h, e)) = level_at e (level_flat (mark 126) us (refl, refl) (level_atom m us h))
level_signed false m ts (inr (inl (us, h, e))) = level_at e (level_flat (mark 126) (left_bracket ∷ us ++ right_bracket ∷ []) (refl, refl) (level_round us (level_atom m us h)))
level_signed false m ts (inr (inr h)) = level_inequation m ts h

level_literals : (ls : List Literal) (ts : List Token) → AreMoreLiterals ls ts → Level ts
level_literals [] ts e = level_at e level_none
level_literals (l ∷ ls) ts (first, others, one, all, e) =
    level_at e (level_flat (mark 124) (first ++ others) (refl, refl) (level_append first others (level_signed l.positive l.atom first one) (level_literals ls others all)))

level_disjunction : (ls : List Literal) (ts : List Token) → IsDisjunction ls ts → Level ts
level_disjunction [] ts h = absurd h
level_disjunction (l ∷ ls) ts (first, others, one, all, e) = level_at e (level_append first others (level_signed l.positive l.atom first one) (level_literals ls others all))

pub replicate_last : (n : ℕ) (t : Token) → replicate (suc n) t ≡ replicate n t ++ t ∷ []
replicate_last zero t = refl
replicate_last (suc n) t = ap (λ x. t ∷ x) (replicate_last n t)

level_brackets : (n : ℕ) (ts : List Token) → Level ts → Level ((replicate n left_bracket ++ ts) ++ replicate n right_bracket)
level_brackets zero ts h = level_append ts [] h level_none
level_brackets (suc n) ts h =
    level_at (ap (λ x. left_bracket ∷ (replicate n left_bracket ++ ts) ++ x) (replicate_last n right_bracket)
    ∙ ap (λ x. left_bracket ∷ x) (sym (append_assoc (replicate n left_bracket ++ ts) (replicate n right_bracket) (right_bracket ∷ []))))
    (level_round ((replicate n left_bracket ++ ts) ++ replicate n right_bracket) (level_brackets n ts h))

level_formula : (ls : List Literal) (ts : List Token) → IsFormula ls ts → Level ts
level_formula ls ts (n, inner, h, e) = level_at e (level_brackets n inner (level_disjunction ls inner h))

-- ---- annotations
-- balanced tokens leave as many brackets open as were open before those that they close
level_balanced : (ts : List Token) (pending : List Bracket) (d : ℕ) → IsTrue (balances ts pending) → HasNoFullStop (length pending + suc d) ts × (depth_from (length pending + suc d) ts ≡ suc d)
level_balanced [] [] d h = (tt, omega arith)
level_balanced [] (b ∷ bs) d h = absurd (false≢true h)
level_balanced (t ∷ ts) pending d h = by (brackets_behind t pending) refl h (λ next f. level_balanced ts next d f) where
  outside : IsFullStop (length pending + suc d) t → ⊥
  outside s = absurd (omega (arith, s.0))

  by : (o : Option (List Bracket)) → brackets_behind t pending ≡ o → IsTrue (option_map_or (balances ts) o false)
      → ((next : List Bracket) → IsTrue (balances ts next) → HasNoFullStop (length next + suc d) ts × (depth_from (length next + suc d) ts ≡ suc d))
      → HasNoFullStop (length pending + suc d) (t ∷ ts) × (depth_from (length pending + suc d) (t ∷ ts) ≡ suc d)
  by None e f again = absurd (false≢true f)
  by (Some next) e f again =
      let k = again next f in
      let depth = step_depth t pending next (suc d) e in
      ((outside, subst (λ n. HasNoFullStop n ts) (sym depth) k.0), ap (λ n. depth_from n ts) depth ∙ k.1)

level_extra : (ts : List Token) → IsExtra ts → Level ts
level_extra [] h = level_none
level_extra (t ∷ ts) (is, some, balanced) = level_flat t ts (flat_at is (refl, refl)) (λ d. level_here d (level_balanced ts [] d balanced)) where
  zero_more : (d : ℕ) → 0 + suc d ≡ suc d
  zero_more d = omega arith

  level_here : (d : ℕ) → HasNoFullStop (0 + suc d) ts × (depth_from (0 + suc d) ts ≡ suc d) → HasNoFullStop (suc d) ts × (depth_from (suc d) ts ≡ suc d)
  level_here d h = subst (λ n. HasNoFullStop n ts × (depth_from n ts ≡ suc d)) (zero_more d) h

-- ---- names
pub flat_name : (kind : NameKind) (text : Bytes) (t : Token) → IsName (record { kind = kind; text = text }) t → Flat t
flat_name named.Word text t (inl e) = flat_at e (refl, refl)
flat_name named.Word text t (inr e) = flat_at e (refl, refl)
flat_name named.Int text t e = flat_at e (refl, refl)

level_names : (ns : List Name) (ts : List Token) → AreMoreNames ns ts → Level ts
level_names [] ts e = level_at e level_none
level_names (n ∷ ns) ts (t, others, is, all, e) =
    level_at e (level_flat comma (t ∷ others) (refl, refl) (level_flat t others (flat_name n.kind n.text t is) (level_names ns others all)))

level_selection : (s : Selection) (ts : List Token) → IsSelection s ts → Level ts
level_selection grammar.all ts e = level_at e level_none
level_selection (grammar.only []) ts h = absurd h
level_selection (grammar.only (n ∷ ns)) ts (t, others, is, all, e) =
    level_at e (level_flat comma (mark 91 ∷ (t ∷ others) ++ mark 93 ∷ []) (refl, refl) (level_square (t ∷ others) (level_flat t others (flat_name n.kind n.text t is) (level_names ns others all))))

-- ---- items
abbrev single : Bytes → Token
single file = record { kind = Single; text = file }

-- a word, brackets round some tokens, and a full stop
ends_bracketed : (word : Bytes) (ts : List Token) → Level ts → EndsAtFullStop 0 (lower word ∷ left_bracket ∷ ts ++ right_bracket ∷ full_stop ∷ [])
ends_bracketed word ts h = inr (
  λ s. not_stop s.1,
  inr (λ s. other s.1, ends_append 1 ts (right_bracket ∷ full_stop ∷ []) (h 0).0 (subst (λ n. EndsAtFullStop n (right_bracket ∷ full_stop ∷ [])) (sym (h 0).1) (inr (inside 0 right_bracket, inl ((refl, refl), refl))))),
) where
  not_stop : lower word ≡ full_stop → ⊥
  not_stop e = cc (ap (λ (t : Token). t.kind) e)

  other : left_bracket ≡ full_stop → ⊥
  other e = cc (ap (λ (t : Token). opening_of t) e)

-- the tokens of an item end with its full stop
pub item_stops : (item : Item) (ts : List Token) → IsItem item ts → EndsAtFullStop 0 ts
item_stops (clause_item c) ts (name, formula, extra, is_name, is_formula, is_extra, e) =
    subst (λ x. EndsAtFullStop 0 x) (sym e)
    (ends_bracketed (codes "cnf") (name ∷ comma ∷ lower c.role ∷ comma ∷ formula ++ extra)
    (level_flat name (comma ∷ lower c.role ∷ comma ∷ formula ++ extra) (flat_name c.name.kind c.name.text name is_name) (level_flat comma (lower c.role ∷ comma ∷ formula ++ extra) (refl, refl)
    (level_flat (lower c.role) (comma ∷ formula ++ extra) (refl, refl) (level_flat comma (formula ++ extra) (refl, refl)
    (level_append formula extra (level_formula c.literals formula is_formula) (level_extra extra is_extra)))))))
item_stops (include_item file selection) ts (names, is_selection, e) =
    subst (λ x. EndsAtFullStop 0 x) (sym e)
    (ends_bracketed (codes "include") (single file ∷ names) (level_flat (single file) names (refl, refl) (level_selection selection names is_selection)))

-- ---- tokens up to a full stop
pub ends_goes : (d : ℕ) (ts : List Token) → EndsAtFullStop d ts → GoesToFullStop d ts
ends_goes d [] h = absurd h
ends_goes d (t ∷ ts) (inl (s, e)) = (λ _. e, subst (λ x. GoesToFullStop (open_behind d t) x) (sym e) tt)
ends_goes d (t ∷ ts) (inr (s, h)) = (λ k. absurd (s k), ends_goes (open_behind d t) ts h)

-- after tokens that end with one nothing stands in those that do
pub ends_all : (d : ℕ) (ts us : List Token) → EndsAtFullStop d ts → EndsAtFullStop d (ts ++ us) → us ≡ []
ends_all d [] us h k = absurd h
ends_all d (t ∷ ts) us (inl (s, e)) (inl (r, f)) = ap (λ x. x ++ us) (sym e) ∙ f
ends_all d (t ∷ ts) us (inl (s, e)) (inr (r, k)) = absurd (r s)
ends_all d (t ∷ ts) us (inr (s, h)) (inl (r, f)) = absurd (s r)
ends_all d (t ∷ ts) us (inr (s, h)) (inr (r, k)) = ends_all (open_behind d t) ts us h k

-- and none stands in front of those without one
pub ends_never : (d : ℕ) (ts us : List Token) → EndsAtFullStop d ts → HasNoFullStop d (ts ++ us) → ⊥
ends_never d [] us h k = h
ends_never d (t ∷ ts) us (inl (s, e)) k = k.0 s
ends_never d (t ∷ ts) us (inr (s, h)) k = ends_never (open_behind d t) ts us h k.1

-- nothing but blanks is no item
pub no_item_in_blanks : (text : Bytes) (item : Item) (rest : Bytes) → AreBlanks text → BeginsWithItem text item rest → ⊥
no_item_in_blanks text item rest blanks h = by h.tokens h.begins (item_stops item h.tokens h.spelled) where
  by : (ts : List Token) → Begins text ts rest → EndsAtFullStop 0 ts → ⊥
  by [] begins ends = ends
  by (t ∷ ts) begins ends = blanks_none text blanks t begins.0 begins.1
