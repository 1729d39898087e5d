-- Literals: what the readers of them give.
use Rattle.std.proofs.Common.{◌≡◌, ℕ, ◌+◌, Bool, true, false, List, [], ◌∷◌, ◌++◌, Option, Some, None, refl, sym, ap, ◌∙◌, subst, append_assoc, arith, inl, inr}
use Rattle.std.proofs.lemmas.Option.{same_Some, none-some}
use Rattle.std.specs.Prelude.{option_map}
use Rattle.std.proofs.lemmas.Bool.{false≢true}
use Rattle.si_defs.specs.Bytes.{Bytes}
use Rattle.si_defs.specs.Terms as terms
use Rattle.si_defs.specs.Symbols.{Symbol}
use Rattle.si_defs.specs.Clauses.{Term, Terms, Literal}
use Rattle.si_defs.specs.Tokens.{Token, mark}
use Rattle.si_defs.specs.Grammar.{IsTerm, IsHead, IsAtom, AreSides, IsSignedAtom, IsLiteral, left_bracket, right_bracket, not_equal}
use Rattle.si_defs.specs.declared.SymKind.{SymKind}
use Rattle.si_defs.specs.declared.SymKind.TheVariants.{Word, Dollar, Number, Distinct, Equal}
use Rattle.si_defs.specs.declared.Side.{Side}
use Rattle.si_defs.specs.declared.Side.TheVariants.{Predicate}
use Rattle.si_defs.proofs.ListLaws.{same_first, same_tail}
use Rattle.si_parse.specs.Parsing.{ReadsTokens, Anything, NoBracket, NoEquation}
use Rattle.si_parse.specs.GrammarRules.{function_symbol, as_atom, positively, equation, equation_sign, IsEquationSign, IsStatement, IsNegated}
use Rattle.si_parse.proofs.ParseSteps.{parses_none, parses_some, parses_uses, parses_one, parses_never, front_heads, front_tails}
use Rattle.si_parse.proofs.GrammarTerms.{First, variable, symbol, term_first, symbol_kind, head_constant, marks_apart, mark_unequal}

-- ---- atoms as terms
-- the symbol of a predicate
abbrev predicate_symbol : SymKind → Bytes → ℕ → Symbol
predicate_symbol kind text arity = record { kind = kind; text = text; side = Predicate; arity = arity }

-- a word's symbol is a predicate's as well
as_atom-head : (kind : SymKind) (text : Bytes) (arity : ℕ) (us : Terms) (t : Token) → IsHead kind text t
    → as_atom (terms.app (function_symbol kind text arity) us) ≡ Some (terms.app (predicate_symbol kind text arity) us)
as_atom-head Word text arity us t h = refl
as_atom-head Dollar text arity us t h = refl
as_atom-head Number text arity us t h = absurd h
as_atom-head Distinct text arity us t h = absurd h
as_atom-head Equal text arity us t h = absurd h

-- the tokens of a term spell its atom
atom_by : (kind : SymKind) (text : Bytes) (side : Side) (arity : ℕ) (us : Terms) (m : Term) (ts : List Token) → IsTerm (terms.app (record { kind = kind; text = text; side = side; arity = arity }) us) ts
    → as_atom (terms.app (record { kind = kind; text = text; side = side; arity = arity }) us) ≡ Some m → IsAtom m ts
atom_by Word text side arity terms.none m ts (on_side, count, parts) e = subst (λ x. IsAtom x ts) (same_Some _ m e) (refl, count, parts)
atom_by Word text side arity (terms.more u us) m ts (on_side, count, parts) e = subst (λ x. IsAtom x ts) (same_Some _ m e) (inl (refl, count, parts))
atom_by Dollar text side arity terms.none m ts (on_side, count, parts) e = subst (λ x. IsAtom x ts) (same_Some _ m e) (refl, count, parts)
atom_by Dollar text side arity (terms.more u us) m ts (on_side, count, parts) e = subst (λ x. IsAtom x ts) (same_Some _ m e) (inl (refl, count, parts))
atom_by Number text side arity us m ts h e = absurd (none-some m e)
atom_by Distinct text side arity us m ts h e = absurd (none-some m e)
atom_by Equal text side arity us m ts h e = absurd (none-some m e)

pub atom_of : (t m : Term) (ts : List Token) → IsTerm t ts → as_atom t ≡ Some m → IsAtom m ts
atom_of (terms.var x) m ts h e = absurd (none-some m e)
atom_of (terms.app s us) m ts h e = atom_by s.kind s.text s.side s.arity us m ts h e

-- ---- statements
-- how a statement is spelled: as a term that is an atom, or as two sides
pub data Spelled (l : Literal) (ts : List Token) : Type 0 where
  headed : (t : Term) → IsTerm t ts → as_atom t ≡ Some l.atom → l.positive ≡ true → Spelled l ts
  sided : (left right : Term) (front back : List Token) → IsTerm left front → IsTerm right back → equation left right ≡ l.atom → ts ≡ front ++ equation_sign l.positive ∷ back → Spelled l ts

-- a symbol with the other side
turned : (s : Symbol) (arity : ℕ) → s.side ≡ Predicate → s.arity ≡ arity → predicate_symbol s.kind s.text arity ≡ s
turned s arity d a = λ i. record { kind = s.kind; text = s.text; side = sym d i; arity = sym a i }

-- two sides
sides_of : (positive : Bool) (s : Symbol) (l : Term) (us : Terms) (ts : List Token) → AreSides (equation_sign positive) s l us ts → Spelled (record { positive = positive; atom = terms.app s (terms.more l us) }) ts
sides_of positive s l terms.none ts h = absurd h
sides_of positive s l (terms.more r terms.none) ts (is, (front, back, one, two, e)) = sided l r front back one two (ap (λ x. terms.app x (terms.more l (terms.more r terms.none))) (sym is)) e
sides_of positive s l (terms.more r (terms.more u us)) ts h = absurd h

spelled_by : (positive : Bool) (m : Term) (ts : List Token) → IsStatement (record { positive = positive; atom = m }) ts → Spelled (record { positive = positive; atom = m }) ts
spelled_by true (terms.var x) ts h = absurd h
spelled_by true (terms.app s terms.none) ts (side, arity, (t, head, e)) =
    headed (terms.app (function_symbol s.kind s.text 0) terms.none) (refl, refl, (t, head_constant s.kind s.text t head, e))
    (as_atom-head s.kind s.text 0 terms.none t head ∙ ap (λ x. Some (terms.app x terms.none)) (turned s 0 side arity)) refl
spelled_by true (terms.app s (terms.more u us)) ts (inl (side, arity, (t, first, others, head, one, all, e))) =
    headed (terms.app (function_symbol s.kind s.text (1 + terms.count us)) (terms.more u us)) (refl, refl, (t, first, others, head, one, all, e))
    (as_atom-head s.kind s.text (1 + terms.count us) (terms.more u us) t head ∙ ap (λ x. Some (terms.app x (terms.more u us))) (turned s (1 + terms.count us) side arity)) refl
spelled_by true (terms.app s (terms.more u us)) ts (inr h) = sides_of true s u us ts h
spelled_by false (terms.var x) ts h = absurd h
spelled_by false (terms.app s terms.none) ts h = absurd h
spelled_by false (terms.app s (terms.more u us)) ts h = sides_of false s u us ts h

pub spelled_of : (l : Literal) (ts : List Token) → IsStatement l ts → Spelled l ts
spelled_of l ts h = spelled_by l.positive l.atom ts h

-- two sides with a sign between them are a statement
pub sides_mean : (positive : Bool) (left right : Term) (front back : List Token) → IsTerm left front → IsTerm right back
    → IsStatement (record { positive = positive; atom = equation left right }) (front ++ equation_sign positive ∷ back)
sides_mean true left right front back one two = inr (refl, (front, back, one, two, refl))
sides_mean false left right front back one two = (refl, (front, back, one, two, refl))

-- ---- signs
-- no sign opens a bracket
pub equation_sign_no_bracket : (positive : Bool) (rest : List Token) → NoBracket (equation_sign positive ∷ rest)
equation_sign_no_bracket true rest = (marks_apart 61 40 (λ e. absurd (omega (arith, e))), tt)
equation_sign_no_bracket false rest = (λ e. mark_unequal 40 (sym e), tt)

-- where no sign may follow, no bracket may
pub no_equation-bracket : (rest : List Token) → NoEquation rest → NoBracket rest
no_equation-bracket [] h = tt
no_equation-bracket (t ∷ ts) h = (h.0, tt)

-- and where neither a bracket nor a sign stands, none follows
pub no_equation-none : (tokens : List Token) → NoBracket tokens → ReadsTokens IsEquationSign Anything tokens None → NoEquation tokens
no_equation-none [] h s = tt
no_equation-none (t ∷ ts) h s = (
  h.0,
  (λ e. parses_never s true (mark 61 ∷ []) ts (ap (λ x. x ∷ ts) e) refl tt, (λ e. parses_never s false (not_equal ∷ []) ts (ap (λ x. x ∷ ts) e) refl tt, tt)),
)

-- and none follows
pub equation_sign_never : (positive : Bool) (rest after : List Token) → NoEquation after → after ≡ equation_sign positive ∷ rest → ⊥
equation_sign_never positive rest [] h e = cc
equation_sign_never true rest (t ∷ ts) h e = h.1.0 (same_first e)
equation_sign_never false rest (t ∷ ts) h e = h.1.1.0 (same_first e)

-- the signs are different tokens
pub equation_signs_apart : (a b : Bool) → equation_sign a ≡ equation_sign b → a ≡ b
equation_signs_apart true true e = refl
equation_signs_apart false false e = refl
equation_signs_apart true false e = absurd (mark_unequal 61 e)
equation_signs_apart false true e = absurd (mark_unequal 61 (sym e))

-- what stands after a sign
equation_sign_front : {positive : Bool} {ts rest : List Token} → ReadsTokens IsEquationSign Anything ts (Some (positive, rest)) → ts ≡ equation_sign positive ∷ rest
equation_sign_front {positive = positive} {rest = rest} p = let h = parses_uses positive rest p in h.1 ∙ ap (λ x. x ++ rest) h.2

-- so none may stand where none may follow
pub equation_sign_refused : {positive : Bool} {ts rest : List Token} → ReadsTokens IsEquationSign Anything ts (Some (positive, rest)) → NoEquation ts → ⊥
equation_sign_refused {positive = positive} {ts = ts} {rest = rest} p h = equation_sign_never positive rest ts h (equation_sign_front p)

-- without a term there is no statement
pub statement_none : {tokens : List Token} → ReadsTokens IsTerm NoBracket tokens None → ReadsTokens IsStatement NoEquation tokens None
statement_none {tokens = tokens} p = parses_none (λ l used after e means follows. never l used after e follows (spelled_of l used means)) where
  never : (l : Literal) (used after : List Token) → tokens ≡ used ++ after → NoEquation after → Spelled l used → ⊥
  never l used after e follows (headed t one f k) = parses_never p t used after e one (no_equation-bracket after follows)
  never l used after e follows (sided left right front back one two f g) =
      parses_never p left front (equation_sign l.positive ∷ back ++ after) (e ∙ ap (λ x. x ++ after) g ∙ append_assoc front (equation_sign l.positive ∷ back) after) one (equation_sign_no_bracket l.positive (back ++ after))

module _ {tokens behind : List Token} {left : Term} (p : ReadsTokens IsTerm NoBracket tokens (Some (left, behind))) where
  -- the term that was read is the left side of every equation
  left_side : (l : Term) (positive : Bool) (used front back after : List Token) → tokens ≡ used ++ after → IsTerm l front → used ≡ front ++ equation_sign positive ∷ back
      → (left ≡ l) × (behind ≡ equation_sign positive ∷ back ++ after)
  left_side l positive used front back after e one g =
      parses_one p l front (equation_sign positive ∷ back ++ after) (e ∙ ap (λ x. x ++ after) g ∙ append_assoc front (equation_sign positive ∷ back) after) one (equation_sign_no_bracket positive (back ++ after))

  module _ {positive : Bool} {next : List Token} (s : ReadsTokens IsEquationSign Anything behind (Some (positive, next))) where
    -- how every other statement goes on after the sign
    sided_by : (R : Literal → List Token → Type 0) → ((l : Literal) (right : Term) (back after : List Token) → IsTerm right back → next ≡ back ++ after → NoEquation after → equation left right ≡ l.atom → positive ≡ l.positive → R l after)
        → (l : Literal) (used after : List Token) → tokens ≡ used ++ after → IsStatement l used → NoEquation after → R l after
    sided_by R k l used after e means follows = by (spelled_of l used means) where
      by : Spelled l used → R l after
      by (headed t one f g) = absurd (equation_sign_never positive next after follows (sym (parses_one p t used after e one (no_equation-bracket after follows)).1 ∙ equation_sign_front s))
      by (sided l' right front back one two f g) =
          let h = left_side l' l.positive used front back after e one g in
          let same = sym (equation_sign_front s) ∙ h.1 in
          k l right back after two (same_tail same) follows (ap (λ x. equation x right) h.0 ∙ f) (equation_signs_apart positive l.positive (same_first same))

    -- no term after the sign
    pub statement_stop : ReadsTokens IsTerm NoBracket next None → ReadsTokens IsStatement NoEquation tokens None
    statement_stop q = parses_none (sided_by (λ l after. ⊥) (λ l right back after two e follows f g. parses_never q right back after e two (no_equation-bracket after follows)))

    -- two sides
    pub statement_sides : {right : Term} {rest : List Token} → ReadsTokens IsTerm NoBracket next (Some (right, rest))
        → ReadsTokens IsStatement NoEquation tokens (Some (record { positive = positive; atom = equation left right }, rest))
    statement_sides {right = right} {rest = rest} q =
        let h = parses_uses left behind p in
        let k = parses_uses right rest q in
        parses_some (record { positive = positive; atom = equation left right }) (h.0 ++ equation_sign positive ∷ k.0) rest
        (h.1 ∙ ap (λ x. h.0 ++ x) (equation_sign_front s ∙ ap (λ x. equation_sign positive ∷ x) k.1) ∙ sym (append_assoc h.0 (equation_sign positive ∷ k.0) rest))
        (sides_mean positive left right h.0 k.0 h.2 k.2)
        (sided_by (λ l after. (record { positive = positive; atom = equation left right } ≡ l) × (rest ≡ after)) (λ l other back after two e follows f g.
        let same = parses_one q other back after e two (no_equation-bracket after follows) in
        (ap (λ x. record { positive = positive; atom = equation left x }) same.0 ∙ (λ i. record { positive = g i; atom = f i }), same.1)))

  -- no sign after the term
  module _ (s : ReadsTokens IsEquationSign Anything behind None) where
    headed_by : (R : Literal → List Token → Type 0) → ((l : Literal) (after : List Token) → behind ≡ after → as_atom left ≡ Some l.atom → l.positive ≡ true → R l after)
        → (l : Literal) (used after : List Token) → tokens ≡ used ++ after → IsStatement l used → NoEquation after → R l after
    headed_by R k l used after e means follows = by (spelled_of l used means) where
      by : Spelled l used → R l after
      by (headed t one f g) =
          let same = parses_one p t used after e one (no_equation-bracket after follows) in
          k l after same.1 (ap as_atom same.0 ∙ f) g
      by (sided l' right front back one two f g) =
          let h = left_side l' l.positive used front back after e one g in
          absurd (parses_never s l.positive (equation_sign l.positive ∷ []) (back ++ after) h.1 refl tt)

    pub statement_bare : (result : Option Term) → as_atom left ≡ result → ReadsTokens IsStatement NoEquation tokens (option_map (λ m. (positively m, behind)) result)
    statement_bare None none = parses_none (headed_by (λ l after. ⊥) (λ l after e f g. none-some l.atom (sym none ∙ f)))
    statement_bare (Some m) some =
        let h = parses_uses left behind p in
        parses_some (positively m) h.0 behind h.1 (atom_of left m h.0 h.2 some)
        (headed_by (λ l after. (positively m ≡ l) × (behind ≡ after)) (λ l after e f g. ((λ i. record { positive = sym g i; atom = same_Some m l.atom (sym some ∙ f) i }), e)))

-- ---- atoms
-- a positive statement is an atom
pub atom_some : {tokens rest : List Token} (l : Literal) → ReadsTokens IsStatement NoEquation tokens (Some (l, rest)) → l.positive ≡ true → ReadsTokens IsAtom NoEquation tokens (Some (l.atom, rest))
atom_some {rest = rest} l p k =
    let h = parses_uses l rest p in
    parses_some l.atom h.0 rest h.1 (subst (λ x. IsStatement (record { positive = x; atom = l.atom }) h.0) k h.2)
    (λ m used after e means follows. let same = parses_one p (positively m) used after e means follows in (ap (λ (x : Literal). x.atom) same.0, same.1))

-- a negative one is none
pub atom_negative : {tokens rest : List Token} (l : Literal) → ReadsTokens IsStatement NoEquation tokens (Some (l, rest)) → l.positive ≡ false → ReadsTokens IsAtom NoEquation tokens None
atom_negative l p k = parses_none (λ m used after e means follows.
    let same = parses_one p (positively m) used after e means follows in false≢true (sym k ∙ ap (λ (x : Literal). x.positive) same.0))

pub atom_none : {tokens : List Token} → ReadsTokens IsStatement NoEquation tokens None → ReadsTokens IsAtom NoEquation tokens None
atom_none p = parses_none (λ m used after e means follows. parses_never p (positively m) used after e means follows)

-- the first token of a statement
pub statement_first : (l : Literal) (ts : List Token) → IsStatement l ts → (t : Token) × (tail : List Token) × First t × (ts ≡ t ∷ tail)
statement_first l ts h = by (spelled_of l ts h) where
  by : Spelled l ts → (t : Token) × (tail : List Token) × First t × (ts ≡ t ∷ tail)
  by (headed t one f k) = term_first t ts one
  by (sided left right front back one two f g) =
      let k = term_first left front one in
      (k.0, k.1 ++ equation_sign l.positive ∷ back, k.2, g ∙ ap (λ x. x ++ equation_sign l.positive ∷ back) k.3)

-- is no mark
pub mark_no_first : (c : ℕ) (t : Token) → First t → mark c ≡ t → ⊥
mark_no_first c t (variable k) e = cc (ap (λ (x : Token). x.kind) e, k)
mark_no_first c t (symbol kind k) e = none-some kind (ap (λ (x : Token). symbol_kind x.kind) e ∙ k)

pub statement_no_mark : (c : ℕ) (l : Literal) (used rest after tokens : List Token) → tokens ≡ mark c ∷ rest → tokens ≡ used ++ after → IsStatement l used → ⊥
statement_no_mark c l used rest after tokens opens e h =
    let f = statement_first l used h in
    mark_no_first c f.0 f.2 (front_heads {ys = f.1} after (sym opens ∙ e) f.3)

-- ---- negations
-- where a closing bracket stands no sign does
pub right_no_equation : (rest : List Token) → NoEquation (right_bracket ∷ rest)
right_no_equation rest =
    (marks_apart 41 40 (λ e. absurd (omega (arith, e))), (marks_apart 41 61 (λ e. absurd (omega (arith, e))), (mark_unequal 41, tt)))

module _ (rest : List Token) where
  -- an atom after a bracket
  round_by : (R : Term → List Token → Type 0) → ((m : Term) (inner after : List Token) → IsAtom m inner → rest ≡ inner ++ right_bracket ∷ after → R m after)
      → (m : Term) (used after : List Token) → left_bracket ∷ rest ≡ used ++ after → IsNegated m used → NoEquation after → R m after
  round_by R k m used after e (inl h) follows = absurd (statement_no_mark 40 (positively m) used rest after (left_bracket ∷ rest) refl e h)
  round_by R k m used after e (inr (inner, h, g)) follows = k m inner after h (front_tails after e g ∙ append_assoc inner (right_bracket ∷ []) after)

  pub negated_none : ReadsTokens IsAtom NoEquation rest None → ReadsTokens IsNegated NoEquation (left_bracket ∷ rest) None
  negated_none p = parses_none (round_by (λ m after. ⊥) (λ m inner after h e. parses_never p m inner (right_bracket ∷ after) e h (right_no_equation after)))

  pub negated_stop : {m : Term} {behind : List Token} → ReadsTokens IsAtom NoEquation rest (Some (m, behind)) → ((after : List Token) → behind ≡ right_bracket ∷ after → ⊥) → ReadsTokens IsNegated NoEquation (left_bracket ∷ rest) None
  negated_stop p none = parses_none (round_by (λ m after. ⊥) (λ m inner after h e. none after (parses_one p m inner (right_bracket ∷ after) e h (right_no_equation after)).1))

  pub negated_some : {m : Term} {behind : List Token} → ReadsTokens IsAtom NoEquation rest (Some (m, right_bracket ∷ behind)) → ReadsTokens IsNegated NoEquation (left_bracket ∷ rest) (Some (m, behind))
  negated_some {m = m} {behind = behind} p =
      let h = parses_uses m (right_bracket ∷ behind) p in
      parses_some m (left_bracket ∷ h.0 ++ right_bracket ∷ []) behind (ap (λ x. left_bracket ∷ x) (h.1 ∙ sym (append_assoc h.0 (right_bracket ∷ []) behind))) (inr (h.0, h.2, refl))
      (round_by (λ other after. (m ≡ other) × (behind ≡ after)) (λ other inner after g e. let same = parses_one p other inner (right_bracket ∷ after) e g (right_no_equation after) in (same.0, same_tail same.1)))

-- without a bracket, an atom
pub negated_bare : {tokens : List Token} → ((rest : List Token) → tokens ≡ left_bracket ∷ rest → ⊥) → (result : Option (Term × List Token)) → ReadsTokens IsAtom NoEquation tokens result → ReadsTokens IsNegated NoEquation tokens result
negated_bare {tokens = tokens} none result p = record {
  found = λ m rest e. let h = p.found m rest e in (h.0, h.1, inl h.2);
  every = λ m used rest e means follows. by m used rest e follows means;
} where
  by : (m : Term) (used rest : List Token) → tokens ≡ used ++ rest → NoEquation rest → IsNegated m used → result ≡ Some (m, rest)
  by m used rest e follows (inl h) = p.every m used rest e h follows
  by m used rest e follows (inr (inner, h, g)) = absurd (none _ (e ∙ ap (λ x. x ++ rest) g))

-- ---- literals
-- the negative literal of an atom
abbrev pub negatively : Term → Literal
negatively m = record { positive = false; atom = m }

-- a tilde and an atom
negated_literal : (m : Term) (us : List Token) → IsNegated m us → IsLiteral (negatively m) (mark 126 ∷ us)
negated_literal m us (inl h) = inl (us, h, refl)
negated_literal m us (inr (inner, h, e)) = inr (inl (inner, h, ap (λ x. mark 126 ∷ x) e))

module _ (rest : List Token) where
  -- after a tilde every literal is a negation
  tilde_of : (positive : Bool) (m : Term) (used after : List Token) → mark 126 ∷ rest ≡ used ++ after → IsSignedAtom positive m used
      → (false ≡ positive) × ((us : List Token) × IsNegated m us × (rest ≡ us ++ after))
  tilde_of true m used after e h = absurd (statement_no_mark 126 (positively m) used rest after (mark 126 ∷ rest) refl e h)
  tilde_of false m used after e (inl (us, h, g)) = (refl, (us, inl h, front_tails after e g))
  tilde_of false m used after e (inr (inl (us, h, g))) = (refl, (left_bracket ∷ us ++ right_bracket ∷ [], inr (us, h, refl), front_tails after e g))
  tilde_of false m used after e (inr (inr h)) = absurd (statement_no_mark 126 (negatively m) used rest after (mark 126 ∷ rest) refl e h)

  pub literal_tilde : (result : Option (Term × List Token)) → ReadsTokens IsNegated NoEquation rest result → ReadsTokens IsLiteral NoEquation (mark 126 ∷ rest) (option_map (λ r. (negatively r.0, r.1)) result)
  literal_tilde None p = parses_none (λ l used after e means follows.
      let k = tilde_of l.positive l.atom used after e means in parses_never p l.atom k.1.0 after k.1.2 k.1.1 follows)
  literal_tilde (Some (m, behind)) p =
      let h = parses_uses m behind p in
      parses_some (negatively m) (mark 126 ∷ h.0) behind (ap (λ x. mark 126 ∷ x) h.1) (negated_literal m h.0 h.2) (λ l used after e means follows.
      let k = tilde_of l.positive l.atom used after e means in
      let same = parses_one p l.atom k.1.0 after k.1.2 k.1.1 follows in
      ((λ i. record { positive = k.0 i; atom = same.0 i }), same.1))

-- without a tilde, a statement
literal_of_statement : (positive : Bool) (m : Term) (ts : List Token) → IsStatement (record { positive = positive; atom = m }) ts → IsSignedAtom positive m ts
literal_of_statement true m ts h = h
literal_of_statement false m ts h = inr (inr h)

pub literal_plain : {tokens : List Token} → ((rest : List Token) → tokens ≡ mark 126 ∷ rest → ⊥) → (result : Option (Literal × List Token)) → ReadsTokens IsStatement NoEquation tokens result → ReadsTokens IsLiteral NoEquation tokens result
literal_plain {tokens = tokens} none result p = record {
  found = λ l rest e. let h = p.found l rest e in (h.0, h.1, literal_of_statement l.positive l.atom h.0 h.2);
  every = λ l used rest e means follows. p.every l used rest e (by l.positive l.atom used rest e means) follows;
} where
  by : (positive : Bool) (m : Term) (used rest : List Token) → tokens ≡ used ++ rest → IsSignedAtom positive m used → IsStatement (record { positive = positive; atom = m }) used
  by true m used rest e h = h
  by false m used rest e (inl (us, h, g)) = absurd (none _ (e ∙ ap (λ x. x ++ rest) g))
  by false m used rest e (inr (inl (us, h, g))) = absurd (none _ (e ∙ ap (λ x. x ++ rest) g))
  by false m used rest e (inr (inr h)) = h
